-- The first bad line of a text.
use Rattle.std.proofs.Common.{◌≡◌, ◌⊎◌, inl, inr, ℕ, ◌+◌, ◌<◌, List, [], ◌++◌, length, Option, Some, None}
use Rattle.std.proofs.Common.{sym, ap, ◌∙◌, subst, arith}
use Rattle.std.proofs.lemmas.List.{length-append}
use Rattle.nt_types.specs.ShapeData.{MembersData}
use Rattle.nt_types.specs.TreeData.{TreesData}
use Rattle.nt_event.specs.declared.fault.TextKind.TheVariants.{TooLong}
use Rattle.nt_event.specs.Limits.{max_line, max_number}
use Rattle.nt_event.specs.Lines.{LinesState, BeginsTooLong, HasMore}
use Rattle.nt_dealing.specs.EventText.{BadLine, EventText, text_lines, entries_of_lines}
use Rattle.nt_contexts.specs.Reading.{behind, HasRead, GivesJust}
use Rattle.nt_contexts.proofs.Reading.{First, first_line, any_line, bad_first, taken_from, no_more}

module _ (F : MembersData) where
  pub bad_next : (number : ℕ) (text : List ℕ) → BeginsTooLong (Some text) ⊎ ((max_number < number) × HasMore (Some text))
      → First (λ (l : List ℕ). (max_number < number) ⊎ (max_line < length l)) (text_lines text)
  bad_next number text (inl b) =
      let t = taken_from text b.front b.begins.rest b.begins.taken in
      let f = first_line b.front t.0 b.one_line (omega (arith, b.many)) in
      record {
        line = f.line;
        others = f.others;
        are = ap (λ (l : List ℕ). text_lines l) t.1 ∙ f.are;
        holds = inr (omega (arith, b.many, f.holds));
      }
  bad_next number text (inr h) =
      let t = taken_from text h.1.front h.1.begins.rest h.1.begins.taken in
      let some : 0 < length text = omega (arith, ap (λ (l : List ℕ). length l) t.1, length-append h.1.front t.0, h.1.some) in
      let f = any_line text some in
      record { line = f.line; others = f.others; are = f.are; holds = inl h.0 }

  pub read-too_long : (text : Option (List ℕ)) (entries : List TreesData) (old : LinesState) (line : ℕ) → HasRead F text entries old
      → line ≡ old.number + 1
      → BeginsTooLong old.left ⊎ ((max_number < line) × HasMore old.left)
      → GivesJust F text entries (Some (record { line = line; kind = TooLong }))
  read-too_long None entries old line read is long = tt
  read-too_long (Some text) entries old line read is long =
      let here : BeginsTooLong (Some read.rest) ⊎ ((max_number < line) × HasMore (Some read.rest)) =
      subst (λ (o : Option (List ℕ)). BeginsTooLong o ⊎ ((max_number < line) × HasMore o)) read.left long in
      read.whole
      ∙ (ap (λ (n : ℕ). behind entries (entries_of_lines F n (text_lines read.rest))) (sym is)
      ∙ (ap (λ (t : EventText). behind entries t) (bad_first F line (text_lines read.rest) (bad_next line read.rest here))
      ∙ no_more F entries (Some (record { line = line; kind = TooLong }))))

  -- the entries before the end or the first bad line begin with those that were read
  pub read-ahead : (text : Option (List ℕ)) (entries : List TreesData) (now : LinesState) → HasRead F text entries now
      → (rest : List TreesData) × (bad : Option BadLine) × GivesJust F text (entries ++ rest) bad
  read-ahead None entries now read = ([], None, tt)
  read-ahead (Some text) entries now read =
      let more = entries_of_lines F (now.number + 1) (text_lines read.rest) in (more.entries, more.bad, read.whole)

  pub read-nothing : (text : Option (List ℕ)) (now : LinesState) → now.left ≡ text → now.number ≡ 0 → HasRead F text [] now
  read-nothing None now is none = tt
  read-nothing (Some text) now is none = record {
    rest = text;
    left = is;
    whole = ap (λ (n : ℕ). behind [] (entries_of_lines F (n + 1) (text_lines text))) (sym none);
  }
