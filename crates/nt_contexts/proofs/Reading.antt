-- How far a text was read, line by line.
use Rattle.std.proofs.Common.{◌≡◌, ◌⊎◌, inl, inr, ℕ, suc, ◌+◌, ◌<◌, ◌≤◌, Bool, true, false, List, [], ◌∷◌, ◌++◌, length, Option, Some, None}
use Rattle.std.proofs.Common.{Result, Ok, Err, refl, sym, ap, ◌∙◌, subst, append_assoc, append-nil, arith}
use Rattle.std.specs.Prelude.{◌||◌, ◌==◌, cond, nat_lt, if◌then◌else◌}
use Rattle.std.specs.List.{onto_first}
use Rattle.std.specs.Io.KnownBytes.{Consumes, IsAtEnd}
use borrow.Author.Tests.{ltb-true, ltb-false}
use Rattle.nt_types.specs.ShapeData.{MembersData}
use Rattle.nt_types.specs.TreeData.{TreesData}
use Rattle.nt_types.specs.Lines.{is_blank_line}
use Rattle.nt_event.specs.declared.lines.Line.{Line}
use Rattle.nt_event.specs.declared.fault.TextKind.{TextKind}
use Rattle.nt_event.specs.declared.fault.TextKind.TheVariants.{TooLong}
use Rattle.nt_event.specs.Limits.{max_line, max_number}
use Rattle.nt_event.specs.Entry.{entry_of}
use Rattle.nt_event.specs.Lines.{LinesState, HasNoLf, EndsLine, IsNextLine}
use Rattle.nt_dealing.specs.EventText.{BadLine, EventText, text_lines, ends_badly, then_lines, is_beyond, entries_of_lines}
use Rattle.nt_dealing.proofs.EventLines.{text_lines-other, text_lines-next, text_lines-last}
use Rattle.nt_contexts.specs.Reading.{behind, HasRead, GivesJust}

not_above : (most n : ℕ) → n ≤ most → nat_lt most n ≡ false
not_above most n few = at (nat_lt most n) refl
  where
    at : (b : Bool) → nat_lt most n ≡ b → nat_lt most n ≡ false
    at true e = let more : most < n = ltb-true most n e in absurd (omega arith)
    at false e = e

-- a line that is not beyond the limits
pub within : (number : ℕ) (line : List ℕ) → number ≤ max_number → length line ≤ max_line → is_beyond number line ≡ false
within number line low short = ap (λ (b : Bool). b || nat_lt max_line (length line)) (not_above max_number number low)
    ∙ not_above max_line (length line) short

-- what is left after a line
pub record LineOff (old new : LinesState) (line : List ℕ) (text : List ℕ) : Type 0 where
  pub rest : List ℕ
  pub left : new.left ≡ Some rest
  pub lines : text_lines text ≡ line ∷ text_lines rest

line_off : (old new : LinesState) (line text : List ℕ) (now : Option (List ℕ)) → old.left ≡ Some text → new.left ≡ now → HasNoLf line
    → EndsLine (Some text) now line → LineOff old new line text
line_off old new line text None is now one (inl taken) = absurd taken
line_off old new line text None is now one (inr h) = absurd h.0
line_off old new line text (Some rest) is now one (inl taken) = record {
  rest = rest;
  left = now;
  lines = ap (λ (l : List ℕ). text_lines l) (taken ∙ append_assoc line (10 ∷ []) rest) ∙ text_lines-next line rest one;
}
line_off old new line text (Some rest) is now one (inr h) =
    let whole : text ≡ line = h.0 ∙ (ap (λ (l : List ℕ). line ++ l) h.1 ∙ append-nil line) in
    record {
      rest = rest;
      left = now;
      lines = ap (λ (l : List ℕ). text_lines l) whole ∙ (text_lines-last line one h.2 ∙ ap (λ (l : List ℕ). line ∷ text_lines l) (sym h.1));
    }

module _ (F : MembersData) where
  -- what the lines from this one on give
  abbrev from_here : LinesState → List ℕ → EventText
  from_here now rest = entries_of_lines F (now.number + 1) (text_lines rest)

  pub next_line : (old new : LinesState) (line : Line) (text : List ℕ) → old.left ≡ Some text → IsNextLine old new line
      → LineOff old new line.bytes text
  next_line old new line text is next =
      line_off old new line.bytes text new.left is refl next.one_line
      (subst (λ (o : Option (List ℕ)). EndsLine o new.left line.bytes) is next.ends)

  -- a line comes first
  line_first : (old new : LinesState) (line : Line) (text : List ℕ) → IsNextLine old new line → (off : LineOff old new line.bytes text)
      → from_here old text ≡ (if is_blank_line line.bytes then from_here new off.rest else then_lines (old.number + 1)
      (entry_of F line.bytes) (from_here new off.rest))
  line_first old new line text next off =
      let low : old.number + 1 ≤ max_number = omega (arith, next.number.0, next.number.1) in
      let count : new.number ≡ old.number + 1 = next.counted ∙ next.number.0 in
      let others = entries_of_lines F (old.number + 1 + 1) (text_lines off.rest) in
      ap (λ (l : List (List ℕ)). entries_of_lines F (old.number + 1) l) off.lines
      ∙ (ap (λ (b : Bool). if b then ends_badly (old.number + 1) TooLong else (if is_blank_line line.bytes then others else then_lines
      (old.number + 1) (entry_of F line.bytes) others))
      (within (old.number + 1) line.bytes low next.fits)
      ∙ ap (λ (n : ℕ). if is_blank_line line.bytes then entries_of_lines F (n + 1) (text_lines off.rest) else then_lines (old.number + 1)
      (entry_of F line.bytes) (entries_of_lines F (n + 1) (text_lines off.rest))) (sym count))

  pub read-blank : (text : Option (List ℕ)) (entries : List TreesData) (old new : LinesState) (line : Line) → HasRead F text entries old
      → IsNextLine old new line → is_blank_line line.bytes ≡ true → HasRead F text entries new
  read-blank None entries old new line read next blank = tt
  read-blank (Some text) entries old new line read next blank =
      let off = next_line old new line read.rest read.left next in
      record {
        rest = off.rest;
        left = off.left;
        whole = read.whole ∙ ap (λ (t : EventText). behind entries t) (line_first old new line read.rest next off
            ∙ ap (λ (b : Bool). if b then from_here new off.rest else then_lines (old.number + 1) (entry_of F line.bytes)
            (from_here new off.rest)) blank);
      }

  full_line : (old new : LinesState) (line : Line) (text : List ℕ) → IsNextLine old new line → (off : LineOff old new line.bytes text)
      → is_blank_line line.bytes ≡ false
      → from_here old text ≡ then_lines (old.number + 1) (entry_of F line.bytes) (from_here new off.rest)
  full_line old new line text next off full =
      line_first old new line text next off
      ∙ ap (λ (b : Bool). if b then from_here new off.rest else then_lines (old.number + 1) (entry_of F line.bytes)
      (from_here new off.rest)) full

  pub read-entry : (text : Option (List ℕ)) (entries : List TreesData) (old new : LinesState) (line : Line) (entry : TreesData)
      → HasRead F text entries old
      → IsNextLine old new line → is_blank_line line.bytes ≡ false → entry_of F line.bytes ≡ Ok entry
      → HasRead F text (entries ++ entry ∷ []) new
  read-entry None entries old new line entry read next full is = tt
  read-entry (Some text) entries old new line entry read next full is =
      let off = next_line old new line read.rest read.left next in
      let rest = from_here new off.rest in
      record {
        rest = off.rest;
        left = off.left;
        whole = read.whole
            ∙ (ap (λ (t : EventText). behind entries t) (full_line old new line read.rest next off full
            ∙ ap (λ (r : Result TreesData TextKind). then_lines (old.number + 1) r rest) is)
            ∙ ap (λ (l : List TreesData). record { entries = l; bad = rest.bad }) (sym (append_assoc entries (entry ∷ []) rest.entries)));
      }

  -- nothing more comes
  pub no_more : (entries : List TreesData) (bad : Option BadLine)
      → behind entries (record { entries = []; bad = bad }) ≡ record { entries = entries; bad = bad }
  no_more entries bad = ap (λ (l : List TreesData). record { entries = l; bad = bad }) (append-nil entries)

  pub read-bad : (text : Option (List ℕ)) (entries : List TreesData) (old new : LinesState) (line : Line) (kind : TextKind)
      → HasRead F text entries old
      → IsNextLine old new line → is_blank_line line.bytes ≡ false → entry_of F line.bytes ≡ Err kind
      → GivesJust F text entries (Some (record { line = line.number; kind = kind }))
  read-bad None entries old new line kind read next full is = tt
  read-bad (Some text) entries old new line kind read next full is =
      let off = next_line old new line read.rest read.left next in
      let rest = from_here new off.rest in
      read.whole
      ∙ (ap (λ (t : EventText). behind entries t) (full_line old new line read.rest next off full
      ∙ (ap (λ (r : Result TreesData TextKind). then_lines (old.number + 1) r rest) is
      ∙ ap (λ (n : ℕ). ends_badly n kind) (sym next.number.0)))
      ∙ no_more entries (Some (record { line = line.number; kind = kind })))

  pub read-end : (text : Option (List ℕ)) (entries : List TreesData) (now : LinesState) → HasRead F text entries now → IsAtEnd now.left
      → GivesJust F text entries None
  read-end None entries now read end = tt
  read-end (Some text) entries now read end =
      let none : read.rest ≡ [] = subst (λ (o : Option (List ℕ)). IsAtEnd o) read.left end in
      read.whole ∙ (ap (λ (l : List ℕ). behind entries (from_here now l)) none ∙ no_more entries None)

-- the first line, and those behind it
pub record First (P : List ℕ → Type 0) (lines : List (List ℕ)) : Type 0 where
  pub line : List ℕ
  pub others : List (List ℕ)
  pub are : lines ≡ line ∷ others
  pub holds : P line

first_onto : (n : ℕ) (byte : ℕ) (lines : List (List ℕ)) → (n ≡ 0) ⊎ First (λ (l : List ℕ). n ≤ length l) lines
    → First (λ (l : List ℕ). n + 1 ≤ length l) (onto_first byte lines)
first_onto n byte [] (inl none) = record { line = byte ∷ []; others = []; are = refl; holds = omega arith }
first_onto n byte [] (inr f) = let no : [] ≡ f.line ∷ f.others = f.are in cc
first_onto n byte (l ∷ ls) (inl none) = record { line = byte ∷ l; others = ls; are = refl; holds = omega arith }
first_onto n byte (l ∷ ls) (inr f) =
    let same : f.line ≡ l = cc in
    let long : n ≤ length l = subst (λ (x : List ℕ). n ≤ length x) same f.holds in
    record { line = byte ∷ l; others = ls; are = refl; holds = omega arith }

pub first_line : (front rest : List ℕ) → HasNoLf front → 0 < length front
    → First (λ (l : List ℕ). length front ≤ length l) (text_lines (front ++ rest))
first_line [] rest one some = absurd (omega arith)
first_line (byte ∷ []) rest one some =
    let at : text_lines (byte ∷ rest) ≡ onto_first byte (text_lines rest) = text_lines-other byte rest (byte == 10) refl (one 0
    (omega arith)) in
    subst (λ (ls : List (List ℕ)). First (λ (l : List ℕ). 1 ≤ length l) ls) (sym at) (first_onto 0 byte (text_lines rest) (inl refl))
first_line (byte ∷ next ∷ front) rest one some =
    let at : text_lines (byte ∷ next ∷ front ++ rest) ≡ onto_first byte (text_lines (next ∷ front ++ rest)) = text_lines-other byte
    (next ∷ front ++ rest) (byte == 10) refl (one 0 (omega arith)) in
    let inner = first_line (next ∷ front) rest (λ k less. one (suc k) (omega arith)) (omega arith) in
    let more : First (λ (l : List ℕ). length (next ∷ front) + 1 ≤ length l) (onto_first byte (text_lines (next ∷ front ++ rest))) =
    first_onto (length (next ∷ front)) byte (text_lines (next ∷ front ++ rest)) (inr inner) in
    let size : length (next ∷ front) + 1 ≡ length (byte ∷ next ∷ front) = omega arith in
    subst (λ (ls : List (List ℕ)). First (λ (l : List ℕ). length (byte ∷ next ∷ front) ≤ length l) ls) (sym at)
    (record { line = more.line; others = more.others; are = more.are; holds = omega (arith, more.holds) })

pub any_line : (text : List ℕ) → 0 < length text → First (λ (l : List ℕ). 0 ≤ length l) (text_lines text)
any_line [] some = absurd (omega arith)
any_line (byte ∷ bytes) some = at (byte == 10)
  where
    onto : (lines : List (List ℕ)) → First (λ (l : List ℕ). 0 ≤ length l) (onto_first byte lines)
    onto [] = record { line = byte ∷ []; others = []; are = refl; holds = omega arith }
    onto (l ∷ ls) = record { line = byte ∷ l; others = ls; are = refl; holds = omega arith }

    at : (b : Bool) → First (λ (l : List ℕ). 0 ≤ length l) (cond b ([] ∷ text_lines bytes) (onto_first byte (text_lines bytes)))
    at true = record { line = []; others = text_lines bytes; are = refl; holds = omega arith }
    at false = onto (text_lines bytes)

above : (most n : ℕ) → most < n → nat_lt most n ≡ true
above most n more = at (nat_lt most n) refl
  where
    at : (b : Bool) → nat_lt most n ≡ b → nat_lt most n ≡ true
    at true e = e
    at false e = let few : n ≤ most = ltb-false most n e in absurd (omega arith)

or_true : (b : Bool) → (b || true) ≡ true
or_true true = refl
or_true false = refl

pub beyond : (number : ℕ) (line : List ℕ) → (max_number < number) ⊎ (max_line < length line) → is_beyond number line ≡ true
beyond number line (inl high) = ap (λ (b : Bool). b || nat_lt max_line (length line)) (above max_number number high)
beyond number line (inr long) = ap (λ (b : Bool). nat_lt max_number number || b) (above max_line (length line) long)
    ∙ or_true (nat_lt max_number number)

pub bad_first : (F : MembersData) (number : ℕ) (lines : List (List ℕ))
    → First (λ (l : List ℕ). (max_number < number) ⊎ (max_line < length l)) lines
    → entries_of_lines F number lines ≡ ends_badly number TooLong
bad_first F number lines f =
    ap (λ (l : List (List ℕ)). entries_of_lines F number l) f.are
    ∙ ap (λ (b : Bool). if b then ends_badly number TooLong else (if is_blank_line f.line then entries_of_lines F
    (number + 1) f.others else then_lines number (entry_of F f.line) (entries_of_lines F (number + 1) f.others)))
    (beyond number f.line f.holds)

pub taken_from : (text front : List ℕ) (rest : Option (List ℕ)) → Consumes (Some text) rest front → (ys : List ℕ) × (text ≡ front ++ ys)
taken_from text front None h = absurd h
taken_from text front (Some ys) h = (ys, h)
