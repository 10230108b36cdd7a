-- Numbers that are moved as they lie.
use Rattle.std.proofs.Common.{◌≡◌, ℕ, zero, suc, ◌+◌, ◌-◌, ◌<◌, ◌≤◌, ◌^◌, Bool, List, [], ◌∷◌, ◌++◌, length, map, take, drop}
use Rattle.std.proofs.Common.{get_or, refl, sym, ◌∙◌, ap, subst, arith, append_assoc}
use Rattle.std.proofs.lemmas.List.{drop_more}
use Rattle.nt_types.specs.ColumnTable.{bits_of}
use Rattle.nt_column.specs.Column.{Column, Buffer, with_more, TakesNumber}
use Rattle.nt_column.specs.Elements.{Element, plain}
use Rattle.nt_column.specs.Words.{lent_elements}
use Rattle.nt_column.specs.declared.words.WordSlice.{WordSlice}
use Rattle.nt_plans.specs.Plan.{PlanData, number}
use Rattle.nt_trees.specs.Columns.{Cols, number_at, tag_at, add_to}
use Rattle.nt_trees.specs.Integers.{integer_of, twos_complement}
use Rattle.nt_trees.specs.Put.{put_each, put_tree}
use Rattle.nt_trees.specs.TreeAt.{tree_at, trees_from}
use Rattle.nt_trees.specs.Views.{cols_of}
use Rattle.nt_join.specs.Readable.{ReadableTo}
use Rattle.nt_shred.specs.Frame.{FitsIn}
use Rattle.nt_shred.specs.Steps.{ReadyAll, GainsInRoom}
use Rattle.nt_shred.specs.Places.{TakesIntegers}
use Rattle.nt_moving.specs.Runs.{AllHaveBits, IsLentRun}
use Rattle.nt_moving.proofs.Adding.{add_to-behind, add_to-none}
use Rattle.nt_moving.proofs.Complements.{complement-integer_of, width-some}

plain-is : (e : Element) → e.1 ≡ 0 → plain e.0 ≡ e
plain-is (n, t) is = ap (λ (m : ℕ). (n, m)) (sym is)

-- the trees of integers add the elements that they were read from
pub put-run : (k source bits : ℕ) (signed : Bool) (cols from : Cols) (n at : ℕ) → 0 < bits → at + n ≤ length (from source)
    → AllHaveBits bits (take n (drop at (from source)))
    → put_each (put_tree (number k bits signed)) (trees_from (tree_at (number source bits signed) from) at n) cols
    ≡ add_to k (take n (drop at (from source))) cols
put-run k source bits signed cols from zero at some within fit = add_to-none k cols
put-run k source bits signed cols from (suc n) at some within fit =
    let es = from source in
    let e = get_or es at (0, 0) in
    let place : at + 1 ≡ suc at = omega arith in
    let next : drop at es ≡ e ∷ drop (suc at) es =
    drop_more es at (0, 0) (omega (arith, within)) ∙ ap (λ (j : ℕ). e ∷ drop j es) place in
    let fits = subst (λ (l : List Element). AllHaveBits bits (take (suc n) l)) next fit in
    let first = fits 0 (omega arith) in
    let same : plain (twos_complement bits (integer_of bits signed e.0)) ≡ e =
    ap (λ (m : ℕ). plain m) (complement-integer_of bits signed e.0 (λ _. (some, first.0))) ∙ plain-is e first.1 in
    let one = add_to k (plain (twos_complement bits (integer_of bits signed e.0)) ∷ []) cols in
    put-run k source bits signed one from n (suc at) some (omega (arith, within)) (λ i h. fits (suc i) (omega (arith, h)))
    ∙ add_to-behind k (plain (twos_complement bits (integer_of bits signed e.0)) ∷ []) (take n (drop (suc at) es)) cols
    ∙ ap (λ (x : Element). add_to k (x ∷ take n (drop (suc at) es)) cols) same
    ∙ ap (λ (l : List Element). add_to k (take (suc n) l) cols) (sym next)

-- ---- numbers as they lie

number_at-plain : (xs : List ℕ) (i : ℕ) → number_at (map plain xs) i ≡ get_or xs i 0
number_at-plain [] i = refl
number_at-plain (x ∷ xs) zero = refl
number_at-plain (x ∷ xs) (suc i) = number_at-plain xs i

tag_at-plain : (xs : List ℕ) (i : ℕ) → tag_at (map plain xs) i ≡ 0
tag_at-plain [] i = refl
tag_at-plain (x ∷ xs) zero = refl
tag_at-plain (x ∷ xs) (suc i) = tag_at-plain xs i

-- numbers of so many bits
pub plain-bits : (bits : ℕ) (xs : List ℕ) → ((i : ℕ) → get_or xs i 0 < 2 ^ bits) → AllHaveBits bits (map plain xs)
plain-bits bits xs fits i h = (omega (arith, number_at-plain xs i, fits i), tag_at-plain xs i)

-- ---- a run of them

module _ (to from : PlanData) (cols : Cols) (at end k : ℕ) (words : WordSlice) (old : List Buffer)
    (run : IsLentRun to from cols at end k words) (order : at ≤ end) (readable : ReadableTo from cols end) where
  -- what their trees add are the numbers
  run-is : (c : Cols) → put_each (put_tree to) (trees_from (tree_at from cols) at (end - at)) c ≡ add_to k (lent_elements words) c
  run-is c =
      let es = cols run.source in
      let r = subst (λ (p : PlanData). ReadableTo p cols end) run.from_is readable in
      let within : at + (end - at) ≤ length es = omega (arith, order, r.within, r.sound) in
      ap (λ (p : PlanData). put_each (put_tree p) (trees_from (tree_at from cols) at (end - at)) c) run.to_is
      ∙ ap (λ (p : PlanData). put_each (put_tree (number k run.bits run.signed)) (trees_from (tree_at p cols) at (end - at)) c) run.from_is
      ∙ put-run k run.source run.bits run.signed c cols (end - at) at (width-some run.bits run.known) within
      (subst (AllHaveBits run.bits) run.lent run.fit)
      ∙ ap (λ (l : List Element). add_to k l c) (sym run.lent)

  pub run-room : ReadyAll to (trees_from (tree_at from cols) at (end - at)) old → FitsIn old (add_to k (lent_elements words) (cols_of old))
  run-room r = subst (FitsIn old) (run-is (cols_of old)) r.room

  pub run-done : (new : List Buffer) → GainsInRoom (add_to k (lent_elements words)) old new
      → GainsInRoom (put_each (put_tree to) (trees_from (tree_at from cols) at (end - at))) old new
  run-done new g = record { columns = g.columns ∙ sym (run-is (cols_of old)); frame = g.frame; room = g.room }

-- ---- numbers that are pushed

-- so many elements stand behind those that were there
pub record PushedSome (es : List Element) (n : ℕ) (first now : Buffer) : Type 0 where
  pub column : now.column ≡ with_more first.column es
  pub spare : first.spare ≤ now.spare + n

-- the next number is taken
pub takes-next : (es : List Element) (n value bits left : ℕ) (first now : Buffer) → PushedSome es n first now
    → TakesIntegers bits left first → value < 2 ^ bits → TakesNumber now.column value
takes-next es n value bits left first now s t fits =
    let kind = ap (λ (c : Column). c.kind) s.column in
    record {
      other = λ e. t.other (sym kind ∙ e);
      stored = ap (λ (c : Column). c.zeros) s.column ∙ t.stored;
      fits = subst (λ (b : ℕ). value < 2 ^ b) (sym (ap bits_of kind ∙ t.width)) fits;
    }

pub pushed-more : (es next : List Element) (x : Element) (n : ℕ) (first now new : Buffer) → PushedSome es n first now
    → new.column ≡ with_more now.column (x ∷ []) → now.spare ≤ new.spare + 1 → next ≡ es ++ x ∷ [] → PushedSome next (n + 1) first new
pushed-more es next x n first now new s column spare is = record {
  column = column ∙ ap (λ (c : Column). with_more c (x ∷ [])) s.column
      ∙ ap (λ (l : List Element). record { kind = first.column.kind; elements = l; zeros = first.column.zeros })
      (append_assoc first.column.elements es (x ∷ []) ∙ ap (λ (l : List Element). first.column.elements ++ l) (sym is));
  spare = omega (arith, s.spare, spare);
}
