-- Integers that stand one after the other, added to their column, and the ends of optionals that have them.
use Rattle.std.proofs.Common.{◌≡◌, ℕ, zero, suc, ℤ, ◌+◌, ◌-◌, ◌≤◌, ◌<◌, ◌==◌, Bool, true, false, cond, List, [], ◌∷◌, ◌++◌, length, map}
use Rattle.std.proofs.Common.{slice_get, Option, None, Some, refl, sym, ◌∙◌, ap, arith, subst, append_assoc, append-nil, length-append}
use Rattle.std.proofs.lemmas.List.{map-append, length-map}
use Rattle.std.proofs.lemmas.Bool.{false≢true}
use Rattle.std.proofs.Math.ListN.{set}
use Rattle.nt_types.specs.ColumnTable.{bits_of}
use Rattle.nt_types.specs.declared.column_type.ColumnType.{ColumnType}
use Rattle.nt_types.specs.declared.column_type.ColumnType.TheVariants.{Index32, Index64, SplitIndex32, SplitIndex64}
use Rattle.nt_types.specs.TreeData.{num, trees_of}
use Rattle.nt_types.specs.Fits.{all_trees, is_int}
use Rattle.nt_event.specs.Json.{AllInRange, InWord}
use Rattle.nt_event.specs.Standing.{CommaStands}
use Rattle.nt_event.proofs.Texts.{num-stands}
use Rattle.nt_column.specs.Column.{Column, Buffer, with_more}
use Rattle.nt_column.specs.Elements.{Element, plain}
use Rattle.nt_plans.specs.Plan.{number}
use Rattle.nt_plans.specs.Types.{is_index_type}
use Rattle.nt_trees.specs.Columns.{Cols, add_to}
use Rattle.nt_trees.specs.Integers.{twos_complement}
use Rattle.nt_trees.specs.Put.{put_each, put_tree}
use Rattle.nt_trees.specs.Fits.{fits_plan}
use Rattle.nt_trees.specs.Views.{cols_of}
use Rattle.nt_shred.specs.Frame.{set_frame, IsEnds}
use Rattle.nt_shred.proofs.Sets.{gains, framed}
use Rattle.nt_shred.specs.Places.{Grew, TakesIntegers}
use Rattle.nt_shred.specs.Runs.{RunStands, PutsRun, AllInts, integer_elements, AddsIntegers, AddsRun, PutsIntegers, ends_behind}
use Rattle.nt_shred.specs.Walk.{ElementStands, Leaves}
use Rattle.nt_shred.proofs.LineGrowth.{grew-not, few-more}
use Rattle.nt_shred.proofs.OneColumn.{set-same, takes-more}
use Rattle.nt_shred.proofs.Runs.{run-next, run-long}

pub length-integers : (bits : ℕ) (zs : List ℤ) → length {A = Element} (integer_elements bits zs) ≡ length zs
length-integers bits zs = length-map zs (λ z. plain (twos_complement bits z))

-- ---- one column

-- the integers so far, and room for more
pub record RunSoFar (bits : ℕ) (signed : Bool) (line : List ℕ) (at i : ℕ) (first now : Buffer) : Type 0 where
  pub adds : AddsIntegers bits signed line at i first now
  pub takes : TakesIntegers bits (length line - i) now
  pub within : i ≤ length line

pub run-first : (bits : ℕ) (signed : Bool) (n : ℕ) (line : List ℕ) (at end : ℕ) (old new : Buffer)
    → TakesIntegers bits (length line - at) old → ElementStands bits signed n line at end
    → new.column ≡ with_more old.column (plain n ∷ []) → old.spare ≤ new.spare + 1 → RunSoFar bits signed line at end old new
run-first bits signed n line at end old new t e column le = record {
  adds = record {
    values = e.value ∷ [];
    stands = num-stands e.value line at end e.range e.stands;
    ints = (e.fitting, e.range, tt);
    column = column ∙ ap (λ (m : ℕ). with_more old.column (plain m ∷ [])) e.is;
    spare = le;
  };
  takes = takes-more bits (length line - at) (length line - end) n old new t column le
      (omega (arith, e.stands.some, e.stands.within));
  within = e.stands.within;
}

ints-more : (bits : ℕ) (signed : Bool) (zs : List ℤ) (z : ℤ) → AllInts bits signed zs → is_int bits signed z ≡ true → InWord z
    → AllInts bits signed (zs ++ z ∷ [])
ints-more bits signed [] z all fit word = (fit, word, tt)
ints-more bits signed (y ∷ ys) z all fit word = (all.0, all.1, ints-more bits signed ys z all.2 fit word)

pub run-more : (bits : ℕ) (signed : Bool) (n : ℕ) (line : List ℕ) (at i next end : ℕ) (first old new : Buffer)
    → RunSoFar bits signed line at i first old → CommaStands line i next → ElementStands bits signed n line next end
    → new.column ≡ with_more old.column (plain n ∷ []) → old.spare ≤ new.spare + 1 → RunSoFar bits signed line at end first new
run-more bits signed n line at i next end first old new s comma e column le =
    let zs = s.adds.values in
    let z = e.value in
    let es = integer_elements bits zs in
    let x = plain (twos_complement bits z) in
    record {
      adds = record {
        values = zs ++ z ∷ [];
        stands = subst (λ vs. RunStands vs line at end) (sym (map-append (λ y. num y) zs (z ∷ [])))
            (run-next (map (λ y. num y) zs) (num z) line at i next end s.adds.stands comma (num-stands z line next end e.range e.stands));
        ints = ints-more bits signed zs z s.adds.ints e.fitting e.range;
        column = column ∙ ap (λ (m : ℕ). with_more old.column (plain m ∷ [])) e.is
            ∙ ap (λ (c : Column). with_more c (x ∷ [])) s.adds.column
            ∙ ap (λ (l : List Element). record { kind = first.column.kind; elements = l; zeros = first.column.zeros })
            (append_assoc first.column.elements es (x ∷ [])
            ∙ ap (λ (l : List Element). first.column.elements ++ l) (sym (map-append (λ y. plain (twos_complement bits y)) zs (z ∷ []))));
        spare = omega (arith, s.adds.spare, le, length-append zs (z ∷ []));
      };
      takes = takes-more bits (length line - i) (length line - end) n old new s.takes column le
          (omega (arith, comma.some, e.stands.some, e.stands.within));
      within = e.stands.within;
    }

-- no integer
pub run-not : (bits : ℕ) (signed : Bool) (line : List ℕ) (at : ℕ) (old : Buffer) (r : Option ℕ) → r ≡ None
    → AddsRun bits signed line at old old r
run-not bits signed line at old r none = subst (AddsRun bits signed line at old old) (sym none) refl

-- ---- a column of a set

pub run-in : (k bits : ℕ) (signed : Bool) (line : List ℕ) (at : ℕ) (start : List Buffer) (old new : Buffer) (r : Option ℕ)
    → slice_get start k ≡ Some old → AddsRun bits signed line at old new r
    → Leaves (λ end. PutsIntegers k bits signed line at end start (set start k new)) start (set start k new) r
run-in k bits signed line at start old new None is h =
    subst (Grew start) (sym (ap (set start k) h ∙ set-same start k old is)) (grew-not start)
run-in k bits signed line at start old new (Some end) is h = record {
  values = h.values;
  stands = h.stands;
  ints = h.ints;
  gains = gains start k old new (integer_elements bits h.values) is h.column
      (omega (arith, h.spare, length-integers bits h.values));
}

-- ---- the items of a list of integers

pub range-ints : (bits : ℕ) (signed : Bool) (zs : List ℤ) → AllInts bits signed zs → AllInRange (trees_of (map (λ z. num z) zs))
range-ints bits signed [] h = tt
range-ints bits signed (z ∷ zs) h = (h.1, range-ints bits signed zs h.2)

fit-ints : (k bits : ℕ) (signed : Bool) (zs : List ℤ) → AllInts bits signed zs
    → all_trees (fits_plan (number k bits signed)) (trees_of (map (λ z. num z) zs)) ≡ true
fit-ints k bits signed [] h = refl
fit-ints k bits signed (z ∷ zs) h = rw (h.0, fit-ints k bits signed zs h.2) refl

-- one element and more of them
one-more-of : (b : Bool) (c : List Element) (x : Element) (xs : List Element)
    → (c ++ cond b (x ∷ []) []) ++ cond b xs [] ≡ c ++ cond b (x ∷ xs) []
one-more-of true c x xs = append_assoc c (x ∷ []) xs
one-more-of false c x xs = append-nil (c ++ [])

none-of : (b : Bool) (c : List Element) → c ++ cond b [] [] ≡ c
none-of true c = append-nil c
none-of false c = append-nil c

put-ints : (k bits : ℕ) (signed : Bool) (zs : List ℤ) (cols : Cols)
    → put_each (put_tree (number k bits signed)) (trees_of (map (λ z. num z) zs)) cols ≡ add_to k (integer_elements bits zs) cols
put-ints k bits signed [] cols = λ i j. sym (none-of (j == k) (cols j)) i
put-ints k bits signed (z ∷ zs) cols =
    let x = plain (twos_complement bits z) in
    put-ints k bits signed zs (add_to k (x ∷ []) cols) ∙ (λ i j. one-more-of (j == k) (cols j) x (integer_elements bits zs) i)

-- a run of them
pub ints-run : (k bits : ℕ) (signed : Bool) (line : List ℕ) (at end : ℕ) (old new : List Buffer)
    → PutsIntegers k bits signed line at end old new → PutsRun (number k bits signed) line at end old new
ints-run k bits signed line at end old new h =
    let es = integer_elements bits h.values in
    let long = run-long (map (λ z. num z) h.values) line at end h.stands in
    record {
      found = map (λ z. num z) h.values;
      stands = h.stands;
      range = range-ints bits signed h.values h.ints;
      fitting = fit-ints k bits signed h.values h.ints;
      gains = record {
        columns = h.gains.columns ∙ sym (put-ints k bits signed h.values (cols_of old));
        frame = h.gains.frame;
        room = h.gains.room;
      };
      few = few-more k es 0 (end - at) old old new h.gains (λ j. omega arith)
          (omega (arith, long.0, length-map h.values (λ z. num z), length-integers bits h.values));
    }

-- ---- the ends of optionals

ends-snoc : (end n : ℕ) → ends_behind end (suc n) ≡ ends_behind end n ++ plain (end + suc n) ∷ []
ends-snoc end zero = let same : suc end ≡ end + 1 = omega arith in ap (λ (m : ℕ). plain m ∷ []) same
ends-snoc end (suc n) =
    let same : suc end + suc n ≡ end + suc (suc n) = omega arith in
    ap (λ l. plain (suc end) ∷ l) (ends-snoc (suc end) n ∙ ap (λ (m : ℕ). ends_behind (suc end) n ++ plain m ∷ []) same)

pub length-ends : (end n : ℕ) → length {A = Element} (ends_behind end n) ≡ n
length-ends end zero = refl
length-ends end (suc n) = ap suc (length-ends (suc end) n)

-- the ends so far
pub record EndsSoFar (bits before end last : ℕ) (first now : Buffer) : Type 0 where
  pub from : before ≤ end
  pub upto : end ≤ last
  pub column : now.column ≡ with_more first.column (ends_behind before (end - before))
  pub spare : first.spare ≤ now.spare + (end - before)

pub ends-none : (bits before last : ℕ) (b : Buffer) → before ≤ last → EndsSoFar bits before before last b b
ends-none bits before last b order =
    let none : 0 ≡ before - before = omega arith in
    record {
      from = omega arith;
      upto = order;
      column = ap (λ (l : List Element). record { kind = b.column.kind; elements = l; zeros = b.column.zeros })
          (sym (append-nil b.column.elements)) ∙ ap (λ n. with_more b.column (ends_behind before n)) none;
      spare = omega arith;
    }

pub ends-more : (bits before end last : ℕ) (first old new : Buffer) → EndsSoFar bits before end last first old → end < last
    → new.column ≡ with_more old.column (plain (end + 1) ∷ []) → old.spare ≤ new.spare + 1
    → EndsSoFar bits before (end + 1) last first new
ends-more bits before end last first old new s less column le =
    let n = end - before in
    let one : suc n ≡ end + 1 - before = omega (arith, s.from) in
    let last_is : end + 1 ≡ before + suc n = omega (arith, s.from) in
    record {
      from = omega (arith, s.from);
      upto = omega (arith, less);
      column = column ∙ ap (λ (m : ℕ). with_more old.column (plain m ∷ [])) last_is
          ∙ ap (λ (c : Column). with_more c (plain (before + suc n) ∷ [])) s.column
          ∙ ap (λ (l : List Element). record { kind = first.column.kind; elements = l; zeros = first.column.zeros })
          (append_assoc first.column.elements (ends_behind before n) (plain (before + suc n) ∷ [])
          ∙ ap (λ (l : List Element). first.column.elements ++ l) (sym (ends-snoc before n)))
          ∙ ap (λ m. with_more first.column (ends_behind before m)) one;
      spare = omega (arith, s.spare, le, s.from);
    }

-- a column of ends has 64 bits or 32
pub ends-wide : (bs : List Buffer) (k : ℕ) (b : Buffer) → IsEnds (set_frame bs) k → slice_get bs k ≡ Some b
    → (bits_of b.column.kind ≡ 64 → ⊥) → bits_of b.column.kind ≡ 32
ends-wide bs k b e at not =
    let same = (framed bs k b e.0 0 at e.1).0 in
    ap bits_of same ∙ go e.0 e.2 (λ is. not (ap bits_of same ∙ is))
  where
    go : (c : ColumnType) → is_index_type c ≡ true → (bits_of c ≡ 64 → ⊥) → bits_of c ≡ 32
    go Index32 h n = refl
    go SplitIndex32 h n = refl
    go Index64 h n = absurd (n refl)
    go SplitIndex64 h n = absurd (n refl)
    go _ h n = absurd (false≢true h)
