-- Columns of zeros give zeros.
use Rattle.std.proofs.Common.{◌≡◌, ℕ, zero, suc, ◌+◌, ◌-◌, ◌<◌, Bool, true, false, List, [], pos, negsuc, get_or}
use Rattle.std.proofs.Common.{replicate, Option, None, if◌then◌else◌, refl, ap, ◌∙◌, arith}
use Rattle.std.specs.Prelude.{drop}
use Rattle.std.proofs.lemmas.Bool.{lt-ltb}
use Rattle.std.proofs.lemmas.Nat.{pow_pos}
use Rattle.nt_types.specs.ShapeData.{ShapeData, ShapesData, MembersData, no_kinds, kind, no_parts, part}
use Rattle.nt_types.specs.ShapeData as kinds
use Rattle.nt_types.specs.TreeData.{TreeData, TreesData, flag, num, items, parts, nothing, no_trees, tree}
use Rattle.nt_types.specs.TreeData as trees
use Rattle.nt_column.specs.Elements.{Element, plain}
use Rattle.nt_grammar.specs.declared.rows.ColumnRow.{ColumnRow}
use Rattle.nt_grammar.specs.declared.rows.FieldRow.{FieldRow}
use Rattle.nt_grammar.specs.Open.{ids_inside}
use Rattle.nt_plans.specs.Plan.{PlanData, PlansData, bool, number, text, list, maybe, record_of, choice, no_plans, plan}
use Rattle.nt_plans.specs.Place.{place, place_members, place_each}
use Rattle.nt_trees.specs.Integers.{half, integer_of, truth_of}
use Rattle.nt_trees.specs.Columns.{Cols, number_at, tag_at, begin_at, last_end, count_tag}
use Rattle.nt_trees.specs.Sound.{how_many_plans}
use Rattle.nt_trees.specs.TreeAt.{text_from, trees_from, only, picked, tree_at, each_at, one_at}
use Rattle.nt_trees.specs.Faults.{Spot, free, rising, stepping, tagged, lower, column_fault, fault_in, fault_in_any, fault_under}
use Rattle.nt_trees.proofs.Zeros.{column_fault-zeros, last_end-zeros, count_tag-zeros}
use Rattle.nt_finished.specs.Zeros.{zero_tree, zero_parts, zero_kinds, zero_of, zeros_of}

abbrev pub zeros : ℕ → List Element
zeros n = replicate n (plain 0)

-- ---- so many zeros in each column of a plan that has an element for each entry, and nothing in the others

abbrev mutual
  pub HasZeros : PlanData → Cols → ℕ → Type 0
  HasZeros (bool k) cols n = cols k ≡ zeros n
  HasZeros (number k bits signed) cols n = cols k ≡ zeros n
  HasZeros (text e c) cols n = (cols e ≡ zeros n) × (cols c ≡ zeros 0)
  HasZeros (list e p) cols n = (cols e ≡ zeros n) × HasZeros p cols 0
  HasZeros (maybe e p) cols n = (cols e ≡ zeros n) × HasZeros p cols 0
  HasZeros (record_of ps) cols n = HaveZeros ps cols n
  HasZeros (choice s ps) cols n = (cols s ≡ zeros n) × HaveZeros ps cols 0

  pub HaveZeros : PlansData → Cols → ℕ → Type 0
  HaveZeros no_plans cols n = Unit {0}
  HaveZeros (plan p ps) cols n = HasZeros p cols n × HaveZeros ps cols n

-- ---- nothing is wrong with them

both-none : (f g : Option Spot) → f ≡ None → g ≡ None → lower f g ≡ None
both-none f g p q = rw (p, q) refl

ends-none : (cols : Cols) (e n : ℕ) → cols e ≡ zeros n → last_end (cols e) ≡ 0
ends-none cols e n is = ap last_end is ∙ last_end-zeros n

tags-none : (es : List Element) (n tag : ℕ) → es ≡ zeros n → 0 < tag → count_tag tag es ≡ 0
tags-none es n tag is some = ap (count_tag tag) is ∙ count_tag-zeros n tag some

mutual
  pub fault-zeros : (p : PlanData) (cols : Cols) (n : ℕ) → HasZeros p cols n → fault_in p cols n ≡ None
  fault-zeros (bool k) cols n h = column_fault-zeros free cols k n h
  fault-zeros (number k bits signed) cols n h = column_fault-zeros free cols k n h
  fault-zeros (text e c) cols n h =
      both-none (column_fault rising cols e n) (column_fault free cols c (last_end (cols e))) (column_fault-zeros rising cols e n h.0)
      (ap (column_fault free cols c) (ends-none cols e n h.0) ∙ column_fault-zeros free cols c 0 h.1)
  fault-zeros (list e p) cols n h =
      both-none (column_fault rising cols e n) (fault_in p cols (last_end (cols e))) (column_fault-zeros rising cols e n h.0)
      (ap (fault_in p cols) (ends-none cols e n h.0) ∙ fault-zeros p cols 0 h.1)
  fault-zeros (maybe e p) cols n h =
      both-none (column_fault stepping cols e n) (fault_in p cols (last_end (cols e))) (column_fault-zeros stepping cols e n h.0)
      (ap (fault_in p cols) (ends-none cols e n h.0) ∙ fault-zeros p cols 0 h.1)
  fault-zeros (record_of ps) cols n h = faults-zeros ps cols n h
  fault-zeros (choice s ps) cols n h =
      both-none (column_fault (tagged (how_many_plans ps)) cols s n) (fault_under 0 ps (cols s) cols)
      (column_fault-zeros (tagged (how_many_plans ps)) cols s n h.0) (under-zeros 0 ps (cols s) cols n h.0 h.1)

  pub faults-zeros : (ps : PlansData) (cols : Cols) (n : ℕ) → HaveZeros ps cols n → fault_in_any ps cols n ≡ None
  faults-zeros no_plans cols n h = refl
  faults-zeros (plan p ps) cols n h = both-none (fault_in p cols n) (fault_in_any ps cols n) (fault-zeros p cols n h.0)
      (faults-zeros ps cols n h.1)

  under-zeros : (before : ℕ) (ps : PlansData) (es : List Element) (cols : Cols) (n : ℕ) → es ≡ zeros n → HaveZeros ps cols 0
      → fault_under before ps es cols ≡ None
  under-zeros before no_plans es cols n is h = refl
  under-zeros before (plan p ps) es cols n is h =
      both-none (fault_in p cols (count_tag (suc before) es)) (fault_under (suc before) ps es cols)
      (ap (fault_in p cols) (tags-none es n (suc before) is (omega arith)) ∙ fault-zeros p cols 0 h.0)
      (under-zeros (suc before) ps es cols n is h.1)

-- ---- each tree is the zero

get_or-zeros : (n i : ℕ) → get_or {A = Element} (zeros n) i (0, 0) ≡ (0, 0)
get_or-zeros zero i = refl
get_or-zeros (suc n) zero = refl
get_or-zeros (suc n) (suc i) = get_or-zeros n i

number-zero : (es : List Element) (n i : ℕ) → es ≡ zeros n → number_at es i ≡ 0
number-zero es n i is = ap (λ (l : List Element). number_at l i) is ∙ ap (λ (e : ℕ × ℕ). e.0) (get_or-zeros n i)

tag-zero : (es : List Element) (n i : ℕ) → es ≡ zeros n → tag_at es i ≡ 0
tag-zero es n i is = ap (λ (l : List Element). tag_at l i) is ∙ ap (λ (e : ℕ × ℕ). e.1) (get_or-zeros n i)

begin-zero : (es : List Element) (n i : ℕ) → es ≡ zeros n → begin_at es i ≡ 0
begin-zero es n zero is = refl
begin-zero es n (suc i) is = number-zero es n i is

integer-zero : (bits : ℕ) (signed : Bool) → integer_of bits signed 0 ≡ pos 0
integer-zero bits false = refl
integer-zero bits true = ap (λ b. if b then pos 0 else negsuc ((half bits + half bits) - 1)) (lt-ltb 0 (half bits) (pow_pos (bits - 1)))

text-zero : (es : List Element) (a b : ℕ) → a ≡ 0 → b ≡ 0 → text_from es a (b - a) ≡ []
text-zero es a b p q =
    let none : b - a ≡ 0 = omega arith in
    ap (text_from es a) none

items-zero : (f : ℕ → TreeData) (a b : ℕ) → a ≡ 0 → b ≡ 0 → trees_from f a (b - a) ≡ no_trees
items-zero f a b p q =
    let none : b - a ≡ 0 = omega arith in
    ap (trees_from f a) none

mutual
  pub tree-zeros : (p : PlanData) (cols : Cols) (n i : ℕ) → HasZeros p cols n → tree_at p cols i ≡ zero_of p
  tree-zeros (bool k) cols n i h = ap (λ (m : ℕ). flag (truth_of m)) (number-zero (cols k) n i h)
  tree-zeros (number k bits signed) cols n i h =
      ap (λ (m : ℕ). num (integer_of bits signed m)) (number-zero (cols k) n i h) ∙ ap num (integer-zero bits signed)
  tree-zeros (text e c) cols n i h =
      ap trees.text (text-zero (cols c) (begin_at (cols e) i) (begin_at (cols e) (suc i)) (begin-zero (cols e) n i h.0)
      (begin-zero (cols e) n (suc i) h.0))
  tree-zeros (list e p) cols n i h =
      ap items (items-zero (tree_at p cols) (begin_at (cols e) i) (begin_at (cols e) (suc i)) (begin-zero (cols e) n i h.0)
      (begin-zero (cols e) n (suc i) h.0))
  tree-zeros (maybe e p) cols n i h =
      ap only (items-zero (tree_at p cols) (begin_at (cols e) i) (begin_at (cols e) (suc i)) (begin-zero (cols e) n i h.0)
      (begin-zero (cols e) n (suc i) h.0))
  tree-zeros (record_of ps) cols n i h = ap parts (trees-zeros ps cols n i h)
  tree-zeros (choice s ps) cols n i h =
      ap (λ (t : ℕ). picked t (λ tag. one_at ps tag cols (number_at (cols s) i))) (tag-zero (cols s) n i h.0)

  trees-zeros : (ps : PlansData) (cols : Cols) (n i : ℕ) → HaveZeros ps cols n → each_at ps cols i ≡ zeros_of ps
  trees-zeros no_plans cols n i h = refl
  trees-zeros (plan p ps) cols n i h =
      ap (λ (t : TreeData). tree t (each_at ps cols i)) (tree-zeros p cols n i h.0) ∙ ap (tree (zero_of p)) (trees-zeros ps cols n i h.1)

-- ---- the zero of a plan is that of its shape

mutual
  pub zero-place : (fs : List FieldRow) (cs : List ColumnRow) (k : ShapeData) (id : ℕ) → zero_of (place fs cs k id) ≡ zero_tree k
  zero-place fs cs kinds.bool id = refl
  zero-place fs cs kinds.char id = refl
  zero-place fs cs kinds.byte id = refl
  zero-place fs cs (kinds.int bits signed) id = refl
  zero-place fs cs kinds.text id = refl
  zero-place fs cs (kinds.list k) id = refl
  zero-place fs cs (kinds.maybe k) id = refl
  zero-place fs cs (kinds.fields ps) id = ap parts (zero-members fs cs ps (ids_inside id 0 fs))
  zero-place fs cs (kinds.tuple ks) id = ap parts (zero-each fs cs ks (ids_inside id 0 fs))
  zero-place fs cs (kinds.choice ks) id = refl

  zero-members : (fs : List FieldRow) (cs : List ColumnRow) (ps : MembersData) (ids : List ℕ)
      → zeros_of (place_members fs cs ps ids) ≡ zero_parts ps
  zero-members fs cs no_parts ids = refl
  zero-members fs cs (part n k ps) ids =
      ap (λ (t : TreeData). tree t (zeros_of (place_members fs cs ps (drop 1 ids)))) (zero-place fs cs k (get_or ids 0 0))
      ∙ ap (tree (zero_tree k)) (zero-members fs cs ps (drop 1 ids))

  zero-each : (fs : List FieldRow) (cs : List ColumnRow) (ks : ShapesData) (ids : List ℕ)
      → zeros_of (place_each fs cs ks ids) ≡ zero_kinds ks
  zero-each fs cs no_kinds ids = refl
  zero-each fs cs (kind k ks) ids =
      ap (λ (t : TreeData). tree t (zeros_of (place_each fs cs ks (drop 1 ids)))) (zero-place fs cs k (get_or ids 0 0))
      ∙ ap (tree (zero_tree k)) (zero-each fs cs ks (drop 1 ids))
