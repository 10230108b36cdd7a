-- Rows by the field that they belong to.
use Rattle.std.proofs.Common.{ℕ, zero, suc, Bool, true, false, ◌≡◌, ◌≢◌, ◌<◌, ◌+◌, List, [], ◌∷◌, ◌++◌, length, take, Vec, refl, sym, ap}
use Rattle.std.proofs.Common.{◌∙◌, ◌==◌, if◌then◌else◌, append-nil, append_assoc, add-one, add-zero, zero-add, arith}
use Rattle.std.proofs.lemmas.List.{length-take-le}
use Rattle.std.proofs.lemmas.Bool.Decides.{nat_tests}
use Rattle.std.proofs.lemmas.List.Elements.{filter-append}
use Rattle.std.proofs.Math.Seq.{take-suc}
use Rattle.std.proofs.Math.ListN.{get_or, set}
use Rattle.std.specs.declared.alloc.Global.{Global}
use Rattle.nt_grammar.specs.declared.rows.ColumnRow.{ColumnRow}
use Rattle.nt_grammar.specs.Open.{columns_of_field}
use Rattle.nt_plans.specs.Place.{column_ids}
use Rattle.nt_open.specs.Grouped.{items_at}

-- one list more, of nothing
pub items_at-snoc : {T : Type 0} (lists : List (Vec T Global)) (v : Vec T Global) → v.items ≡ [] → ((i : ℕ) → items_at lists i ≡ [])
    → (i : ℕ) → items_at (lists ++ v ∷ []) i ≡ []
items_at-snoc [] v e h zero = e
items_at-snoc [] v e h (suc i) = refl
items_at-snoc (x ∷ xs) v e h zero = h 0
items_at-snoc (x ∷ xs) v e h (suc i) = items_at-snoc xs v e (λ k. h (suc k)) i

items_at-same : {T : Type 0} (lists : List (Vec T Global)) (at : ℕ) (v : Vec T Global) → at < length lists
    → items_at (set lists at v) at ≡ v.items
items_at-same [] at v h = absurd (omega arith)
items_at-same (x ∷ xs) zero v h = refl
items_at-same (x ∷ xs) (suc at) v h = items_at-same xs at v (omega arith)

items_at-other : {T : Type 0} (lists : List (Vec T Global)) (at i : ℕ) (v : Vec T Global) → i ≢ at
    → items_at (set lists at v) i ≡ items_at lists i
items_at-other [] at i v h = refl
items_at-other (x ∷ xs) zero zero v h = absurd (h refl)
items_at-other (x ∷ xs) zero (suc i) v h = refl
items_at-other (x ∷ xs) (suc at) zero v h = refl
items_at-other (x ∷ xs) (suc at) (suc i) v h = items_at-other xs at i v (λ e. h (ap suc e))

pub items_at_get : {T : Type 0} (lists : List (Vec T Global)) (at : ℕ) (d : Vec T Global) → at < length lists
    → items_at lists at ≡ (get_or lists at d).items
items_at_get [] at d h = absurd (omega arith)
items_at_get (x ∷ xs) zero d h = refl
items_at_get (x ∷ xs) (suc at) d h = items_at_get xs at d (omega arith)

-- an item goes behind one list
pub items_at-set : {T : Type 0} (lists : List (Vec T Global)) (at : ℕ) (v d : Vec T Global) (item : T) → at < length lists
    → v.items ≡ (get_or lists at d).items ++ item ∷ []
    → (i : ℕ) → items_at (set lists at v) i ≡ items_at lists i ++ (if i == at then item ∷ [] else [])
items_at-set lists at v d item h e i = cases (i == at) (grind (arith, nat_tests)) (λ f. grind (arith, nat_tests))
  where
    cases : (b : Bool) → (b ≡ true → i ≡ at) → (b ≡ false → i ≢ at)
        → items_at (set lists at v) i ≡ items_at lists i ++ (if b then item ∷ [] else [])
    cases true same other =
        let is : i ≡ at = same refl in
        rw is (items_at-same lists at v h ∙ (e ∙ ap (λ (z : List _). z ++ item ∷ []) (sym (items_at_get lists at d h))))
    cases false same other = items_at-other lists at i v (other refl) ∙ sym (append-nil (items_at lists i))

abbrev one_of : ℕ → ColumnRow → List ColumnRow
one_of id c = if c.field == id then c ∷ [] else []

filter-one : (id : ℕ) (c : ColumnRow) → columns_of_field id (c ∷ []) ≡ one_of id c
filter-one id c = refl

-- the columns of a field, one column further
pub columns_of_field_next : (cs : List ColumnRow) (i : ℕ) (c : ColumnRow) (id : ℕ) → i < length cs → c ≡ get_or cs i c
    → columns_of_field id (take (i + 1) cs) ≡ columns_of_field id (take i cs) ++ one_of id c
columns_of_field_next cs i c id h is =
    let cut : take (i + 1) cs ≡ take i cs ++ c ∷ [] = ap (λ (k : ℕ). take k cs) (add-one i)
    ∙ (take-suc cs i c h ∙ ap (λ (z : ColumnRow). take i cs ++ z ∷ []) (sym is)) in
    ap (columns_of_field id) cut ∙ filter-append (λ (d : ColumnRow). d.field == id) (take i cs) (c ∷ [])

abbrev one_id : ℕ → ℕ → ColumnRow → List ℕ
one_id field id c = if c.field == field then id ∷ [] else []

column_ids-append : (field id : ℕ) (cs more : List ColumnRow)
    → column_ids field id (cs ++ more) ≡ column_ids field id cs ++ column_ids field (id + length cs) more
column_ids-append field id [] more = ap (λ (i : ℕ). column_ids field i more) (sym (add-zero id))
column_ids-append field id (c ∷ cs) more =
    let next : (id + 1) + length cs ≡ id + suc (length cs) = omega arith in
    let later : column_ids field (id + 1) (cs ++ more)
    ≡ column_ids field (id + 1) cs ++ column_ids field (id + suc (length cs)) more =
    rw next at (column_ids-append field (id + 1) cs more) in
    ap (λ (z : List ℕ). one_id field id c ++ z) later
    ∙ sym (append_assoc (one_id field id c) (column_ids field (id + 1) cs) (column_ids field (id + suc (length cs)) more))

-- what is read of a row that isn't there
abbrev pub zero_row : ColumnRow
zero_row = record { code = 0; bits = 0; field = 0; flags = 0; representation = 0; first = 0 }

-- the ids of the columns of a field, one column further
pub column_ids_next : (cs : List ColumnRow) (i field : ℕ) → i < length cs
    → column_ids field 0 (take (i + 1) cs) ≡ column_ids field 0 (take i cs) ++ one_id field i (get_or cs i zero_row)
column_ids_next cs i field h =
    let c : ColumnRow = get_or cs i zero_row in
    let cut : take (i + 1) cs ≡ take i cs ++ c ∷ [] = ap (λ (k : ℕ). take k cs) (add-one i) ∙ take-suc cs i zero_row h in
    let len : length (take i cs) ≡ i = length-take-le i cs (omega arith) in
    let one : column_ids field 0 (take i cs ++ c ∷ []) ≡ column_ids field 0 (take i cs) ++ (one_id field (0 + length (take i cs)) c ++ []) =
    column_ids-append field 0 (take i cs) (c ∷ []) in
    let one' : column_ids field 0 (take i cs ++ c ∷ []) ≡ column_ids field 0 (take i cs) ++ (one_id field i c ++ []) =
    rw (zero-add, len) at one in
    ap (column_ids field 0) cut ∙ (one' ∙ ap (λ (z : List ℕ). column_ids field 0 (take i cs) ++ z) (append-nil (one_id field i c)))
