-- What a scan says of the meaning of a file, and of the elements of its columns.
use Rattle.std.proofs.Common.{◌≡◌, ℕ, ◌+◌, ◌^◌, ◌<◌, ◌≤◌, Bool, true, false, cond, ◌-◌, min, List, [], ◌∷◌, ◌++◌, map, length}
use Rattle.std.proofs.Common.{get_or, slice_get, Option, Some, None, Result, Ok, Err, refl, sym, ap, subst, ◌∙◌, inl, inr, arith}
use Rattle.std.specs.Prelude.{sum, nat_le, option_and_then, IsSome}
use Rattle.std.specs.List.{All, flat_map, sum_by, fold}
use Rattle.std.proofs.lemmas.Bool.{cases_lt, leb-true}
use Rattle.std.proofs.lemmas.List.{append-nil, length-append, get_or_past}
use Rattle.std.proofs.lemmas.List.Concat.{flat_map-append}
use Rattle.std.proofs.lemmas.List.Sums.{sum_by-append}
use Rattle.std.proofs.lemmas.Option.{get_or_from_slice_get}
use Rattle.nt_num.specs.declared.fault.ReadError.{ReadError}
use Rattle.nt_lists.specs.Chaining.{◌>>=◌}
use Rattle.nt_lists.proofs.Chaining.{bind_ok}
use Rattle.nt_lists.proofs.Variants.{ok_is, err_is, some_is}
use Rattle.nt_format.specs.Reading.{IsBytes}
use Rattle.nt_types.specs.TreeData.{TreesData}
use Rattle.nt_types.specs.declared.column_type.ColumnType.{ColumnType}
use Rattle.nt_encode.specs.Elements.{Element, AreElementsOf}
use Rattle.nt_encode.proofs.Elements.{both-are_elements, zeros-are_elements}
use Rattle.nt_grammar.specs.Table.{Table}
use Rattle.nt_grammar.specs.declared.rows.ColumnRow.{ColumnRow}
use Rattle.nt_plans.specs.Needs.{need_of}
use Rattle.nt_pagelists.specs.declared.column.KnownColumn.{KnownColumn}
use Rattle.nt_pagelists.specs.declared.page.PageItem.{PageItem}
use Rattle.nt_pagelists.specs.declared.cluster.ClusterList.{ClusterList}
use Rattle.nt_file_meaning.specs.Outlines.{Outline, outline_of, known_column}
use Rattle.nt_file_meaning.specs.Clusters.{kind_of_code, columns_by_id, columns_in_cluster, cluster_of, entries_if_read}
use Rattle.nt_file_meaning.specs.Clusters.{entries_of_columns, pages_listed, begins_behind}
use Rattle.nt_file_meaning.specs.Counts.{page_counts, listed_count, zeros_due}
use Rattle.nt_file_meaning.specs.Files.{entries_from, read_file, HasDefect}
use Rattle.nt_file_meaning.proofs.ColumnsListed.{cluster-of_columns, count-listed, types-listed}
use Rattle.nt_total.specs.Totals.{is_integral}
use Rattle.nt_scan.specs.Leaves.{integral_kind, number_kind, kind_or_byte, column_kind, IsNumberColumn}
use Rattle.nt_scan.specs.Counts.{with_count, added_up, column_known, cluster_counts, column_counted, no_column_row}
use Rattle.nt_scan.specs.Clusters.{columns_over, column_over}
use Rattle.nt_scan.proofs.Counts.{pages_counts}

-- what one cluster and others behind it give
abbrev joined-read : List ℕ → Table → ℕ → List ClusterList → Result (List (List Element)) ReadError
    → Result (List (List (List Element))) ReadError
joined-read file t n ks r = r >>= λ first. columns_over file t n ks >>= λ others. Ok (first ∷ others)

abbrev joined-entries : List ℕ → Table → ℕ → List ClusterList → Result (List TreesData) ReadError → Result (List (List TreesData)) ReadError
joined-entries file t n ks r = r >>= λ first. entries_from file t n ks >>= λ others. Ok (first ∷ others)

others-fail : {A : Type 0} (x : A) (r : Result (List A) ReadError) (e : ReadError) → (r >>= λ others. Ok (x ∷ others)) ≡ Err e → r ≡ Err e
others-fail x (Ok y) e h = absurd cc
others-fail x (Err d) e h = ap (λ (f : ReadError). Err f) (err_is d e h)

cluster-fails : (file : List ℕ) (t : Table) (n entries : ℕ) (ks : List ClusterList) (e : ReadError) (r : Result (List
    (List Element)) ReadError)
    → (columns_over file t n ks ≡ Err e → entries_from file t n ks ≡ Err e) → joined-read file t n ks r ≡ Err e
    → joined-entries file t n ks (entries_if_read t entries r) ≡ Err e
cluster-fails file t n entries ks e (Ok cs) rest h =
    ap (λ r. r >>= λ others. Ok (entries_of_columns t cs entries ∷ others)) (rest (others-fail cs (columns_over file t n ks) e h))
cluster-fails file t n entries ks e (Err d) rest h = ap (λ (f : ReadError). Err f) (err-same d e h)
  where
    err-same : (d e : ReadError) → ◌≡◌ {A = Result (List (List (List Element))) ReadError} (Err d) (Err e) → d ≡ e
    err-same d e h = cc

-- a fault of the columns of clusters is that of their entries
over-defect : (file : List ℕ) (t : Table) (n : ℕ) (ks : List ClusterList) (e : ReadError) → columns_over file t n ks ≡ Err e
    → entries_from file t n ks ≡ Err e
over-defect file t n [] e h = absurd cc
over-defect file t n (k ∷ ks) e h =
    ap (joined-entries file t (n + 1) ks) (cluster-of_columns file t n k)
    ∙ cluster-fails file t (n + 1) k.entries ks e (columns_in_cluster file t n k) (λ rest. over-defect file t (n + 1) ks e rest) h

-- a fault of a cluster is that of the file
pub cluster-defect : (file : List ℕ) (o : Outline) (e : ReadError) → outline_of file ≡ Ok o → columns_over file o.table 0 o.clusters ≡ Err e
    → HasDefect file e
unfolding read_file
cluster-defect file o e is h = rw (is, over-defect file o.table 0 o.clusters e h) refl

-- columns that were read give entries
over-entries : (file : List ℕ) (t : Table) (n : ℕ) (ks : List ClusterList) (read : List (List (List Element))) (e : ReadError)
    → columns_over file t n ks ≡ Ok read → entries_from file t n ks ≡ Err e → ⊥
over-entries file t n [] read e h bad = absurd cc
over-entries file t n (k ∷ ks) read e h bad =
    let first = bind_ok (columns_in_cluster file t n k) (λ f. columns_over file t (n + 1) ks >>= λ others. Ok (f ∷ others)) read h in
    let rest = bind_ok (columns_over file t (n + 1) ks) (λ others. Ok (first.0 ∷ others)) read first.2 in
    let given : cluster_of file t n k ≡ Ok (entries_of_columns t first.0 k.entries) =
    cluster-of_columns file t n k ∙ ap (entries_if_read t k.entries) first.1 in
    let others : entries_from file t (n + 1) ks ≡ Err e =
    others-fail (entries_of_columns t first.0 k.entries) (entries_from file t (n + 1) ks) e
    (sym (ap (joined-entries file t (n + 1) ks) given) ∙ bad) in
    over-entries file t (n + 1) ks rest.0 e rest.1 others

abbrev with-table : Table → Result (List (List TreesData)) ReadError → Result (Table × List (List TreesData)) ReadError
with-table t r = r >>= λ clusters. Ok (t, clusters)

clusters-fail : (t : Table) (r : Result (List (List TreesData)) ReadError) (e : ReadError)
    → with-table t r ≡ Err e → (d : ReadError) × (r ≡ Err d)
clusters-fail t (Ok x) e h = absurd cc
clusters-fail t (Err d) e h = (d, refl)

-- a file whose columns were read has no fault
pub over-means : (file : List ℕ) (o : Outline) (read : List (List (List Element))) (e : ReadError) → outline_of file ≡ Ok o
    → columns_over file o.table 0 o.clusters ≡ Ok read → HasDefect file e → ⊥
unfolding read_file
over-means file o read e is h bad =
    let after = clusters-fail o.table (entries_from file o.table 0 o.clusters) e (rw is at bad) in
    over-entries file o.table 0 o.clusters read after.0 h after.1

-- a fault before any page is that of the file
pub outline-defect : (file : List ℕ) (e : ReadError) → outline_of file ≡ Err e → HasDefect file e
unfolding read_file
outline-defect file e is = rw is refl

-- bytes of a file that tells them
pub told-bytes : (told : List ℕ) → All (λ (b : ℕ). b < 2 ^ 8) told → IsBytes told
told-bytes told all i = elim (cases_lt i (length told)) [
  | inl lt ↦ all i 0 lt
  | inr ge ↦ rw (get_or_past told i 0 ge) (omega arith)
]

-- what is known of a column of numbers
pub record HasKind (t : Table) (c : ℕ) : Type 0 where
  pub row : ColumnRow
  pub kind : ColumnType
  pub there : slice_get t.columns c ≡ Some row
  pub known : kind_of_code row.code ≡ Some kind
  pub is : column_kind t c ≡ kind

pub kind-known : (t : Table) (c : ℕ) → IsNumberColumn t c → HasKind t c
kind-known t c h = by_row (slice_get t.columns c) refl h
  where
    by_kind : (row : ColumnRow) (b : Bool) (kind : ColumnType) → slice_get t.columns c ≡ Some row → kind_of_code row.code ≡ Some kind
        → is_integral kind ≡ b → IsSome (cond b (Some kind) None) → HasKind t c
    by_kind row true kind there known b h =
        record { row = row; kind = kind; there = there; known = known; is = rw (there, known, b) refl }
    by_kind row false kind there known b h = absurd cc

    by_code : (row : ColumnRow) (o : Option ColumnType) → slice_get t.columns c ≡ Some row → kind_of_code row.code ≡ o
        → IsSome (integral_kind o) → HasKind t c
    by_code row None there known h = absurd cc
    by_code row (Some kind) there known h = by_kind row (is_integral kind) kind there known refl h

    by_row : (o : Option ColumnRow) → slice_get t.columns c ≡ o → IsSome (integral_kind (option_and_then (λ row. kind_of_code row.code) o))
        → HasKind t c
    by_row None there h = absurd cc
    by_row (Some row) there h = by_code row (kind_of_code row.code) there refl h

column-cons : (cs : List (List Element)) (rest : List (List (List Element))) (c : ℕ)
    → column_over (cs ∷ rest) c ≡ columns_by_id cs c ++ column_over rest c
column-cons cs rest c =
    flat_map-append (λ columns. columns_by_id columns c) (cs ∷ []) rest
    ∙ ap (λ l. l ++ column_over rest c) (append-nil (columns_by_id cs c))

-- the elements of a column are of its type
pub types-over : (file : List ℕ) (t : Table) (n : ℕ) (ks : List ClusterList) (read : List (List (List Element))) (c : ℕ) (k : HasKind t c)
    → IsBytes file → columns_over file t n ks ≡ Ok read → AreElementsOf k.kind (column_over read c)
types-over file t n [] read c k bytes h = rw (sym (ok_is _ _ h)) (zeros-are_elements k.kind 0)
types-over file t n (l ∷ ks) read c k bytes h =
    let first = bind_ok (columns_in_cluster file t n l) _ read h in
    let rest = bind_ok (columns_over file t (n + 1) ks) _ read first.2 in
    rw (sym (ok_is _ _ rest.2), column-cons first.0 rest.0 c)
    (both-are_elements k.kind (columns_by_id first.0 c) (column_over rest.0 c)
    (types-listed file t n l first.0 c k.row k.kind first.1 k.there k.known bytes)
    (types-over file t (n + 1) ks rest.0 c k bytes rest.1))

sum-cons : (x : ℕ) (xs : List ℕ) → sum (x ∷ xs) ≡ x + sum xs
sum-cons x xs = sum_by-append (λ (n : ℕ). n) (x ∷ []) xs ∙ omega arith

counts-sum : (ps : List PageItem) → sum (map (λ (p : PageItem). p.count) ps) ≡ page_counts ps
counts-sum [] = refl
counts-sum (p ∷ ps) =
    sum-cons p.count (map (λ (p : PageItem). p.count) ps)
    ∙ ap (λ n. p.count + n) (counts-sum ps)
    ∙ sym (sum_by-append (λ (p : PageItem). p.count) (p ∷ []) ps ∙ omega arith)

-- a column has no more elements in a cluster than are counted
listed-few : (t : Table) (c : ℕ) (k : ClusterList) → listed_count k c (column_known t c) ≤ sum (cluster_counts t c k)
listed-few t c k =
    let all : sum (cluster_counts t c k) ≡ zeros_due k (column_known t c) + page_counts (pages_listed k c) =
    sum-cons (zeros_due k (column_known t c)) (pages_counts t c k)
    ∙ ap (λ n. zeros_due k (column_known t c) + n) (counts-sum (pages_listed k c)) in
    subst (λ n. listed_count k c (column_known t c) ≤ n) (sym all)
    (by_cases (column_known t c).is_open (begins_behind k (column_known t c)) k.entries (page_counts (pages_listed k c)))
  where
    by_cases : (is_open behind : Bool) (entries pages : ℕ)
        → cond is_open (cond behind entries pages) 0 ≤ cond is_open (cond behind entries 0) 0 + pages
    by_cases true true entries pages = omega arith
    by_cases true false entries pages = omega arith
    by_cases false behind entries pages = omega arith

-- nor in clusters
pub count-over : (file : List ℕ) (t : Table) (n : ℕ) (ks : List ClusterList) (read : List (List (List Element))) (c : ℕ) (k : HasKind t c)
    → columns_over file t n ks ≡ Ok read → length (column_over read c) ≤ sum (flat_map (cluster_counts t c) ks)
count-over file t n [] read c k h = rw (sym (ok_is _ _ h)) (omega arith)
count-over file t n (l ∷ ks) read c k h =
    let first = bind_ok (columns_in_cluster file t n l) _ read h in
    let rest = bind_ok (columns_over file t (n + 1) ks) _ read first.2 in
    let row : get_or t.columns c no_column_row ≡ k.row = get_or_from_slice_get t.columns c k.row no_column_row k.there in
    let here : length (columns_by_id first.0 c) ≡ listed_count l c (column_known t c) =
    count-listed file t n l first.0 c k.row k.kind first.1 k.there k.known
    ∙ ap (λ r. listed_count l c (known_column (need_of t c) r)) (sym row) in
    let all : sum (flat_map (cluster_counts t c) (l ∷ ks)) ≡ sum (cluster_counts t c l) + sum (flat_map (cluster_counts t c) ks) =
    ap sum (flat_map-append (cluster_counts t c) (l ∷ []) ks
    ∙ ap (λ xs. xs ++ flat_map (cluster_counts t c) ks) (append-nil (cluster_counts t c l)))
    ∙ sum_by-append (λ (n : ℕ). n) (cluster_counts t c l) (flat_map (cluster_counts t c) ks) in
    rw (sym (ok_is _ _ rest.2), column-cons first.0 rest.0 c, length-append (columns_by_id first.0 c) (column_over rest.0 c), all)
    (omega (arith, here, listed-few t c l, count-over file t (n + 1) ks rest.0 c k rest.1))

-- one count more
count-step : (n x m : ℕ) (xs : List ℕ) (b : Bool) → nat_le (n + x) (2 ^ 60) ≡ b
    → ((l : ℕ) → l ≤ 2 ^ 60 → added_up l xs ≡ Ok m → l + sum xs ≤ 2 ^ 60)
    → (cond b (Ok (n + x)) (Err (min (n + x) (2 ^ 64 - 1))) >>= λ l. added_up l xs) ≡ Ok m → n + x + sum xs ≤ 2 ^ 60
count-step n x m xs true is rest h = rest (n + x) (leb-true (n + x) (2 ^ 60) is) h
count-step n x m xs false is rest h = absurd cc

-- counts that are few enough come to their sum
counted-sum : (n : ℕ) (xs : List ℕ) (m : ℕ) → n ≤ 2 ^ 60 → added_up n xs ≡ Ok m → n + sum xs ≤ 2 ^ 60
counted-sum n [] m few h = omega (arith, few)
counted-sum n (x ∷ xs) m few h =
    omega (
      arith,
      sum-cons x xs,
      count-step n x m xs (nat_le (n + x) (2 ^ 60)) refl (λ l le is. counted-sum l xs m le is) h,
    )

-- a column that has few enough by the lists has few enough elements
pub few-over : (file : List ℕ) (o : Outline) (read : List (List (List Element))) (c m : ℕ) (k : HasKind o.table c)
    → column_counted o c ≡ Ok m → columns_over file o.table 0 o.clusters ≡ Ok read → length (column_over read c) ≤ 2 ^ 60
few-over file o read c m k few h =
    omega (
      arith,
      count-over file o.table 0 o.clusters read c k h,
      counted-sum 0 (flat_map (cluster_counts o.table c) o.clusters) m (omega arith) few,
    )
