-- Where a file has its first fault, and which clusters stand before it.
use Rattle.std.proofs.Common.{◌≡◌, ◌∙◌, ◌⊎◌, inl, inr, ap, sym, refl, subst, ℕ, suc, ◌+◌, ◌<◌, Bool, true, false, cond, List, [], ◌∷◌, ◌++◌}
use Rattle.std.proofs.Common.{length, take, Option, Some, None, Result, Ok, Err, arith}
use Rattle.std.specs.Prelude.{slice_index_or, nat_eq}
use Rattle.nt_lists.specs.Chaining.{◌>>=◌}
use Rattle.nt_lists.proofs.Chaining.{bind_ok}
use Rattle.nt_num.specs.Codes.{compressed, out_of_file, bad_page, bad_value}
use Rattle.nt_num.specs.declared.fault.ReadError.{ReadError}
use Rattle.nt_types.specs.TreeData.{TreesData}
use Rattle.nt_types.specs.declared.column_type.ColumnType.{ColumnType}
use Rattle.nt_encode.specs.Elements.{page_elements}
use Rattle.nt_encode.specs.Pages.{page_size}
use Rattle.nt_num.specs.Faults.{fault, with_values}
use Rattle.nt_format.specs.Pieces.{piece}
use Rattle.nt_pagelists.specs.Columns.{in_column}
use Rattle.nt_format.specs.Demands.{demand, found_or}
use Rattle.nt_grammar.specs.Table.{Table}
use Rattle.nt_grammar.specs.declared.rows.ColumnRow.{ColumnRow}
use Rattle.nt_trees.specs.Faults.{Spot}
use Rattle.nt_pagelists.specs.declared.page.PageItem.{PageItem}
use Rattle.nt_pagelists.specs.declared.column.KnownColumn.{KnownColumn}
use Rattle.nt_pagelists.specs.declared.cluster.ClusterList.{ClusterList}
use Rattle.nt_file_meaning.specs.Outlines.{Outline, outline_of, known_column}
use Rattle.nt_plans.specs.Needs.{need_of}
use Rattle.nt_file_meaning.specs.Clusters.{stored_len, is_checked, sum_fault, page_of_column}
use Rattle.nt_file_meaning.specs.Clusters.{pages_of_column, pages_of_kind, column_elements}
use Rattle.nt_file_meaning.specs.Clusters.{columns_from, value_fault, no_value_fault, begins_behind}
use Rattle.nt_file_meaning.specs.Clusters.{zero_elements, kind_of_code, pages_listed}
use Rattle.nt_file_meaning.specs.Clusters.{cluster_of}
use Rattle.nt_file_meaning.specs.Files.{entries_from, read_file, Means, HasDefect}
use Rattle.nt_reader.specs.Outlines.{unlisted_cluster, entries_in}
use Rattle.nt_show.specs.Listing.{before_others, sound_from, sound_in, sound_clusters, IsClusterFault}

ok_is : {A E : Type 0} (x y : A) → ◌≡◌ {A = Result A E} (Ok x) (Ok y) → x ≡ y
ok_is x y e = cc

err_is : {A E : Type 0} (x y : E) → ◌≡◌ {A = Result A E} (Err x) (Err y) → x ≡ y
err_is x y e = cc

never_err : {A E : Type 0} (x : A) (e : E) → ◌≡◌ {A = Result A E} (Ok x) (Err e) → ⊥
never_err x e is = cc

-- a fault of two steps is one of the first or of the second
bind_err : {A B E : Type 0} (r : Result A E) (f : A → Result B E) (e : E) → (r >>= f) ≡ Err e
    → (r ≡ Err e) ⊎ ((x : A) × (r ≡ Ok x) × (f x ≡ Err e))
bind_err (Ok x) f e is = inr (x, refl, is)
bind_err (Err d) f e is = inl (cc)

-- where the clusters are read, all of them are sound
pub sound_whole_from : (file : List ℕ) (t : Table) (n : ℕ) (ks : List ClusterList) (clusters : List (List TreesData))
    → entries_from file t n ks ≡ Ok clusters → sound_from file t n ks ≡ clusters
sound_whole_from file t n [] clusters is = cc
sound_whole_from file t n (k ∷ ks) clusters is =
    let one = bind_ok (cluster_of file t n k) _ clusters is in
    let two = bind_ok (entries_from file t (n + 1) ks) _ clusters one.2 in
    ap (λ (r : Result (List TreesData) ReadError). before_others r (sound_from file t (n + 1) ks)) one.1
    ∙ ap (λ (l : List (List TreesData)). one.0 ∷ l) (sound_whole_from file t (n + 1) ks two.0 two.1)
    ∙ ok_is (one.0 ∷ two.0) clusters two.2

-- what is read of a file with an outline
pub read_of : (file : List ℕ) (o : Outline) → outline_of file ≡ Ok o
    → read_file file ≡ (entries_from file o.table 0 o.clusters >>= λ clusters. Ok (o.table, clusters))
unfolding read_file
read_of file o is = rw is refl

-- and of one without
pub no_outline_read : (file : List ℕ) (e : ReadError) → outline_of file ≡ Err e → read_file file ≡ Err e
unfolding read_file
no_outline_read file e is = rw is refl

pub sound_of_outline : (file : List ℕ) (o : Outline) → outline_of file ≡ Ok o → sound_clusters file ≡ sound_from file o.table 0 o.clusters
sound_of_outline file o is = ap (sound_in file) is

pub no_outline_sound : (file : List ℕ) (e : ReadError) → outline_of file ≡ Err e → sound_clusters file ≡ []
no_outline_sound file e is = ap (sound_in file) is

-- a file that means entries has all its clusters sound
pub sound_whole : (file : List ℕ) (t : Table) (clusters : List (List TreesData)) → Means file t clusters → sound_clusters file ≡ clusters
unfolding read_file
sound_whole file t clusters means =
    let one = bind_ok (outline_of file) _ (t, clusters) means in
    let two = bind_ok (entries_from file one.0.table 0 one.0.clusters) _ (t, clusters) one.2 in
    sound_of_outline file one.0 one.1 ∙ sound_whole_from file one.0.table 0 one.0.clusters two.0 two.1
    ∙ ap (λ (p : Table × List (List TreesData)). p.1) (ok_is (one.0.table, two.0) (t, clusters) two.2)

-- the faults of this cluster
abbrev NamesCluster : ℕ → ReadError → Type 0
NamesCluster number e = (e.cluster ≡ number) × ((e.code ≡ compressed) ⊎ (e.code ≡ out_of_file) ⊎ (e.code ≡ bad_page) ⊎ (e.code ≡ bad_value))

-- a fault of a test, of something that has to be there, and of another test
steps_fault : {A S : Type 0} (P : ReadError → Type 0) (b : Bool) (first second : ReadError) (o : Option S) (test : S → Bool)
    (third : S → ReadError) (y : S → A) (e : ReadError)
    → (demand b first >>= λ u. found_or second o >>= λ s. demand (test s) (third s) >>= λ v. Ok (y s)) ≡ Err e → P first → P second
    → ((s : S) → P (third s)) → P e
steps_fault {A} P false first second o test third y e is one two three = subst P (err_is {A = A} first e is) one
steps_fault {A} P true first second None test third y e is one two three = subst P (err_is {A = A} second e is) two
steps_fault {A} P true first second (Some s) test third y e is one two three = last (test s) is
  where
    last : (b : Bool) → (demand b (third s) >>= λ v. Ok (y s)) ≡ Err e → P e
    last true bad = absurd (never_err (y s) e bad)
    last false same = subst P (err_is {A = A} (third s) e same) (three s)

page_fault : (file : List ℕ) (number id : ℕ) (kind : ColumnType) (p : PageItem) (e : ReadError)
    → page_of_column file number id kind p ≡ Err e → NamesCluster number e
unfolding page_of_column
page_fault file number id kind p e is =
    steps_fault (NamesCluster number) (nat_eq p.size (page_size kind p.count))
    (in_column number id (with_values (page_size kind p.count) p.size (fault compressed p.place)))
    (in_column number id (fault out_of_file p.place))
    (piece file p.place (stored_len p)) (is_checked p) (λ stored. in_column number id (sum_fault p stored))
    (λ stored. page_elements kind p.count (take p.size stored)) e is
    (refl, inl refl) (refl, inr (inl refl)) (λ stored. (refl, inr (inr (inl refl))))

pages_fault : (file : List ℕ) (number id : ℕ) (kind : ColumnType) (ps : List PageItem) (e : ReadError)
    → pages_of_column file number id kind ps ≡ Err e → NamesCluster number e
pages_fault file number id kind [] e is = absurd (cc)
pages_fault file number id kind (p ∷ ps) e is = elim (bind_err (page_of_column file number id kind p) _ e is) [
  | inl first ↦ page_fault file number id kind p e first
  | inr one ↦ elim (bind_err (pages_of_column file number id kind ps) _ e one.2) [
    | inl others ↦ pages_fault file number id kind ps e others
    | inr two ↦ absurd (never_err (one.0 ++ two.0) e two.2)
  ]
]

kind_fault : (file : List ℕ) (number id : ℕ) (kind : Option ColumnType) (ps : List PageItem) (e : ReadError)
    → pages_of_kind file number id kind ps ≡ Err e → NamesCluster number e
kind_fault file number id None ps e is = absurd (cc)
kind_fault file number id (Some kind) ps e is = pages_fault file number id kind ps e is

-- a column that isn't read has no fault
unread_fault : {A : Type 0} (b c : Bool) (P : Type 0) (zeros none : A) (r : Result A ReadError) (e : ReadError) → (r ≡ Err e → P)
    → cond b (cond c (Ok zeros) r) (Ok none) ≡ Err e → P
unread_fault true true P zeros none r e reads is = absurd (cc)
unread_fault true false P zeros none r e reads is = reads is
unread_fault false c P zeros none r e reads is = absurd (cc)

column_fault : (file : List ℕ) (number : ℕ) (k : ClusterList) (id : ℕ) (c : KnownColumn) (code : ℕ) (e : ReadError)
    → column_elements file number k id c code ≡ Err e → NamesCluster number e
column_fault file number k id c code e is =
    unread_fault c.is_open (begins_behind k c) (NamesCluster number e) (zero_elements k.entries) []
    (pages_of_kind file number id (kind_of_code code) (pages_listed k id)) e
    (kind_fault file number id (kind_of_code code) (pages_listed k id) e) is

columns_fault : (file : List ℕ) (number : ℕ) (k : ClusterList) (t : Table) (id : ℕ) (cs : List ColumnRow) (e : ReadError)
    → columns_from file number k t id cs ≡ Err e → NamesCluster number e
columns_fault file number k t id [] e is = absurd (cc)
columns_fault file number k t id (c ∷ cs) e is =
    elim (bind_err (column_elements file number k id (known_column (need_of t id) c) c.code) _ e is) [
      | inl first ↦ column_fault file number k id (known_column (need_of t id) c) c.code e first
      | inr one ↦ elim (bind_err (columns_from file number k t (id + 1) cs) _ e one.2) [
        | inl others ↦ columns_fault file number k t (id + 1) cs e others
        | inr two ↦ absurd (never_err (one.0 ∷ two.0) e two.2)
      ]
    ]

value_named : {A : Type 0} (number : ℕ) (k : ClusterList) (spot : Option Spot) (e : ReadError) (y : A)
    → (no_value_fault number k spot >>= λ u. Ok y) ≡ Err e → NamesCluster number e
value_named number k None e y is = absurd (cc)
value_named number k (Some spot) e y is = subst (NamesCluster number) (err_is (value_fault number k spot) e is) (refl, inr (inr (inr refl)))

-- a fault of a cluster names it
cluster_named : (file : List ℕ) (t : Table) (number : ℕ) (k : ClusterList) (e : ReadError) → cluster_of file t number k ≡ Err e
    → NamesCluster number e
unfolding cluster_of
cluster_named file t number k e is = elim (bind_err (columns_from file number k t 0 t.columns) _ e is) [
  | inl columns ↦ columns_fault file number k t 0 t.columns e columns
  | inr one ↦ value_named number k _ e _ one.2
]

-- the first fault of clusters stands in the one behind those that are sound
record FaultBehind (file : List ℕ) (t : Table) (n : ℕ) (ks : List ClusterList) (e : ReadError) (before : List (List TreesData))
    (count : ℕ) : Type 0 where
  pub count_is : count ≡ length before
  pub there : count < length ks
  pub sound : entries_from file t n (take count ks) ≡ Ok before
  pub fault : cluster_of file t (n + count) (slice_index_or ks count unlisted_cluster) ≡ Err e

others_faulty : {A : Type 0} (first : A) (r : Result (List A) ReadError) (e : ReadError) → (r >>= λ others. Ok (first ∷ others)) ≡ Err e
    → r ≡ Err e
others_faulty first (Ok others) e is = absurd (cc)
others_faulty first (Err d) e is = cc

both_read : {A : Type 0} (first : Result A ReadError) (others : Result (List A) ReadError) (x : A) (xs : List A) → first ≡ Ok x
    → others ≡ Ok xs → (first >>= λ y. others >>= λ ys. Ok (y ∷ ys)) ≡ Ok (x ∷ xs)
both_read first others x xs one two = rw (one, two) refl

fault_here : (file : List ℕ) (t : Table) (n : ℕ) (k : ClusterList) (ks : List ClusterList) (e d : ReadError)
    → cluster_of file t n k ≡ Err d → entries_from file t n (k ∷ ks) ≡ Err e
    → FaultBehind file t n (k ∷ ks) e (sound_from file t n (k ∷ ks)) 0
fault_here file t n k ks e d fails is =
    let none : sound_from file t n (k ∷ ks) ≡ [] = ap
    (λ (r : Result (List TreesData) ReadError). before_others r (sound_from file t (n + 1) ks)) fails in
    let same : d ≡ e = err_is d e (sym
    (ap (λ (r : Result (List TreesData) ReadError). r >>= λ first. entries_from file t (n + 1) ks >>= λ others. Ok (first ∷ others))
    fails) ∙ is) in
    record {
      count_is = sym (ap length none);
      there = omega arith;
      sound = ap (λ (l : List (List TreesData)). Ok l) (sym none);
      fault = ap (λ (m : ℕ). cluster_of file t m k) (omega arith) ∙ fails ∙ ap (λ (f : ReadError). Err f) same;
    }

fault_later : (file : List ℕ) (t : Table) (n count : ℕ) (k : ClusterList) (ks : List ClusterList) (e : ReadError) (entries : List TreesData)
    → cluster_of file t n k ≡ Ok entries
    → FaultBehind file t (n + 1) ks e (sound_from file t (n + 1) ks) count
    → FaultBehind file t n (k ∷ ks) e (sound_from file t n (k ∷ ks)) (suc count)
fault_later file t n count k ks e entries is later =
    let more : sound_from file t n (k ∷ ks) ≡ entries ∷ sound_from file t (n + 1) ks = ap
    (λ (r : Result (List TreesData) ReadError). before_others r (sound_from file t (n + 1) ks)) is in
    record {
      count_is = ap suc later.count_is ∙ sym (ap length more);
      there = omega (arith, later.there);
      sound = both_read (cluster_of file t n k) (entries_from file t (n + 1) (take count ks)) entries (sound_from file t (n + 1) ks) is
          later.sound ∙ ap (λ (l : List (List TreesData)). Ok l) (sym more);
      fault = ap (λ (m : ℕ). cluster_of file t m (slice_index_or ks count unlisted_cluster)) (omega arith) ∙ later.fault;
    }

fault_behind : (file : List ℕ) (t : Table) (n : ℕ) (ks : List ClusterList) (e : ReadError) → entries_from file t n ks ≡ Err e
    → (count : ℕ) × FaultBehind file t n ks e (sound_from file t n ks) count
fault_behind file t n [] e is = absurd (cc)
fault_behind file t n (k ∷ ks) e is = elim (bind_err (cluster_of file t n k) _ e is) [
  | inl here ↦ (0, fault_here file t n k ks e e here is)
  | inr one ↦
      let later = fault_behind file t (n + 1) ks e (others_faulty one.0 (entries_from file t (n + 1) ks) e one.2) in
      (suc later.0, fault_later file t n later.0 k ks e one.0 one.1 later.1)
]

mapped_faulty : {A B : Type 0} (f : A → B) (r : Result A ReadError) (e : ReadError) → (r >>= λ x. Ok (f x)) ≡ Err e → r ≡ Err e
mapped_faulty f (Ok x) e is = absurd (cc)
mapped_faulty f (Err d) e is = cc

-- the first fault of a file with an outline stands in the cluster that it names, behind those that are sound
pub fault_in_cluster : (file : List ℕ) (o : Outline) (e : ReadError) → outline_of file ≡ Ok o → HasDefect file e
    → IsClusterFault file o e (sound_clusters file)
fault_in_cluster file o e is defect =
    let faulty = mapped_faulty (λ (clusters : List (List TreesData)). (o.table, clusters)) (entries_from file o.table 0 o.clusters) e
    (sym (read_of file o is) ∙ defect) in
    let at = fault_behind file o.table 0 o.clusters e faulty in
    let named = cluster_named file o.table (0 + at.0) (slice_index_or o.clusters at.0 unlisted_cluster) e at.1.fault in
    let count : at.0 ≡ e.cluster = omega (arith, named.0) in
    let shown : sound_clusters file ≡ sound_from file o.table 0 o.clusters = sound_of_outline file o is in
    record {
      number = sym count ∙ at.1.count_is ∙ sym (ap length shown);
      there = subst (λ (n : ℕ). n < length o.clusters) count at.1.there;
      sound = ap (λ (n : ℕ). entries_from file o.table 0 (take n o.clusters)) (sym count) ∙ at.1.sound
          ∙ ap (λ (l : List (List TreesData)). Ok l) (sym shown);
      fault = ap (λ (n : ℕ). entries_in o n file) (sym count)
          ∙ ap (λ (n : ℕ). cluster_of file o.table n (slice_index_or o.clusters at.0 unlisted_cluster)) (omega arith) ∙ at.1.fault;
      code = named.1;
    }
