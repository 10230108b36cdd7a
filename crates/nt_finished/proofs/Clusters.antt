-- The clusters of a finished file are read as their entries.
use Rattle.std.proofs.Common.{◌≡◌, ℕ, zero, suc, ◌+◌, ◌<◌, ◌≤◌, Bool, true, false, cond, List, [], ◌∷◌, ◌++◌, map, length, Option, Some}
use Rattle.std.proofs.Common.{None, Ok, refl, sym, ap, subst, ◌∙◌, append-nil, arith}
use Rattle.std.specs.Prelude.{slice_index_or, is_some}
use Rattle.std.specs.List.{AllByRecursion, range_with_len}
use Rattle.nt_types.specs.TreeData.{TreesData}
use Rattle.nt_encode.specs.Elements.{Element}
use Rattle.nt_column.specs.Column.{Column, elements_at}
use Rattle.nt_grammar.specs.declared.rows.ColumnRow.{ColumnRow}
use Rattle.nt_grammar.specs.Table.{Table}
use Rattle.nt_plans.specs.Plan.{has_any}
use Rattle.nt_plans.specs.Place.{open_plans}
use Rattle.nt_plans.specs.Needs.{NeedData, need_of, is_entries}
use Rattle.nt_trees.specs.Sound.{AllSound}
use Rattle.nt_trees.specs.TreeAt.{each_at}
use Rattle.nt_trees.proofs.Lists.{Extends}
use Rattle.nt_trees.proofs.Elsewhere.{Agree, all_sound-agrees}
use Rattle.nt_trees.proofs.Stable.{each_at-stays}
use Rattle.nt_machine.specs.History.{Cluster}
use Rattle.nt_book.specs.declared.meta.PageMeta.{PageMeta}
use Rattle.nt_book.specs.declared.meta.ClusterMeta.{ClusterMeta}
use Rattle.nt_book.specs.Books.{BookData, cluster_at, first_entry, no_cluster}
use Rattle.nt_pages.specs.Image.{payload}
use Rattle.nt_pages.specs.Metas.{column_metas}
use Rattle.nt_pagelists.specs.declared.cluster.ClusterList.{ClusterList}
use Rattle.nt_pagelists.specs.Books.{payload_place, page_item}
use Rattle.nt_file_meaning.specs.Outlines.{is_needed}
use Rattle.nt_file_meaning.specs.Clusters.{pages_listed, columns_by_id, entries_of_columns, cluster_of}
use Rattle.nt_file_meaning.specs.Files.{entries_from}
use Rattle.nt_file_meaning.specs.Holds.{HoldsCluster}
use Rattle.nt_file_meaning.proofs.ClustersBack.{cluster}
use Rattle.nt_layout.specs.Laid.{Gives, IsBlobOfEntries, AreBlobsOf, none_left, and_blob}
use Rattle.nt_finished.specs.Listed.{IsListOf, AreListsOf}
use Rattle.nt_lists.specs.Parts.{Part}
use Rattle.nt_layout.specs.Finished.{range_parts}
use Rattle.nt_finished.proofs.Standing.{StandsThere, object_stands}
use Rattle.nt_finished.proofs.Needs.{any-entries}
use Rattle.nt_finished.proofs.Sound.{length-metas, all-begun}
use Rattle.nt_finished.proofs.Columns.{seen, seen-at, columns_held}

-- ---- columns of which only the open ones are seen

-- a column has a need exactly where it is in a plan
abbrev pub HaveNeeds : Table → Type 0
HaveNeeds t = (k : ℕ) → is_some (need_of t k) ≡ has_any (open_plans t) k

needed-some : (o : Option NeedData) → is_needed o ≡ is_some o
needed-some None = refl
needed-some (Some x) = refl

seen-open : (t : Table) (needs : HaveNeeds t) (cs : List Column)
    → Agree (has_any (open_plans t)) (elements_at cs) (columns_by_id (seen t 0 cs))
seen-open t needs cs j h =
    let same : 0 + j ≡ j = omega arith in
    let needed : is_needed (need_of t (0 + j)) ≡ true =
    ap (λ (k : ℕ). is_needed (need_of t k)) same ∙ (needed-some (need_of t j) ∙ (needs j ∙ h)) in
    seen-at t 0 cs j ∙ ap (λ (b : Bool). cond b (elements_at cs j) []) needed

either-extends : (b : Bool) (es : List Element) → (more : List Element) × (es ≡ cond b es [] ++ more)
either-extends true es = ([], sym (append-nil es))
either-extends false es = (es, refl)

seen-extends : (t : Table) (cs : List Column) → Extends (columns_by_id (seen t 0 cs)) (elements_at cs)
seen-extends t cs j =
    let split = either-extends (is_needed (need_of t (0 + j))) (elements_at cs j) in
    (split.0, split.1 ∙ ap (λ (l : List Element). l ++ split.0) (sym (seen-at t 0 cs j)))

same-below : (f g : ℕ → TreesData) (from n : ℕ) → ((i : ℕ) → i < from + n → f i ≡ g i)
    → map f (range_with_len from n) ≡ map g (range_with_len from n)
same-below f g from zero h = refl
same-below f g from (suc n) h =
    ap (λ (x : TreesData). x ∷ map f (range_with_len (from + 1) n)) (h from (omega arith))
    ∙ ap (λ (xs : List TreesData). g from ∷ xs) (same-below f g (from + 1) n (λ i less. h i (omega (arith, less))))

-- the entries are those that the open columns give
module _ (t : Table) (needs : HaveNeeds t) (cs : List Column) (entries : List TreesData) (gives : Gives t cs entries) where
  pub seen-sound : AllSound (open_plans t) (columns_by_id (seen t 0 cs)) (length entries)
  seen-sound =
      all_sound-agrees (open_plans t) (elements_at cs) (columns_by_id (seen t 0 cs)) (length entries) (seen-open t needs cs) gives.sound

  pub seen-gives : entries ≡ entries_of_columns t (seen t 0 cs) (length entries)
  seen-gives =
      gives.trees
      ∙ same-below (each_at (open_plans t) (elements_at cs)) (each_at (open_plans t) (columns_by_id (seen t 0 cs))) 0 (length entries)
      (λ i less. each_at-stays (open_plans t) (columns_by_id (seen t 0 cs)) (elements_at cs) (length entries) i
      (seen-extends t cs) seen-sound (omega (arith, less)))

lists-le : (book : BookData) (k n : ℕ) (ls : List ClusterList) → AreListsOf book k n ls → k ≤ n
lists-le book k n [] h = omega (arith, h)
lists-le book k n (l ∷ ls) h = omega (arith, lists-le book (k + 1) n ls h.1)

-- ---- a cluster

module _ (file : List ℕ) (t : Table) (needs : HaveNeeds t) (page : ℕ) (some : 0 < page) where
  pub cluster_held : (begin : ℕ) (c : Cluster ClusterMeta) (l : ClusterList) (entries : List TreesData) (range : List ℕ)
      → IsListOf begin c l
      → AllByRecursion (λ (r : ColumnRow). r.first ≤ begin) t.columns → IsBlobOfEntries t page entries c.start range c.meta
      → StandsThere file c.start range → HoldsCluster file t l entries
  cluster_held begin c l entries range listed begun is there =
      let rows : AllByRecursion (λ (r : ColumnRow). r.first ≤ l.first) t.columns =
      subst (λ (n : ℕ). AllByRecursion (λ (r : ColumnRow). r.first ≤ n) t.columns) (sym listed.first_is) begun in
      let kept : c.meta.pages ≡ column_metas page 0 is.columns = ap (λ (m : ClusterMeta). m.pages) is.meta_is in
      let count : l.entries ≡ length entries = listed.entries ∙ ap (λ (m : ClusterMeta). m.entries) is.meta_is in
      let object : StandsThere file (payload_place c) (payload page is.columns) =
      object_stands file (payload page is.columns) c.start (subst (λ (b : List ℕ). StandsThere file c.start b) is.bytes_are there) in
      let first : payload_place c ≡ payload_place c + 0 = omega arith in
      record {
        columns = seen t 0 is.columns;
        holds = columns_held file t l page (payload_place c) some 0 0 is.columns t.columns is.gives.set.described rows is.gives.in_range
            (λ j less.
            let same : 0 + j ≡ j = omega arith in
            let long : length c.meta.pages ≡ length is.columns = ap length kept ∙ length-metas page 0 is.columns in
            ap (λ (k : ℕ). pages_listed l k) same
            ∙ (listed.pages j (omega (arith, less, long))
            ∙ ap (λ (ps : List (List PageMeta)). map (page_item (payload_place c)) (slice_index_or ps j [])) kept))
            (λ j p.
            let same : 0 + j ≡ j = omega arith in
            any-entries (open_plans t) (elements_at is.columns) (length entries) j is.gives.sound
            (ap (λ (k : ℕ). is_entries (need_of t k)) (sym same) ∙ p) ∙ sym count)
            (subst (λ (n : ℕ). StandsThere file n (payload page is.columns)) first object);
        sound = subst (λ (n : ℕ). AllSound (open_plans t) (columns_by_id (seen t 0 is.columns)) n) (sym count)
            (seen-sound t needs is.columns entries is.gives);
        give = subst (λ (n : ℕ). entries ≡ entries_of_columns t (seen t 0 is.columns) n) (sym count)
            (seen-gives t needs is.columns entries is.gives);
      }

module _ (file : List ℕ) (t : Table) (needs : HaveNeeds t) (page : ℕ) (some : 0 < page)
    (none : AllByRecursion (λ (c : ColumnRow). c.first ≡ 0) t.columns) where
  cluster_read : (number begin : ℕ) (c : Cluster ClusterMeta) (l : ClusterList) (entries : List TreesData) (range : List ℕ)
      → IsListOf begin c l
      → IsBlobOfEntries t page entries c.start range c.meta → StandsThere file c.start range → cluster_of file t number l ≡ Ok entries
  cluster_read number begin c l entries range listed is there =
      (cluster file t number l).reads entries (cluster_held file t needs page some begin c l entries range listed
      (all-begun begin t.columns none) is there)

  entries-chain : (number : ℕ) (l : ClusterList) (ls : List ClusterList) (entries : List TreesData) (others : List (List TreesData))
      → cluster_of file t number l ≡ Ok entries
      → entries_from file t (number + 1) ls ≡ Ok others → entries_from file t number (l ∷ ls) ≡ Ok (entries ∷ others)
  entries-chain number l ls entries others p q = rw (p, q) refl

  -- the clusters from one on
  pub entries_read : (book : BookData) (n k : ℕ) (clusters : List (List TreesData)) (ranges : List (List ℕ))
      (cs : List (Cluster ClusterMeta)) (ls : List ClusterList)
      → AreBlobsOf t page clusters ranges cs → AreListsOf book k n ls → k + length cs ≡ n
      → ((j : ℕ) → j < length cs → slice_index_or cs j no_cluster ≡ cluster_at book (k + j))
      → AllByRecursion (λ (p : Part). StandsThere file p.place p.bytes) (range_parts cs ranges) → entries_from file t k ls ≡ Ok clusters
  entries_read book n k clusters ranges cs [] none_left lists all at there = refl
  entries_read book n k clusters ranges cs (l ∷ ls) none_left lists all at there =
      absurd (omega (arith, all, lists-le book (k + 1) n ls lists.1))
  entries_read book n k clusters ranges cs [] (and_blob first more) lists all at there = absurd (omega (arith, all, lists))
  entries_read book n k clusters ranges cs (l ∷ ls)
      (and_blob {entries = entries} {others = others} {range = range} {ranges = left} {c = c} {cs = ds} first more) lists all at there =
      let same : k + 0 ≡ k = omega arith in
      let here : cluster_at book k ≡ c = ap (λ (j : ℕ). cluster_at book j) (sym same) ∙ sym (at 0 (omega arith)) in
      let listed : IsListOf (first_entry book k) c l =
      subst (λ (x : Cluster ClusterMeta). IsListOf (first_entry book k) x l) here lists.0 in
      entries-chain k l ls entries others (cluster_read k (first_entry book k) c l entries range listed first there.0)
      (entries_read book n (k + 1) others left ds ls more lists.1 (omega (arith, all))
      (λ j less. let next : k + suc j ≡ k + 1 + j = omega arith in at (suc j) (omega (arith, less))
      ∙ ap (λ (i : ℕ). cluster_at book i) next) there.1)
