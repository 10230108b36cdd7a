-- A writer to whose schema a field was added.
use Rattle.std.proofs.Common.{◌≡◌, ◌∙◌, ap, sym, subst, ℕ, suc, ◌+◌, ◌*◌, ◌<◌, ◌≤◌, ◌^◌, Bool, List, [], ◌∷◌, ◌++◌, map, length, None}
use Rattle.std.proofs.Common.{Some, arith}
use Rattle.std.specs.Prelude.{slice_index_or, drop}
use Rattle.std.specs.List.{AllByRecursion, sum_by}
use Rattle.std.proofs.lemmas.List.Sums.{sum_by-cons}
use Rattle.nt_types.specs.ShapeData.{MemberData}
use Rattle.nt_types.specs.TreeData.{TreeData, TreesData, no_trees, tree}
use Rattle.nt_outside.specs.Held.{Becomes}
use Rattle.nt_outside.specs.Disk.{DiskState}
use Rattle.nt_container.specs.Lengths.{begun_len}
use Rattle.nt_grammar.specs.Added.{Added}
use Rattle.nt_grammar.specs.ReadingBack.{IsDescribed}
use Rattle.nt_grammar.specs.Table.{Table, IsFew}
use Rattle.nt_grammar.specs.declared.rows.ColumnRow.{ColumnRow}
use Rattle.nt_schema.specs.Whole.{AreWhole}
use Rattle.nt_column.specs.Column.{Column}
use Rattle.nt_fill.specs.Context.{entries_given}
use Rattle.nt_layout.specs.Laid.{Gives}
use Rattle.nt_plans.specs.Place.{open_plans}
use Rattle.nt_plans.specs.Types.{are_some}
use Rattle.nt_machine.proofs.ClusterSums.{clusters-sum-le}
use Rattle.nt_machine.specs.History.{Cluster}
use Rattle.nt_plans.specs.Plan.{PlanData}
use Rattle.nt_book.specs.declared.limits.Limits.{Limits}
use Rattle.nt_book.specs.declared.meta.ClusterMeta.{ClusterMeta}
use Rattle.nt_book.specs.declared.list.NotedList.{NotedList}
use Rattle.nt_book.specs.declared.params.Params.{Params}
use Rattle.nt_book.specs.Books.{BookData, book_clusters, book_end, no_cluster, entry_count}
use Rattle.nt_book.specs.Kept.{IsKeptCluster, IsBookKept}
use Rattle.nt_pagelists.specs.Blobs.{blob_len}
use Rattle.nt_lists.specs.Parts.{Part, part_bytes}
use Rattle.nt_layout.specs.Beside.{HasListsBeside, parts_so_far}
use Rattle.nt_layout.specs.Headers.{header_object, clusters_place}
use Rattle.nt_close.specs.Filled.{AreListsNoted}
use Rattle.nt_close.specs.Passing.{first_passed, passed_by_begin}
use Rattle.nt_finished.specs.LateFiles.{AreLateBlobs}
use Rattle.nt_finished.specs.LeftOut.{IsLeftOut, filled}
use Rattle.nt_finished.specs.Zeros.{zero_of, zero_tree}
use Rattle.nt_seq.specs.Beside.{KeepsParts}
use Rattle.nt_seq.specs.Standing.{IsSettledCluster, IsShortCluster, IsWriting}
use Rattle.nt_seq.specs.Widening.{first_elements}
use Rattle.nt_seq.specs.Writer.{SeqState, gathered_by}
use Rattle.nt_seq.specs.Written.{file_so_far, HasClusters, HasWritten, zero_behind}
use Rattle.nt_seq.proofs.AddedRows.{header-kept, sum-kept, not_first, all-firsts, all-begun, some-more}
use Rattle.nt_seq.proofs.Beside.{lists-noted, lists-sizes}
use Rattle.nt_seq.proofs.Files.{file-kept}
use Rattle.nt_seq.proofs.Flat.{params-flat, listed-flat}
use Rattle.nt_seq.proofs.Grown.{late-grown}

-- ---- how many entries a book can have

few-entries : (columns : ℕ) (cs : List (Cluster ClusterMeta))
    → ((k : ℕ) → k < length cs → IsKeptCluster columns (slice_index_or cs k no_cluster))
    → entry_count cs ≤ 8 * sum_by (λ (c : Cluster ClusterMeta). c.len) cs
few-entries columns [] kept = omega arith
few-entries columns (c ∷ cs) kept =
    let here = kept 0 (omega arith) in
    let paged = here.paged.entries in
    let len = here.len in
    omega (
      arith,
      paged,
      len,
      few-entries columns cs (λ k less. kept (suc k) (omega (arith, less))),
      sum_by-cons (λ (x : Cluster ClusterMeta). x.meta.entries) c cs,
      sum_by-cons (λ (x : Cluster ClusterMeta). x.len) c cs,
    )

pub entries-short : (book : BookData) → IsBookKept book → entry_count (book_clusters book) < 2 ^ 63
entries-short book kept =
    omega (
      arith,
      few-entries (length book.firsts) (book_clusters book) kept.clusters,
      clusters-sum-le (λ (c : Cluster ClusterMeta). c.len) book.staged book.history kept.staging,
      kept.end,
    )

-- ---- a header that stays

module _ (t new : Table) (same : header_object new ≡ header_object t) where
  pub place-kept : clusters_place new ≡ clusters_place t
  place-kept = ap (λ (object : List ℕ). begun_len + blob_len (length object)) same

  pub within-kept : (limits : Limits) → passed_by_begin limits t ≡ None → passed_by_begin limits new ≡ None
  within-kept limits within =
      ap (λ (object : List ℕ). first_passed limits (blob_len (length object) ∷ []) (begun_len + blob_len (length object))) same ∙ within

  pub held-kept : (given disk : DiskState) (blobs : List (List ℕ)) → Becomes given.held disk.held (λ h. file_so_far t blobs)
      → Becomes given.held disk.held (λ h. file_so_far new blobs)
  held-kept given disk blobs told h is = told h is ∙ ap Some (sym (file-kept t new same blobs))

-- the clusters have the zero of the field
pub clusters-grown : (given disk : DiskState) (t new : Table) (p : Params) (book next : BookData) (field : MemberData) (q : PlanData)
    (plain : Bool) → book_clusters next ≡ book_clusters book → IsDescribed t → Added t field plain (entry_count (book_clusters book)) new
    → IsLeftOut (entry_count (book_clusters book)) t new q → zero_of q ≡ zero_tree field.of → HasListsBeside t p.group book
    → KeepsParts new book next → (clusters : List (List TreesData)) → HasClusters given disk t p book clusters
    → HasClusters given disk new p next (map (filled (zero_behind field)) clusters)
clusters-grown given disk t new p book next field q plain same described added out none beside keeps clusters has =
    let high = entry_count (book_clusters book) in
    let header = header-kept t field plain high new added described in
    record {
      ranges = has.ranges;
      late = subst (λ (z : TreesData). AreLateBlobs new p.page 0 (map (filled z) clusters) has.ranges (book_clusters next))
          (ap (λ (z : TreeData). tree z no_trees) none)
          (subst (λ (cs : List (Cluster ClusterMeta)). AreLateBlobs new p.page 0 (map (filled (tree (zero_of q) no_trees)) clusters)
          has.ranges cs) (sym same)
          (late-grown t new q high out p.page 0 clusters has.ranges (book_clusters book) (omega arith) has.late));
      first = λ is. absurd (not_first t field plain high new added described is);
      held = subst (λ (parts : List Part). Becomes given.held disk.held (λ h. file_so_far new (part_bytes parts)))
          (sym (keeps.parts t p.group has.ranges beside (sum-kept t field plain high new added described)))
          (held-kept t new header given disk (part_bytes (parts_so_far t book p.group has.ranges)) has.held);
    }

-- the writer goes on
module _ {D : Type 0} (state : D → DiskState) (w : SeqState D) (next : BookData) (new : Table) (columns : List Column) (field : MemberData)
    (p : PlanData) (is : IsWriting state w) (none : w.entries ≡ 0)
    (added : Added w.table field w.params.plain (entry_count (book_clusters w.book)) new)
    (out : IsLeftOut (entry_count (book_clusters w.book)) w.table new p)
    (next_is : next ≡ record w.book { firsts = w.book.firsts ++ first_elements (drop (length w.table.columns) new.columns) })
    (keeps : KeepsParts new w.book next) (described : IsDescribed new) (few : IsFew new) (whole : AreWhole new)
    (gives : Gives new columns []) where
  abbrev widened : SeqState D
  widened = record w { book = next; table = new; columns = columns }

  abbrev entries : ℕ
  entries = entry_count (book_clusters w.book)

  same-header : header_object new ≡ header_object w.table
  same-header = header-kept w.table field w.params.plain entries new added is.described

  pub same-clusters : book_clusters next ≡ book_clusters w.book
  same-clusters = ap book_clusters next_is

  pub none-gathered : gathered_by widened ≡ []
  none-gathered = ap (λ (n : ℕ). entries_given new columns n) none

  beside : HasListsBeside w.table w.params.group w.book
  beside = listed-flat w.table w.params w.book is.closable.noted is.not_staged is.untorn

  noted-widened : AreListsNoted new w.params next
  noted-widened =
      let sum = sum-kept w.table field w.params.plain entries new added is.described in
      lists-noted new w.params next (params-flat w.table w.params w.book is.closable.noted is.not_staged)
      (ap (λ (b : BookData). b.staged) next_is ∙ is.not_staged) (keeps.beside w.table w.params.group beside sum)
      (keeps.sizes w.table w.params.group beside sum (lists-sizes w.table w.params w.book is.closable.noted))
      (subst (λ (ls : List NotedList). AllByRecursion (λ (l : NotedList). l.len ≤ w.params.limits.range) ls)
      (sym (ap (λ (b : BookData). b.lists) next_is)) is.closable.noted.short)

  pub writing-widened : IsWriting state widened
  writing-widened = record {
    blobs = is.blobs;
    held = held-kept w.table new same-header (state w.given) (state w.disk) is.blobs is.held;
    header = same-header ∙ is.header;
    closable = record {
      begin = ap (λ (b : BookData). b.begin) next_is ∙ (is.closable.begin ∙ sym (place-kept w.table new same-header));
      noted = noted-widened;
      end = is.closable.end ∙ sym (ap book_end next_is);
      out = is.closable.out;
      whole = whole;
    };
    not_staged = ap (λ (b : BookData). b.staged) next_is ∙ is.not_staged;
    untorn = ap (λ (b : BookData). b.torn) next_is ∙ is.untorn;
    within = within-kept w.table new same-header w.params.limits is.within;
    limits = ap (λ (b : BookData). b.limits) next_is ∙ is.limits;
    firsts = all-firsts w.table field w.params.plain entries new added w.book.firsts is.firsts
        ∙ sym (ap (λ (b : BookData). b.firsts) next_is);
    begun = subst (λ (cs : List (Cluster ClusterMeta)). AllByRecursion (λ (c : ColumnRow). c.first ≤ entry_count cs) new.columns)
        (sym same-clusters) (all-begun w.table field w.params.plain entries new added is.begun);
    settled = subst (λ (cs : List (Cluster ClusterMeta)). AllByRecursion IsSettledCluster cs) (sym same-clusters) is.settled;
    short = subst (λ (cs : List (Cluster ClusterMeta)). AllByRecursion (IsShortCluster w.params.limits) cs) (sym same-clusters) is.short;
    ends = subst (λ (n : ℕ). n ≤ w.params.limits.file) (sym (ap book_end next_is)) is.ends;
    count = subst (λ (cs : List (Cluster ClusterMeta)). length cs ≤ w.params.limits.clusters) (sym same-clusters) is.count;
    described = described;
    few = few;
    some = ap are_some out.grows.plans ∙ some-more (open_plans w.table) p;
    gives = subst (λ (es : List TreesData). Gives new columns es) (sym none-gathered) gives;
    full = is.full;
  }

  pub written-widened : zero_of p ≡ zero_tree field.of → (clusters : List (List TreesData)) → HasWritten state w clusters
      → HasWritten state widened (map (filled (zero_behind field)) clusters)
  written-widened nothing clusters has =
      clusters-grown (state w.given) (state w.disk) w.table new w.params w.book next field p w.params.plain same-clusters is.described
      added out nothing beside keeps clusters has
