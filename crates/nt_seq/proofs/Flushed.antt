-- A writer whose gathered entries were written as the next cluster.
use Rattle.std.proofs.Common.{◌≡◌, ◌∙◌, ap, sym, refl, subst, ℕ, ◌+◌, ◌≤◌, List, [], ◌∷◌, ◌++◌, length, Some, None, inl, arith}
use Rattle.std.proofs.lemmas.List.Sums.{sum_by-append}
use Rattle.std.specs.List.{AllByRecursion}
use Rattle.nt_types.specs.TreeData.{TreesData}
use Rattle.nt_outside.specs.Held.{Becomes, BecomesSome, nothing_held}
use Rattle.nt_outside.specs.Disk.{DiskState}
use Rattle.nt_container.specs.Spelling.{begun}
use Rattle.nt_grammar.specs.declared.rows.ColumnRow.{ColumnRow}
use Rattle.nt_grammar.specs.Table.{Table}
use Rattle.nt_machine.specs.History.{Cluster}
use Rattle.nt_machine.proofs.Histories.{AllByRecursion-append}
use Rattle.nt_book.specs.declared.limits.Limits.{Limits}
use Rattle.nt_book.specs.declared.meta.ClusterMeta.{ClusterMeta}
use Rattle.nt_book.specs.declared.params.Params.{Params}
use Rattle.nt_book.specs.Books.{BookData, book_clusters, book_end, entry_count}
use Rattle.nt_book.specs.Limiting.{limit_error, limit_error_with}
use Rattle.nt_book.proofs.Fitting.{limit_error-none}
use Rattle.nt_column.specs.Column.{Column}
use Rattle.nt_pages.specs.declared.image.ClusterImage.{ClusterImage}
use Rattle.nt_pages.specs.Image.{image}
use Rattle.nt_pages.specs.Metas.{cluster_meta}
use Rattle.nt_lists.specs.Parts.{part_bytes}
use Rattle.nt_layout.specs.Headers.{header_blob}
use Rattle.nt_layout.specs.Beside.{HasListsBeside, parts_so_far}
use Rattle.nt_layout.specs.Laid.{Gives, IsBlobOfEntries, AreBlobsOf}
use Rattle.nt_close.specs.Steps.{begun_on}
use Rattle.nt_close.specs.Closing.{IsClosable}
use Rattle.nt_finished.specs.LateFiles.{IsLateBlob, AreLateBlobs}
use Rattle.nt_fill.proofs.Entries.{entries_count}
use Rattle.nt_fill.proofs.Images.{blob_of, image_for}
use Rattle.nt_commit.specs.Appending.{due_bytes}
use Rattle.nt_commit.specs.Images.{IsImageFor}
use Rattle.nt_commit.proofs.Appended.{with-behind}
use Rattle.nt_plans.specs.Place.{open_plans}
use Rattle.nt_plans.specs.Types.{AllHaveTypes}
use Rattle.std.proofs.lemmas.List.{length-append, length-map}
use Rattle.nt_append.specs.Appending.{AppendsImage, due_blobs, range_behind, settled_cluster, with_due_list}
use Rattle.nt_append.proofs.Due.{end-with}
use Rattle.nt_append.proofs.Entered.{end-gained}
use Rattle.nt_append.proofs.Images.{appended-behind}
use Rattle.nt_seq.specs.Beside.{AppendsNext}
use Rattle.nt_seq.specs.Changing.{gathered_image}
use Rattle.nt_seq.specs.Standing.{IsSettledCluster, IsShortCluster, IsWriting}
use Rattle.nt_seq.specs.Writer.{SeqState, gathered_by}
use Rattle.nt_seq.specs.Written.{file_so_far, HasClusters, IsUnclosedOf}
use Rattle.nt_seq.proofs.Beside.{lists-sizes}
use Rattle.nt_seq.proofs.Closable.{closable-more}
use Rattle.nt_seq.proofs.Files.{unclosed-kept}
use Rattle.nt_seq.proofs.Flat.{listed-flat}
use Rattle.nt_seq.proofs.Blobs.{late-push, late-ranges, blobs-push, late-blob-now}

module _ (given old new : DiskState) (t : Table) (p : Params) (book next : BookData) (columns : List Column) (entries : List TreesData)
    (i : ClusterImage) (gives : Gives t columns entries) (bytes : i.bytes ≡ image p.page columns)
    (meta : i.meta ≡ cluster_meta p.page 0 (length entries) columns)
    (begun_are : AllByRecursion (λ (c : ColumnRow). c.first ≤ entry_count (book_clusters book)) t.columns)
    (next_to : AppendsNext i old new book next) where
  abbrev appends : AppendsImage i old new book next
  appends = next_to.appends

  abbrev behind : BookData
  behind = with_due_list book

  abbrev range : List ℕ
  range = range_behind i book

  abbrev cluster : Cluster ClusterMeta
  cluster = settled_cluster (length (book_clusters book)) (book_end behind) i.meta

  blob : IsBlobOfEntries t p.page entries (book_end behind) range i.meta
  blob = blob_of t columns entries gives p.page 0 (book_end behind) i i.meta bytes meta refl

  late : IsLateBlob t p.page (0 + entry_count (book_clusters book)) cluster range entries
  late =
      let same : entry_count (book_clusters book) ≡ 0 + entry_count (book_clusters book) = omega arith in
      subst (λ (n : ℕ). IsLateBlob t p.page n cluster range entries) same
      (late-blob-now t p.page (entry_count (book_clusters book)) cluster range entries blob begun_are)

  pub held-more : (blobs : List (List ℕ)) → Becomes given.held old.held (λ h. file_so_far t blobs)
      → Becomes given.held new.held (λ h. file_so_far t (blobs ++ (due_blobs book ++ range ∷ [])))
  held-more blobs told h is =
      appends.held (file_so_far t blobs) (told h is)
      ∙ ap Some
      (appended-behind blobs (due_blobs book ++ range ∷ []) (begun_on (begun 0 0 0) (header_blob t) nothing_held))

  -- the entries are the next cluster
  pub clusters-more : HasListsBeside t p.group book → (clusters : List (List TreesData)) → HasClusters given old t p book clusters
      → HasClusters given new t p next (clusters ++ entries ∷ [])
  clusters-more beside clusters has = record {
    ranges = has.ranges ++ range ∷ [];
    late = subst (λ (cs : List (Cluster ClusterMeta)). AreLateBlobs t p.page 0 (clusters ++ entries ∷ []) (has.ranges ++ range ∷ []) cs)
        (sym appends.gains.clusters)
        (late-push t p.page 0 clusters has.ranges (book_clusters book) entries range cluster has.late late);
    first = λ is. subst (λ (cs : List (Cluster ClusterMeta)). AreBlobsOf t p.page (clusters ++ entries ∷ []) (has.ranges ++ range ∷ []) cs)
        (sym appends.gains.clusters)
        (blobs-push t p.page clusters has.ranges (book_clusters book) entries range cluster (has.first is) blob);
    held = subst (λ (bs : List (List ℕ)). Becomes given.held new.held (λ h. file_so_far t bs))
        (sym (next_to.parts t p.group has.ranges beside
        (late-ranges t p.page 0 clusters has.ranges (book_clusters book) has.late)))
        (held-more (part_bytes (parts_so_far t book p.group has.ranges)) has.held);
  }

  -- ---- what holds of the book

  more-entries : entry_count (book_clusters next) ≡ entry_count (book_clusters book) + entry_count (cluster ∷ [])
  more-entries =
      ap entry_count appends.gains.clusters
      ∙ sum_by-append (λ (c : Cluster ClusterMeta). c.meta.entries) (book_clusters book) (cluster ∷ [])

  pub begun-more : AllByRecursion (λ (c : ColumnRow). c.first ≤ entry_count (book_clusters next)) t.columns
  begun-more = each t.columns begun_are
    where
      each : (cs : List ColumnRow) → AllByRecursion (λ (c : ColumnRow). c.first ≤ entry_count (book_clusters book)) cs
          → AllByRecursion (λ (c : ColumnRow). c.first ≤ entry_count (book_clusters next)) cs
      each [] all = tt
      each (c ∷ cs) all = let low = all.0 in (omega (arith, low, more-entries), each cs all.1)

  pub settled-more : AllByRecursion IsSettledCluster (book_clusters book) → AllByRecursion IsSettledCluster (book_clusters next)
  settled-more all = subst (λ (cs : List (Cluster ClusterMeta)). AllByRecursion IsSettledCluster cs) (sym appends.gains.clusters)
      (AllByRecursion-append IsSettledCluster (book_clusters book) (cluster ∷ []) all (refl, tt))

-- the writer goes on
module _ {D : Type 0} (state : D → DiskState) (w : SeqState D) (disk : D) (next : BookData) (columns : List Column) (i : ClusterImage)
    (is : IsWriting state w) (bytes : i.bytes ≡ image w.params.page w.columns)
    (meta : i.meta ≡ cluster_meta w.params.page 0 (length (gathered_by w)) w.columns)
    (fits : limit_error_with w.book.limits (book_end w.book) (length (book_clusters w.book)) i.meta.len (length (due_bytes w.book)) ≡ None)
    (next_to : AppendsNext i (state w.disk) (state disk) w.book next) (empty : Gives w.table columns []) where
  abbrev put_behind : AppendsImage i (state w.disk) (state disk) w.book next
  put_behind = next_to.appends

  abbrev flushed : SeqState D
  flushed = record w { disk = disk; book = next; columns = columns; entries = 0 }

  abbrev old_disk : DiskState
  old_disk = state w.disk

  abbrev new_disk : DiskState
  new_disk = state disk

  abbrev last : Cluster ClusterMeta
  last = settled_cluster (length (book_clusters w.book)) (book_end (with_due_list w.book)) i.meta

  abbrev due : ℕ
  due = length (due_bytes w.book)

  -- limits that the next cluster doesn't pass, behind the page list that is due
  both : (limit_error w.book.limits (book_end w.book + due) (length (book_clusters w.book)) i.meta.len ≡ None)
      × ((due ≤ w.book.limits.range) × (book_end w.book + due ≤ w.book.limits.file))
  both = with-behind w.book.limits (book_end w.book) (length (book_clusters w.book)) i.meta.len due fits

  fitting : (i.meta.len ≤ w.book.limits.range) × (book_end w.book + due + i.meta.len ≤ w.book.limits.file)
      × (length (book_clusters w.book) ≡ w.book.limits.clusters → ⊥)
  fitting = limit_error-none w.book.limits (book_end w.book + due) (length (book_clusters w.book)) i.meta.len both.0

  -- the file can be closed
  can-close : IsClosable new_disk next w.table w.params
  can-close =
      let beside = listed-flat w.table w.params w.book is.closable.noted is.not_staged is.untorn in
      closable-more old_disk new_disk w.table w.params w.book next is.closable i is.not_staged put_behind
      (next_to.beside w.table w.params.group beside)
      (next_to.sizes w.table w.params.group beside (lists-sizes w.table w.params w.book is.closable.noted))
      (subst (λ (l : Limits). due ≤ l.range) is.limits both.1.0)

  short-more : AllByRecursion (IsShortCluster w.params.limits) (book_clusters next)
  short-more =
      subst (λ (cs : List (Cluster ClusterMeta)). AllByRecursion (IsShortCluster w.params.limits) cs) (sym put_behind.gains.clusters)
      (AllByRecursion-append (IsShortCluster w.params.limits) (book_clusters w.book) (last ∷ []) is.short
      (subst (λ (l : Limits). i.meta.len ≤ l.range) is.limits fitting.0, tt))

  ends-more : book_end next ≤ w.params.limits.file
  ends-more =
      subst (λ (l : Limits). book_end next ≤ l.file) is.limits
      (omega (arith, fitting.1, end-gained i.meta (with_due_list w.book) next is.not_staged put_behind.gains, end-with w.book))

  fewer : (n most : ℕ) → n ≤ most → (n ≡ most → ⊥) → n + 1 ≤ most
  fewer n most le apart = omega (arith, le, apart)

  count-more : length (book_clusters next) ≤ w.params.limits.clusters
  count-more =
      let room : length (book_clusters w.book) + 1 ≤ w.params.limits.clusters =
      fewer (length (book_clusters w.book)) w.params.limits.clusters is.count
      (subst (λ (l : Limits). length (book_clusters w.book) ≡ l.clusters → ⊥) is.limits fitting.2) in
      omega (arith, room, ap length put_behind.gains.clusters, length-append (book_clusters w.book) (last ∷ []))

  pub writing-more : IsWriting state flushed
  writing-more =
      let p = w.params in
      let es = gathered_by w in
      record {
        blobs = is.blobs ++ (due_blobs w.book ++ range_behind i w.book ∷ []);
        held = held-more (state w.given) old_disk new_disk w.table p w.book next w.columns es i is.gives bytes meta is.begun next_to
            is.blobs is.held;
        header = is.header;
        closable = can-close;
        not_staged = ap (λ (b : BookData). b.staged) put_behind.gains.same ∙ is.not_staged;
        untorn = ap (λ (b : BookData). b.torn) put_behind.gains.same ∙ is.untorn;
        within = is.within;
        limits = ap (λ (b : BookData). b.limits) put_behind.gains.same ∙ is.limits;
        firsts = is.firsts ∙ sym (ap (λ (b : BookData). b.firsts) put_behind.gains.same);
        begun = begun-more (state w.given) old_disk new_disk w.table p w.book next w.columns es i is.gives bytes meta is.begun next_to;
        settled = settled-more (state w.given) old_disk new_disk w.table p w.book next w.columns es i is.gives bytes meta is.begun
            next_to is.settled;
        short = short-more;
        ends = ends-more;
        count = count-more;
        described = is.described;
        few = is.few;
        some = is.some;
        gives = empty;
        full = omega arith;
      }

  -- its file isn't closed
  pub unclosed-more : BecomesSome (state w.given).held (state disk).held (λ h h'. IsUnclosedOf w.begun h')
  unclosed-more h told =
      let held = writing-more.held h told in
      let blobs = writing-more.blobs in
      (_, held, unclosed-kept w.begun w.table is.header (file_so_far w.table blobs) (record { blobs = blobs; steps = inl refl }))

-- what is gathered makes an image that the book takes
module _ {D : Type 0} (state : D → DiskState) (w : SeqState D) (is : IsWriting state w) (i : ClusterImage)
    (bytes : i.bytes ≡ image w.params.page w.columns)
    (meta : i.meta ≡ cluster_meta w.params.page 0 w.entries w.columns) where
  pub meta-gathered : i.meta ≡ cluster_meta w.params.page 0 (length (gathered_by w)) w.columns
  meta-gathered =
      meta ∙ ap (λ (n : ℕ). cluster_meta w.params.page 0 n w.columns) (sym (entries_count w.table w.columns w.entries))

  image-of : AllHaveTypes w.table.columns (open_plans w.table) → IsImageFor (length w.book.firsts) 0 i
  image-of types =
      image_for w.table w.columns (gathered_by w) is.gives w.params.page 0 (length w.book.firsts) types is.some
      (sym (length-map w.table.columns (λ (c : ColumnRow). c.first)) ∙ ap length is.firsts) w.params.page_range i bytes meta-gathered

  pub image-fits : AllHaveTypes w.table.columns (open_plans w.table) → IsImageFor (length w.book.firsts) i.meta.context i
  image-fits types =
      subst (λ (n : ℕ). IsImageFor (length w.book.firsts) n i) (sym (ap (λ (m : ClusterMeta). m.context) meta)) (image-of types)

  -- and just that of what is gathered
  pub image-gathered : i ≡ gathered_image w
  image-gathered =
      ap (λ (b : List ℕ). record { bytes = b; meta = i.meta }) bytes
      ∙ ap (λ (m : ClusterMeta). record { bytes = image w.params.page w.columns; meta = m }) meta-gathered
