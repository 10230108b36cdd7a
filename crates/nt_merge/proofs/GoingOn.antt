-- A file that a copy was put into.
use Rattle.std.proofs.Common.{◌≡◌, ◌∙◌, inl, inr, ap, sym, refl, subst, ℕ, suc, ◌+◌, ◌<◌, ◌≤◌, List, [], ◌∷◌, ◌++◌, map, length, Some}
use Rattle.std.proofs.Common.{None, arith}
use Rattle.std.specs.List.{AllByRecursion}
use Rattle.std.proofs.lemmas.Bool.{cases_lt}
use Rattle.std.proofs.lemmas.List.{length-append, map-append}
use Rattle.nt_lists.specs.Parts.{part_bytes}
use Rattle.nt_types.specs.TreeData.{TreesData}
use Rattle.nt_outside.specs.Held.{Becomes, nothing_held}
use Rattle.nt_outside.specs.Disk.{DiskState}
use Rattle.nt_container.specs.Spelling.{begun}
use Rattle.nt_grammar.specs.Table.{Table}
use Rattle.nt_machine.specs.History.{Cluster}
use Rattle.nt_machine.proofs.Histories.{AllByRecursion-append}
use Rattle.nt_book.specs.declared.limits.Limits.{Limits}
use Rattle.nt_book.specs.declared.meta.ClusterMeta.{ClusterMeta}
use Rattle.nt_book.specs.declared.params.Params.{Params}
use Rattle.nt_book.specs.Books.{BookData, book_ranges, book_clusters, book_end}
use Rattle.nt_book.specs.Limiting.{limit_error, limit_error_with}
use Rattle.nt_book.proofs.Fitting.{limit_error-none}
use Rattle.nt_pages.specs.declared.image.ClusterImage.{ClusterImage}
use Rattle.nt_pagelists.proofs.Named.{clusters-unstaged}
use Rattle.nt_layout.specs.Headers.{header_blob}
use Rattle.nt_layout.specs.Beside.{HasListsBeside, parts_so_far}
use Rattle.nt_commit.specs.Appending.{due_bytes}
use Rattle.nt_commit.proofs.Appended.{with-behind}
use Rattle.nt_append.specs.Appending.{AppendsImage, due_blobs, range_behind, settled_cluster, with_due_list}
use Rattle.nt_append.proofs.Images.{appended-behind}
use Rattle.nt_close.specs.Closing.{IsClosable}
use Rattle.nt_close.specs.Steps.{begun_on}
use Rattle.nt_copied.specs.Copies.{Source, IsCopyOf, AreCopies, no_copy, and_copy}
use Rattle.nt_merge_limits.specs.Limits.{kept_metas}
use Rattle.nt_seq.specs.Beside.{AppendsNext}
use Rattle.nt_seq.specs.Standing.{IsSettledCluster}
use Rattle.nt_seq.specs.Written.{file_so_far}
use Rattle.nt_seq.proofs.Beside.{lists-sizes}
use Rattle.nt_seq.proofs.Closable.{closable-more}
use Rattle.nt_seq.proofs.Flat.{listed-flat}
use Rattle.nt_merge.specs.Merging.{Numbered, sources, copied_meta, copied_metas, IsMerging, HasCopies}

not-equal : (n most : ℕ) → n ≤ most → (n ≡ most → ⊥) → n < most
not-equal n most le not = elim (cases_lt n most) [
  | inl less ↦ less
  | inr more ↦ absurd (not (omega (arith, le, more)))
]

-- one copy more
copies-push : (t : Table) (ss : List Source) (lists : List (List TreesData)) (ranges : List (List ℕ)) (cs : List (Cluster ClusterMeta))
    (s : Source) (entries : List TreesData) (range : List ℕ) (c : Cluster ClusterMeta) → AreCopies t ss lists ranges cs
    → IsCopyOf t s entries c range → AreCopies t (ss ++ s ∷ []) (lists ++ entries ∷ []) (ranges ++ range ∷ []) (cs ++ c ∷ [])
copies-push t _ _ _ _ s entries range c no_copy one = and_copy one no_copy
copies-push t _ _ _ _ s entries range c (and_copy first others) one = and_copy first (copies-push t _ _ _ _ s entries range c others one)

copies-long : (t : Table) (ss : List Source) (lists : List (List TreesData)) (ranges : List (List ℕ)) (cs : List (Cluster ClusterMeta))
    → AreCopies t ss lists ranges cs → length ranges ≡ length cs
copies-long t _ _ _ _ no_copy = refl
copies-long t _ _ _ _ (and_copy first others) = ap suc (copies-long t _ _ _ _ others)

module _ (t : Table) (p : Params) (given old new : DiskState) (book next : BookData) (i : ClusterImage)
    (fits : limit_error_with book.limits (book_end book) (length (book_ranges book)) i.meta.len (length (due_bytes book)) ≡ None)
    (next_to : AppendsNext i old new book next) (is : IsMerging t p given old book) where
  abbrev appends : AppendsImage i old new book next
  appends = next_to.appends

  abbrev range : List ℕ
  range = range_behind i book

  abbrev cluster : Cluster ClusterMeta
  cluster = settled_cluster (length (book_clusters book)) (book_end (with_due_list book)) i.meta

  abbrev due : ℕ
  due = length (due_bytes book)

  beside : HasListsBeside t p.group book
  beside = listed-flat t p book is.closable.noted is.not_staged is.untorn

  held-more : (blobs : List (List ℕ)) → Becomes given.held old.held (λ h. file_so_far t blobs)
      → Becomes given.held new.held (λ h. file_so_far t (blobs ++ (due_blobs book ++ range ∷ [])))
  held-more blobs told h held =
      appends.held (file_so_far t blobs) (told h held)
      ∙ ap Some
      (appended-behind blobs (due_blobs book ++ range ∷ []) (begun_on (begun 0 0 0) (header_blob t) nothing_held))

  -- limits that the image doesn't pass, behind the page list that is due
  both : (limit_error book.limits (book_end book + due) (length (book_ranges book)) i.meta.len ≡ None)
      × ((due ≤ book.limits.range) × (book_end book + due ≤ book.limits.file))
  both = with-behind book.limits (book_end book) (length (book_ranges book)) i.meta.len due fits

  closable : IsClosable new next t p
  closable =
      closable-more old new t p book next is.closable i is.not_staged appends (next_to.beside t p.group beside)
      (next_to.sizes t p.group beside (lists-sizes t p book is.closable.noted))
      (subst (λ (l : Limits). due ≤ l.range) is.limits both.1.0)

  settled-more : AllByRecursion IsSettledCluster (book_clusters next)
  settled-more = subst (λ (cs : List (Cluster ClusterMeta)). AllByRecursion IsSettledCluster cs) (sym appends.gains.clusters)
      (AllByRecursion-append IsSettledCluster (book_clusters book) (cluster ∷ []) is.settled (refl, tt))

  -- what is kept of its clusters
  pub metas-more : kept_metas next ≡ kept_metas book ++ i.meta ∷ []
  metas-more =
      ap (λ (cs : List (Cluster ClusterMeta)). map (λ (c : Cluster ClusterMeta). c.meta) cs) appends.gains.clusters
      ∙ map-append (λ (c : Cluster ClusterMeta). c.meta) (book_clusters book) (cluster ∷ [])

  -- the range is no longer than it may get, and there was room for one more
  none-passed : (i.meta.len ≤ p.limits.range) × (length (book_ranges book) ≡ p.limits.clusters → ⊥)
  none-passed =
      let fits =
      limit_error-none p.limits (book_end book + due) (length (book_ranges book)) i.meta.len
      (subst (λ (l : Limits). limit_error l (book_end book + due) (length (book_ranges book)) i.meta.len ≡ None) is.limits both.0) in
      (fits.0, fits.2)

  short-more : AllByRecursion (λ (m : ClusterMeta). m.len ≤ p.limits.range) (kept_metas next)
  short-more = subst (λ (ms : List ClusterMeta). AllByRecursion (λ (m : ClusterMeta). m.len ≤ p.limits.range) ms) (sym metas-more)
      (AllByRecursion-append (λ (m : ClusterMeta). m.len ≤ p.limits.range) (kept_metas book) (i.meta ∷ []) is.short (none-passed.0, tt))

  few-more : length (book_clusters next) ≤ p.limits.clusters
  few-more =
      let more = ap length appends.gains.clusters ∙ length-append (book_clusters book) (cluster ∷ []) in
      let same = ap length (clusters-unstaged book is.not_staged) in
      let room : length (book_ranges book) < p.limits.clusters =
      not-equal (length (book_ranges book)) p.limits.clusters (omega (arith, is.few, same)) none-passed.1 in
      omega (arith, more, room, same)

  pub merging-more : IsMerging t p given new next
  merging-more = record {
    blobs = is.blobs ++ (due_blobs book ++ range ∷ []);
    held = held-more is.blobs is.held;
    closable = closable;
    limits = ap (λ (b : BookData). b.limits) appends.gains.same ∙ is.limits;
    not_staged = ap (λ (b : BookData). b.staged) appends.gains.same ∙ is.not_staged;
    firsts = is.firsts ∙ sym (ap (λ (b : BookData). b.firsts) appends.gains.same);
    none_deferred = is.none_deferred;
    settled = settled-more;
    untorn = ap (λ (b : BookData). b.torn) appends.gains.same ∙ is.untorn;
    within = is.within;
    short = short-more;
    few = few-more;
  }

  -- and the copy of a cluster stands in it
  pub copies-more : (n : Numbered) (entries : List TreesData) → IsCopyOf t n.source entries cluster range
      → i.meta ≡ copied_meta n.source → (ns : List Numbered) (lists : List (List TreesData)) → HasCopies t p given old book ns lists
      → HasCopies t p given new next (ns ++ n ∷ []) (lists ++ entries ∷ [])
  copies-more n entries copy meta ns lists has =
      let copies : AreCopies t (sources ns ++ n.source ∷ []) (lists ++ entries ∷ []) (has.ranges ++ range ∷ [])
      (book_clusters book ++ cluster ∷ []) =
      copies-push t (sources ns) lists has.ranges (book_clusters book) n.source entries range cluster has.copies copy in
      let more : sources (ns ++ n ∷ []) ≡ sources ns ++ n.source ∷ [] = map-append (λ (m : Numbered). m.source) ns (n ∷ []) in
      record {
        ranges = has.ranges ++ range ∷ [];
        copies = subst (λ (ss : List Source). AreCopies t ss (lists ++ entries ∷ []) (has.ranges ++ range ∷ []) (book_clusters next))
            (sym more)
            (subst (λ (cs : List (Cluster ClusterMeta)). AreCopies t (sources ns ++ n.source ∷ []) (lists ++ entries ∷ [])
            (has.ranges ++ range ∷ []) cs) (sym appends.gains.clusters) copies);
        metas = metas-more
            ∙ (ap (λ (ms : List ClusterMeta). ms ++ i.meta ∷ []) has.metas
            ∙ (ap (λ (m : ClusterMeta). copied_metas ns ++ m ∷ []) meta
            ∙ sym (ap (map copied_meta) more ∙ map-append copied_meta (sources ns) (n.source ∷ []))));
        held = subst (λ (bs : List (List ℕ)). Becomes given.held new.held (λ h. file_so_far t bs))
            (sym (next_to.parts t p.group has.ranges beside
            (copies-long t (sources ns) lists has.ranges (book_clusters book) has.copies)))
            (held-more (part_bytes (parts_so_far t book p.group has.ranges)) has.held);
      }
