-- A writer that was refused a flush.
use Rattle.std.proofs.Common.{◌≡◌, ◌∙◌, ◌⊎◌, ap, sym, refl, subst, ℕ, ◌≤◌, List, ◌++◌, length, Some, inl, inr}
use Rattle.std.specs.List.{AllByRecursion}
use Rattle.nt_outside.specs.Held.{Held, Becomes, BecomesSome, IsTornAppend, nothing_held}
use Rattle.nt_outside.specs.Disk.{DiskState}
use Rattle.nt_grammar.specs.declared.rows.ColumnRow.{ColumnRow}
use Rattle.nt_container.specs.Spelling.{begun}
use Rattle.nt_grammar.specs.Table.{Table}
use Rattle.nt_book.specs.declared.params.Params.{Params}
use Rattle.nt_book.specs.Books.{BookData, book_clusters, book_end, entry_count}
use Rattle.nt_commit.specs.declared.error.CommitError.{CommitError}
use Rattle.nt_commit.specs.declared.error.CommitError.TheVariants.{RangeTooLarge, FileTooLarge, TooManyClusters, Memory, Fault}
use Rattle.std.proofs.lemmas.Bool.{false≢true}
use Rattle.std.proofs.Common.{◌≢◌, Bool, false}
use Rattle.nt_append.specs.Appending.{CutsImage, FailsOnDisk, KeepsDiskAndBook, TearsList, due_blobs}
use Rattle.nt_append.proofs.Images.{appended-behind}
use Rattle.nt_pages.specs.declared.image.ClusterImage.{ClusterImage}
use Rattle.nt_seq.specs.Standing.{IsSettledCluster, IsShortCluster, IsWriting, IsSequential}
use Rattle.nt_seq.specs.Writer.{SeqState}
use Rattle.nt_seq.specs.Written.{file_so_far, HasClusters, IsUnclosedOf}
use Rattle.nt_seq.specs.Changing.{StaysAsItWas}
use Rattle.nt_lists.specs.Parts.{Part, part_bytes}
use Rattle.nt_seq.proofs.Beside.{parts-kept}
use Rattle.nt_seq.proofs.Closable.{closable-kept}
use Rattle.nt_seq.proofs.Files.{unclosed-kept}
use Rattle.nt_types.specs.TreeData.{TreesData}
use Rattle.nt_pagelists.specs.Due.{due_len}
use Rattle.nt_layout.specs.Headers.{header_blob}
use Rattle.nt_layout.specs.Laid.{AreBlobsOf}
use Rattle.nt_close.specs.Steps.{begun_on}
use Rattle.nt_finished.specs.LateFiles.{AreLateBlobs}

-- a writer whose disk failed
unclosed-cut : (given old new : DiskState) (t : Table) (blobs : List (List ℕ)) (len : ℕ)
    → Becomes given.held old.held (λ h. file_so_far t blobs) → BecomesSome old.held new.held (IsTornAppend len)
    → BecomesSome given.held new.held (λ h h'. IsUnclosedOf t h')
unclosed-cut given old new t blobs len told cut h is =
    let left = cut (file_so_far t blobs) (told h is) in
    (left.0, left.1, record { blobs = blobs; steps = inr (len, left.2) })

-- one that failed behind the page list that was due
unclosed-behind : (given old new : DiskState) (t : Table) (blobs : List (List ℕ)) (i : ClusterImage) (book next : BookData)
    → Becomes given.held old.held (λ h. file_so_far t blobs) → CutsImage i old new book next
    → BecomesSome given.held new.held (λ h h'. IsUnclosedOf t h')
unclosed-behind given old new t blobs i book next told cut h is =
    let left = cut.held (file_so_far t blobs) (told h is) in
    let same = appended-behind blobs (due_blobs book) (begun_on (begun 0 0 0) (header_blob t) nothing_held) in (
      left.0,
      left.1,
      record {
        blobs = blobs ++ due_blobs book;
        steps = inr (i.meta.len, subst (λ (k : Held). IsTornAppend i.meta.len k left.0) same left.2);
      },
    )

-- or either
unclosed-failed : (given old new : DiskState) (t : Table) (blobs : List (List ℕ)) (i : ClusterImage) (book next : BookData)
    → Becomes given.held old.held (λ h. file_so_far t blobs) → FailsOnDisk i old new book next
    → BecomesSome given.held new.held (λ h h'. IsUnclosedOf t h')
unclosed-failed given old new t blobs i book next told fails = at fails.how
  where
    at : TearsList i.meta.context old new book next ⊎ CutsImage i old new book next
        → BecomesSome given.held new.held (λ h h'. IsUnclosedOf t h')
    at (inl torn) = unclosed-cut given old new t blobs (due_len book) told torn.held
    at (inr cut) = unclosed-behind given old new t blobs i book next told cut

-- a writer that stays as it was, but for memory
module _ {D : Type 0} (state : D → DiskState) (w : SeqState D) (disk : D) (room : BookData) (is : IsWriting state w)
    (kept : KeepsDiskAndBook (state w.disk) (state disk) w.book room) where
  writing-kept : IsWriting state (record w { disk = disk; book = room })
  writing-kept =
      let book = kept.book_is in
      record {
        blobs = is.blobs;
        held = λ h told. kept.held ∙ is.held h told;
        header = is.header;
        closable = closable-kept (state w.disk) (state disk) w.table w.params w.book room is.closable kept;
        not_staged = ap (λ (b : BookData). b.staged) book ∙ is.not_staged;
        untorn = ap (λ (b : BookData). b.torn) book ∙ is.untorn;
        within = is.within;
        limits = ap (λ (b : BookData). b.limits) book ∙ is.limits;
        firsts = is.firsts ∙ sym (ap (λ (b : BookData). b.firsts) book);
        begun = subst (λ (b : BookData). AllByRecursion (λ (c : ColumnRow). c.first ≤ entry_count (book_clusters b)) w.table.columns)
            (sym book) is.begun;
        settled = subst (λ (b : BookData). AllByRecursion IsSettledCluster (book_clusters b)) (sym book) is.settled;
        short = subst (λ (b : BookData). AllByRecursion (IsShortCluster w.params.limits) (book_clusters b)) (sym book) is.short;
        ends = subst (λ (b : BookData). book_end b ≤ w.params.limits.file) (sym book) is.ends;
        count = subst (λ (b : BookData). length (book_clusters b) ≤ w.params.limits.clusters) (sym book) is.count;
        described = is.described;
        few = is.few;
        some = is.some;
        gives = is.gives;
        full = is.full;
      }

-- whether it is alive is said beside what holds of it
pub writing-alive : {D : Type 0} (state : D → DiskState) (w : SeqState D) (alive : Bool) → IsWriting state w
    → IsWriting state (record w { alive = alive })
writing-alive state w alive is = record {
  blobs = is.blobs;
  held = is.held;
  header = is.header;
  closable = is.closable;
  not_staged = is.not_staged;
  untorn = is.untorn;
  within = is.within;
  limits = is.limits;
  firsts = is.firsts;
  begun = is.begun;
  settled = is.settled;
  short = is.short;
  ends = is.ends;
  count = is.count;
  described = is.described;
  few = is.few;
  some = is.some;
  gives = is.gives;
  full = is.full;
}

-- a writer that was refused a flush
module _ {D : Type 0} (state : D → DiskState) (w : SeqState D) (is : IsWriting state w) (disk : D) (room : BookData) (alive : Bool)
    (i : ClusterImage) where
  abbrev left : SeqState D
  left = record w { disk = disk; book = room; alive = alive }

  kept-on : KeepsDiskAndBook (state w.disk) (state disk) w.book room → IsSequential state left
  kept-on kept = record {
    unclosed = λ h told. (
      _,
      kept.held ∙ is.held h told,
      unclosed-kept w.begun w.table is.header (file_so_far w.table is.blobs) (record { blobs = is.blobs; steps = inl refl }),
    );
    writing = λ _. writing-alive state (record w { disk = disk; book = room }) alive (writing-kept state w disk room is kept);
  }

  pub after-error : (e : CommitError)
      → (e ≢ Fault → KeepsDiskAndBook (state w.disk) (state disk) w.book room × (alive ≡ w.alive))
      → (e ≡ Fault → FailsOnDisk i (state w.disk) (state disk) w.book room × (alive ≡ false)) → IsSequential state left
  after-error (RangeTooLarge n most) kept cut = kept-on (kept (λ same. cc same)).0
  after-error (FileTooLarge n most) kept cut = kept-on (kept (λ same. cc same)).0
  after-error TooManyClusters kept cut = kept-on (kept (λ same. cc same)).0
  after-error Memory kept cut = kept-on (kept (λ same. cc same)).0
  after-error Fault kept cut =
      let torn = cut refl in
      record {
        unclosed = λ h told.
            let cut = unclosed-failed (state w.given) (state w.disk) (state disk) w.table is.blobs i w.book room is.held torn.0 h told in
            (cut.0, cut.1, unclosed-kept w.begun w.table is.header cut.0 cut.2);
        writing = λ on. absurd (false≢true (sym torn.1 ∙ on));
      }

-- clusters stay where a disk and its book do
pub clusters-kept : (given old new : DiskState) (t : Table) (p : Params) (book room : BookData) → KeepsDiskAndBook old new book room
    → (clusters : List (List TreesData)) → HasClusters given old t p book clusters → HasClusters given new t p room clusters
clusters-kept given old new t p book room kept clusters has = record {
  ranges = has.ranges;
  late = subst (λ (b : BookData). AreLateBlobs t p.page 0 clusters has.ranges (book_clusters b)) (sym kept.book_is) has.late;
  first = λ first. subst (λ (b : BookData). AreBlobsOf t p.page clusters has.ranges (book_clusters b)) (sym kept.book_is) (has.first first);
  held = λ h told. kept.held ∙ (has.held h told ∙ ap (λ (parts : List Part). Some (file_so_far t (part_bytes parts)))
      (sym (parts-kept book room kept.book_is t p.group has.ranges)));
}

-- nothing changed
pub stays : {D : Type 0} (state : D → DiskState) (w : SeqState D) → StaysAsItWas state w w
stays state w = record {
  untouched = record { place = record { held = refl; end = refl; out = refl }; faults = refl };
  book = refl;
  written = λ clusters has. has;
  now = refl;
}
