-- The file of a writer that was closed.
use Rattle.std.proofs.Common.{◌≡◌, ◌∙◌, ap, sym, refl, subst, ℕ, zero, suc, ◌<◌, ◌≤◌, inl, inr, Bool, true, false, List, [], ◌∷◌}
use Rattle.std.proofs.Common.{length, map, take, Option, Some, None, arith}
use Rattle.std.specs.Prelude.{◌⊎◌, slice_index_or, Ok, Err, nat_lt, if◌then◌else◌}
use Rattle.std.specs.List.{AllByRecursion}
use Rattle.std.proofs.lemmas.Bool.Decides.{nat_tests}
use Rattle.nt_types.specs.TreeData.{TreesData}
use Rattle.nt_num.specs.Codes.{unfinished}
use Rattle.nt_num.specs.Faults.{fault}
use Rattle.nt_outside.specs.Log.{Step}
use Rattle.nt_outside.specs.Held.{Held}
use Rattle.nt_outside.specs.Disk.{DiskState}
use Rattle.nt_outside.specs.Order.{FirstByteLast}
use Rattle.nt_outside.specs.Reads.{Reads}
use Rattle.nt_grammar.specs.Table.{Table}
use Rattle.nt_machine.specs.History.{Cluster}
use Rattle.nt_book.specs.declared.meta.ClusterMeta.{ClusterMeta}
use Rattle.nt_book.specs.declared.limits.Limits.{Limits}
use Rattle.nt_book.specs.declared.limits.LimitError.{LimitError}
use Rattle.nt_book.specs.Books.{book_clusters, no_cluster}
use Rattle.nt_book.specs.Kept.{IsBookKept}
use Rattle.nt_file_meaning.specs.Files.{HasDefect}
use Rattle.nt_pagelists.specs.Blobs.{blob_len}
use Rattle.nt_layout.specs.Headers.{header_object, clusters_place}
use Rattle.nt_lists.specs.Parts.{AreBehind, part_bytes}
use Rattle.nt_layout.specs.Beside.{HasListsBeside, parts_so_far}
use Rattle.nt_layout.specs.Finished.{middle, finished}
use Rattle.nt_close.specs.declared.error.CloseError.{CloseError}
use Rattle.nt_close.specs.declared.error.CloseError.TheVariants.{Spoiled, Torn, Unpublished, Memory, RangeTooLarge, FileTooLarge, Fault}
use Rattle.nt_cuts.specs.Cuts.{WritesFirst, LeavesUnfinished, LeavesUnfinishedOr}
use Rattle.nt_close.specs.Closing.{HasCloseCause, LeavesClosed, AreRangesOf}
use Rattle.nt_close.specs.Crashes.{LeavesByAnswer}
use Rattle.nt_close.specs.Passing.{first_passed, passed_by_begin, passed_by_close, measures_of}
use Rattle.nt_close.specs.Spoiled.{IsUnspoiled}
use Rattle.nt_close.specs.Steps.{closed_on, IsClosedSoFar, closed_partly, closed_whole}
use Rattle.nt_close.specs.Filled.{closing_tail, closing_front}
use Rattle.nt_close.proofs.Finishing.{closed-is}
use Rattle.nt_close.proofs.FirstByte.{cut_shut, closes_in_order}
use Rattle.nt_close.proofs.Within.{within}
use Rattle.nt_finished.proofs.Lengths.{clusters_told}
use Rattle.nt_finished.proofs.Beside.{all_beside, by-number_beside, clusters-beside, laid-beside, ranges-beside}
use Rattle.nt_finished.specs.LateFiles.{AreLateBlobs}
use Rattle.nt_finished.proofs.LaidLate.{lens-late}
use Rattle.nt_seq.specs.Closing.{IsFileOf, IsShutOrWhole}
use Rattle.nt_seq.specs.Crashes.{IsClosedBy, AppendsLeave}
use Rattle.nt_seq.specs.Standing.{IsSettledCluster, IsWriting}
use Rattle.nt_seq.specs.Writer.{SeqState}
use Rattle.nt_seq.specs.Written.{HasWritten, file_so_far, IsUnclosedOf}
use Rattle.nt_seq.proofs.AddedRows.{described-first}
use Rattle.nt_seq.proofs.Files.{image-file, shut-unclosed, order-unclosed}
use Rattle.nt_seq.proofs.Flat.{params-flat, listed-flat, lists-flat, filled-flat}

-- ---- no range is spoiled

pub none-spoiled : (cs : List (Cluster ClusterMeta)) → AllByRecursion IsSettledCluster cs → (k : ℕ) → k < length cs
    → IsUnspoiled (slice_index_or cs k no_cluster).state
none-spoiled [] all k less = absurd (omega (arith, less))
none-spoiled (c ∷ cs) all zero less = subst IsUnspoiled (sym all.0) tt
none-spoiled (c ∷ cs) all (suc k) less = none-spoiled cs all.1 k (omega (arith, less))

-- ---- the header

not_above : (most n : ℕ) (b : Bool) (l : LimitError) (more : Option LimitError) → nat_lt most n ≡ b
    → (if b then Some l else more) ≡ None → n ≤ most
not_above most n true l more above none = absurd (cc none)
not_above most n false l more above none = grind (arith, nat_tests, above)

header-within : (limits : Limits) (t : Table) → passed_by_begin limits t ≡ None → blob_len (length (header_object t)) ≤ limits.range
header-within limits t none =
    not_above limits.range (blob_len (length (header_object t))) (nat_lt limits.range (blob_len (length (header_object t)))) _
    (first_passed limits [] (clusters_place t)) refl none

same_held : (held : Option Held) (h k : Held) → held ≡ Some h → held ≡ Some k → h ≡ k
same_held held h k one two = cc (one, two)

module _ {D : Type 0} (state : D → DiskState) (w : SeqState D) (is : IsWriting state w) (kept : IsBookKept w.book)
    (reads : (h : Held) → (state w.disk).held ≡ Some h → Reads h.log h.image) (first : Held)
    (told : (state w.given).held ≡ Some first) where
  abbrev behind : List ℕ
  behind = closing_tail w.params.staged w.table w.book w.params.group

  abbrev before : List ℕ
  before = closing_front w.params.staged w.table w.book w.params.group

  flat : w.params.staged ≡ false
  flat = params-flat w.table w.params w.book is.closable.noted is.not_staged

  beside : HasListsBeside w.table w.params.group w.book
  beside = listed-flat w.table w.params w.book is.closable.noted is.not_staged is.untorn

  abbrev h : Held
  h = file_so_far w.table is.blobs

  held : (state w.disk).held ≡ Some h
  held = is.held first told

  unclosed : IsUnclosedOf w.table h
  unclosed = record { blobs = is.blobs; steps = inl refl }

  lens : (clusters : List (List TreesData)) (has : HasWritten state w clusters) → AreRangesOf w.book has.ranges
  lens clusters has =
      lens-late w.table w.params.page 0 clusters has.ranges (book_clusters w.book) has.late (clusters_told w.book kept)
      ∙ ap (λ (cs : List (Cluster ClusterMeta)). map (λ (c : Cluster ClusterMeta). c.len) cs)
      (ranges-beside w.table w.params.group w.book kept beside)

  image-is : (clusters : List (List TreesData)) (has : HasWritten state w clusters)
      → (closed_on behind before h).image ≡ finished w.params.staged w.table w.book w.params.group has.ranges
  image-is clusters has =
      let parts = part_bytes (parts_so_far w.table w.book w.params.group has.ranges) in
      closed-is w.params.staged w.table w.book w.params.group has.ranges h
      (record {
        kept = kept;
        lists = lists-flat w.table w.params w.book flat beside;
        begin = is.closable.begin;
        lens = lens clusters has;
      })
      (ap (λ (k : Held). k.image) (same_held (state w.disk).held h (file_so_far w.table parts) held (has.held first told))
      ∙ (image-file w.table parts ∙ sym (filled-flat w.table w.params w.book has.ranges flat)))

  -- the finished file is that of the clusters
  pub whole : passed_by_close w.params w.table w.book ≡ None → IsFileOf state w (closed_on behind before h).image
  whole passed =
      let stays = within w.table w.params w.book kept is.closable.noted is.untorn passed
      (header-within w.params.limits w.table is.within) in
      record {
        described = is.described;
        late = λ clusters has. record {
          book = w.book;
          kept = kept;
          begin = is.closable.begin;
          firsts = is.firsts;
          within = stays;
          whole = clusters-beside w.params.staged w.table w.params.group w.book kept beside;
          ranges = has.ranges;
          lens = lens clusters has;
          blobs_are = subst (λ (l : List (List ℕ)). AreLateBlobs w.table w.params.page 0 clusters l (book_clusters w.book))
              (sym (by-number_beside w.table w.params.group w.book kept beside has.ranges (lens clusters has))) has.late;
          behind = subst (λ (b : Bool). AreBehind (clusters_place w.table) (middle b w.table w.book w.params.group has.ranges)) (sym flat)
              (all_beside w.table w.params.group w.book kept beside has.ranges is.closable.begin (lens clusters has));
          is = image-is clusters has;
        };
        short = λ clusters has. is.short;
        first = λ fields rows clusters has.
            laid-beside (closed_on behind before h).image w.table clusters (measures_of w.params) has.ranges w.book flat (record {
              kept = kept;
              begin = is.closable.begin;
              firsts = is.firsts;
              none_deferred = described-first fields w.params.plain w.table rows;
            }) beside stays (has.first rows.fields_in_header) (image-is clusters has);
      }

  -- ---- the steps of a close

  some : 0 < length h.image
  some = let shut = shut-unclosed w.table h unclosed in omega (arith, ap length shut.1)

  in-order : (left : Held) → IsClosedSoFar behind before h left → FirstByteLast left.log
  in-order left so_far = closes_in_order behind before h some (reads h held) (order-unclosed w.table h unclosed) left so_far

  abbrev IsLeft : DiskState → (Held → Type 0) → Type 0
  IsLeft new P = (left : Held) × (new.held ≡ Some left) × FirstByteLast left.log × P left

  -- the file of the clusters, if it was closed
  abbrev IsWhole : List ℕ → Type 0
  IsWhole = IsFileOf state w

  abbrev IsClosedFile : List ℕ → Type 0
  IsClosedFile = IsClosedBy w.table is.blobs behind before

  turn : passed_by_close w.params w.table w.book ≡ None → (bytes : List ℕ) → IsClosedFile bytes → IsWhole bytes
  turn passed bytes same = subst IsWhole (sym same) (whole passed)

  -- what a crash leaves of it
  turned : (log : List Step) → ((bytes : List ℕ) → IsClosedFile bytes → IsWhole bytes) → LeavesUnfinishedOr IsClosedFile log
      → LeavesUnfinishedOr IsWhole log
  turned log into leaves k bytes has may = at (leaves k bytes has may)
    where
      at : HasDefect bytes (fault unfinished 0) ⊎ (WritesFirst (take k log) × IsClosedFile bytes)
          → HasDefect bytes (fault unfinished 0) ⊎ (WritesFirst (take k log) × IsWhole bytes)
      at (inl none) = inl none
      at (inr closed) = inr (closed.0, into bytes closed.1)

  abbrev LeftOpen : CloseError → Held → Type 0
  LeftOpen e left = IsShutOrWhole state w left × LeavesByAnswer IsWhole left.log (Err e)

  module _ (leave : AppendsLeave) where
    stays-open : (new : DiskState) → new.held ≡ (state w.disk).held
        → IsLeft new (λ left. IsShutOrWhole state w left × LeavesUnfinished left.log)
    stays-open new same =
        (h, same ∙ held, order-unclosed w.table h unclosed, (inl (shut-unclosed w.table h unclosed), leave.unclosed w.table h unclosed))

    pub left-open : (new : DiskState) (e : CloseError) → LeavesClosed behind before (state w.disk) new (Err e)
        → HasCloseCause w.book (passed_by_close w.params w.table w.book) (Err e) → IsLeft new (LeftOpen e)
    left-open new (Spoiled cluster faults) left cause = stays-open new left.place.held
    left-open new (Torn group faults) left cause = stays-open new left.place.held
    left-open new (Unpublished range) left cause = stays-open new left.place.held
    left-open new Memory left cause = stays-open new left.place.held
    left-open new (RangeTooLarge len most) left cause = stays-open new left.place.held
    left-open new (FileTooLarge end most) left cause = stays-open new left.place.held
    left-open new Fault left cause =
        let cut = left.held h held in
        let shown = cut_shut behind before h cut.0 (shut-unclosed w.table h unclosed) cut.2 in
        let image : IsShutOrWhole state w cut.0 =
        elim shown as (λ _. IsShutOrWhole state w cut.0) [
          | inl shut ↦ inl shut
          | inr same ↦ inr (record {
            whole = subst (λ (file : List ℕ). IsFileOf state w file) (sym same.0) (whole cause.1);
            last = same.1;
          })
        ] in (
          cut.0,
          cut.1,
          in-order cut.0 (closed_partly cut.2),
          (image, turned cut.0.log (turn cause.1) (leave.closing w.table is.blobs behind before cut.0 (closed_partly cut.2))),
        )

    pub left-whole : (new : DiskState) → LeavesClosed behind before (state w.disk) new (Ok tt)
        → HasCloseCause w.book (passed_by_close w.params w.table w.book) (Ok tt)
        → IsLeft new (λ left. IsFileOf state w left.image × LeavesByAnswer IsWhole left.log (Ok tt))
    left-whole new left cause =
        let log = (closed_on behind before h).log in (
          closed_on behind before h,
          left.held h held,
          in-order (closed_on behind before h) (closed_whole refl),
          (
            whole cause.1,
            (
              turned log (turn cause.1)
                  (leave.closing w.table is.blobs behind before (closed_on behind before h) (closed_whole refl)),
              λ bytes may. turn cause.1 bytes (leave.closed w.table is.blobs behind before bytes may),
            ),
          ),
        )
