-- A file of copies that was closed.
use Rattle.std.proofs.Common.{◌≡◌, ◌∙◌, ap, sym, refl, subst, ℕ, ◌<◌, ◌≤◌, inl, inr, List, [], ◌∷◌, length, take, Option, Some}
use Rattle.std.proofs.Common.{None, Bool, true, false, map, arith}
use Rattle.std.specs.Prelude.{◌⊎◌, Ok, nat_lt, if◌then◌else◌}
use Rattle.std.specs.List.{AllByRecursion}
use Rattle.std.proofs.lemmas.Bool.Decides.{nat_tests}
use Rattle.nt_lists.specs.Parts.{part_bytes}
use Rattle.nt_types.specs.TreeData.{TreesData}
use Rattle.nt_num.specs.Codes.{unfinished}
use Rattle.nt_num.specs.Faults.{fault}
use Rattle.nt_outside.specs.Log.{Step}
use Rattle.nt_outside.specs.Held.{Held}
use Rattle.nt_outside.specs.Disk.{DiskState}
use Rattle.nt_outside.specs.Order.{FirstByteLast}
use Rattle.nt_outside.proofs.Known.{known_reads}
use Rattle.nt_grammar.specs.Table.{Table}
use Rattle.nt_machine.specs.History.{Cluster}
use Rattle.nt_book.specs.declared.limits.Limits.{Limits}
use Rattle.nt_book.specs.declared.limits.LimitError.{LimitError}
use Rattle.nt_book.specs.declared.meta.ClusterMeta.{ClusterMeta}
use Rattle.nt_book.specs.declared.params.Params.{Params}
use Rattle.nt_book.specs.Books.{BookData, book_clusters}
use Rattle.nt_book.specs.Kept.{IsBookKept}
use Rattle.nt_file_meaning.specs.Files.{HasDefect}
use Rattle.nt_pagelists.proofs.Named.{clusters-unstaged}
use Rattle.nt_pagelists.specs.Blobs.{blob_len}
use Rattle.nt_layout.specs.Headers.{header_object, clusters_place}
use Rattle.nt_layout.specs.Beside.{HasListsBeside, parts_so_far}
use Rattle.nt_layout.specs.Finished.{finished}
use Rattle.nt_layout.specs.Laid.{IsBookOf, IsWithin, Measures}
use Rattle.nt_cuts.specs.Cuts.{WritesFirst, LeavesUnfinishedOr, LeavesOnly}
use Rattle.nt_close.specs.Filled.{closing_tail, closing_front}
use Rattle.nt_close.specs.Laws.{ClosedIsFinished}
use Rattle.nt_close.specs.Passing.{first_passed, passed_by_begin, passed_by_close, measures_of}
use Rattle.nt_close.specs.Steps.{closed_on, IsClosedPartly, IsClosedSoFar, closed_partly, closed_whole}
use Rattle.nt_close.proofs.FirstByte.{closes_in_order, cut_shut}
use Rattle.nt_close.proofs.Within.{within}
use Rattle.nt_copied.specs.Copies.{Source, AreCopies, IsCopied}
use Rattle.nt_copied.proofs.CopiedFiles.{lens-copies}
use Rattle.nt_finished.proofs.Lengths.{clusters_told}
use Rattle.nt_seq.specs.Crashes.{IsClosedBy, AppendsLeave}
use Rattle.nt_seq.specs.Written.{file_so_far, IsUnclosedOf}
use Rattle.nt_merge_limits.specs.Limits.{kept_metas, MergeFits, IsBookBeside}
use Rattle.nt_seq.proofs.Files.{image-file, order-unclosed, shut-unclosed}
use Rattle.nt_seq.proofs.Flat.{params-flat, listed-flat, lists-flat, filled-flat}
use Rattle.nt_seq.proofs.Plain.{plain-file}
use Rattle.nt_merge.specs.Copying.{HasMerged}
use Rattle.nt_merge.specs.Merging.{Numbered, sources, readings, copied_metas, IsMerging, IsMerged, IsMergedFile, IsUnfinished}
use Rattle.nt_merge.specs.Merging.{IsCutAt, IsCutFile, shut, cut_unclosed, cut_whole}
use Rattle.nt_merge.proofs.AtEnd.{all-beside, none-first}

-- what nt_merge_limits says of a file within the limits
abbrev pub FitsWithin : Type 0
FitsWithin =
    (t : Table) (p : Params) (book : BookData) → IsBookBeside t p book → IsWithin t (measures_of p) book
    → AllByRecursion (λ (m : ClusterMeta). m.len ≤ p.limits.range) (kept_metas book) → length (book_clusters book) ≤ p.limits.clusters
    → MergeFits t p (kept_metas book)

-- what nt_copied says of a finished file of copies with page lists beside its clusters
abbrev pub MadeOfCopies : Type 0
MadeOfCopies =
    (file : List ℕ) (t : Table) (ss : List Source) (lists : List (List TreesData)) (m : Measures) (ranges : List (List ℕ))
    (book : BookData) → m.staged ≡ false → IsBookOf t book → HasListsBeside t m.group book → IsWithin t m book
    → AreCopies t ss lists ranges (book_clusters book) → file ≡ finished m.staged t book m.group ranges → IsCopied file t ss lists m

not_above : (most n : ℕ) (b : Bool) (l : LimitError) (more : Option LimitError) → nat_lt most n ≡ b
    → (if b then Some l else more) ≡ None → n ≤ most
not_above most n true l more above none = absurd (cc none)
not_above most n false l more above none = grind (arith, nat_tests, above)

-- a header that passes no limit is no longer than a range may get
header-within : (limits : Limits) (t : Table) → passed_by_begin limits t ≡ None → blob_len (length (header_object t)) ≤ limits.range
header-within limits t none =
    not_above limits.range (blob_len (length (header_object t))) (nat_lt limits.range (blob_len (length (header_object t)))) _
    (first_passed limits [] (clusters_place t)) refl none

same_held : (held : Option Held) (h k : Held) → held ≡ Some h → held ≡ Some k → h ≡ k
same_held held h k one two = cc (one, two)

pub take-whole : (ns : List Numbered) → take (length ns) ns ≡ ns
take-whole [] = refl
take-whole (n ∷ ns) = ap (λ (l : List Numbered). n ∷ l) (take-whole ns)

module _ (t : Table) (p : Params) (given old : DiskState) (book : BookData) (ns : List Numbered) (is : IsMerging t p given old book)
    (kept : IsBookKept book) (first : Held) (told : given.held ≡ Some first) (finishes : ClosedIsFinished) (made : MadeOfCopies)
    (fit : FitsWithin) (has : HasMerged t p given old book ns (length ns)) where
  abbrev behind : List ℕ
  behind = closing_tail p.staged t book p.group

  abbrev before : List ℕ
  before = closing_front p.staged t book p.group

  flat : p.staged ≡ false
  flat = params-flat t p book is.closable.noted is.not_staged

  beside : HasListsBeside t p.group book
  beside = listed-flat t p book is.closable.noted is.not_staged is.untorn

  abbrev h : Held
  h = file_so_far t is.blobs

  held : old.held ≡ Some h
  held = is.held first told

  unclosed : IsUnclosedOf t h
  unclosed = record { blobs = is.blobs; steps = inl refl }

  abbrev ranges : List (List ℕ)
  ranges = has.copies.ranges

  image-is : (closed_on behind before h).image ≡ finished p.staged t book p.group ranges
  image-is =
      let parts = part_bytes (parts_so_far t book p.group ranges) in
      finishes p.staged t book p.group ranges h
      (record {
        kept = kept;
        lists = lists-flat t p book flat beside;
        begin = is.closable.begin;
        lens = lens-copies t is.none_deferred (sources (take (length ns) ns)) has.lists ranges (book_clusters book) has.copies.copies
            (clusters_told book kept)
            ∙ ap (λ (cs : List (Cluster ClusterMeta)). map (λ (c : Cluster ClusterMeta). c.len) cs) (clusters-unstaged book is.not_staged);
      })
      (ap (λ (k : Held). k.image) (same_held old.held h (file_so_far t parts) held (has.copies.held first told))
      ∙ (image-file t parts ∙ sym (filled-flat t p book ranges flat)))

  all-read : readings ns ≡ Ok has.lists
  all-read = subst (λ (l : List Numbered). readings l ≡ Ok has.lists) (take-whole ns) has.read

  -- the finished file is that of the copies
  pub merged : passed_by_close p t book ≡ None → IsMerged t p ns has.lists (closed_on behind before h).image
  merged passed =
      let stays = within t p book kept is.closable.noted is.untorn passed (header-within p.limits t is.within) in
      record {
        read = all-read;
        copied = made (closed_on behind before h).image t (sources ns) has.lists (measures_of p) ranges book flat
            (record { kept = kept; begin = is.closable.begin; firsts = is.firsts; none_deferred = is.none_deferred })
            beside stays
            (subst (λ (l : List Numbered). AreCopies t (sources l) has.lists ranges (book_clusters book)) (take-whole ns) has.copies.copies)
            image-is;
        fits = subst (λ (ms : List ClusterMeta). MergeFits t p ms)
            (has.copies.metas ∙ ap (λ (l : List Numbered). copied_metas l) (take-whole ns))
            (fit t p book (all-beside t p given old book ns is kept has) stays is.short is.few);
        none_refused = none-first t p given old book ns is kept has passed;
      }

  pub whole : passed_by_close p t book ≡ None → IsMergedFile t p ns (closed_on behind before h).image
  whole passed = (has.lists, merged passed)

  abbrev IsWhole : List ℕ → Type 0
  IsWhole = IsMergedFile t p ns

  abbrev IsClosedFile : List ℕ → Type 0
  IsClosedFile = IsClosedBy t is.blobs behind before

  turn : passed_by_close p t book ≡ None → (bytes : List ℕ) → IsClosedFile bytes → IsWhole bytes
  turn passed bytes same = subst IsWhole (sym same) (whole passed)

  -- what a crash leaves of it
  turned : (log : List Step) → ((bytes : List ℕ) → IsClosedFile bytes → IsWhole bytes) → LeavesUnfinishedOr IsClosedFile log
      → LeavesUnfinishedOr IsWhole log
  turned log into leaves k bytes has_sync may = at (leaves k bytes has_sync may)
    where
      at : HasDefect bytes (fault unfinished 0) ⊎ (WritesFirst (take k log) × IsClosedFile bytes)
          → HasDefect bytes (fault unfinished 0) ⊎ (WritesFirst (take k log) × IsWhole bytes)
      at (inl none) = inl none
      at (inr closed) = inr (closed.0, into bytes closed.1)

  -- its steps are in order, wherever closing came
  pub in-order : (left : Held) → IsClosedSoFar behind before h left → FirstByteLast left.log
  in-order left so_far =
      let some : 0 < length h.image = let zero = shut-unclosed t h unclosed in omega (arith, ap length zero.1) in
      closes_in_order behind before h some (known_reads h.log h.image (plain-file t is.blobs).known) (order-unclosed t h unclosed) left
      so_far

  module _ (leave : AppendsLeave) where
    pub stays-open : (new : DiskState) → new.held ≡ old.held → (left : Held) × (new.held ≡ Some left) × IsUnfinished first left
    stays-open new same =
        let left : IsUnfinished first h =
        record {
          unclosed = shut (shut-unclosed t h unclosed);
          order = order-unclosed t h unclosed;
          crash = leave.unclosed t h unclosed;
        } in
        (h, same ∙ held, left)

    pub cut-open : (cut : Held) → passed_by_close p t book ≡ None → IsClosedPartly behind before h cut → IsCutFile t p ns first cut
    cut-open cut passed partly =
        let shown = cut_shut behind before h cut (shut-unclosed t h unclosed) partly in
        record {
          how = elim shown as (λ _. IsCutAt t p ns first cut) [
            | inl is_shut ↦ cut_unclosed (shut is_shut)
            | inr same ↦ cut_whole (subst (λ (file : List ℕ). IsMergedFile t p ns file) (sym same.0) (whole passed)) same.1
          ];
          order = in-order cut (closed_partly partly);
          crash = turned cut.log (turn passed) (leave.closing t is.blobs behind before cut (closed_partly partly));
        }

    pub closed-crash : passed_by_close p t book ≡ None
        → LeavesUnfinishedOr IsWhole (closed_on behind before h).log × LeavesOnly IsWhole (closed_on behind before h).log
    closed-crash passed = (
      turned (closed_on behind before h).log (turn passed)
          (leave.closing t is.blobs behind before (closed_on behind before h) (closed_whole refl)),
      λ bytes may. turn passed bytes (leave.closed t is.blobs behind before bytes may),
    )
