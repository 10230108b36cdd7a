-- What is left of clusters that are copied from several files into one, one behind the other (RNTuple Binary Format Specification 1.0.0.0,
-- sections Pages, Page Locations and Page List Envelope).
use Rattle.std.specs.Prelude.{ℕ, ◌≡◌, ◌≤◌, ◌+◌, ◌++◌, false, List, [], ◌∷◌, map, length, Option, None, Some, Result, Ok, Err, sum_by}
use Rattle.std.specs.Prelude.{option_map}
use Rattle.std.specs.List.{AllByRecursion}
use Rattle.std.specs.Option.{option_or}
use Rattle.nt_lists.specs.Chaining.{◌>>=◌}
use Rattle.nt_lists.specs.Parts.{part_bytes}
use Rattle.nt_num.specs.declared.fault.ReadError.{ReadError}
use Rattle.nt_types.specs.TreeData.{TreesData}
use Rattle.nt_outside.specs.Log.{FailedAppend}
use Rattle.nt_outside.specs.Held.{Held, Becomes, BecomesSome}
use Rattle.nt_outside.specs.Order.{FirstByteLast, EndsInSync}
use Rattle.nt_outside.specs.Disk.{DiskState}
use Rattle.nt_grammar.specs.declared.rows.ColumnRow.{ColumnRow}
use Rattle.nt_grammar.specs.Table.{Table, in_header}
use Rattle.nt_book.specs.declared.meta.ClusterMeta.{ClusterMeta}
use Rattle.nt_book.specs.declared.limits.LimitError.{LimitError}
use Rattle.nt_book.specs.declared.limits.LimitError.TheVariants as limit
use Rattle.nt_book.specs.declared.params.Params.{Params}
use Rattle.nt_book.specs.Books.{BookData, book_clusters}
use Rattle.nt_pagelists.specs.declared.cluster.ClusterList.{ClusterList}
use Rattle.nt_file_meaning.specs.Clusters.{cluster_of}
use Rattle.nt_file_meaning.specs.Outlines.{Outline}
use Rattle.nt_layout.specs.Beside.{parts_so_far}
use Rattle.nt_copied.specs.Alike.{bare}
use Rattle.nt_copied.specs.Copies.{Source, AreCopies, IsCopied, NoneDeferred, stored_columns}
use Rattle.nt_copied.specs.Stored.{stored_meta}
use Rattle.nt_cuts.specs.Cuts.{LeavesUnfinished, LeavesUnfinishedOr, LeavesOnly}
use Rattle.nt_close.specs.Closing.{IsClosable}
use Rattle.nt_close.specs.Laws.{IsShut, EndsOverFirst}
use Rattle.nt_close.specs.Passing.{measures_of, passed_by_begin}
use Rattle.nt_merge_limits.specs.Limits.{MergeOverBy, MergeFits, kept_metas}
use Rattle.nt_seq.specs.Standing.{IsSettledCluster}
use Rattle.nt_seq.specs.Written.{file_so_far}
use Rattle.nt_merge.specs.Fronts.{passed_by_copy, passed_by_end}
use Rattle.nt_merge.specs.Planning.{of_file}
use Rattle.nt_merge.specs.declared.error.MergeError.{MergeError}
use Rattle.nt_merge.specs.declared.error.MergeError.TheVariants.{Defect, Schema, RangeTooLarge, FileTooLarge, TooManyClusters, ReadFault}
use Rattle.nt_merge.specs.declared.error.MergeError.TheVariants.{DiskFault, Memory}

-- ---- the clusters of the files

-- a cluster of a file, with the file's number and its own there
pub record Numbered : Type 0 where
  pub file : ℕ
  pub number : ℕ
  pub source : Source

-- the clusters of one file, whose numbers go on from this one
abbrev pub numbered_from : ℕ → ℕ → List ℕ → Table → List ClusterList → List Numbered
numbered_from file number b t [] = []
numbered_from file number b t (k ∷ ks) =
    record { file = file; number = number; source = record { file = b; table = t; list = k } } ∷ numbered_from file (number + 1) b t ks

-- those of files whose numbers go on from this one, file by file
abbrev pub all_numbered : ℕ → List (List ℕ) → List Outline → List Numbered
all_numbered file [] os = []
all_numbered file (b ∷ bs) [] = []
all_numbered file (b ∷ bs) (o ∷ os) = numbered_from file 0 b o.table o.clusters ++ all_numbered (file + 1) bs os

-- what is read of one: its entries, or its first fault with the number of its file
abbrev pub reading_of : Numbered → Result (List TreesData) (ℕ × ReadError)
reading_of n = of_file n.file (cluster_of n.source.file n.source.table n.number n.source.list)

-- what is read of all
abbrev pub readings : List Numbered → Result (List (List TreesData)) (ℕ × ReadError)
readings [] = Ok []
readings (n ∷ ns) = reading_of n >>= λ first. readings ns >>= λ others. Ok (first ∷ others)

-- one that was read, and those behind it; none from one with a fault on
abbrev pub sound_then : Numbered → Result (List TreesData) (ℕ × ReadError) → List Numbered → List Numbered
sound_then n (Ok entries) more = n ∷ more
sound_then n (Err e) more = []

-- those before the first that has a fault
abbrev pub sound_numbered : List Numbered → List Numbered
sound_numbered [] = []
sound_numbered (n ∷ ns) = sound_then n (reading_of n) (sound_numbered ns)

-- as sources
abbrev pub sources : List Numbered → List Source
sources ns = map (λ (n : Numbered). n.source) ns

-- what is kept of a copy of one
abbrev pub copied_meta : Source → ClusterMeta
copied_meta s = stored_meta 0 s.list.entries (stored_columns s)

-- of all
abbrev pub copied_metas : List Numbered → List ClusterMeta
copied_metas ns = map copied_meta (sources ns)

-- the schema of the file that they are copied into: that of the first file without the flags of fields
abbrev pub merged_table : List Outline → Table
merged_table [] = in_header [] []
merged_table (o ∷ os) = bare o.table

-- ---- what is refused first

-- a limit, as what a merge says of it
abbrev pub error_of_limit : LimitError → MergeError
error_of_limit (limit.RangeTooLarge len most) = RangeTooLarge len most
error_of_limit (limit.FileTooLarge end most) = FileTooLarge end most
error_of_limit limit.TooManyClusters = TooManyClusters

-- the fault of a cluster; where it is read, what is refused from then on
abbrev pub fault_or : Result (List TreesData) (ℕ × ReadError) → Option MergeError → Option MergeError
fault_or (Ok entries) more = more
fault_or (Err fault) more = Some (Defect fault.0 fault.1)

-- what is refused first of clusters that are copied behind others, of which this is kept: of one after the other its first fault, and then
-- a limit that its copy passes; and behind all of them a limit that the file passes where it is closed
abbrev pub refused_behind : Table → Params → List ClusterMeta → List Numbered → Option MergeError
refused_behind t p metas [] = option_map error_of_limit (passed_by_end t p metas)
refused_behind t p metas (n ∷ ns) =
    fault_or (reading_of n)
    (option_or (option_map error_of_limit (passed_by_copy t p metas (copied_meta n.source).len))
    (refused_behind t p (metas ++ copied_meta n.source ∷ []) ns))

-- what is refused first where these clusters are merged: before all of them a limit that the header passes
abbrev pub first_refusal : Table → Params → List Numbered → Option MergeError
first_refusal t p ns = option_or (option_map error_of_limit (passed_by_begin p.limits t)) (refused_behind t p [] ns)

-- this is the first fault of the clusters, and nothing is refused before it
pub record IsFirstMergeFault (t : Table) (p : Params) (ns : List Numbered) (file : ℕ) (e : ReadError) : Type 0 where
  pub fault : readings ns ≡ Err (file, e)
  pub first : first_refusal t p ns ≡ Some (Defect file e)

-- the file of the clusters before the first fault passes this limit, and nothing is refused before it
pub record IsFirstMergeLimit (t : Table) (p : Params) (ns : List Numbered) (passed : LimitError) : Type 0 where
  pub over : MergeOverBy t p (copied_metas (sound_numbered ns)) passed
  pub first : first_refusal t p ns ≡ Some (error_of_limit passed)

-- ---- the file that they are copied into

-- it can go on, and be closed: it is begun, each range of its book is settled and no longer than a range may get, there are no more of
-- them than there may be, and no page list failed
pub record IsMerging (t : Table) (p : Params) (given disk : DiskState) (book : BookData) : Type 0 where
  pub blobs : List (List ℕ)
  pub held : Becomes given.held disk.held (λ h. file_so_far t blobs)
  pub closable : IsClosable disk book t p
  pub limits : book.limits ≡ p.limits
  pub not_staged : book.staged ≡ false
  pub firsts : map (λ (c : ColumnRow). c.first) t.columns ≡ book.firsts
  pub none_deferred : NoneDeferred t.columns
  pub settled : AllByRecursion IsSettledCluster (book_clusters book)
  pub untorn : book.torn ≡ None
  pub within : passed_by_begin p.limits t ≡ None
  pub short : AllByRecursion (λ (m : ClusterMeta). m.len ≤ p.limits.range) (kept_metas book)
  pub few : length (book_clusters book) ≤ p.limits.clusters

-- copies of these clusters, which have these entries, stand in it, one behind the other, with the page lists of full groups between them
pub record HasCopies (t : Table) (p : Params) (given disk : DiskState) (book : BookData) (ns : List Numbered)
    (lists : List (List TreesData)) : Type 0 where
  pub ranges : List (List ℕ)
  pub copies : AreCopies t (sources ns) lists ranges (book_clusters book)
  pub metas : kept_metas book ≡ copied_metas ns
  pub held : Becomes given.held disk.held (λ h. file_so_far t (part_bytes (parts_so_far t book p.group ranges)))

-- ---- what a merge leaves

-- the entries of clusters
abbrev pub merged_entries : List (List TreesData) → ℕ
merged_entries lists = sum_by (λ (entries : List TreesData). length entries) lists

-- a file is the finished one of copies of these clusters, all of which were read, and passes no limit; so nothing is refused
pub record IsMerged (t : Table) (p : Params) (ns : List Numbered) (lists : List (List TreesData)) (file : List ℕ) : Type 0 where
  pub read : readings ns ≡ Ok lists
  pub copied : IsCopied file t (sources ns) lists (measures_of p)
  pub fits : MergeFits t p (copied_metas ns)
  pub none_refused : first_refusal t p ns ≡ None

-- a file of copies of all of them
abbrev pub IsMergedFile : Table → Params → List Numbered → List ℕ → Type 0
IsMergedFile t p ns file = (lists : List (List TreesData)) × IsMerged t p ns lists file

-- the file stands there whole, all of it stays, and so many clusters and entries are told; its first byte was written over only when all
-- the rest stayed: wherever a crash came, it left what isn't finished or, once that byte was written over, the whole file, and behind all
-- steps only that
pub record EndsMerge (t : Table) (p : Params) (ns : List Numbered) (old new : DiskState) (clusters entries : ℕ) : Type 0 where
  pub lists : List (List TreesData)
  pub clusters_are : clusters ≡ length lists
  pub entries_are : entries ≡ merged_entries lists
  pub file : BecomesSome old.held new.held (λ h h'. IsMerged t p ns lists h'.image × EndsInSync h'.log)
  pub order : BecomesSome old.held new.held (λ h h'. FirstByteLast h'.log)
  pub crash : BecomesSome old.held new.held (λ h h'. LeavesUnfinishedOr (IsMergedFile t p ns) h'.log
      × LeavesOnly (IsMergedFile t p ns) h'.log)

-- a file that isn't finished: nothing was written, or its first byte is 0
pub data IsUnclosed (h left : Held) : Type 0 where
  nothing_written : left ≡ h → IsUnclosed h left
  shut : IsShut left.image → IsUnclosed h left

-- it is such, its steps are in order, and no crash left what is finished
pub record IsUnfinished (h left : Held) : Type 0 where
  pub unclosed : IsUnclosed h left
  pub order : FirstByteLast left.log
  pub crash : LeavesUnfinished left.log

-- of a disk
abbrev pub IsLeftUnfinished : DiskState → DiskState → Type 0
IsLeftUnfinished old new = BecomesSome old.held new.held IsUnfinished

-- where a step of the disk failed: the file isn't finished; its first append failed, and nothing else is known of it; or it stands there
-- whole, and the last step was that of its first byte
pub data IsCutAt (t : Table) (p : Params) (ns : List Numbered) (h left : Held) : Type 0 where
  cut_unclosed : IsUnclosed h left → IsCutAt t p ns h left
  torn_at_once : (n : ℕ) → left.log ≡ FailedAppend n ∷ [] → IsCutAt t p ns h left
  cut_whole : IsMergedFile t p ns left.image → EndsOverFirst left.log → IsCutAt t p ns h left

-- a step of the disk failed there; the steps are in order, and wherever a crash came, it left what isn't finished or, once the first byte
-- was written over, the whole file
pub record IsCutFile (t : Table) (p : Params) (ns : List Numbered) (h left : Held) : Type 0 where
  pub how : IsCutAt t p ns h left
  pub order : FirstByteLast left.log
  pub crash : LeavesUnfinishedOr (IsMergedFile t p ns) left.log

-- a limit that is refused first, and the file isn't finished
pub record RefusesMerge (t : Table) (p : Params) (ns : List Numbered) (old new : DiskState) (passed : LimitError) : Type 0 where
  pub first : IsFirstMergeLimit t p ns passed
  pub left : IsLeftUnfinished old new

-- by the answer
abbrev pub MergesTold : Table → Params → List Numbered → DiskState → DiskState → Result (ℕ × ℕ) MergeError → Type 0
MergesTold t p ns old new (Ok (clusters, entries)) = EndsMerge t p ns old new clusters entries
MergesTold t p ns old new (Err (Defect file e)) = IsFirstMergeFault t p ns file e × IsLeftUnfinished old new
MergesTold t p ns old new (Err (Schema place)) = ⊥
MergesTold t p ns old new (Err (RangeTooLarge len most)) = RefusesMerge t p ns old new (limit.RangeTooLarge len most)
MergesTold t p ns old new (Err (FileTooLarge end most)) = RefusesMerge t p ns old new (limit.FileTooLarge end most)
MergesTold t p ns old new (Err TooManyClusters) = RefusesMerge t p ns old new limit.TooManyClusters
MergesTold t p ns old new (Err ReadFault) = IsLeftUnfinished old new
MergesTold t p ns old new (Err DiskFault) = BecomesSome old.held new.held (IsCutFile t p ns)
MergesTold t p ns old new (Err Memory) = IsLeftUnfinished old new
