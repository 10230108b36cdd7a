-- What holds of each sequential writer.
use Rattle.std.specs.Prelude.{ℕ, ◌≡◌, ◌≤◌, true, false, List, [], map, length, None}
use Rattle.std.specs.List.{AllByRecursion}
use Rattle.nt_outside.specs.Held.{Becomes, BecomesSome, WhereHeld, nothing_held}
use Rattle.nt_outside.specs.Disk.{DiskState}
use Rattle.nt_machine.specs.History.{Cluster, Settled}
use Rattle.nt_grammar.specs.declared.rows.ColumnRow.{ColumnRow}
use Rattle.nt_grammar.specs.ReadingBack.{IsDescribed}
use Rattle.nt_grammar.specs.Table.{Table, IsFew}
use Rattle.nt_schema.specs.Whole.{AreWhole}
use Rattle.nt_column.specs.Column.{Column}
use Rattle.nt_book.specs.declared.limits.Limits.{Limits}
use Rattle.nt_book.specs.declared.meta.ClusterMeta.{ClusterMeta}
use Rattle.nt_book.specs.Books.{book_clusters, book_end, entry_count}
use Rattle.nt_plans.specs.Place.{open_plans}
use Rattle.nt_plans.specs.Types.{are_some}
use Rattle.nt_layout.specs.Headers.{header_object}
use Rattle.nt_layout.specs.Laid.{Gives}
use Rattle.nt_close.specs.Passing.{passed_by_begin}
use Rattle.nt_close.specs.Closing.{IsClosable}
use Rattle.nt_seq.specs.Writer.{SeqState, gathered_by}
use Rattle.nt_seq.specs.Written.{IsUnclosedOf, file_so_far}

-- the range of a cluster was handed back filled
abbrev pub IsSettledCluster : Cluster ClusterMeta → Type 0
IsSettledCluster c = c.state ≡ Settled None

-- the range of a cluster isn't longer than a range may get
abbrev pub IsShortCluster : Limits → Cluster ClusterMeta → Type 0
IsShortCluster limits c = c.len ≤ limits.range

-- a disk on which nothing was written
pub record IsBlankDisk (disk : DiskState) : Type 0 where
  pub held : WhereHeld disk.held (λ h. h ≡ nothing_held)
  pub end : disk.end ≡ 0
  pub out : disk.out ≡ []

-- a schema and columns with which a writer can begin
pub record IsFitToBegin (t : Table) (columns : List Column) : Type 0 where
  pub few : IsFew t
  pub whole : AreWhole t
  pub some : are_some (open_plans t) ≡ true
  pub gives : Gives t columns []

module _ {D : Type 0} (state : D → DiskState) where
  -- a writer that is alive: its file is begun, with blobs behind the header, which is still that of the schema with which it was begun,
  -- and can be closed; its book isn't staged, and no page list of it failed; each range of the book is settled and within the limit, and
  -- so are the end of the ranges and page lists and the number of clusters; the first elements of the columns are those of the schema and
  -- stand behind no more entries than are written, and the columns give what is gathered
  pub record IsWriting (w : SeqState D) : Type 0 where
    pub blobs : List (List ℕ)
    pub held : Becomes (state w.given).held (state w.disk).held (λ h. file_so_far w.table blobs)
    pub header : header_object w.table ≡ header_object w.begun
    pub closable : IsClosable (state w.disk) w.book w.table w.params
    pub not_staged : w.book.staged ≡ false
    pub untorn : w.book.torn ≡ None
    pub within : passed_by_begin w.params.limits w.table ≡ None
    pub limits : w.book.limits ≡ w.params.limits
    pub firsts : map (λ (c : ColumnRow). c.first) w.table.columns ≡ w.book.firsts
    pub begun : AllByRecursion (λ (c : ColumnRow). c.first ≤ entry_count (book_clusters w.book)) w.table.columns
    pub settled : AllByRecursion IsSettledCluster (book_clusters w.book)
    pub short : AllByRecursion (IsShortCluster w.params.limits) (book_clusters w.book)
    pub ends : book_end w.book ≤ w.params.limits.file
    pub count : length (book_clusters w.book) ≤ w.params.limits.clusters
    pub described : IsDescribed w.table
    pub few : IsFew w.table
    pub some : are_some (open_plans w.table) ≡ true
    pub gives : Gives w.table w.columns (gathered_by w)
    pub full : w.entries ≤ w.params.cluster

  -- a writer: its file, begun with the schema that it had first, isn't closed, as far as it is told, and while it is alive it can be
  pub record IsSequential (w : SeqState D) : Type 0 where
    pub unclosed : BecomesSome (state w.given).held (state w.disk).held (λ h h'. IsUnclosedOf w.begun h')
    pub writing : w.alive ≡ true → IsWriting w
