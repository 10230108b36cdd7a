-- What a sequential writer has written.
use Rattle.std.specs.Prelude.{ℕ, ◌≡◌, ◌⊎◌, List, length}
use Rattle.std.specs.List.{sum_by}
use Rattle.nt_types.specs.ShapeData.{MemberData}
use Rattle.nt_types.specs.TreeData.{TreesData, no_trees, tree}
use Rattle.nt_outside.specs.Held.{Held, Becomes, nothing_held, IsTornAppend}
use Rattle.nt_outside.specs.Disk.{DiskState}
use Rattle.nt_container.specs.Spelling.{begun}
use Rattle.nt_grammar.specs.Table.{Table}
use Rattle.nt_book.specs.declared.params.Params.{Params}
use Rattle.nt_book.specs.Books.{BookData, book_clusters}
use Rattle.nt_lists.specs.Parts.{part_bytes}
use Rattle.nt_layout.specs.Headers.{header_blob}
use Rattle.nt_layout.specs.Beside.{parts_so_far}
use Rattle.nt_layout.specs.Laid.{AreBlobsOf}
use Rattle.nt_append.specs.Appending.{all_appended}
use Rattle.nt_close.specs.Steps.{begun_on}
use Rattle.nt_finished.specs.LateFiles.{AreLateBlobs}
use Rattle.nt_finished.specs.Zeros.{zero_tree}
use Rattle.nt_seq.specs.Writer.{SeqState}

-- what is held of a file of this schema that is begun, with these blobs behind its header: ranges, and the page lists between them
abbrev pub file_so_far : Table → List (List ℕ) → Held
file_so_far t blobs = all_appended blobs (begun_on (begun 0 0 0) (header_blob t) nothing_held)

-- what is held before the file of this schema is closed: it is begun, blobs stand behind its header, and the append of one more may have
-- failed
pub record IsUnclosedOf (t : Table) (h : Held) : Type 0 where
  pub blobs : List (List ℕ)
  pub steps : (h ≡ file_so_far t blobs) ⊎ ((most : ℕ) × IsTornAppend most (file_so_far t blobs) h)

-- no field was added: all rows stand in the header
abbrev pub IsFirstSchema : Table → Type 0
IsFirstSchema t = t.header_fields ≡ length t.fields

-- a disk holds the file of a schema that is begun, where the one that was given tells what it holds, with a range for each of these
-- clusters, which is the blob of its entries: those of fields that were added behind it are zeros; the page lists that are noted stand
-- beside them
pub record HasClusters (given disk : DiskState) (t : Table) (p : Params) (book : BookData) (clusters : List (List TreesData)) : Type 0
  where
    pub ranges : List (List ℕ)
    pub late : AreLateBlobs t p.page 0 clusters ranges (book_clusters book)
    pub first : IsFirstSchema t → AreBlobsOf t p.page clusters ranges (book_clusters book)
    pub held : Becomes given.held disk.held (λ h. file_so_far t (part_bytes (parts_so_far t book p.group ranges)))

-- the entries of clusters
abbrev pub entries_of_clusters : List (List TreesData) → ℕ
entries_of_clusters clusters = sum_by (λ (entries : List TreesData). length entries) clusters

-- the zero of a field, as it stands behind the trees of an entry
abbrev pub zero_behind : MemberData → TreesData
zero_behind field = tree (zero_tree field.of) no_trees

module _ {D : Type 0} (state : D → DiskState) where
  -- these are the clusters that a writer has written, each as the list of its entries by the schema as it is now
  abbrev pub HasWritten : SeqState D → List (List TreesData) → Type 0
  HasWritten w clusters = HasClusters (state w.given) (state w.disk) w.table w.params w.book clusters
