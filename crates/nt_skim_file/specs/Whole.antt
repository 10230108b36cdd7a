-- The whole file of selected entries.
use Rattle.std.specs.Prelude.{◌≡◌, ℕ, ◌≤◌, List, None, length, Result, Ok}
use Rattle.std.specs.List.{AllByRecursion}
use Rattle.nt_lists.specs.Chunks.{chunks}
use Rattle.nt_num.specs.declared.fault.ReadError.{ReadError}
use Rattle.nt_types.specs.ShapeData.{MemberData}
use Rattle.nt_types.specs.TreeData.{TreesData}
use Rattle.nt_grammar.specs.Rows.{Rows}
use Rattle.nt_grammar.specs.Table.{Table}
use Rattle.nt_machine.specs.History.{Cluster}
use Rattle.nt_book.specs.declared.meta.ClusterMeta.{ClusterMeta}
use Rattle.nt_book.specs.declared.params.Params.{Params}
use Rattle.nt_book.specs.Books.{book_clusters}
use Rattle.nt_layout.specs.Laid.{IsLaid}
use Rattle.nt_file_meaning.specs.Files.{Means}
use Rattle.nt_close.specs.Passing.{measures_of}
use Rattle.nt_finished.specs.LateFiles.{IsLaidLate}
use Rattle.nt_seq.specs.Written.{entries_of_clusters}
use Rattle.nt_script.specs.Script.{Script, last_entries}
use Rattle.nt_script.specs.Passing.{PassesLimit}
use Rattle.nt_script.specs.Fitting.{MayFit}
use Rattle.nt_skim.specs.Select.{Selection, selected, entries_read}
use Rattle.nt_script.specs.declared.storing.Counts.{Counts}

-- entries as a script that adds no field, none of whose lines is bad
abbrev pub script_of : List TreesData → Script
script_of entries = last_entries entries None

-- the file of these fields and entries may pass no limit
abbrev pub MayFitSelected : Params → List MemberData → List TreesData → Type 0
MayFitSelected p fields entries = MayFit fields p (script_of entries)

-- a file means the schema of these fields and these entries in clusters, and is laid out for them
pub record IsSelectedFile (p : Params) (fields : List MemberData) (entries : List TreesData) (bytes : List ℕ) : Type 0 where
  pub table : Table
  pub rows : Rows fields p.plain table
  pub laid : IsLaid bytes table (chunks p.cluster entries) (measures_of p)
  pub late : IsLaidLate bytes table (chunks p.cluster entries) (measures_of p)
  -- no cluster is longer than a range may get
  pub short : AllByRecursion (λ (c : Cluster ClusterMeta). c.len ≤ p.limits.range) (book_clusters late.book)
  pub means : Means bytes table (chunks p.cluster entries)
  -- and it is within the limits
  pub fits : MayFitSelected p fields entries

-- a file is the whole one of what is selected of clusters that are read as these
abbrev pub IsWholeSelection : Params → Selection → List (Result (List TreesData) ReadError) → List ℕ → Type 0
IsWholeSelection p s rs bytes =
    (entries : List TreesData) × (entries_read rs ≡ Ok entries) × IsSelectedFile p s.fields (selected s entries) bytes

-- these are the numbers of the clusters and the entries
pub record AreSelectedNumbers (p : Params) (es : List TreesData) (counts : Counts) : Type 0 where
  pub clusters : counts.clusters ≡ length (chunks p.cluster es)
  pub entries : counts.entries ≡ entries_of_clusters (chunks p.cluster es)

-- the file of these fields and entries passes a limit: where it is begun, where a cluster is written, or where it is closed
abbrev pub PassesSelected : Params → List MemberData → List TreesData → ℕ → ℕ → Type 0
PassesSelected p fields entries reached limit = PassesLimit fields p (script_of entries) reached limit
