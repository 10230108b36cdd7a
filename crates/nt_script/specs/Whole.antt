-- The whole file of a script, and the line of its numbers.
use Rattle.std.specs.Prelude.{◌≡◌, ℕ, ◌≤◌, List, [], ◌∷◌, ◌++◌, None, codes, decimal, length}
use Rattle.std.specs.List.{AllByRecursion}
use Rattle.nt_types.specs.ShapeData.{MemberData}
use Rattle.nt_types.specs.TreeData.{TreesData}
use Rattle.nt_grammar.specs.Rows.{Rows}
use Rattle.nt_grammar.specs.Table.{Table}
use Rattle.nt_machine.specs.History.{Cluster}
use Rattle.nt_book.specs.declared.meta.ClusterMeta.{ClusterMeta}
use Rattle.nt_book.specs.declared.params.Params.{Params}
use Rattle.nt_book.specs.Books.{book_clusters}
use Rattle.nt_layout.specs.Laid.{IsLaid}
use Rattle.nt_file_meaning.specs.Files.{Means}
use Rattle.nt_close.specs.Passing.{measures_of}
use Rattle.nt_finished.specs.LateFiles.{IsLaidLate}
use Rattle.nt_seq.specs.Written.{entries_of_clusters}
use Rattle.nt_script.specs.Script.{read_script}
use Rattle.nt_script.specs.Fitting.{MayFit}
use Rattle.nt_script.specs.Clusters.{bad_line, fields_of_script, script_clusters, GrowsByScript}

-- the clusters of the script of a text
abbrev pub clusters_of_text : Params → List MemberData → List ℕ → List (List TreesData)
clusters_of_text p fields text = script_clusters p.cluster (read_script fields text)

-- a file means the schema of these fields with those that a sound script adds, and the script's clusters, and is laid out for them
pub record IsScriptFile (p : Params) (fields : List MemberData) (text bytes : List ℕ) : Type 0 where
  pub sound : bad_line (read_script fields text) ≡ None
  pub first : Table
  pub rows : Rows fields p.plain first
  pub table : Table
  pub grows : GrowsByScript p.plain first 0 (read_script fields text) table
  pub laid : IsLaidLate bytes table (clusters_of_text p fields text) (measures_of p)
  -- no cluster is longer than a range may get
  pub short : AllByRecursion (λ (c : Cluster ClusterMeta). c.len ≤ p.limits.range) (book_clusters laid.book)
  -- where no field is added, it is laid out as by a writer that adds none
  pub unchanged : fields_of_script (read_script fields text) ≡ [] → IsLaid bytes table (clusters_of_text p fields text) (measures_of p)
  pub means : Means bytes table (clusters_of_text p fields text)
  -- and it is within the limits
  pub fits : MayFit fields p (read_script fields text)

-- the words `clusters` and `entries`, each with its number, and a line feed
abbrev pub counts_line : ℕ → ℕ → List ℕ
counts_line clusters entries = (codes "clusters " ++ decimal clusters) ++ ((codes " entries " ++ decimal entries) ++ 10 ∷ [])

-- the line of the numbers of clusters
abbrev pub line_of_clusters : List (List TreesData) → List ℕ
line_of_clusters clusters = counts_line (length clusters) (entries_of_clusters clusters)
