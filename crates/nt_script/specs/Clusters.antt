-- What is written of a script: its first bad line, the fields that it adds, its clusters, and the tables that its fields make.
use Rattle.std.specs.Prelude.{ℕ, ◌≡◌, ◌+◌, Bool, List, [], ◌∷◌, ◌++◌, map, length, Option}
use Rattle.nt_lists.specs.Chunks.{chunks}
use Rattle.nt_types.specs.ShapeData.{MemberData, parts_of}
use Rattle.nt_types.specs.TreeData.{TreesData}
use Rattle.nt_grammar.specs.Table.{Table}
use Rattle.nt_grammar.specs.Added.{Added}
use Rattle.nt_finished.specs.LeftOut.{filled}
use Rattle.nt_finished.specs.Zeros.{zero_parts}
use Rattle.nt_script.specs.Script.{BadScriptLine, Script, last_entries, and_field}

-- the first line that is bad, if there is one
abbrev pub bad_line : Script → Option BadScriptLine
bad_line (last_entries es bad) = bad
bad_line (and_field es m rest) = bad_line rest

-- the fields that are added, in order
abbrev pub fields_of_script : Script → List MemberData
fields_of_script (last_entries es bad) = []
fields_of_script (and_field es m rest) = m ∷ fields_of_script rest

-- entries in clusters of so many, each entry with the zeros of fields that were added behind it
abbrev pub clusters_before : ℕ → List MemberData → List TreesData → List (List TreesData)
clusters_before most later es = map (filled (zero_parts (parts_of later))) (chunks most es)

-- the clusters of a script: those of each segment, one behind the other
abbrev pub script_clusters : ℕ → Script → List (List TreesData)
script_clusters most (last_entries es bad) = chunks most es
script_clusters most (and_field es m rest) = clusters_before most (m ∷ fields_of_script rest) es ++ script_clusters most rest

-- a table grew by the fields of a script, each added behind all entries before it; so many came before the script
abbrev pub GrowsByScript : Bool → Table → ℕ → Script → Table → Type 0
GrowsByScript plain t before (last_entries es bad) new = new ≡ t
GrowsByScript plain t before (and_field es m rest) new =
    (s : Table) × Added t m plain (before + length es) s × GrowsByScript plain s (before + length es) rest new
