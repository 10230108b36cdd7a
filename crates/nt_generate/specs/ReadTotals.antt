-- The totals of a file.
use Rattle.std.specs.Prelude.{ℕ, List, Result, Ok}
use Rattle.nt_num.specs.declared.fault.ReadError.{ReadError}
use Rattle.nt_lists.specs.Chaining.{◌>>=◌}
use Rattle.nt_types.specs.TreeData.{TreesData}
use Rattle.nt_grammar.specs.Table.{Table}
use Rattle.nt_file_meaning.specs.Outlines.{Outline}
use Rattle.nt_file_meaning.specs.Files.{entries_from, read_file}
use Rattle.nt_generate.specs.declared.total.Total.{Total}
use Rattle.nt_generate.specs.Totals.{totals_of}

-- the totals of so many contexts, by the entries of a file's clusters and the order of their commits; or the file's first fault
abbrev pub totals_in : ℕ → List ℕ → List ℕ → Result (List Total) ReadError
totals_in contexts order file = read_file file >>= λ (read : Table × List (List TreesData)). Ok (totals_of contexts order read.1)

-- the same of a file with this outline
abbrev pub outline_totals : ℕ → List ℕ → Outline → List ℕ → Result (List Total) ReadError
outline_totals contexts order o file =
    entries_from file o.table 0 o.clusters >>= λ (clusters : List (List TreesData)). Ok (totals_of contexts order clusters)
