-- Chunks that fit pass no limit.
use Rattle.std.proofs.Common.{ℕ, List, arith}
use Rattle.nt_types.specs.TreeData.{TreesData}
use Rattle.nt_grammar.specs.Table.{Table}
use Rattle.nt_book.specs.declared.params.Params.{Params}
use Rattle.nt_dealing.specs.Limits.{WholeFits, IsOver, range_passed, file_passed, too_many}

pub passes_none : (t : Table) (p : Params) (chunks : List (List TreesData)) (reached limit : ℕ) → WholeFits t p chunks
    → IsOver t p chunks reached limit → ⊥
passes_none t p chunks reached limit fits (range_passed blob is above) = omega (arith, fits.blobs reached blob, is, above)
passes_none t p chunks reached limit fits (file_passed metas counted within is above) =
    omega (arith, fits.file metas counted, within, is, above)
passes_none t p chunks reached limit fits (too_many is reached_is above) = omega (arith, fits.few, is, above)
