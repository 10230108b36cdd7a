use Rattle.std.proofs.Common.{◌≡◌, map, take}
use Rattle.nt_types.specs.TreeViews.{tree_view}
use Rattle.nt_show.proofs.FieldLines.{code_at}
use Rattle.nt_show.proofs.fields.codes_of.Given as goal

-- the codes of the columns so far
abbrev pub invariant-loop-column : goal.invariant-loop-column
invariant-loop-column l = map tree_view l.codes.items ≡ map (code_at l.schema.columns) (take l.column-index l.column-items)
