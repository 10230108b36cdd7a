use Rattle.std.proofs.Common.{◌≡◌, ◌+◌, ◌*◌, ◌++◌, List, map, drop}
use Rattle.std.specs.Prelude.{option_map}
use Rattle.nt_types.specs.ShapeData.{MemberData}
use Rattle.nt_types.specs.Views.{member_view}
use Rattle.nt_grammar.specs.Open.{all_some, open_field}
use Rattle.nt_open.proofs.fields.+open.Given as goal

abbrev pub invariant-open_fields-loop-id : goal.invariant-open_fields-loop-id
invariant-open_fields-loop-id l =
    all_some (map (open_field l.depth l.rows.fields.now l.rows.columns.now l.principal) l.ids)
    ≡ option_map (λ (rest : List MemberData). map member_view l.parts.items ++ rest)
    (all_some (map (open_field l.depth l.rows.fields.now l.rows.columns.now l.principal) (drop l.id-index l.ids)))

abbrev pub decreases-open_field : goal.decreases-open_field
decreases-open_field l = 4 * l.depth

abbrev pub decreases-open_fields : goal.decreases-open_fields
decreases-open_fields l = 4 * l.depth + 1

abbrev pub decreases-shape_by_role : goal.decreases-shape_by_role
decreases-shape_by_role l = 4 * l.depth + 2

abbrev pub decreases-open_row : goal.decreases-open_row
decreases-open_row l = 4 * l.depth + 3
