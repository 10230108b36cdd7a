use Rattle.std.proofs.Common.{map}
use Rattle.nt_types.specs.Views.{member_view}
use Rattle.nt_skim.proofs.Choosing.{HasChosen}
use Rattle.nt_skim.proofs.planning.fields_of.Given as goal

-- the fields of the names before this one were chosen
abbrev pub invariant-loop-name : goal.invariant-loop-name
invariant-loop-name l =
    HasChosen l.schema l.names l.name-index l.chosen.count l.chosen.places.items (map member_view l.chosen.fields.items) l.seen
