use Rattle.std.proofs.Common.{◌≡◌, map, ℕ, List, drop}
use Rattle.nt_types.specs.Views.{member_view}
use Rattle.nt_types.specs.Names.{names_differ, are_new}
use Rattle.nt_types.specs.Seen.{KnowsNames}
use Rattle.nt_writable.proofs.names.names_differ.Given as goal

abbrev pub invariant-loop-member : goal.invariant-loop-member
invariant-loop-member l =
    (seen : List (List ℕ)) × KnowsNames l.seen seen ×
    (are_new seen (map member_view (drop l.member-index l.members)) ≡ names_differ (map member_view l.members))
