use Rattle.std.proofs.Common.{◌≡◌, map, drop}
use Rattle.nt_types.specs.ShapeData.{parts_of}
use Rattle.nt_types.specs.Views.{member_view}
use Rattle.nt_writable.specs.Written.{named_by_places}
use Rattle.nt_writable.proofs.shape.named_by_places.Given as goal

abbrev pub invariant-loop-i : goal.invariant-loop-i
invariant-loop-i l =
    named_by_places l.i (parts_of (map member_view (drop l.i l.members))) ≡ named_by_places 0 (parts_of (map member_view l.members))
