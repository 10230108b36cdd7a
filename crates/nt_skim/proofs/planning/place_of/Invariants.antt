use Rattle.std.proofs.Common.{◌≡◌, ◌≤◌}
use Rattle.nt_skim.specs.Planning.{open_place}
use Rattle.nt_skim.proofs.planning.place_of.Given as goal

-- the open fields before this one are counted
abbrev pub invariant-loop-k : goal.invariant-loop-k
invariant-loop-k l = record { few : l.place ≤ l.k; counted : l.place ≡ open_place l.schema l.k }
