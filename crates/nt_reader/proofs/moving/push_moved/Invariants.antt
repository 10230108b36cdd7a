use Rattle.std.proofs.Common.{◌≡◌, ◌+◌, ◌++◌, map, take}
use Rattle.nt_file_meaning.specs.Envelopes.{payload_start}
use Rattle.nt_file_meaning.specs.Outlines.{moved_cluster}
use Rattle.nt_reader.proofs.moving.push_moved.Given as goal

abbrev pub invariant-loop-i : goal.invariant-loop-i
invariant-loop-i l = l.list.items ≡ l.initial.list.items ++ map (moved_cluster (l.envelope + payload_start)) (take l.i l.clusters)
