use Rattle.std.proofs.Common.{◌≡◌, ◌+◌, map, take}
use Rattle.nt_file_meaning.specs.Envelopes.{payload_start}
use Rattle.nt_file_meaning.specs.Outlines.{moved_column}
use Rattle.nt_reader.proofs.moving.moved_columns.Given as goal

abbrev pub invariant-loop-i : goal.invariant-loop-i
invariant-loop-i l = l.moved.items ≡ map (moved_column (l.envelope + payload_start)) (take l.i l.columns)
