use Rattle.std.proofs.Common.{◌≡◌, ◌≤◌, ◌+◌, ◌^◌}
use Rattle.std.specs.Prelude.{◌==◌}
use Rattle.std.specs.List.{slice_split}
use Rattle.nt_types.specs.Schema as schema
use Rattle.nt_types.specs.ProgressViews.{Follows}
use Rattle.nt_types.specs.TextLines.{lines_left, bytes_left}
use Rattle.nt_types.proofs.schema.read_lines.Given as goal

abbrev pub invariant-loop-rest : goal.invariant-loop-rest
invariant-loop-rest l =
    (s : schema.ProgressData) × Follows l.progress s × (s.line ≡ l.number + 1) × (l.number + bytes_left l.rest ≤ 2 ^ 20 + 1)
    × (schema.take_lines s (lines_left l.rest) ≡ schema.take_lines schema.first_line (slice_split (λ b. b == 10) l.fn.text))

abbrev pub decreases-loop-rest : goal.decreases-loop-rest
decreases-loop-rest l = bytes_left l.rest
