use Rattle.std.proofs.Common.{◌≡◌, ◌≤◌, ◌-◌, [], take, drop}
use Rattle.nt_types.specs.Reading.{read, start}
use Rattle.nt_types.specs.ReadingViews.{state_view}
use Rattle.nt_types.proofs.type_text.read_type.Given as goal

abbrev pub invariant-loop-i : goal.invariant-loop-i
invariant-loop-i l = record {
  order : l.from ≤ l.i;
  keep : l.reading.keep ≡ l.keep;
  rest : read l.keep (state_view l.reading) (take (l.i - l.from) (drop l.from l.text)) (drop l.i l.text) ≡ read l.keep start [] l.text;
}
