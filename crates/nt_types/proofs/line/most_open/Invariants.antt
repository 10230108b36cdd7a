use Rattle.std.proofs.Common.{◌≡◌, ◌≤◌, drop}
use Rattle.nt_types.specs.Lines.{most_open}
use Rattle.nt_types.proofs.line.most_open.Given as goal

abbrev pub invariant-loop-byte : goal.invariant-loop-byte
invariant-loop-byte l = record {
  now : l.now ≤ l.byte-index;
  most : l.most ≤ l.byte-index;
  rest : most_open l.now l.most (drop l.byte-index l.text) ≡ most_open 0 0 l.text;
}
