use Rattle.std.proofs.Common.{◌≡◌, ◌+◌, drop}
use Rattle.nt_print.specs.Optionals.{StepsOn, CountsOn}
use Rattle.nt_print.proofs.optional.first_run.Given as goal

abbrev pub invariant-loop-end : goal.invariant-loop-end
invariant-loop-end l = record {
  counted : CountsOn l.begin l.count l.ends;
  place : l.count ≡ l.end-index;
  last : l.last ≡ l.begin + l.count;
  steps : StepsOn l.last (drop l.end-index l.ends);
}
