use Rattle.std.proofs.Common.{codes, ◌∙◌, ap, arith, Option, ℕ}
use Rattle.std.specs.Prelude.{unwrap_or}
use Rattle.nt_command_line.specs.WriteWords.{write_app}
use Rattle.nt_command_line.proofs.Spoken.{number_by, in_range_or}
use Rattle.nt_command_line.proofs.write.contexts_in.Goals as goal

pub overflow_cast-result : goal.overflow_cast-result
overflow_cast-result c =
    let range = in_range_or 1 64 c.number_in.result c.args.inputs c.unwrap_or.result c.unwrap_or.ensures
    (c.number_in.ensures 1 64 c.requires.number).1 c.requires.inputs.0 c.requires.inputs.1 in
    omega (arith, range.1)

pub returns : goal.returns
returns c = λ words rows.
    let found = c.number_in.ensures 1 64 c.requires.number in
    let range = in_range_or 1 64 c.number_in.result c.args.inputs c.unwrap_or.result c.unwrap_or.ensures found.1 c.requires.inputs.0
    c.requires.inputs.1 in
    record {
      number = c.unwrap_or.ensures ∙ ap (λ (o : Option ℕ). unwrap_or o c.args.inputs)
          (number_by write_app words c.args.matches.now (codes "contexts") c.number_in.result rows found.0);
      some = range.0;
      few = range.1;
    }
