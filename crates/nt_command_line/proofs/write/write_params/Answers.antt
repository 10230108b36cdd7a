use Rattle.std.proofs.Common.{codes, subst, Bool}
use Rattle.nt_command_line.specs.Options.{AreParamsSaid}
use Rattle.nt_command_line.specs.WriteWords.{write_app}
use Rattle.nt_command_line.proofs.Spoken.{flag_by}
use Rattle.nt_command_line.proofs.write.write_params.Goals as goal

pub returns : goal.returns
returns c = λ words rows.
    subst (λ (b : Bool). AreParamsSaid write_app words b c.params_in.result)
    (flag_by write_app words c.args.matches.now (codes "staged") c.flag_in.result rows c.flag_in.ensures)
    (c.params_in.ensures write_app words rows)
