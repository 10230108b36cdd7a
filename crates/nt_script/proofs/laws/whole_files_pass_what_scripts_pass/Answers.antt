use Rattle.nt_script.proofs.Fitted.{fits_may}
use Rattle.nt_script.proofs.WholePassed.{whole_passed, fits_none}
use Rattle.nt_script.proofs.laws.whole_files_pass_what_scripts_pass.Goals as goal

pub returns-clause-passed : goal.returns-clause-passed
returns-clause-passed c fields p s reached most first table rows grows passes =
    whole_passed fields p s reached most first table rows grows passes

pub returns-clause-fits : goal.returns-clause-fits
returns-clause-fits c = fits_none

pub returns-clause-may : goal.returns-clause-may
returns-clause-may c = fits_may
