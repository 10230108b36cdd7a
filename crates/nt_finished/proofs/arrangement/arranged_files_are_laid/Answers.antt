use Rattle.nt_finished.proofs.LaidArranged.{arranged_ranged, laid-arranged, middle_arranged}
use Rattle.nt_finished.proofs.arrangement.arranged_files_are_laid.Goals as goal

pub returns-clause-ranged : goal.returns-clause-ranged
returns-clause-ranged c = arranged_ranged

pub returns-clause-laid : goal.returns-clause-laid
returns-clause-laid c = laid-arranged

pub returns-clause-parts : goal.returns-clause-parts
returns-clause-parts c = middle_arranged
