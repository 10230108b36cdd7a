use Rattle.nt_finished.proofs.Parts.{parts_written, ranges_written}
use Rattle.nt_finished.proofs.laws.finished_files_are_parts.Goals as goal

pub returns-clause-parts : goal.returns-clause-parts
returns-clause-parts c = λ staged t most ranges book begin lens. parts_written t most ranges book begin lens staged

pub returns-clause-behind : goal.returns-clause-behind
returns-clause-behind c = ranges_written
