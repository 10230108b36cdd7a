use Rattle.nt_lists.proofs.Parts.{behind_more, bytes_more, parts_whole}
use Rattle.nt_lists.proofs.laws.parts_make_the_whole.Goals as goal

pub returns-clause-behind : goal.returns-clause-behind
returns-clause-behind c = behind_more

pub returns-clause-bytes : goal.returns-clause-bytes
returns-clause-bytes c = bytes_more

pub returns-clause-whole : goal.returns-clause-whole
returns-clause-whole c = parts_whole
