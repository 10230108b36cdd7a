use Rattle.nt_dealing.proofs.Lengths.{length-list_object}
use Rattle.nt_dealing.proofs.Files.{length-footer_object, length-file}
use Rattle.nt_dealing.proofs.sizes.files_are_as_long_as_their_clusters_say.Goals as goal

pub returns-clause-lists : goal.returns-clause-lists
returns-clause-lists c sum book s = length-list_object book sum s

pub returns-clause-footer : goal.returns-clause-footer
returns-clause-footer c = length-footer_object

pub returns-clause-file : goal.returns-clause-file
returns-clause-file c = length-file
