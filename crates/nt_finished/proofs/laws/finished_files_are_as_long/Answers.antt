use Rattle.nt_finished.proofs.Lengths.{clusters_told, ranges-len, length-finished}
use Rattle.nt_finished.proofs.Arranged.{middle-end}
use Rattle.nt_layout.specs.Finished.{list_places, middle}
use Rattle.nt_finished.proofs.laws.finished_files_are_as_long.Goals as goal

pub returns-clause-ranges : goal.returns-clause-ranges
returns-clause-ranges c = λ t page clusters ranges book kept are. ranges-len t page clusters ranges _ are (clusters_told book kept)

pub returns-clause-file : goal.returns-clause-file
returns-clause-file c = λ staged t most ranges book begin lens.
    length-finished t book (list_places staged t book most) (middle staged t book most ranges)
    (middle-end t book most ranges staged begin lens)
