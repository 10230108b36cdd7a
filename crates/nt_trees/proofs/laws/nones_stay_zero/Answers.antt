use Rattle.nt_trees.proofs.Nones.{tree-nones, trees-nones}
use Rattle.nt_trees.proofs.laws.nones_stay_zero.Goals as goal

pub returns-clause-tree : goal.returns-clause-tree
returns-clause-tree c = λ p t cols d z h. tree-nones p t cols d z h

pub returns-clause-entry : goal.returns-clause-entry
returns-clause-entry c = λ ps ts cols d z h. trees-nones ps ts cols d z h
