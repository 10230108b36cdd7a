use Rattle.nt_crash.proofs.Filling.{filling-shut}
use Rattle.nt_crash.proofs.Finishing.{filled-known, closing-leaves, closed-leaves}
use Rattle.nt_crash.proofs.laws.closing_leaves_unfinished_or_finished.Goals as goal

pub returns-clause-filled : goal.returns-clause-filled
returns-clause-filled c = λ staged t most book ranges log arranged filled. (
  filling-shut c.steps_stand.ensures.behind t log filled.filling,
  filled-known c.filled_files_are_known.ensures staged t most book ranges log arranged filled,
)

pub returns-clause-closing : goal.returns-clause-closing
returns-clause-closing c = λ staged t book most ranges h left arranged filled closed.
    closing-leaves c.steps_stand.ensures.behind c.filled_files_are_known.ensures staged t book most ranges arranged h filled left closed

pub returns-clause-closed : goal.returns-clause-closed
returns-clause-closed c = λ staged t book most ranges h arranged filled.
    closed-leaves c.steps_stand.ensures.behind c.filled_files_are_known.ensures staged t book most ranges arranged h filled
