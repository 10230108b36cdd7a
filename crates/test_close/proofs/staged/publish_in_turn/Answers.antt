use Rattle.std.proofs.Common.{◌∙◌, ap, List, ℕ, ◌++◌, ◌∷◌, []}
use Rattle.nt_machine.specs.Deal.{times}
use Rattle.test_close.proofs.staged.publish_in_turn.Goals as goal

pub publish-requires-clause-filled : goal.publish-requires-clause-filled
publish-requires-clause-filled c = record { staged = c.requires.staged; filled = c.requires.filled }

pub publish-requires-clause-before : goal.publish-requires-clause-before
publish-requires-clause-before c = ap (λ (l : List ℕ). times 1 l) c.requires.unpublished

pub publish-requires-then-all-clause-before : goal.publish-requires-then-all-clause-before
publish-requires-then-all-clause-before c =
    ap (λ (l : List ℕ). times 0 l) (c.in_ok-publish.ensures.publishers ∙ ap (λ (l : List ℕ). l ++ 1 ∷ []) c.requires.unpublished)
