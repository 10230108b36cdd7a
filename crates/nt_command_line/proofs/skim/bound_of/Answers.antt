use Rattle.std.proofs.Common.{◌≡◌, ◌∙◌, sym, subst, to_z-of_z}
use Rattle.nt_command_line.specs.SkimWords.{IsBound}
use Rattle.nt_command_line.proofs.Bounds.{bound_is_read, bound_fits, read_is}
use Rattle.nt_command_line.proofs.skim.bound_of.Goals as goal

pub returns-in_default-clause-none : goal.returns-in_default-clause-none
returns-in_default-clause-none c = λ none z is.
    let bad = sym c.in_default.is ∙ bound_is_read c.args.word.now z c.parse.result is c.parse.ensures.value.0 in
    cc

pub returns-then-not-is_bound-clause-none : goal.returns-then-not-is_bound-clause-none
returns-then-not-is_bound-clause-none c = λ none z is.
    let word = c.args.word.now in
    let same : z ≡ c.in-Ok.number =
    read_is z c.in-Ok.number c.parse.result (bound_is_read word z c.parse.result is c.parse.ensures.value.0) c.in-Ok.is in
    let bound : IsBound word c.in-Ok.number = subst (IsBound word) same is in
    c.if-not-is_bound.ensures (subst (IsBound word) (sym (to_z-of_z (bound_fits word c.in-Ok.number bound))) bound)
