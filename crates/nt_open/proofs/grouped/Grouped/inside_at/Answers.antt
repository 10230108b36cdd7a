use Rattle.std.proofs.Common.{◌≡◌, get_or, arith}
use Rattle.std.proofs.lemmas.Grind.{common_steps}
use Rattle.nt_grammar.specs.Open.{ids_inside}
use Rattle.nt_open.proofs.Inner.{inside_small}
use Rattle.nt_open.proofs.grouped.Grouped.inside_at.Goals as goal

pub returns-in-Some-clause-small : goal.returns-in-Some-clause-small
returns-in-Some-clause-small c =
    let fs = c.args.self.now.fields.now in
    let is : c.in-Some.inside.now ≡ get_or (ids_inside c.args.id 0 fs) c.args.place 0 = grind (arith, common_steps) in
    omega (arith, is, inside_small c.args.id c.args.place fs (omega (arith, c.requires)))
