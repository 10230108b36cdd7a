use Rattle.std.proofs.Common.{◌≡◌, ◌∙◌, sym, None, arith}
use Rattle.std.proofs.lemmas.Bool.Decides.{nat_tests}
use Rattle.std.proofs.lemmas.Grind.{common_steps}
use Rattle.nt_schema.specs.ByName.{found}
use Rattle.nt_schema.proofs.ByName.{added, none_found}
use Rattle.nt_schema.proofs.by_name.add_field.Goals as goal

pub returns-in_ok-insert : goal.returns-in_ok-insert
returns-in_ok-insert c = λ n.
    let copied : c.in_ok-to_vec.field-0.items ≡ c.args.row.now.name =
    grind (arith, common_steps, c.in_ok-to_vec.ensures.items_if_clones_equal) in
    let none : found c.args.names.now c.args.row.now.name ≡ None =
    rw (← c.as_slice-name.ensures) (sym c.get.ensures.value
    ∙ none_found c.get.result c.is_none.result c.is_none.ensures c.if-is_none.true) in
    added c.args.names.now c.insert.new.self c.in_ok-to_vec.field-0 c.args.row.now.name c.args.row.now.parent c.args.id
    (grind (arith, nat_tests)) copied none c.in_ok-insert.ensures.updates n
