use Rattle.std.proofs.Common.{List, ◌∙◌, ap, arith}
use Rattle.std.proofs.lemmas.List.{take_all}
use Rattle.nt_grammar.specs.declared.rows.FieldRow.{FieldRow}
use Rattle.nt_schema.specs.ByName.{found, find_from}
use Rattle.nt_schema.proofs.ByName.{found-next}
use Rattle.nt_schema.proofs.by_name.names_of.Goals as goal

pub loop-id-preserved : goal.loop-id-preserved
loop-id-preserved c = found-next c.args.rows.now c.loop-id.id c.index-rows-id.result (found c.loop-id.names)
    (found c.add_field.new.names) c.loop-id-test.true c.index-rows-id.is c.loop-id.invariant c.in_ok-add_field.ensures

pub returns : goal.returns
returns c = λ name. c.loop-id.invariant name
    ∙ ap (λ (rows : List FieldRow). find_from 0 rows name) (take_all c.loop-id.id c.args.rows.now (omega (arith, c.loop-id-test.false)))
