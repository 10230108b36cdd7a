use Rattle.std.proofs.Common.{◌<◌, ◌≤◌, ◌++◌, ◌∷◌, length, take, ap, ◌∙◌, arith}
use Rattle.std.proofs.lemmas.List.{length-drop}
use Rattle.serde_json.specs.Written.{compact_text}
use Rattle.nt_types.specs.TreeData.{text}
use Rattle.nt_event.specs.Json.{data_of}
use Rattle.nt_column.proofs.Numbers.{text-bytes}
use Rattle.nt_lines.proofs.Placed.{part-placed}
use Rattle.nt_lines.proofs.placing.place_quoted.Goals as goal

pub returns-clause-text : goal.returns-clause-text
returns-clause-text c = λ some.
    let count = c.place_text-count.result in
    let positive : 0 < count = omega (arith, c.if-count-eq0.false) in
    let few : count ≤ length c.place_text-count.new.room =
    omega (
      arith,
      c.place_text-count.ensures.few,
      c.place_text-count.ensures.len,
      c.if-bytes-left.false,
      c.if-left-lt3.false,
      c.requires,
      length-drop c.args.at c.args.room.now,
    ) in
    part-placed c.args.at count c.args.room.now c.place_text-count.new.room _ _ c.requires few (c.place_text-count.ensures.text positive)
    ∙ ap (λ l. take c.args.at c.args.room.now ++ c.args.mark ∷ compact_text (data_of (text l)))
    (text-bytes c.args.bytes.now c.type_inv.bytes)
