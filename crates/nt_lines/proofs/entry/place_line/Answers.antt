use Rattle.std.proofs.Common.{◌∙◌, arith}
use Rattle.nt_lines.proofs.Placed.{end-placed, kept-below}
use Rattle.nt_lines.proofs.entry.place_line.Goals as goal

pub returns-then-end-ne0-clause-kept : goal.returns-then-end-ne0-clause-kept
returns-then-end-ne0-clause-kept g c =
    kept-below c.args.from c.in_ok-count.at c.place_values.new.room c.place_line_end-end.new.room c.in_ok-count.ensures.room.0.0
    c.place_line_end-end.ensures.kept ∙ c.place_values.ensures.kept

pub returns-then-end-ne0-clause-room : goal.returns-then-end-ne0-clause-room
returns-then-end-ne0-clause-room g c =
    let old = c.place_values.new.room in
    let new = c.place_line_end-end.new.room in
    let text = c.place_line_end-end.ensures.text (omega (arith, c.if-end-ne0.true)) in
    let behind = end-placed c.in_ok-count.at c.place_line_end-end.result old new _ c.in_ok-count.ensures.room.0.1 text in (
      (omega (arith, c.in_ok-count.ensures.room.0.0, behind), c.place_line_end-end.ensures.within.0),
      c.place_line_end-end.ensures.within.1 ∙ c.in_ok-count.ensures.room.1,
    )

pub returns-clause-kept : goal.returns-clause-kept
returns-clause-kept g c =
    kept-below c.args.from c.in_ok-count.at c.place_values.new.room c.place_line_end-end.new.room c.in_ok-count.ensures.room.0.0
    c.place_line_end-end.ensures.kept ∙ c.place_values.ensures.kept
