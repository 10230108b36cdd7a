use Rattle.std.proofs.Common.{◌%◌, arith}
use Rattle.nt_draws.specs.Draws.{drawn}
use Rattle.nt_draws.specs.Events.{event_fields, event_trees, drawn_ids, ids_count, after_event}
use Rattle.nt_draws.proofs.Fields.{event_fields-rules, event-fits, event-bytes}
use Rattle.nt_draws.proofs.Pieces.{made_line-no_lf, made_line-short}
use Rattle.nt_draws.proofs.laws.made_lines_are_read.Goals as goal

pub returns-clause-fields : goal.returns-clause-fields
returns-clause-fields c = event_fields-rules

pub returns-clause-read : goal.returns-clause-read
returns-clause-read c s =
    let short = made_line-short s in
    let trees = event_trees (drawn s % 1000) (drawn_ids (ids_count s) (drawn (drawn s))) (after_event s % 10) in
    c.lines_are_read_back.ensures event_fields trees event_fields-rules (event-fits s) (event-bytes s) (omega (arith, short))

pub returns-clause-one_line : goal.returns-clause-one_line
returns-clause-one_line c = made_line-no_lf

pub returns-clause-short : goal.returns-clause-short
returns-clause-short c = made_line-short
