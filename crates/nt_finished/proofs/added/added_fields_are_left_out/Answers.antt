use Rattle.std.proofs.Common.{◌∙◌}
use Rattle.nt_grammar.specs.AsRead.{as_read}
use Rattle.nt_finished.proofs.AddedBegin.{added-left_out}
use Rattle.nt_finished.proofs.AddedFields.{zero-read}
use Rattle.nt_finished.proofs.added.added_fields_are_left_out.Goals as goal

pub returns-clause-plan : goal.returns-clause-plan
returns-clause-plan c = λ before t field new described few f.
    added-left_out t field f.plain f.written new described f.added before f.late
    (c.late_fields_are_planned.ensures t field f.plain f.written new described f.is few f.short f.added)

pub returns-clause-zero : goal.returns-clause-zero
returns-clause-zero c = λ fields columns shape id.
    c.plans_have_the_zeros_of_their_shapes.ensures fields columns (as_read shape) id ∙ zero-read shape
