use Rattle.nt_finished.proofs.AddedFields.{fields-lacked}
use Rattle.nt_finished.proofs.added.added_fields_are_lacked.Goals as goal

pub returns : goal.returns
returns c = λ before t new fields described few few_new adds.
    fields-lacked c.added_fields_are_left_out.ensures.plan c.added_fields_are_left_out.ensures.zero before new t fields described few
    few_new.fields adds
