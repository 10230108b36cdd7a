use Rattle.nt_finished.proofs.Filling.{one-filled, all-filled}
use Rattle.nt_finished.proofs.late.earlier_clusters_are_filled.Goals as goal

pub returns-clause-one : goal.returns-clause-one
returns-clause-one c = λ file t new p k es held unlisted out.
    one-filled file t new p k (c.columns_differ.ensures new) (c.late_fields_have_needs.ensures.before t new p out.grows)
    (c.late_fields_have_needs.ensures.behind t new p out.grows) (c.columns_without_fault_are_sound.ensures.one p) es held unlisted out

pub returns-clause-all : goal.returns-clause-all
returns-clause-all c = all-filled (λ file t new p k es held unlisted out.
    one-filled file t new p k (c.columns_differ.ensures new) (c.late_fields_have_needs.ensures.before t new p out.grows)
    (c.late_fields_have_needs.ensures.behind t new p out.grows) (c.columns_without_fault_are_sound.ensures.one p) es held unlisted out)
