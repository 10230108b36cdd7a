use Rattle.std.proofs.Common.{subst, ℕ, List}
use Rattle.nt_store.specs.Schemas.{TellsFields}
use Rattle.nt_store.proofs.Fronts.{schema_is_told}
use Rattle.nt_store.proofs.texts.read_schema.Goals as goal

pub returns-clause-told : goal.returns-clause-told
returns-clause-told g c w is =
    let opened = c.in_ok-text.ensures.text.left w is in
    schema_is_told _ _ c.in_ok-bytes.bytes.items _ opened.0 opened.1 c.in_ok-bytes.ensures.front (subst (λ (l : List ℕ). TellsFields l
    c.fields_of.result) c.deref.ensures.value c.fields_of.ensures.told)
