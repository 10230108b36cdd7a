use Rattle.std.proofs.Common.{ℕ, List, ◌∙◌}
use Rattle.std.proofs.lemmas.Result.{err_from_is_err_and}
use Rattle.nt_grammar.specs.Table.{Table}
use Rattle.nt_pagelists.specs.declared.group.Group.{Group}
use Rattle.nt_listing.proofs.Chains.{fails-as}
use Rattle.nt_reader.proofs.Chains.{first-fails, first-done}
use Rattle.nt_reader.proofs.describing.read_described.Goals as goal

pub returns-in_err-schema-clause-read : goal.returns-in_err-schema-clause-read
returns-in_err-schema-clause-read g c told is =
    let p = err_from_is_err_and c.from_residual.result c.from_residual.ensures.1 in
    rw (p.1, p.2) (first-fails (λ (s : Table × List Group × ℕ). s) told c.args.anchor.now _ (λ (f : Table × ℕ). f)
    (c.in_err-schema.ensures.read told is))

pub returns-in_err-groups-clause-read : goal.returns-in_err-groups-clause-read
returns-in_err-groups-clause-read g c told is =
    let p = err_from_is_err_and c.from_residual-in_err-groups.result c.from_residual-in_err-groups.ensures.1 in
    rw (p.1, p.2)
    (fails-as (λ (s : Table × List Group × ℕ). s) (λ (s : Table × List Group × ℕ). s) _ _ _
    (first-done told c.args.anchor.now _ (c.in_ok-schema.ensures.read told is))
    (c.in_err-groups.ensures.read told (c.in_ok-schema.ensures.file.same ∙ is)))

pub returns-clause-read : goal.returns-clause-read
returns-clause-read g c told is =
    first-done told c.args.anchor.now _ (c.in_ok-schema.ensures.read told is)
    ∙ c.in_ok-groups.ensures.read told (c.in_ok-schema.ensures.file.same ∙ is)
