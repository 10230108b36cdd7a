use Rattle.std.proofs.Common.{ℕ, List, ◌∙◌}
use Rattle.std.proofs.lemmas.Result.{err_from_is_err_and}
use Rattle.nt_grammar.specs.Table.{Table}
use Rattle.nt_pagelists.specs.declared.group.Group.{Group}
use Rattle.nt_pagelists.specs.declared.cluster.ClusterList.{ClusterList}
use Rattle.nt_file_meaning.specs.Outlines.{Outline}
use Rattle.nt_reader.proofs.Chains.{anchor-fails, described-fails, clusters-fails, outline-done}
use Rattle.nt_reader.proofs.reader.Reader.attach.Goals as goal

pub returns-in_err-anchor-clause-read : goal.returns-in_err-anchor-clause-read
returns-in_err-anchor-clause-read g c told is =
    let p = err_from_is_err_and c.from_residual.result c.from_residual.ensures.1 in
    rw (p.1, p.2) (anchor-fails (λ (o : Outline). o) told _ (c.in_err-anchor.ensures.read told is))

pub returns-in_err-said-clause-read : goal.returns-in_err-said-clause-read
returns-in_err-said-clause-read g c told is =
    let anchored = c.in_ok-anchor.ensures.file.same ∙ is in
    let sized = c.size.ensures.same ∙ anchored in
    let p = err_from_is_err_and c.from_residual-in_err-said.result c.from_residual-in_err-said.ensures.1 in
    rw (p.1, p.2) (described-fails (λ (s : Table × List Group × ℕ). s) (λ (o : Outline). o) told _ _ (c.in_ok-anchor.ensures.read told is)
    (c.in_err-said.ensures.read told sized))

pub returns-in_err-clusters-clause-read : goal.returns-in_err-clusters-clause-read
returns-in_err-clusters-clause-read g c told is =
    let anchored = c.in_ok-anchor.ensures.file.same ∙ is in
    let sized = c.size.ensures.same ∙ anchored in
    let described = c.in_ok-said.ensures.file.same ∙ sized in
    let p = err_from_is_err_and c.from_residual-in_err-clusters.result c.from_residual-in_err-clusters.ensures.1 in
    rw (p.1, p.2)
    (clusters-fails (λ (ks : List ClusterList). ks) (λ (o : Outline). o) told _ _ _ (c.in_ok-anchor.ensures.read told is)
    (c.in_ok-said.ensures.read told sized)
    (c.in_err-clusters.ensures.read told described))

pub returns-clause-read : goal.returns-clause-read
returns-clause-read g c told is =
    let anchored = c.in_ok-anchor.ensures.file.same ∙ is in
    let sized = c.size.ensures.same ∙ anchored in
    let described = c.in_ok-said.ensures.file.same ∙ sized in
    outline-done told _ _ _ (c.in_ok-anchor.ensures.read told is) (c.in_ok-said.ensures.read told sized)
    (c.in_ok-clusters.ensures.read told described)
