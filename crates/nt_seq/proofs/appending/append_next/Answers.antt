use Rattle.std.proofs.Common.{◌∙◌, ap, refl, List, length}
use Rattle.nt_machine.specs.History.{Cluster}
use Rattle.nt_book.specs.declared.meta.ClusterMeta.{ClusterMeta}
use Rattle.nt_pagelists.proofs.Named.{clusters-unstaged}
use Rattle.nt_commit.specs.Claims.{limit_in}
use Rattle.nt_append.specs.Appending.{range_behind}
use Rattle.nt_seq.proofs.Beside.{limits-unstaged}
use Rattle.nt_seq.proofs.appending.append_next.Goals as goal

pub returns-in-Ok-clause-ok : goal.returns-in-Ok-clause-ok
returns-in-Ok-clause-ok g c =
    let laws = c.appended_parts_go_on.ensures in
    let image = c.args.image.now in
    let old = c.args.book.now in
    let new = c.append_image.new.book in
    let appends = c.in-Ok.ensures.ok in (
      record {
        appends = appends;
        beside = λ t most beside. laws.beside t most image.meta old new c.keeps.ensures beside appends.gains;
        sizes = λ t most beside sizes. laws.sizes t most image.meta old new c.keeps.ensures beside appends.gains sizes;
        parts = λ t most ranges beside long.
            laws.parts t most image.meta old new ranges (range_behind image old) c.keeps.ensures c.keeps-in-Ok.ensures beside appends.gains
            (long ∙ ap (λ (cs : List (Cluster ClusterMeta)). length cs) (clusters-unstaged old c.requires.not_staged));
      },
      refl,
    )

pub returns-in-Ok-clause-limits : goal.returns-in-Ok-clause-limits
returns-in-Ok-clause-limits g c = λ apart.
    limits-unstaged c.args.book.now c.args.image.now.meta.len _ _ c.requires.not_staged (c.in-Ok.ensures.limits apart)

pub returns-in-Err-Fault-clause-limits : goal.returns-in-Err-Fault-clause-limits
returns-in-Err-Fault-clause-limits g c = λ apart.
    let is = c.in-Err-Fault.field-0-is in
    limits-unstaged c.args.book.now c.args.image.now.meta.len _ _ c.requires.not_staged
    (c.in-Err-Fault.ensures.limits (λ same. apart (cc (is, same))) ∙ ap limit_in is)

pub returns-in-Err-clause-limits : goal.returns-in-Err-clause-limits
returns-in-Err-clause-limits g c = λ apart.
    limits-unstaged c.args.book.now c.args.image.now.meta.len _ _ c.requires.not_staged (c.in-Err.ensures.limits apart)
