use Rattle.std.proofs.Common.{◌<◌, subst, Err, arith}
use Rattle.nt_grammar.specs.Table.{Table}
use Rattle.nt_merge.specs.Merging.{all_numbered, MergesTold}
use Rattle.nt_merge.proofs.Merged.{begun-merging, closable-copy, serves-close}
use Rattle.nt_merge.proofs.Refused.{begin-refused, copies-refused}
use Rattle.nt_merge.proofs.Started.{merged-none}
use Rattle.nt_merge.proofs.merging.merge.Goals as goal

pub returns-in-Err-clause-told : goal.returns-in-Err-clause-told
returns-in-Err-clause-told g c = λ bytes tells outlines.
    let t = c.in_ok-schema.schema in
    let p = c.args.params.now in
    let old = g.D.Disk.state c.args.disk.now in
    let new = g.D.Disk.state c.begin_target.new.disk in
    let ns = all_numbered 0 bytes c.args.plan.now in
    let some : 0 < p.group = omega (arith, p.group_range.0) in
    subst (λ (u : Table). MergesTold u p ns old new (Err c.in-Err.error)) c.in_ok-schema.ensures.bare.is
    (begin-refused old new c.requires.blank.held t p ns
    (λ metas error passed. c.merges_pass_what_their_fronts_pass.ensures.begun t p metas error some passed) c.in-Err.error
    c.in-Err.ensures.refused)

pub close_target-requires : goal.close_target-requires
close_target-requires g c =
    let t = c.in_ok-schema.schema in
    let p = c.args.params.now in
    let old = g.D.Disk.state c.args.disk.now in
    let schema = c.in_ok-schema.ensures.bare in
    closable-copy t p old (g.D.Disk.state c.copy_files.new.disk) c.copy_files.new.target.book
    (c.in-Ok-copy_files.ensures.going t p old schema.copyable
    (begun-merging t p old (g.D.Disk.state c.begin_target.new.disk) c.in-Ok.target.book c.in-Ok.target.columns c.requires.unstaged
    c.in-Ok.ensures.begun c.requires.blank c.args.plan.now schema))

pub returns-in-Ok-copy_files-clause-served : goal.returns-in-Ok-copy_files-clause-served
returns-in-Ok-copy_files-clause-served g c =
    serves-close g.F.ReadAt.state c.args.files.now.items c.copy_files.new.files.items (g.D.Disk.state c.args.disk.now)
    (g.D.Disk.state c.begin_target.new.disk) (g.D.Disk.state c.copy_files.new.disk) (g.D.Disk.state c.close_target.new.disk)
    c.close_target.result c.in-Ok.ensures.begun.begun.later c.in-Ok-copy_files.ensures.served.later c.in-Ok-copy_files.ensures.served.kept
    c.close_target.ensures.served

pub returns-in-Ok-copy_files-clause-told : goal.returns-in-Ok-copy_files-clause-told
returns-in-Ok-copy_files-clause-told g c = λ bytes tells outlines.
    let t = c.in_ok-schema.schema in
    let p = c.args.params.now in
    let old = g.D.Disk.state c.args.disk.now in
    let begun = g.D.Disk.state c.begin_target.new.disk in
    let ns = all_numbered 0 bytes c.args.plan.now in
    let schema = c.in_ok-schema.ensures.bare in
    let merging = begun-merging t p old begun c.in-Ok.target.book c.in-Ok.target.columns c.requires.unstaged c.in-Ok.ensures.begun
    c.requires.blank c.args.plan.now schema in
    subst (λ (u : Table). MergesTold u p ns old (g.D.Disk.state c.close_target.new.disk) c.close_target.result) schema.is
    (c.close_target.ensures.told old (c.in-Ok-copy_files.ensures.going t p old schema.copyable merging) ns
    (c.in-Ok-copy_files.ensures.told t p old bytes tells schema.copyable merging
    (merged-none t p old begun c.in-Ok.target.book c.requires.unstaged c.in-Ok.ensures.begun.begun c.requires.blank.held ns)))

pub returns-clause-told : goal.returns-clause-told
returns-clause-told g c = λ bytes tells outlines.
    let t = c.in_ok-schema.schema in
    let p = c.args.params.now in
    let old = g.D.Disk.state c.args.disk.now in
    let begun = g.D.Disk.state c.begin_target.new.disk in
    let new = g.D.Disk.state c.copy_files.new.disk in
    let ns = all_numbered 0 bytes c.args.plan.now in
    let schema = c.in_ok-schema.ensures.bare in
    let merging = begun-merging t p old begun c.in-Ok.target.book c.in-Ok.target.columns c.requires.unstaged c.in-Ok.ensures.begun
    c.requires.blank c.args.plan.now schema in
    let failed = c.in-Err-copy_files.ensures in
    subst (λ (u : Table). MergesTold u p ns old new (Err c.in-Err-copy_files.error)) schema.is
    (copies-refused t p old new c.copy_files.new.target.book ns c.in-Err-copy_files.error (failed.going t p old schema.copyable merging)
    (failed.told t p old bytes tells schema.copyable merging
    (merged-none t p old begun c.in-Ok.target.book c.requires.unstaged c.in-Ok.ensures.begun.begun c.requires.blank.held ns)))
