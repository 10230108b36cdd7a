use Rattle.std.proofs.Common.{◌≡◌, ◌++◌, ◌∷◌, subst, arith}
use Rattle.std.specs.Prelude.{OnOk}
use Rattle.nt_types.specs.TreeData.{TreesData}
use Rattle.nt_event.specs.Json.{line_of}
use Rattle.nt_print.proofs.Optionals.{last-least, all-integers}
use Rattle.nt_print.proofs.optional.put_optionals.Goals as goal

pub overflow_sub-last : goal.overflow_sub-last
overflow_sub-last g c =
    omega (arith, c.last_of-last.ensures, last-least c.args.list.begin c.args.list.ends.now c.requires.steps)

pub returns-then-last-list-clause-ok : goal.returns-then-last-list-clause-ok
returns-then-last-list-clause-ok g c =
    let l = c.args.list in
    subst (λ (ts : TreesData). OnOk c.put_list.result (c.put_list.new.out.items ≡ c.args.out.now.items ++ c.args.mark ∷ line_of ts))
    (all-integers (g.C.Columns.elements c.args.columns.now) l.of.column l.of.bits l.of.signed l.begin l.ends.now c.last_of-last.result
    c.requires.steps c.last_of-last.ensures c.if-last-list.true (omega (arith, c.last_of-last.ensures, c.requires.within)))
    c.put_list.ensures.ok
