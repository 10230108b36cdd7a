use Rattle.std.proofs.Common.{◌∙◌, length, sym, ap}
use Rattle.std.proofs.lemmas.List.{length-replicate}
use Rattle.nt_encode.specs.Elements.{plain}
use Rattle.nt_view.specs.declared.table.Held.TheVariants.{Zeros}
use Rattle.nt_view.proofs.InTable.{held-is, count-in, sums-in}
use Rattle.nt_view.proofs.lookup.len.Goals as goal

pub returns-in-Zeros : goal.returns-in-Zeros
returns-in-Zeros c =
    sym (ap length (held-is c.args.store.now c.args.table.now c.args.column (Zeros c.in-Zeros.count) c.in-Zeros.ensures)
    ∙ length-replicate c.in-Zeros.count (plain 0))

pub returns-in-Pages : goal.returns-in-Pages
returns-in-Pages c =
    count-in c.args.store.now c.args.table.now c.args.column c.in-Pages.begin c.in-Pages.end c.in-Pages.count c.in-Pages.kind
    c.in-Pages.ensures c.requires

pub returns-in-Sums : goal.returns-in-Sums
returns-in-Sums c =
    c.len.ensures ∙ sym (ap length (sums-in c.args.store.now c.args.table.now c.args.column c.in-Sums.place c.index.result.now
    c.in-Sums.ensures c.index.ensures c.requires))
