use Rattle.std.proofs.Common.{rules, arith}
use Rattle.std.specs.Str.{IsUtf8}
use Rattle.nt_types.specs.Views.{members_view}
use Rattle.nt_types.specs.TreeViews.{trees_view}
use Rattle.nt_event.specs.Standing.{IsWritten}
use Rattle.nt_event.proofs.Fast.{written_entry}
use Rattle.nt_event.proofs.entry.read_line.Goals as goal

pub returns-in-Ok-Some-clause-ok : goal.returns-in-Ok-Some-clause-ok
returns-in-Ok-Some-clause-ok c =
    let ps = members_view c.args.fields.now in
    let ts = trees_view c.in-Ok-Some.trees in
    let bytes = c.args.bytes.now in
    let written : IsWritten ps ts bytes = search (rules, c.in-Ok-Some.ensures, c.in-Ok-Some.field-0-is) in
    let utf8 : IsUtf8 bytes = search (rules, c.in-Ok.ensures.cases, c.in-Ok.is) in
    written_entry ps ts bytes (omega (arith, c.if-bytes.false)) utf8 written
