use Rattle.std.proofs.Common.{◌≡◌, ◌∙◌, ap, length, arith, ◌++◌, ◌∷◌, [], ◌-◌}
use Rattle.nt_book.specs.Books.{BookData}
use Rattle.nt_book.specs.Entries.{faulted_entry}
use Rattle.nt_append.proofs.ListAppended.{list-sum, list-spare, due-appended, tear-fits, due-torn}
use Rattle.nt_append.proofs.lists.append_list.Goals as goal

pub append-requires-clause-sum : goal.append-requires-clause-sum
append-requires-clause-sum g c =
    let counted : c.len-len.result ≡ length c.args.list.items = omega (arith, c.len-len.ensures, c.args.list.ok) in
    list-sum (g.D.Disk.state c.args.disk.now) c.args.book.now c.args.list.items c.requires.may c.requires.due c.end-start.result
    c.len-len.result c.end-start.ensures counted c.as_slice.result.now (c.as_slice.ensures ∙ c.blob_at-blob.ensures)

pub append-requires-clause-spare : goal.append-requires-clause-spare
append-requires-clause-spare g c =
    let counted : c.len-len.result ≡ length c.args.list.items = omega (arith, c.len-len.ensures, c.args.list.ok) in
    list-spare (g.D.Disk.state c.args.disk.now) c.args.book.now c.args.list.items c.requires.may c.requires.due c.end-start.result
    c.len-len.result c.end-start.ensures counted c.as_slice.result.now (c.as_slice.ensures ∙ c.blob_at-blob.ensures)

pub returns-in-Ok-clause-ok : goal.returns-in-Ok-clause-ok
returns-in-Ok-clause-ok g c =
    let counted : c.len-len.result ≡ length c.args.list.items = omega (arith, c.len-len.ensures, c.args.list.ok) in
    let told = c.in-Ok.ensures in
    due-appended (g.D.Disk.state c.args.disk.now) c.args.book.now c.args.list.items c.requires.may c.requires.due c.end-start.result
    c.len-len.result c.end-start.ensures counted c.as_slice.result.now (c.as_slice.ensures ∙ c.blob_at-blob.ensures)
    (g.D.Disk.state c.append.new.self) c.note_list.new.self c.link_of.result c.link_of.ensures c.note_list.ensures
    told.ok told.end_ok told.out told.cause.later told.spare

pub tear-requires-clause-fits : goal.tear-requires-clause-fits
tear-requires-clause-fits g c =
    let counted : c.len-len.result ≡ length c.args.list.items = omega (arith, c.len-len.ensures, c.args.list.ok) in
    let fits = tear-fits (g.D.Disk.state c.args.disk.now) c.args.book.now c.args.list.items c.requires.may c.requires.due
    c.end-start.result c.len-len.result c.end-start.ensures counted c.as_slice.result.now (c.as_slice.ensures ∙ c.blob_at-blob.ensures)
    (g.D.Disk.state c.append.new.self) c.args.book.now c.in-Err.ensures.end_most in
    omega (arith, fits, c.end.ensures)

pub returns-clause-err : goal.returns-clause-err
returns-clause-err g c =
    let counted : c.len-len.result ≡ length c.args.list.items = omega (arith, c.len-len.ensures, c.args.list.ok) in
    let told = c.in-Err.ensures in
    due-torn (g.D.Disk.state c.args.disk.now) c.args.book.now c.args.list.items c.requires.may c.requires.due c.end-start.result
    c.len-len.result c.end-start.ensures counted c.as_slice.result.now (c.as_slice.ensures ∙ c.blob_at-blob.ensures)
    (g.D.Disk.state c.append.new.self) c.fault.new.self c.args.context c.faults-faults.result c.end.result _ c.faults-faults.ensures
    c.end.ensures (c.fault.ensures.book ∙ ap (λ (x : BookData). record x {
      history = x.history ++ faulted_entry c.args.context c.faults-faults.result ∷ [];
      spare = x.spare - 1;
    }) c.tear.ensures) told.err told.out told.cause.failed
