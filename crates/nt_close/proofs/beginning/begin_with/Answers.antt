use Rattle.std.proofs.Common.{◌≡◌, ◌∙◌, ◌+◌, ap, true, false, length, replicate, Some, rules}
use Rattle.std.proofs.lemmas.Result.{err_from_is_err_and}
use Rattle.nt_book.specs.Books.{BookData}
use Rattle.nt_layout.specs.Arranged.{group_for}
use Rattle.nt_close.specs.Beginning.{new_book}
use Rattle.nt_close.proofs.Begun.{book_of, begun-is, begin-cut}
use Rattle.nt_close.proofs.beginning.begin_with.Goals.{then-params, else-params}
use Rattle.nt_close.proofs.beginning.begin_with.Goals as goal

pub returns-in_err-write_head-clause-refused : goal.returns-in_err-write_head-clause-refused
returns-in_err-write_head-clause-refused g c =
    let p = err_from_is_err_and c.from_residual-in_err-write_head.result c.from_residual-in_err-write_head.ensures.1 in
    rw (p.1, p.2) (begin-cut _ _ c.in_ok-header.ensures.within _ _ _ _ _ (g.D.Disk.state c.args.disk.now)
    (g.D.Disk.state c.room.new.self) (g.D.Disk.state c.write_head.new.disk) _
    c.deref.ensures.value c.in_ok-header.ensures.ok c.room.ensures c.requires.empty c.in_err-write_head.ensures.cut c.write_head.ensures.out
    c.in_err-write_head.ensures.cause.failed)

pub returns-clause-begun : goal.returns-clause-begun
returns-clause-begun g c =
    let t = c.args.schema.now in
    let p = c.args.params.now in
    let within = c.in_ok-header.ensures.within in
    let sum = c.in_ok-header.header.sum in
    let long : c.len.result ≡ length c.in_ok-header.header.bytes.items = search rules in
    let is : c.if-params.book ≡ record (new_book t p) {
      begin = 226 + c.len.result;
      firsts = replicate c.columns.result 0;
      group = group_for p.staged p.group sum;
    } =
    elim c.if-params.branch [
      | then-params w ↦ book_of p t within _ _ sum _ true (cc)
          (w.book-is ∙ (w.stage_all.ensures ∙ ap (λ (b : BookData). record b { staged = true }) c.in_ok-book.ensures))
      | else-params w ↦ book_of p t within _ _ sum _ false (cc)
          (w.book-is ∙ (w.group_by.ensures ∙ ap (λ (b : BookData). record b { group = Some (p.group, sum) }) c.in_ok-book.ensures))
    ] in
    begun-is _ _ within _ _ _ _ _ _ _ _ (g.D.Disk.state c.args.disk.now)
    (g.D.Disk.state c.room.new.self) (g.D.Disk.state c.write_head.new.disk) _ is
    long c.columns.ensures c.deref.ensures.value c.in_ok-header.ensures.ok c.room.ensures c.requires.empty c.requires.end
    c.in_ok-write_head.ensures.ok c.write_head.ensures.out c.write_head.ensures.cause.later
