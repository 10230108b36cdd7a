use Rattle.std.proofs.Common.{subst, ◌∙◌, ℕ, Err}
use Rattle.nt_merge.specs.Copying.{CopiesLoaded, LeavesLoaded}
use Rattle.nt_reader.specs.Outlines.{numbered_cluster}
use Rattle.nt_merge.proofs.Left.{left-refused}
use Rattle.nt_merge.proofs.Read.{can-load, from-read, read-given, over-left, copies-left}
use Rattle.nt_merge.proofs.copying.copy_cluster.Goals as goal

pub put_copy-requires : goal.put_copy-requires
put_copy-requires g c =
    let file = (g.F.ReadAt.state c.args.file.now).bytes in
    let o = c.args.reader.now in
    record {
      loadable = can-load file c.args.k (numbered_cluster o c.args.k) o.table c.columns.result.now
          (from-read file c.args.k o c.columns.result.now c.in-Ok.cluster c.columns.ensures.loaded c.in-Ok.ensures.loaded);
      columns_are = c.requires.may.columns_are;
      not_staged = c.requires.may.not_staged;
      end = c.requires.may.end;
    }

pub returns-in-Ok-put_copy-clause-left : goal.returns-in-Ok-put_copy-clause-left
returns-in-Ok-put_copy-clause-left g c =
    let file = (g.F.ReadAt.state c.args.file.now).bytes in
    let o = c.args.reader.now in
    let l = c.columns.result.now in
    let columns = c.args.target.now.columns in
    let old = g.D.Disk.state c.args.disk.now in
    let new = g.D.Disk.state c.put_copy.new.disk in
    copies-left c.loaded_pages_are_stored.ensures.columns file o c.args.k columns l c.args.target.now.book
    (from-read file c.args.k o l c.in-Ok.cluster c.columns.ensures.loaded c.in-Ok.ensures.loaded)
    (λ b told. read-given file b c.args.k o l c.in-Ok.cluster c.columns.ensures.loaded c.in-Ok.ensures.loaded (c.in-Ok.ensures.read b told))
    c.keyed_images_are_copies.ensures old new c.put_copy.new.target.book
    (subst (λ (n : ℕ). CopiesLoaded l columns n old new c.args.target.now.book c.put_copy.new.target.book)
    (c.entries.ensures ∙ c.in-Ok.ensures.loaded.entries) c.in-Ok-put_copy.ensures.left)

pub returns-in-Err-put_copy-clause-left : goal.returns-in-Err-put_copy-clause-left
returns-in-Err-put_copy-clause-left g c =
    let file = (g.F.ReadAt.state c.args.file.now).bytes in
    let o = c.args.reader.now in
    let l = c.columns.result.now in
    let columns = c.args.target.now.columns in
    let old = g.D.Disk.state c.args.disk.now in
    let new = g.D.Disk.state c.put_copy.new.disk in
    let error = c.in-Err-put_copy.error in
    left-refused file o c.args.k columns old new c.args.target.now.book c.put_copy.new.target.book l
    (over-left c.loaded_pages_are_stored.ensures.columns file o c.args.k columns l c.args.target.now.book
    (from-read file c.args.k o l c.in-Ok.cluster c.columns.ensures.loaded c.in-Ok.ensures.loaded)
    (λ b told.
    read-given file b c.args.k o l c.in-Ok.cluster c.columns.ensures.loaded c.in-Ok.ensures.loaded (c.in-Ok.ensures.read b told)))
    error
    (subst (λ (n : ℕ). LeavesLoaded l columns n old new c.args.target.now.book c.put_copy.new.target.book (Err error))
    (c.entries.ensures ∙ c.in-Ok.ensures.loaded.entries) c.in-Err-put_copy.ensures.left)
