use Rattle.std.proofs.Common.{sym, refl, subst, inl, []}
use Rattle.nt_types.specs.Views.{members_view}
use Rattle.nt_column.specs.Column.{columns_of}
use Rattle.nt_seq.specs.Written.{HasClusters}
use Rattle.nt_seq.proofs.Begun.{held-begun, clusters-none, writing-begun}
use Rattle.nt_seq.proofs.writer.SeqWriter.new.Goals as goal

pub invariant_of-result : goal.invariant_of-result
invariant_of-result g c =
    let fields = members_view c.args.fields.now in
    let p = c.args.params.now in
    let t = c.in-Ok-begin.schema in
    let book = c.in-Ok-begin.book in
    let state = g.D.Disk.state in
    let begun = c.in-Ok-begin.ensures.begun in
    let held = held-begun fields p (state c.args.disk) (state c.begin.new.disk) book t c.requires.unstaged begun c.requires.blank.held in
    rw (c.of-given.ensures, c.of-begun.ensures) (
      record {
        unclosed = λ h told. (_, held h told, record { blobs = []; steps = inl refl });
        writing = λ _. writing-begun state fields p c.args.disk c.begin.new.disk book t (columns_of c.in-Ok.columns)
            c.requires.unstaged begun c.requires.blank.held c.requires.blank.out
            (c.schemas_are_described.ensures fields p.plain t c.requires.fields begun.rows) (c.in-Ok.ensures t begun.rows);
      },
      c.new-in-Ok-begin.ensures _,
    )

pub returns-in-Ok-begin-clause-ok : goal.returns-in-Ok-begin-clause-ok
returns-in-Ok-begin-clause-ok g c =
    let fields = members_view c.args.fields.now in
    let p = c.args.params.now in
    let t = c.in-Ok-begin.schema in
    let book = c.in-Ok-begin.book in
    let state = g.D.Disk.state in
    let begun = c.in-Ok-begin.ensures.begun in
    record {
      begun = begun;
      written = subst (λ d. HasClusters (state d) (state c.begin.new.disk) t p book []) (sym c.of-given.ensures)
          (clusters-none fields p (state c.args.disk) (state c.begin.new.disk) book t c.requires.unstaged begun
          c.requires.blank.held);
      params = refl;
      given = c.of-given.ensures;
      first = c.of-begun.ensures;
      none = refl;
      alive = refl;
    }
