use Rattle.std.proofs.Common.{◌∙◌, ap, sym, refl, subst, ℕ, ◌-◌, List, [], ◌++◌, length, drop, arith}
use Rattle.std.specs.Prelude.{IsSome}
use Rattle.std.proofs.lemmas.Result.{err_from_is_err_and}
use Rattle.nt_container.specs.Spelling.{blob_key}
use Rattle.nt_book.specs.declared.meta.ClusterMeta.{ClusterMeta}
use Rattle.nt_column.specs.Column.{Column, columns_of}
use Rattle.nt_pages.specs.Image.{key_room}
use Rattle.nt_pages.specs.Metas.{cluster_meta}
use Rattle.nt_layout.specs.Laid.{Gives}
use Rattle.nt_fill.specs.Context.{entries_given}
use Rattle.nt_fill.specs.Passes.{FailsToWrite, IsUnpublished}
use Rattle.nt_fill.proofs.Entries.{entries_count, gathered_length}
use Rattle.nt_fill.proofs.Emptied.{emptied_gives}
use Rattle.nt_fill.proofs.Images.{image_for, blob_of}
use Rattle.nt_fill.proofs.flushing.FillContext+D.flush.Goals as goal

pub write_image-requires : goal.write_image-requires
write_image-requires g c =
    let t = c.self.inside.schema.now in
    let columns = columns_of c.self.inside.store.columns in
    let n = c.self.inside.store.entries in
    let page = c.self.inside.store.page in
    let number = c.self.inside.pass.number in
    let is = c.in_ok-image.ensures.meta ∙ (ap (λ (i : ℕ). cluster_meta page i n columns) c.number.ensures
    ∙ ap (λ (m : ℕ). cluster_meta page number m columns) (sym (entries_count t columns n))) in
    record {
      of = c.self.invariant.0.of;
      staged_is = c.self.invariant.0.staged_is;
      unpublished = subst (λ s. IsUnpublished s.staged s.pass) (sym c.self.view_is) c.requires.alive.unpublished;
      none_out = c.self.invariant.0.none_out;
      filled = c.self.invariant.0.filled;
      alive = subst (λ s. IsSome s.pen) (sym c.self.view_is) c.requires.alive.alive;
      image_is = image_for t columns (entries_given t columns n) c.self.invariant.0.gives page number
          c.self.inside.committer.now.birth.columns
          (c.columns_have_types.ensures t) c.self.invariant.0.some c.self.invariant.0.count c.self.invariant.0.page
          c.in_ok-image.image c.in_ok-image.ensures.bytes is;
    }

pub returns-in_err-write_image-clause-nothing : goal.returns-in_err-write_image-clause-nothing
returns-in_err-write_image-clause-nothing g c = λ none.
    let zero = ap (λ s. s.entries) c.self.view_is ∙ (sym (gathered_length c.args.self.now) ∙ ap length none) in
    absurd (omega (arith, zero, c.if-self-eq0.false))

pub returns-in_err-write_image-clause-refused : goal.returns-in_err-write_image-clause-refused
returns-in_err-write_image-clause-refused g c =
    let p = err_from_is_err_and c.from_residual-in_err-write_image.result c.from_residual-in_err-write_image.ensures.1 in
    let columns = columns_of c.self.inside.store.columns in
    let n = c.self.inside.store.entries in
    let page = c.self.inside.store.page in
    let number = c.self.inside.pass.number in
    let count = sym (entries_count c.self.inside.schema.now columns n) in
    let meta =
    c.in_ok-image.ensures.meta
    ∙ (ap (λ (i : ℕ). cluster_meta page i n columns) c.number.ensures ∙ ap (λ (m : ℕ). cluster_meta page number m columns) count) in
    record {
      kept = λ e is apart.
          let kept = c.in_err-write_image.ensures.refused.kept e (cc (p.1, p.2, is)) apart in
          rw (← c.self.view_is) (record {
            gains = kept.0;
            now = ap (λ q. record {
              committer = c.self.inside.committer.now;
              table = c.self.inside.schema.now;
              cluster = c.self.inside.store.cluster;
              page = c.self.inside.store.page;
              staged = c.self.inside.store.staged;
              pass = c.write_image.new.pass;
              pen = q;
              columns = columns_of c.self.inside.store.columns;
              entries = c.self.inside.store.entries;
            }) kept.1;
          });
      fault = λ is.
          rw (← c.self.view_is) (record {
            columns = columns;
            gives = c.self.invariant.0.gives;
            fails = subst
                (λ (m : ClusterMeta). FailsToWrite c.self.inside.store.staged m c.self.inside.pass c.write_image.new.pass c.self.inside.pen
                c.write_image.new.pen) meta
                (c.in_err-write_image.ensures.refused.fault (cc (p.1, p.2, is)));
            now = refl;
          });
      unpublished = c.in_err-write_image.ensures.pass.unpublished
          (subst (λ s. IsUnpublished s.staged s.pass) (sym c.self.view_is) c.requires.alive.unpublished);
    }

pub invariant_of-self-2 : goal.invariant_of-self-2
invariant_of-self-2 g c =
    let t = c.self.inside.schema.now in (
      record {
        of = c.in_ok-write_image.ensures.pass.of;
        staged_is = c.self.invariant.0.staged_is;
        none_out = c.in_ok-write_image.ensures.pass.none_out;
        filled = c.in_ok-write_image.ensures.pass.filled;
        count = c.self.invariant.0.count;
        some = c.self.invariant.0.some;
        gives = subst (λ (cs : List Column). Gives t cs []) (sym c.clear.ensures)
            (emptied_gives t (columns_of c.self.inside.store.columns) c.self.invariant.0.gives.set.described);
        few = omega arith;
        cluster = c.self.invariant.0.cluster;
        page = c.self.invariant.0.page;
      },
      c.forget.ensures _,
    )

pub returns-clause-nothing : goal.returns-clause-nothing
returns-clause-nothing g c = λ none.
    let zero = ap (λ s. s.entries) c.self.view_is ∙ (sym (gathered_length c.args.self.now) ∙ ap length none) in
    absurd (omega (arith, zero, c.if-self-eq0.false))

pub returns-clause-ok : goal.returns-clause-ok
returns-clause-ok g c = λ some.
    let t = c.self.inside.schema.now in
    let columns = columns_of c.self.inside.store.columns in
    let n = c.self.inside.store.entries in
    let page = c.self.inside.store.page in
    let w = c.in_ok-write_image.ensures.ok.0 in
    let is = c.in_ok-image.ensures.meta ∙ ap (λ (m : ℕ). cluster_meta page c.number.result m columns) (sym (entries_count t columns n)) in
    let kept = c.in_ok-write_image.ensures.ok.2 in
    let context = ap (λ (m : ClusterMeta). m.context) (w.meta ∙ is) ∙ c.number.ensures in
    rw (← c.self.view_is) (
      record {
        written = w.written;
        len = w.len ∙ sym (ap (λ (m : ClusterMeta). m.len) w.meta);
        context = context;
        blob = record {
          bytes = blob_key (length c.in_ok-image.image.bytes - key_room) w.written.start ++ drop key_room c.in_ok-image.image.bytes;
          blob = blob_of t columns (entries_given t columns n) c.self.invariant.0.gives page c.number.result w.written.start
              c.in_ok-image.image w.written.meta c.in_ok-image.ensures.bytes is w.meta;
          told_are = w.bytes;
        };
        gains = w.gains;
        alive = c.in_ok-write_image.ensures.ok.1;
        now = refl;
      },
      kept,
    )
