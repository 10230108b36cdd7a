use Rattle.std.proofs.Common.{◌≡◌, ◌∙◌, ◌+◌, ◌<◌, ap, sym, refl, subst, suc, true, [], length, append-nil, arith}
use Rattle.nt_types.specs.TreeData.{trees_of}
use Rattle.nt_types.specs.TreeViews.{trees_view}
use Rattle.nt_grammar.specs.Open.{open_shapes}
use Rattle.nt_column.specs.Column.{columns_of}
use Rattle.nt_plans.specs.Place.{open_plans}
use Rattle.nt_trees.specs.Fits.{fits_entry}
use Rattle.nt_trees.specs.Sound.{AllSound}
use Rattle.nt_trees.specs.Views.{cols_of}
use Rattle.nt_trees.proofs.FitPlans.{fit-open}
use Rattle.nt_shred.specs.Frame.{set_frame}
use Rattle.nt_shred.proofs.Typed.{all-typed-take}
use Rattle.nt_fill.specs.Context.{gathered}
use Rattle.nt_fill.proofs.Bytes.{all_bytes, small_of}
use Rattle.nt_fill.proofs.Entries.{entries_more, entries_count, nones_more, gives_of}
use Rattle.nt_fill.proofs.filling.FillContext+D.fill.Goals as goal

pub overflow_add-self : goal.overflow_add-self
overflow_add-self g c =
    let room = subst (λ s. length (gathered s) < s.cluster) (sym c.self.view_is) c.requires.room in
    let count = entries_count c.self.inside.schema.now (columns_of c.self.inside.store.columns) c.self.inside.store.entries in
    record { fits = omega (arith, room, count, c.self.invariant.0.cluster.1) }

pub invariant_of-self-2 : goal.invariant_of-self-2
invariant_of-self-2 g c =
    let t = c.self.inside.schema.now in
    let n = c.self.inside.store.entries in
    let room = subst (λ s. length (gathered s) < s.cluster) (sym c.self.view_is) c.requires.room in
    let count = entries_count t (columns_of c.self.inside.store.columns) n in
    let sound = subst (λ m. AllSound (open_plans t) (cols_of c.self.inside.store.columns) m) count c.self.invariant.0.gives.sound in
    let last = c.in_ok-shred.ensures.last n sound in
    let more : suc n ≡ n + 1 = omega arith in (
      record {
        of = c.self.invariant.0.of;
        staged_is = c.self.invariant.0.staged_is;
        none_out = c.self.invariant.0.none_out;
        filled = c.self.invariant.0.filled;
        count = c.self.invariant.0.count;
        some = c.self.invariant.0.some;
        gives = gives_of t (columns_of c.shred.new.out) (n + 1) c.in_ok-shred.ensures.set c.in_range.ensures
            (subst (λ m. AllSound (open_plans t) (cols_of c.shred.new.out) m) more last.sound)
            (nones_more t (trees_of (trees_view c.args.trees.now)) c.self.inside.store.columns c.shred.new.out c.in_ok-shred.ensures.added
            (subst (λ s. fits_entry s.table (trees_of (trees_view c.args.trees.now)) ≡ true) (sym c.self.view_is) c.requires.fits)
            c.self.invariant.0.gives.nones);
        few = omega (arith, room, count);
        cluster = c.self.invariant.0.cluster;
        page = c.self.invariant.0.page;
      },
      c.forget.ensures _,
    )

pub returns-clause-ok : goal.returns-clause-ok
returns-clause-ok g c =
    let t = c.self.inside.schema.now in
    let n = c.self.inside.store.entries in
    let ts = trees_of (trees_view c.args.trees.now) in
    let old = c.self.inside.store.columns in
    let new = c.shred.new.out in
    let count = entries_count t (columns_of old) n in
    let sound = subst (λ m. AllSound (open_plans t) (cols_of old) m) count c.self.invariant.0.gives.sound in
    let fits = subst (λ s. fits_entry s.table ts ≡ true) (sym c.self.view_is) c.requires.fits in
    let set = c.in_ok-shred.ensures.set in
    let bytes = all_bytes (set_frame new) (cols_of new) (small_of new c.in_range.ensures) (open_plans t) ts (cols_of old)
    (all-typed-take new t.columns set.described set.stored (open_plans t) (c.columns_have_types.ensures t))
    (fit-open t.fields t.columns 0 (open_shapes t.fields t.columns 0 t.fields) ts ∙ fits)
    (λ j. ([], ap (λ cols. cols j) c.in_ok-shred.ensures.added ∙ sym (append-nil _))) in
    rw (← c.self.view_is) (record {
      entries = entries_more t ts old new n c.in_ok-shred.ensures.added sound
          (c.in_ok-shred.ensures.last n sound) bytes;
      now = refl;
    })
