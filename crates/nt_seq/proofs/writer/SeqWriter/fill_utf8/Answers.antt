use Rattle.std.proofs.Common.{◌≡◌, ◌+◌, ◌<◌, sym, refl, subst, true, length, arith, MatchBool}
use Rattle.nt_types.specs.TreeData.{trees_of}
use Rattle.nt_column.specs.Column.{columns_of}
use Rattle.nt_shred.specs.Lines.{PutsEntry}
use Rattle.nt_fill.proofs.Entries.{entries_count}
use Rattle.nt_seq.specs.Writer.{gathered_by}
use Rattle.nt_seq.proofs.Filled.{added-line, writing-filled, entries-added, gives-added}
use Rattle.nt_seq.proofs.writer.SeqWriter.fill_utf8.Goals as goal

pub overflow_add-self : goal.overflow_add-self
overflow_add-self g c =
    let room = subst (λ s. length (gathered_by s) < s.params.cluster) (sym c.self.view_is) c.requires.room in
    let count = entries_count c.self.inside.schema (columns_of c.self.inside.columns) c.self.inside.entries in
    let most = c.self.inside.params.cluster_range.1 in
    record { fits = omega (arith, room, count, most) }

pub invariant_of-self-2 : goal.invariant_of-self-2
invariant_of-self-2 g c =
    let t = c.self.inside.schema in
    let n = c.self.inside.entries in
    let old = c.self.inside.columns in
    let new = c.put_line.new.out in
    let room = subst (λ s. length (gathered_by s) < s.params.cluster) (sym c.self.view_is) c.requires.room in
    let count = entries_count t (columns_of old) n in
    let was = c.self.invariant.0.writing (subst (λ s. s.alive ≡ true) (sym c.self.view_is) c.requires.alive) in
    let taken : PutsEntry t c.args.line.now old new =
    subst (λ b. MatchBool b (PutsEntry t c.args.line.now old new) (columns_of new ≡ columns_of old)) c.if-not-put_line.false
    c.put_line.ensures.entry in
    let is = added-line t c.args.line.now old new c.in_range.ensures (c.columns_have_types.ensures t) taken in (
      record {
        unclosed = c.self.invariant.0.unclosed;
        writing = λ _. writing-filled g.D.Disk.state _ (columns_of new) (n + 1) was
            (gives-added t (trees_of taken.found) old new n is was.gives) (omega (arith, room, count));
      },
      c.put_line.ensures.room,
    )

pub returns : goal.returns
returns g c =
    let t = c.self.inside.schema in
    let n = c.self.inside.entries in
    let old = c.self.inside.columns in
    let new = c.put_line.new.out in
    let was = c.self.invariant.0.writing (subst (λ s. s.alive ≡ true) (sym c.self.view_is) c.requires.alive) in
    let taken : PutsEntry t c.args.line.now old new =
    subst (λ b. MatchBool b (PutsEntry t c.args.line.now old new) (columns_of new ≡ columns_of old)) c.if-not-put_line.false
    c.put_line.ensures.entry in
    let is = added-line t c.args.line.now old new c.in_range.ensures (c.columns_have_types.ensures t) taken in
    rw (← c.self.view_is) (record {
      found = taken.found;
      spells = taken.spells;
      fits = taken.fitting;
      gathers = record { entries = entries-added t (trees_of taken.found) old new n is was.gives; now = refl };
    })
