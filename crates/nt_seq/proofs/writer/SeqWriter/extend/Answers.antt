use Rattle.std.proofs.Common.{◌≡◌, ◌∙◌, ◌++◌, ℕ, ap, sym, refl, subst, true, [], length, arith}
use Rattle.std.specs.Prelude.{drop}
use Rattle.nt_types.specs.Views.{member_view}
use Rattle.std.proofs.lemmas.List.{length-map}
use Rattle.nt_grammar.specs.declared.rows.ColumnRow.{ColumnRow}
use Rattle.nt_grammar.specs.Added.{Added}
use Rattle.nt_grammar.specs.AsRead.{as_read}
use Rattle.nt_column.specs.Column.{columns_of}
use Rattle.nt_book.specs.Books.{book_clusters, entry_count}
use Rattle.nt_book.specs.Widening.{AreLateFirsts}
use Rattle.nt_plans.specs.Place.{place}
use Rattle.nt_fill.proofs.Entries.{entries_count}
use Rattle.nt_seq.specs.Widening.{first_elements}
use Rattle.nt_seq.specs.Writer.{gathered_by}
use Rattle.nt_seq.proofs.AddedRows.{all-known, late-firsts, more-columns}
use Rattle.nt_seq.proofs.Widened.{entries-short, none-gathered, writing-widened, written-widened}
use Rattle.nt_seq.proofs.writer.SeqWriter.extend.Goals as goal

pub widen-requires : goal.widen-requires
widen-requires g c =
    let alive = subst (λ s. s.alive ≡ true) (sym c.self.view_is) c.requires.clear.alive in
    let was = c.self.invariant.0.writing alive in
    let t = c.self.inside.schema in
    let new = c.extend.new.self in
    let field = member_view c.args.member.now in
    let plain = c.self.inside.params.plain in
    let count = c.entries-entries.result in
    let before = c.columns-before.ensures in
    let few = c.in-Ok.ensures.2 in
    let more = more-columns t field plain count new c.in-Ok.ensures.1 in
    let firsts = sym (length-map t.columns (λ (r : ColumnRow). r.first)) ∙ ap length was.firsts in
    record {
      not_staged = was.not_staged;
      known = all-known t field plain count new c.in-Ok.ensures.1 (columns_of c.self.inside.columns) was.gives.set.described;
      inside = omega (arith, more, before);
      late = subst (λ (k : ℕ). AreLateFirsts (entry_count (book_clusters c.self.inside.book)) (first_elements (drop k new.columns)))
          (sym before)
          (subst (λ (n : ℕ). AreLateFirsts n (first_elements (drop (length t.columns) new.columns))) c.entries-entries.ensures
          (late-firsts t field plain count new c.in-Ok.ensures.1));
      few = omega (
        arith,
        more,
        ap (λ (k : ℕ). length (first_elements (drop k new.columns))) before,
        firsts,
        few.fields,
        few.columns,
      );
    }

pub invariant_of-self-in-Ok-widen : goal.invariant_of-self-in-Ok-widen
invariant_of-self-in-Ok-widen g c =
    let alive = subst (λ s. s.alive ≡ true) (sym c.self.view_is) c.requires.clear.alive in
    let was = c.self.invariant.0.writing alive in
    let t = c.self.inside.schema in
    let new = c.extend.new.self in
    let book = c.self.inside.book in
    let field = member_view c.args.member.now in
    let plain = c.self.inside.params.plain in
    let count = entry_count (book_clusters book) in
    let added : Added t field plain count new =
    subst (λ (n : ℕ). Added t field plain n new) c.entries-entries.ensures c.in-Ok.ensures.1 in
    let few = c.in-Ok.ensures.2 in
    let short = entries-short book c.keeps.ensures in
    let out = c.added_fields_are_left_out.ensures.plan count t field new was.described few (record {
      plain = plain;
      written = count;
      late = omega arith;
      short = short;
      is = c.requires.rules;
      added = added;
    }) in
    let gathered = subst (λ s. gathered_by s ≡ []) (sym c.self.view_is) c.requires.clear.none in
    let none = sym (entries_count t (columns_of c.self.inside.columns) c.self.inside.entries) ∙ ap length gathered in
    let next = c.in-Ok-widen.ensures.ok.1 ∙ ap (λ (k : ℕ). record book {
      firsts = book.firsts ++ first_elements (drop k new.columns);
    }) c.columns-before.ensures in (
      record {
        unclosed = c.self.invariant.0.unclosed;
        writing = λ _. writing-widened g.D.Disk.state _ c.widen.new.book new (columns_of c.in-Ok-widen.columns) field
            (place new.fields new.columns (as_read field.of) (length t.fields)) was none added out next c.in-Ok-widen.ensures.parts
            (c.late_fields_are_described.ensures t field plain count new was.described c.requires.rules few (omega (arith, short)) added)
            few (c.described_rows_are_whole.ensures.added t field plain count new added was.closable.whole) c.in-Ok-widen.ensures.ok.0;
      },
      c.forget.ensures _,
    )

pub returns-in-Ok-widen : goal.returns-in-Ok-widen
returns-in-Ok-widen g c =
    let alive = subst (λ s. s.alive ≡ true) (sym c.self.view_is) c.requires.clear.alive in
    let was = c.self.invariant.0.writing alive in
    let t = c.self.inside.schema in
    let new = c.extend.new.self in
    let book = c.self.inside.book in
    let field = member_view c.args.member.now in
    let plain = c.self.inside.params.plain in
    let count = entry_count (book_clusters book) in
    let plan = place new.fields new.columns (as_read field.of) (length t.fields) in
    let columns = columns_of c.in-Ok-widen.columns in
    let added : Added t field plain count new =
    subst (λ (n : ℕ). Added t field plain n new) c.entries-entries.ensures c.in-Ok.ensures.1 in
    let few = c.in-Ok.ensures.2 in
    let short = entries-short book c.keeps.ensures in
    let out = c.added_fields_are_left_out.ensures.plan count t field new was.described few (record {
      plain = plain;
      written = count;
      late = omega arith;
      short = short;
      is = c.requires.rules;
      added = added;
    }) in
    let gathered = subst (λ s. gathered_by s ≡ []) (sym c.self.view_is) c.requires.clear.none in
    let none = sym (entries_count t (columns_of c.self.inside.columns) c.self.inside.entries) ∙ ap length gathered in
    let next = c.in-Ok-widen.ensures.ok.1 ∙ ap (λ (k : ℕ). record book {
      firsts = book.firsts ++ first_elements (drop k new.columns);
    }) c.columns-before.ensures in
    let described =
    c.late_fields_are_described.ensures t field plain count new was.described c.requires.rules few (omega (arith, short)) added in
    let whole = c.described_rows_are_whole.ensures.added t field plain count new added was.closable.whole in
    rw (← c.self.view_is) (
      c.in-Ok.ensures.0,
      record {
        added = added;
        written = written-widened g.D.Disk.state _ c.widen.new.book new columns field plan was none added out next
            c.in-Ok-widen.ensures.parts described few whole c.in-Ok-widen.ensures.ok.0
            (c.added_fields_are_left_out.ensures.zero new.fields new.columns field.of (length t.fields));
        clusters = ap book_clusters next;
        none = none-gathered g.D.Disk.state _ c.widen.new.book new columns field plan was none added out next
            c.in-Ok-widen.ensures.parts described few whole c.in-Ok-widen.ensures.ok.0;
        now = refl;
      },
    )
