use Rattle.std.proofs.Common.{◌≡◌, ◌∙◌, ap, sym, refl, subst, true, Bool, List, [], length, arith, rules}
use Rattle.std.specs.Prelude.{Err}
use Rattle.std.proofs.lemmas.Result.{err_from_is_err_and}
use Rattle.nt_commit.specs.declared.error.CommitError.{CommitError}
use Rattle.nt_column.specs.Column.{Column, columns_of}
use Rattle.nt_layout.specs.Laid.{Gives}
use Rattle.nt_fill.proofs.Emptied.{emptied_gives}
use Rattle.nt_fill.proofs.Entries.{entries_count}
use Rattle.nt_seq.specs.Writer.{gathered_by}
use Rattle.nt_seq.proofs.Flat.{listed-flat}
use Rattle.nt_seq.proofs.Flushed.{image-fits, image-gathered, meta-gathered, clusters-more, writing-more, unclosed-more}
use Rattle.nt_seq.proofs.Refused.{writing-alive, after-error, clusters-kept, stays}
use Rattle.nt_append.specs.Appending.{FailsOnDisk, GainsCluster, with_due_list}
use Rattle.nt_pages.specs.declared.image.ClusterImage.{ClusterImage}
use Rattle.nt_book.specs.declared.meta.ClusterMeta.{ClusterMeta}
use Rattle.nt_seq.proofs.writer.SeqWriter.write_next.Goals as goal

pub append_next-requires : goal.append_next-requires
append_next-requires g c =
    let alive = subst (λ s. s.alive ≡ true) (sym c.self.view_is) c.requires.alive in
    let was = c.self.invariant.0.writing alive in
    record {
      not_staged = was.not_staged;
      image_is = image-fits g.D.Disk.state _ was c.in_ok-image.image c.in_ok-image.ensures.bytes c.in_ok-image.ensures.meta
          (c.columns_have_types.ensures c.self.inside.schema);
      end = was.closable.end;
    }

pub invariant_of-self-in_err-append_next : goal.invariant_of-self-in_err-append_next
invariant_of-self-in_err-append_next g c =
    let alive = subst (λ s. s.alive ≡ true) (sym c.self.view_is) c.requires.alive in
    let told = c.in_err-append_next.ensures in
    let e = c.in_err-append_next.field-0.0 in (
      after-error g.D.Disk.state _ (c.self.invariant.0.writing alive) c.append_next.new.disk c.append_next.new.book
          c.append_next.new.alive c.in_ok-image.image e (λ apart. told.kept e refl apart) (λ same.
          told.fault (ap (λ (x : CommitError). Err x) same)),
      c.self.invariant.1,
    )

pub invariant_of-self-2 : goal.invariant_of-self-2
invariant_of-self-2 g c =
    let alive = subst (λ s. s.alive ≡ true) (sym c.self.view_is) c.requires.alive in
    let was = c.self.invariant.0.writing alive in
    let i = c.in_ok-image.image in
    let made = c.in_ok-image.ensures in
    let state = g.D.Disk.state in
    let meta = meta-gathered state _ was i made.bytes made.meta in
    let appends = c.in_ok-append_next.ensures.ok.0 in
    let t = c.self.inside.schema in
    let empty = subst (λ (cs : List Column). Gives t cs []) (sym c.clear.ensures)
    (emptied_gives t (columns_of c.self.inside.columns) was.gives.set.described) in
    let fits = c.in_ok-append_next.ensures.limits (λ same. cc same) in
    let disk = c.append_next.new.disk in
    let next = c.append_next.new.book in
    let cleared = columns_of c.clear.new.self in (
      record {
        unclosed = unclosed-more state _ disk next cleared i was made.bytes meta fits appends empty;
        writing = λ _. writing-alive state _ c.append_next.new.alive
            (writing-more state _ disk next cleared i was made.bytes meta fits appends empty);
      },
      c.forget.ensures _,
    )

-- something is gathered
pub returns-in_err-image : goal.returns-in_err-image
returns-in_err-image g c =
    let p = err_from_is_err_and c.from_residual.result c.from_residual.ensures.1 in
    let e = p.1 ∙ ap (λ (x : CommitError). Err x) (p.2 ∙ c.in_err-image.ensures.err) in
    record {
      nothing = λ none.
          let gathered = subst (λ s. gathered_by s ≡ []) (sym c.self.view_is) none in
          let zero = sym (entries_count c.self.inside.schema (columns_of c.self.inside.columns) c.self.inside.entries)
          ∙ ap length gathered in
          absurd (omega (arith, zero, c.if-self-eq0.false));
      ok = λ some. rw p.1 tt;
      limits = λ some apart. absurd (apart e);
      refused = record {
        kept = λ e is apart. rw (← c.self.view_is) (stays g.D.Disk.state _);
        fault = λ is. absurd (cc (p.1, p.2, is, c.in_err-image.ensures.err));
      };
    }

pub returns-in_err-append_next : goal.returns-in_err-append_next
returns-in_err-append_next g c =
    let alive = subst (λ s. s.alive ≡ true) (sym c.self.view_is) c.requires.alive in
    let was = c.self.invariant.0.writing alive in
    let p = err_from_is_err_and c.from_residual-in_err-append_next.result c.from_residual-in_err-append_next.ensures.1 in
    let told = c.in_err-append_next.ensures in
    let inside = c.self.inside in
    let i = c.in_ok-image.image in
    let made = c.in_ok-image.ensures in
    let meta = meta-gathered g.D.Disk.state _ was i made.bytes made.meta in
    record {
      nothing = λ none.
          let gathered = subst (λ s. gathered_by s ≡ []) (sym c.self.view_is) none in
          let zero = sym (entries_count c.self.inside.schema (columns_of c.self.inside.columns) c.self.inside.entries)
          ∙ ap length gathered in
          absurd (omega (arith, zero, c.if-self-eq0.false));
      ok = λ some. rw p.1 tt;
      limits = λ some apart. search rules;
      refused = record {
        kept = λ e is apart.
            let left = told.kept e (cc (p.1, p.2, is)) apart in
            rw (← c.self.view_is) (record {
              untouched = record {
                place = record { held = left.0.held; end = left.0.end; out = left.0.out };
                faults = left.0.faults;
              };
              book = left.0.book_is;
              written = clusters-kept (g.D.Disk.state inside.given.value) (g.D.Disk.state inside.disk)
                  (g.D.Disk.state c.append_next.new.disk) inside.schema inside.params inside.book c.append_next.new.book left.0;
              now = ap (λ (a : Bool). record {
                given = inside.given.value;
                disk = c.append_next.new.disk;
                book = c.append_next.new.book;
                begun = inside.begun.value;
                table = inside.schema;
                params = inside.params;
                columns = columns_of inside.columns;
                entries = inside.entries;
                alive = a;
              }) left.1;
            });
        fault = λ is.
            let left = told.fault (cc (p.1, p.2, is)) in
            rw (← c.self.view_is) (record {
              fails = subst (λ (x : ClusterImage). FailsOnDisk x (g.D.Disk.state inside.disk) (g.D.Disk.state c.append_next.new.disk)
                  inside.book c.append_next.new.book) (image-gathered g.D.Disk.state _ was i made.bytes made.meta) left.0;
              now = ap (λ (a : Bool). record {
                given = inside.given.value;
                disk = c.append_next.new.disk;
                book = c.append_next.new.book;
                begun = inside.begun.value;
                table = inside.schema;
                params = inside.params;
                columns = columns_of inside.columns;
                entries = inside.entries;
                alive = a;
              }) left.1;
            });
      };
    }

pub returns : goal.returns
returns g c =
    let alive = subst (λ s. s.alive ≡ true) (sym c.self.view_is) c.requires.alive in
    let was = c.self.invariant.0.writing alive in
    let i = c.in_ok-image.image in
    let made = c.in_ok-image.ensures in
    let state = g.D.Disk.state in
    let meta = meta-gathered state _ was i made.bytes made.meta in
    let inside = c.self.inside in
    let appends = c.in_ok-append_next.ensures.ok.0 in
    record {
      nothing = λ none.
          let gathered = subst (λ s. gathered_by s ≡ []) (sym c.self.view_is) none in
          let zero = sym (entries_count c.self.inside.schema (columns_of c.self.inside.columns) c.self.inside.entries)
          ∙ ap length gathered in
          absurd (omega (arith, zero, c.if-self-eq0.false));
      ok = λ some. rw (← c.self.view_is) (record {
        gives = was.gives;
        gains = subst (λ (m : ClusterMeta). GainsCluster m (with_due_list inside.book) c.append_next.new.book) meta appends.appends.gains;
        written = clusters-more (state inside.given.value) (state inside.disk) (state c.append_next.new.disk) inside.schema
            inside.params inside.book c.append_next.new.book (columns_of inside.columns) _ i was.gives made.bytes meta was.begun
            appends (listed-flat inside.schema inside.params inside.book was.closable.noted was.not_staged was.untorn);
        none = refl;
        later = appends.appends.later;
        now = ap (λ (a : Bool). record {
          given = inside.given.value;
          disk = c.append_next.new.disk;
          book = c.append_next.new.book;
          begun = inside.begun.value;
          table = inside.schema;
          params = inside.params;
          columns = columns_of c.clear.new.self;
          entries = 0;
          alive = a;
        }) c.in_ok-append_next.ensures.ok.1;
      });
      limits = λ some apart. search rules;
      refused = search rules;
    }
