-- What a put leaves of a sink over a writer.
use Rattle.std.proofs.Common.{◌≡◌, ◌∙◌, ap, sym, refl, subst, List, [], ◌∷◌, ◌++◌, Option, Some, None}
use Rattle.std.proofs.Common.{Ok, Err}
use Rattle.nt_types.specs.TreeData.{TreesData}
use Rattle.nt_types.specs.Views.{members_view}
use Rattle.nt_grammar.specs.Table.{Table}
use Rattle.nt_outside.specs.Disk.{DiskState}
use Rattle.nt_book.specs.declared.params.Params.{Params}
use Rattle.nt_commit.specs.declared.error.CommitError.{CommitError}
use Rattle.nt_seq.specs.Writer.{SeqState}
use Rattle.nt_script.specs.Taking.{HasTakenLines, HasJustFields, HaltsAt, MakesWhole}
use Rattle.nt_script.specs.Running.{error_of_commit}
use Rattle.nt_skim.specs.Skimming.{AnswersPut}
use Rattle.nt_skim_file.specs.declared.birth.SinkBirth.{SinkBirth}
use Rattle.nt_skim_file.specs.Sinks.{FileSinkState, TookEntries, IsFileSink, sink_of}
use Rattle.nt_skim_file.specs.Taking.{StaysWriter, TakesPut}

module _ {D : Type 0} (state : D → DiskState) where
  birth_same : (a b : SeqState D) → a.given ≡ b.given → a.table ≡ b.table → a.params ≡ b.params
      → ◌≡◌ {A = SinkBirth D} (record { given = a.given; schema = a.table; params = a.params })
      (record { given = b.given; schema = b.table; params = b.params })
  birth_same a b given table params =
      ap (λ (d : D). record { given = d; schema = a.table; params = a.params }) given
      ∙ (ap (λ (t : Table). record { given = b.given; schema = t; params = a.params }) table
      ∙ ap (λ (p : Params). record { given = b.given; schema = b.table; params = p }) params)

  module _ (entry : TreesData) (s : FileSinkState D) (w : SeqState D) (going : s.refused ≡ None) where
    -- what it took before
    before : (es : List TreesData) → TookEntries state es s.writer s.refused → HasTakenLines state [] es s.writer
    before es took = subst (λ (o : Option CommitError). TookEntries state es s.writer o) going took

    -- an entry was put
    abbrev pub after : FileSinkState D
    after = record { writer = w; fields = s.fields; refused = s.refused }

    pub put_done : StaysWriter state s.writer w (Ok tt)
        → ((es : List TreesData) → HasTakenLines state [] es s.writer → TakesPut state es entry s.writer w (Ok tt))
        → AnswersPut entry (sink_of state s) (sink_of state after) (Ok tt)
    put_done stays takes = record {
      fields = refl;
      birth = birth_same w s.writer stays.given stays.table stays.params;
      ok = going;
      added = λ es took. subst (λ (o : Option CommitError). TookEntries state (es ++ entry ∷ []) w o) (sym going)
          (takes es (before es took));
      err = tt;
      kept = tt;
    }

    pub sink_done : StaysWriter state s.writer w (Ok tt) → IsFileSink state s → IsFileSink state after
    sink_done stays is = record {
      just = subst (HasJustFields (members_view s.fields)) (sym stays.table) is.just;
      few = stays.few;
      alive = λ none. stays.alive;
      failed = λ bad. absurd (cc (bad, going));
    }

    module _ (e : CommitError) (stays : StaysWriter state s.writer w (Err e)) where
      -- or it was refused
      abbrev pub after_refusal : FileSinkState D
      after_refusal = record { writer = w; fields = s.fields; refused = Some e }

      by_new : (es : List TreesData)
          → HaltsAt state (MakesWhole s.writer.params) s.writer.table s.writer.params [] es w (error_of_commit e)
          → TookEntries state es w (Some e)
      by_new es halts =
          subst (λ (t : Table). HaltsAt state (MakesWhole w.params) t w.params [] es w (error_of_commit e)) (sym stays.table)
          (subst (λ (p : Params). HaltsAt state (MakesWhole p) s.writer.table p [] es w (error_of_commit e)) (sym stays.params) halts)

      pub put_refused : ((es : List TreesData) → HasTakenLines state [] es s.writer → TakesPut state es entry s.writer w (Err e))
          → AnswersPut entry (sink_of state s) (sink_of state after_refusal) (Err e)
      put_refused takes = record {
        fields = refl;
        birth = birth_same w s.writer stays.given stays.table stays.params;
        ok = tt;
        added = tt;
        err = refl;
        kept = λ es took. by_new es (takes es (before es took));
      }

      pub sink_refused : IsFileSink state s → IsFileSink state after_refusal
      sink_refused is = record {
        just = subst (HasJustFields (members_view s.fields)) (sym stays.table) is.just;
        few = stays.few;
        alive = λ none. absurd (cc none);
        failed = λ bad. stays.failed (cc bad);
      }
