use Rattle.std.proofs.Common.{◌∙◌, ◌<◌, ap, inl, refl, arith}
use Rattle.nt_types.specs.Views.{members_view}
use Rattle.nt_outside.specs.Held.{nothing_held}
use Rattle.nt_grammar.specs.Table.{Table}
use Rattle.nt_book.specs.Books.{BookData}
use Rattle.nt_layout.specs.Headers.{clusters_place}
use Rattle.nt_schema.proofs.WholeRows.{described_whole}
use Rattle.nt_store.proofs.Filled.{begin_why, begin_leaves, begin_order, begin_fails}
use Rattle.nt_store.proofs.Filled.{filled_from, run_why, run_leaves, run_ok, run_fails, dealt_from}
use Rattle.nt_store.proofs.Crashing.{begin_crash}
use Rattle.nt_store.proofs.filling.fill_file.Goals as goal

pub run_contexts-disk-requires-clause-ready : goal.run_contexts-disk-requires-clause-ready
run_contexts-disk-requires-clause-ready g c κs within = record {
  rules = c.requires.may.rules;
  rows = c.in-Ok.ensures.begun.rows;
  book_is = c.in-Ok.ensures.begun.book_is;
  end = c.in-Ok.ensures.begun.end;
  out = c.in-Ok.ensures.begun.out ∙ c.requires.may.empty.out;
  some = c.requires.may.number.0;
  few = c.requires.may.number.1;
}

pub returns-in-Ok-ended : goal.returns-in-Ok-ended
returns-in-Ok-ended g c =
    let run = c.run_contexts-disk.ensures in
    let begun = c.in-Ok.ensures.begun in
    let fields = members_view c.args.fields.now in
    let p = c.args.settings.now.params.now in
    let t = c.in-Ok.begun.1 in
    let left = g.D.Disk.state c.run_contexts-disk.result.disk in
    let some : 0 < clusters_place t = omega arith in
    let from = filled_from c.crashes_leave_chunks_or_none.ensures t _ _ left.held begun.end (omega (arith, some, begun.end)) in
    record {
      why = λ ts tell. tt;
      left = λ ts tell held.
          let now = begun.held nothing_held held in
          let filled = from now run.held in
          let told = run_ok _ t _ p ts (g.D.Disk.state c.begin.new.disk) left _ c.in-Ok-ended.is (run.told ts tell) in (
            filled.h,
            filled.is,
            dealt_from fields p ts t c.in-Ok.begun.0 c.run_contexts-disk.result.book (g.D.Disk.state c.begin.new.disk).held left.held
                filled.h c.requires.may.rules begun.rows begun.within begun.book_is c.keeps.ensures run.noted run.book_on run.short
                told.0 told.1 told.2 now filled.is filled.shut filled.unfinished,
          );
      may_close = record {
        closable = record {
          begin = run.book_on.begin ∙ ap (λ (b : BookData). b.begin) begun.book_is;
          noted = run.noted;
          end = run.end;
          out = run.out;
          whole = described_whole _ _ _ begun.rows;
        };
        undamaged = run.undamaged c.in-Ok-ended.is;
      };
      order = λ held. let filled = from (begun.held nothing_held held) run.held in (filled.h, filled.is, filled.order);
      shut = λ held. let filled = from (begun.held nothing_held held) run.held in (filled.h, filled.is, (filled.shut, filled.order));
      crash = λ held. let filled = from (begun.held nothing_held held) run.held in (filled.h, filled.is, filled.unfinished);
      failed = λ is. absurd (cc is);
      number = run.number;
    }

pub returns-in-Err-ended : goal.returns-in-Err-ended
returns-in-Err-ended g c =
    let run = c.run_contexts-disk.ensures in
    let begun = c.in-Ok.ensures.begun in
    let fields = members_view c.args.fields.now in
    let p = c.args.settings.now.params.now in
    let t = c.in-Ok.begun.1 in
    let left = g.D.Disk.state c.run_contexts-disk.result.disk in
    let some : 0 < clusters_place t = omega arith in
    let from = filled_from c.crashes_leave_chunks_or_none.ensures t _ _ left.held begun.end (omega (arith, some, begun.end)) in
    rw c.from-in-Err-ended.ensures (record {
      why = λ ts tell.
          run_why (BookData × Table) _ c.in-Err-ended.error t _ p ts (g.D.Disk.state c.begin.new.disk) left _ c.in-Err-ended.is
          begun.rows (run.told ts tell);
      left = λ ts tell held.
          run_leaves c.in-Err-ended.error t fields p ts _ (from (begun.held nothing_held held) run.held);
      may_close = tt;
      order = λ held. let filled = from (begun.held nothing_held held) run.held in (filled.h, filled.is, filled.order);
      shut = tt;
      crash = λ held. let filled = from (begun.held nothing_held held) run.held in (filled.h, filled.is, filled.unfinished);
      failed = λ is. run_fails _ c.in-Err-ended.error _ _ _ _ c.in-Err-ended.is run.failed (cc is);
      number = run.number;
    })

pub returns-in-Err : goal.returns-in-Err
returns-in-Err g c =
    let disk = g.D.Disk.state c.args.disk in
    let left = c.in-Err.ensures.refused in
    rw c.from.ensures (record {
      why = λ ts tell. begin_why c.whole_files_are_longest.ensures.chunks (BookData × Table) c.in-Err.error _
          c.args.settings.now.params.now ts disk _ left;
      left = λ ts tell held. begin_leaves c.in-Err.error _ c.args.settings.now.params.now ts disk _ left held;
      may_close = tt;
      order = λ held. begin_order c.in-Err.error _ c.args.settings.now.params.now disk _ left held;
      shut = tt;
      crash = λ held. begin_crash c.crashes_leave_chunks_or_none.ensures _ c.args.settings.now.params.now c.in-Err.error disk _ left held;
      failed = λ is. inl (begin_fails c.in-Err.error _ c.args.settings.now.params.now disk _ left (cc is));
      number = refl;
    })
