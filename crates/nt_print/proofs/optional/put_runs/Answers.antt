use Rattle.std.proofs.Common.{◌∷◌, [], refl, arith}
use Rattle.std.proofs.lemmas.List.{take_rest}
use Rattle.nt_event.proofs.Prints.{kept-on}
use Rattle.nt_print.proofs.Arrays.{kept-kept}
use Rattle.nt_print.proofs.Optionals.{printed-within, printed-run}
use Rattle.nt_print.proofs.optional.put_runs.Goals as goal

pub put_run-requires-clause-within : goal.put_run-requires-clause-within
put_run-requires-clause-within g c κs within =
    let l = c.args.list in
    let r = c.first_run-count in
    printed-within (g.C.Columns.elements c.args.columns.now) l.of.column l.of.bits l.of.signed l.begin l.ends.now _ _ c.loop-at.out.items
    c.loop-at.later c.loop-at.begin c.loop-at.at r.result.0 r.result.1 (take_rest l.ends.now c.loop-at.at) r.ensures.run.1 r.ensures.last
    c.loop-at.invariant

pub loop-at-preserved : goal.loop-at-preserved
loop-at-preserved g c =
    let l = c.args.list in
    let r = c.first_run-count in
    printed-run (g.C.Columns.elements c.args.columns.now) l.of.column l.of.bits l.of.signed l.begin l.ends.now _ _ c.loop-at.out.items
    c.put_run.new.out.items c.loop-at.later c.loop-at.begin c.loop-at.at r.result.0 r.result.1 c.mark_before-in-loop-at.result
    (take_rest l.ends.now c.loop-at.at) r.ensures.run.1 r.ensures.last (omega (arith, c.if-count-eq0.false)) c.loop-at.invariant
    c.mark_before-in-loop-at.ensures c.in_ok-put_run.ensures.ok

pub returns-in_err-put_null-clause-kept : goal.returns-in_err-put_null-clause-kept
returns-in_err-put_null-clause-kept g c =
    kept-on c.args.out.now.items _ c.put_null.new.out.items (c.args.mark ∷ []) refl
    (kept-kept _ c.loop-at.out.items c.put_null.new.out.items c.loop-at.invariant.begun.kept c.put_null.ensures.kept)

pub returns-in_err-put_run-clause-kept : goal.returns-in_err-put_run-clause-kept
returns-in_err-put_run-clause-kept g c =
    kept-on c.args.out.now.items _ c.put_run.new.out.items (c.args.mark ∷ []) refl
    (kept-kept _ c.loop-at.out.items c.put_run.new.out.items c.loop-at.invariant.begun.kept c.put_run.ensures.kept)

pub returns-in_err-put_end-clause-kept : goal.returns-in_err-put_end-clause-kept
returns-in_err-put_end-clause-kept g c =
    kept-on c.args.out.now.items _ c.put_end.new.out.items (c.args.mark ∷ []) refl
    (kept-kept _ c.loop-at.out.items c.put_end.new.out.items c.loop-at.invariant.begun.kept c.put_end.ensures.kept)
