use Rattle.std.proofs.Common.{drop, ℕ, ℤ, ◌+◌, ◌≤◌, length, arith}
use Rattle.std.proofs.lemmas.List.{length-take, take-append-le}
use Rattle.nt_column.specs.Elements.{numbers}
use Rattle.nt_column.proofs.Numbers.{length-numbers}
use Rattle.nt_trees.specs.Integers.{integer_of}
use Rattle.nt_print.proofs.Arrays.{kept-kept}
use Rattle.nt_print.proofs.Parts.{IsPut-none, IsPut-read, IsPut-read_all}
use Rattle.nt_print.proofs.reading.put_read_run.Goals as goal

pub loop-at-init : goal.loop-at-init
loop-at-init g c = record { reached = c.requires.order; put = IsPut-none _ _ _ }

pub loop-at-preserved : goal.loop-at-preserved
loop-at-preserved g c =
    let ns = numbers (g.C.Columns.elements c.args.columns.now c.args.column) in
    let integer : ℕ → ℤ = integer_of c.args.form.0 c.args.form.1 in
    let n = c.read-count.result in
    let most : n ≤ length c.read-count.new.out = c.read-count.ensures.some.1 in
    let room = length-take c.min-most.result c.loop-at.block in
    let reached : c.loop-at.at + n ≤ c.args.part.1 =
    omega (arith, most, room, c.read-count.ensures.some.2, c.min-most.ensures, c.loop-at-test.true) in
    let within : c.args.part.1 ≤ length ns =
    omega (arith, c.requires.within, length-numbers (g.C.Columns.elements c.args.columns.now c.args.column)) in
    let front = take-append-le n c.read-count.new.out (drop c.min-most.result c.loop-at.block) most in
    record {
      reached = reached;
      put = IsPut-read _ c.loop-at.out.items c.put_integers.new.out.items c.loop-at.next integer ns _ c.read-count.new.out c.loop-at.at n
          c.args.part.1 _ c.loop-at.invariant.put c.read-count.ensures.some.0 reached within c.read-count.ensures.read front
          c.in_ok-put_integers.ensures.ok;
    }

pub returns-in_err-put_integers-clause-kept : goal.returns-in_err-put_integers-clause-kept
returns-in_err-put_integers-clause-kept g c =
    kept-kept _ c.loop-at.out.items c.put_integers.new.out.items c.loop-at.invariant.put.kept c.put_integers.ensures.kept

pub returns-clause-ok : goal.returns-clause-ok
returns-clause-ok g c =
    let es = g.C.Columns.elements c.args.columns.now c.args.column in
    IsPut-read_all _ c.loop-at.out.items c.args.mark c.loop-at.next c.args.form.0 c.args.form.1 es c.args.part.0 c.args.part.1 c.loop-at.at
    (omega (arith, c.loop-at-test.false)) c.loop-at.invariant.put
