use Rattle.std.proofs.Common.{true, false, refl, [], ◌∷◌, arith}
use Rattle.nt_event.specs.Standing.{StandsFrom}
use Rattle.nt_plans.specs.Plan.{maybe, number}
use Rattle.nt_shred.specs.Walk.{PutsAll}
use Rattle.nt_shred.proofs.LineGrowth.{grew-then}
use Rattle.nt_shred.proofs.Walks.{all-none, all-done, so_far-grew}
use Rattle.nt_shred.proofs.Runs.{all-run, run-long}
use Rattle.nt_shred.proofs.Equal.{leaves-none, leaves-found}
use Rattle.nt_shred.proofs.optional.optional_integers.Goals as goal

pub returns-in-Some : goal.returns-in-Some
returns-in-Some c =
    let p = maybe c.args.ends (number c.args.of.column c.args.of.bits c.args.of.signed) in
    let line = c.args.line.now in
    let at = c.args.at in
    let bs = c.args.out.now in
    all-done p false line at at c.in-Some.end bs bs (all-none p line at bs c.requires.within c.requires.can) c.in-Some.ensures

pub loop-next-init : goal.loop-next-init
loop-next-init c =
    let p = maybe c.args.ends (number c.args.of.column c.args.of.bits c.args.of.signed) in
    let line = c.args.line.now in
    let at = c.args.at in
    let bs = c.args.out.now in
    all-run p false line at at at c.in_ok-i.i bs bs c.part.new.out (all-none p line at bs c.requires.within c.requires.can) refl
    c.in_ok-i.ensures

pub returns-in_err-i-2 : goal.returns-in_err-i-2
returns-in_err-i-2 c =
    let p = maybe c.args.ends (number c.args.of.column c.args.of.bits c.args.of.signed) in
    let line = c.args.line.now in
    let at = c.args.at in
    let start = c.args.out.now in
    let new = c.part-in-Some-comma.new.out in
    leaves-none (λ end. PutsAll p line at end start new) start new c.from_residual-in_err-i-2.result c.from_residual-in_err-i-2.ensures
    (grew-then start c.loop-next.out new (so_far-grew p true line at c.loop-next.i start c.loop-next.out c.loop-next.invariant)
    c.in_err-i-2.ensures)

pub loop-next-preserved : goal.loop-next-preserved
loop-next-preserved c =
    all-run (maybe c.args.ends (number c.args.of.column c.args.of.bits c.args.of.signed)) true c.args.line.now c.args.at c.loop-next.i
    c.in-Some-comma.next c.in_ok-i-2.i c.args.out.now c.loop-next.out c.part-in-Some-comma.new.out c.loop-next.invariant
    c.in-Some-comma.ensures c.in_ok-i-2.ensures

pub returns : goal.returns
returns c =
    let p = maybe c.args.ends (number c.args.of.column c.args.of.bits c.args.of.signed) in
    let line = c.args.line.now in
    let at = c.args.at in
    let i = c.loop-next.i in
    let start = c.args.out.now in
    let now = c.loop-next.out in
    leaves-found (λ end. PutsAll p line at end start now) (λ end. StandsFrom (93 ∷ []) line i end) start now c.after-2.result
    c.after-2.ensures (λ end close. all-done p true line at i end start now c.loop-next.invariant close)
    (so_far-grew p true line at i start now c.loop-next.invariant)

pub loop-next-smaller : goal.loop-next-smaller
loop-next-smaller c =
    let long = run-long c.in_ok-i-2.ensures.found c.args.line.now c.in-Some-comma.next c.in_ok-i-2.i c.in_ok-i-2.ensures.stands in
    omega (arith, long.1, long.2, c.in-Some-comma.ensures.some)
