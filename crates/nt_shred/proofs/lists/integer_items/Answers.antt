use Rattle.std.proofs.Common.{◌∷◌, [], true, false, refl}
use Rattle.nt_event.specs.Standing.{StandsFrom}
use Rattle.nt_plans.specs.Plan.{number}
use Rattle.nt_shred.specs.Walk.{PutsAll}
use Rattle.nt_shred.proofs.Walks.{all-none, all-done, so_far-grew}
use Rattle.nt_shred.proofs.Runs.{all-run}
use Rattle.nt_shred.proofs.RunOfIntegers.{ints-run}
use Rattle.nt_shred.proofs.Equal.{leaves-found}
use Rattle.nt_shred.proofs.lists.integer_items.Goals as goal

pub returns-in-Some : goal.returns-in-Some
returns-in-Some c =
    let p = number c.args.of.column c.args.of.bits c.args.of.signed in
    let line = c.args.line.now in
    let at = c.args.at in
    let bs = c.args.out.now in
    all-done p false line at at c.in-Some.end bs bs (all-none p line at bs c.requires.within c.requires.can) c.in-Some.ensures

pub returns : goal.returns
returns c =
    let of = c.args.of in
    let p = number of.column of.bits of.signed in
    let line = c.args.line.now in
    let at = c.args.at in
    let i = c.in_ok-end.end in
    let start = c.args.out.now in
    let now = c.put_run.new.out in
    let all = all-run p false line at at at i start start now (all-none p line at start c.requires.within c.requires.can) refl
    (ints-run of.column of.bits of.signed line at i start now c.in_ok-end.ensures) in
    leaves-found (λ end. PutsAll p line at end start now) (λ end. StandsFrom (93 ∷ []) line i end) start now c.after-2.result
    c.after-2.ensures (λ end close. all-done p true line at i end start now all close) (so_far-grew p true line at i start now all)
