use Rattle.std.proofs.Common.{◌≡◌, ◌<◌, ◌≤◌, ◌∙◌, sym, refl, length, arith}
use Rattle.std.proofs.lemmas.List.{nil_from_length}
use Rattle.nt_fill.specs.Context.{gathered}
use Rattle.nt_contexts.proofs.LinesTaken.{rest_none, rest_written}
use Rattle.nt_contexts.proofs.TakenLines.{open_gathers}
use Rattle.nt_contexts.proofs.running.write_rest.Goals as goal

pub returns-then-gathered-eq0 : goal.returns-then-gathered-eq0
returns-then-gathered-eq0 g c entries taken =
    let is = c.requires.is_open in
    let some : 0 < c.args.fill.now.cluster = omega (arith, is.room) in
    let none : length (gathered c.args.fill.now) ≡ 0 = sym c.gathered.ensures ∙ c.if-gathered-eq0.true in (
      rest_none g.D.Disk.state entries c.args.fill.now some none taken,
      record { alive = is.alive; unpublished = is.unpublished; empty = nil_from_length (gathered c.args.fill.now) none },
      record { committer = refl; table = refl; cluster = refl; page = refl; staged = refl; number = refl },
    )

pub returns : goal.returns
returns g c entries taken =
    let some : 0 < length (gathered c.args.fill.now) = omega (arith, c.gathered.ensures, c.if-gathered-eq0.false) in
    let few : length (gathered c.args.fill.now) ≤ c.args.fill.now.cluster = omega (arith, c.requires.is_open.room) in
    rest_written g.D.Disk.state entries c.args.fill.now c.write_gathered.new.fill c.write_gathered.result
    (open_gathers c.args.fill.now c.requires.is_open) some few taken c.write_gathered.ensures
