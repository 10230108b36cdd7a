use Rattle.std.proofs.Common.{◌≡◌, ℕ, List, take, Option, Ok, sym, subst}
use Rattle.std.proofs.lemmas.List.{take_more, take_all}
use Rattle.nt_scan.specs.Counts.{IsFirstTooMany}
use Rattle.nt_scan.proofs.Lowest.{lowest-fits, lowest-over}
use Rattle.nt_scan.proofs.counting.first_too_many.Goals.{in-Err, in-Ok}
use Rattle.nt_scan.proofs.counting.first_too_many.Goals as goal

pub loop-column-preserved : goal.loop-column-preserved
loop-column-preserved c =
    let o = c.args.reader.now in
    let cs = c.args.columns.now in
    let i = c.loop-column.column-index in
    rw (take_more cs i 0 c.loop-column-test.true)
    (elim c.match-column_counted.branch [
      | in-Err w ↦ rw (w.lowest-is, w.lower_of.ensures) (lowest-over o (take i cs) _ _ c.loop-column.lowest
          (sym w.in-Err.ensures) c.loop-column.invariant)
      | in-Ok w ↦ rw w.lowest-is (lowest-fits o (take i cs) _ c.loop-column.lowest (_, sym w.in-Ok.ensures) c.loop-column.invariant)
    ])

pub returns : goal.returns
returns c =
    subst (λ l. IsFirstTooMany c.args.reader.now l c.loop-column.lowest)
    (take_all c.loop-column.column-index c.args.columns.now c.loop-column-test.false) c.loop-column.invariant
