use Rattle.std.proofs.lemmas.Grind.{common_steps}
use Rattle.std.proofs.Common.{◌≡◌, ◌∙◌, ap, arith, sym, subst, ℕ, List, length}
use Rattle.nt_grammar.specs.Table.{Table}
use Rattle.nt_scan.specs.Counts.{IsFirstTooMany}
use Rattle.nt_scan.specs.Steps.{AreNothing, AreTotalled}
use Rattle.nt_scan.proofs.Ended.{scanned, take-whole}
use Rattle.nt_scan.proofs.Meaning.{told-bytes}
use Rattle.nt_scan.proofs.scanning.scan.Goals as goal

pub returns-clause-scan : goal.returns-clause-scan
returns-clause-scan g c told is =
    let o = c.args.reader.now in
    let columns = c.args.columns.now in
    let none = subst (IsFirstTooMany o columns) c.in_default.is c.first_too_many.ensures in
    let added = c.in_ok-add_clusters.ensures.added told is in
    let all : c.deref.result.now ≡ c.add_clusters.new.running =
    c.deref.ensures.value ∙ take-whole _ c.add_clusters.new.running _
    (grind (arith, common_steps, c.deref_mut.ensures.len, c.in_ok-add_clusters.ensures.len)) in (
      none,
      (
        added.0,
        added.1,
        scanned told o columns _ _ added.0 _ (told-bytes told (g.met.F.ReadAt.fit c.args.file.now told is)) c.requires none added.1
            (subst (AreNothing (length columns)) (sym c.deref_mut.ensures.value) c.in_ok-running.ensures) added.2
            (rw (c.schema.ensures, all) at c.in_ok-totals_of.ensures),
      ),
    )
