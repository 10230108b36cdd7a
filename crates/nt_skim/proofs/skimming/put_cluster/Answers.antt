use Rattle.std.proofs.Common.{◌≡◌, List, true, subst, sym}
use Rattle.std.specs.Prelude.{slice_index_or}
use Rattle.nt_types.specs.ShapeData.{MemberData, parts_of}
use Rattle.nt_types.specs.Fits.{fit_parts}
use Rattle.nt_types.specs.TreeData.{no_trees}
use Rattle.nt_grammar.specs.Table.{Table}
use Rattle.nt_trees.specs.Fits.{fits_entry}
use Rattle.nt_join.specs.Chosen.{chosen}
use Rattle.nt_reader.specs.Columns.{given_entries}
use Rattle.nt_reader.specs.Outlines.{entries_in}
use Rattle.nt_skim.specs.Select.{selection_of, selected}
use Rattle.nt_skim.proofs.SkimmedClusters.{cluster_done, never_fault}
use Rattle.nt_skim.proofs.skimming.put_cluster.Goals as goal

pub put_entries-put-requires-clause-fits : goal.put_entries-put-requires-clause-fits
put_entries-put-requires-clause-fits g c i less =
    let e = slice_index_or (given_entries c.in-Ok.cluster) i no_trees in
    subst (λ (ms : List MemberData). fit_parts (parts_of ms) (chosen (selection_of c.args.plan.now).places e) ≡ true)
    (sym c.requires.can.fields)
    (c.requires.can.fits e (subst (λ (t : Table). fits_entry t e ≡ true) c.in-Ok.ensures.table (c.entries_fit.ensures i less)))

pub returns-in-Ok-clause-skimmed : goal.returns-in-Ok-clause-skimmed
returns-in-Ok-clause-skimmed g c b told =
    cluster_done (selection_of c.args.plan.now) (entries_in c.args.of.reader.now c.args.of.k b) (given_entries c.in-Ok.cluster)
    (g.E.EntrySink.state c.args.out.now) (g.E.EntrySink.state c.put_entries-put.new.out) c.put_entries-put.result
    (c.in-Ok.ensures.read b told) c.put_entries-put.ensures.takes

pub returns-in-Ok-clause-file : goal.returns-in-Ok-clause-file
returns-in-Ok-clause-file g c = record {
  same = c.in-Ok.ensures.file.same;
  later = c.in-Ok.ensures.file.later;
  fault = λ e.
      absurd (never_fault (selected (selection_of c.args.plan.now) (given_entries c.in-Ok.cluster)) (g.E.EntrySink.state c.args.out.now)
      (g.E.EntrySink.state c.put_entries-put.new.out) c.put_entries-put.result c.put_entries-put.ensures.takes e);
}
