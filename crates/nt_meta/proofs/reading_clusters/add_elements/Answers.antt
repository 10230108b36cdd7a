use Rattle.std.proofs.Common.{[], pos, arith}
use Rattle.nt_pagelists.specs.declared.cluster.ColumnList.{ColumnList}
use Rattle.nt_meta.proofs.Adding.{adding-next}
use Rattle.nt_meta.proofs.reading_clusters.add_elements.Goals as goal

no_list : ColumnList
no_list = record { inner = 0; offset = pos 0; pages = [] }

pub loop-id-preserved : goal.loop-id-preserved
loop-id-preserved c = record {
  sum = adding-next c.args.elements.now c.loop-id.elements c.args.lists.now c.loop-id.id c.count_column-more.result
      c.saturating_add.result no_list c.loop-id.invariant.sum (omega arith) (omega arith) (c.count_column-more.ensures no_list)
      c.saturating_add.ensures;
}
