use Rattle.std.proofs.Common.{◌≡◌, length, map, ap, ◌∙◌}
use Rattle.std.specs.List.{range_with_len}
use Rattle.nt_book.specs.declared.meta.ClusterMeta.{ClusterMeta}
use Rattle.nt_book.specs.Books.{cluster_at}
use Rattle.nt_pagelists.specs.Writing.{column_list_texts}
use Rattle.nt_pagelists.specs.Books.{listed_column}
use Rattle.nt_meta.proofs.Appended.{list_of, listed-length}
use Rattle.nt_meta.proofs.writing_columns.put_cluster.Goals as goal

pub returns : goal.returns
returns c =
    let same : c.as_slice-lists.result.now ≡ (cluster_at c.args.book.now c.args.cluster).meta.pages =
    c.as_slice-lists.ensures ∙ ap (λ (m : ClusterMeta). m.pages) c.meta.ensures.meta in
    listed-length c.args.book.now c.args.cluster c.as_slice-lists.result.now c.args.out.now c.finish.new.self same
    (list_of (length c.as_slice-lists.result.now) (column_list_texts
    (map (listed_column c.args.book.now c.args.cluster) (range_with_len 0 (length c.as_slice-lists.result.now)))) c.args.out.now
    c.begin_list.new.self c.put_columns.new.out c.finish.new.self
    c.in_ok-begin_list.ensures.ok c.in_ok-put_columns.ensures c.finish.ensures)
