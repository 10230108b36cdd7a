use Rattle.std.proofs.Common.{◌≡◌, ◌+◌, ℕ, List, [], length, ap, refl, ◌∙◌}
use Rattle.std.specs.Prelude.{slice_index_or}
use Rattle.std.proofs.lemmas.List.{get_or_read_under}
use Rattle.nt_book.specs.declared.meta.PageMeta.{PageMeta}
use Rattle.nt_book.specs.Books.{cluster_at}
use Rattle.nt_pagelists.specs.Writing.{column_list_text}
use Rattle.nt_pagelists.specs.Books.{listed_column}
use Rattle.nt_pagelists.proofs.Named.{range-there, starts-there}
use Rattle.nt_meta.proofs.Appended.{counted-next, column-is}
use Rattle.nt_meta.proofs.BookFacts.{few_pages, low_pages}
use Rattle.nt_meta.proofs.writing_columns.put_columns.Goals as goal

pub put_column-requires-clause-few : goal.put_column-requires-clause-few
put_column-requires-clause-few c =
    let k = cluster_at c.args.book.now c.args.cluster in
    let is : c.as_slice.result.now ≡ slice_index_or k.meta.pages c.loop-column.column [] =
    c.as_slice.ensures ∙ (get_or_read_under c.args.lists.now c.loop-column.column (length c.args.lists.now)
    c.index-lists-column.result [] c.index-lists-column.is c.loop-column-test.true refl
    ∙ ap (λ (l : List (List PageMeta)). slice_index_or l c.loop-column.column []) c.requires.lists) in
    few_pages _ c.loop-column.column k c.as_slice.result.now (c.keeps.ensures.clusters c.args.cluster c.requires.inside) is

pub put_column-requires-clause-low : goal.put_column-requires-clause-low
put_column-requires-clause-low c =
    let k = cluster_at c.args.book.now c.args.cluster in
    let is : c.as_slice.result.now ≡ slice_index_or k.meta.pages c.loop-column.column [] =
    c.as_slice.ensures ∙ (get_or_read_under c.args.lists.now c.loop-column.column (length c.args.lists.now)
    c.index-lists-column.result [] c.index-lists-column.is c.loop-column-test.true refl
    ∙ ap (λ (l : List (List PageMeta)). slice_index_or l c.loop-column.column []) c.requires.lists) in
    low_pages _ c.loop-column.column (c.start-payload.result + 42) k c.as_slice.result.now
    (c.keeps.ensures.clusters c.args.cluster c.requires.inside)
    (ap (λ (n : ℕ). n + 42) (c.start-payload.ensures ∙ starts-there c.args.book.now c.keeps.ensures c.args.cluster
    c.range_of.result c.requires.inside c.range_of.ensures)) is

pub loop-column-preserved : goal.loop-column-preserved
loop-column-preserved c =
    let k = cluster_at c.args.book.now c.args.cluster in
    let is : c.as_slice.result.now ≡ slice_index_or k.meta.pages c.loop-column.column [] =
    c.as_slice.ensures ∙ (get_or_read_under c.args.lists.now c.loop-column.column (length c.args.lists.now)
    c.index-lists-column.result [] c.index-lists-column.is c.loop-column-test.true refl
    ∙ ap (λ (l : List (List PageMeta)). slice_index_or l c.loop-column.column []) c.requires.lists) in
    counted-next (listed_column c.args.book.now c.args.cluster) column_list_text (length c.args.lists.now) c.loop-column.column
    c.loop-column.out c.put_column.new.out _ c.loop-column-test.true
    (column-is c.args.book.now c.args.cluster c.loop-column.column (c.start-payload.result + 42) c.offset-offset.result
    c.as_slice.result.now c.loop-column.out c.put_column.new.out
    c.offset-offset.ensures (ap (λ (n : ℕ). n + 42) (c.start-payload.ensures ∙ starts-there c.args.book.now c.keeps.ensures c.args.cluster
    c.range_of.result c.requires.inside c.range_of.ensures)) is c.in_ok-put_column.ensures) c.loop-column.invariant

pub start-payload-requires : goal.start-payload-requires
start-payload-requires c =
    range-there c.args.book.now c.keeps.ensures c.args.cluster c.range_of.result c.requires.inside c.range_of.ensures
