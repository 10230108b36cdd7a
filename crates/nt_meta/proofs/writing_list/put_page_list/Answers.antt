use Rattle.std.proofs.Common.{ℕ, ◌-◌, ◌++◌, ap, sym, ◌∙◌}
use Rattle.std.specs.Int.{w64, to_le_bytes}
use Rattle.std.proofs.lemmas.List.FromFn.{length-map-range_with_len}
use Rattle.nt_format.specs.Frames.{list_frame}
use Rattle.nt_frame.specs.Writing.{bytes_added}
use Rattle.nt_pagelists.specs.Writing.{summary_texts, cluster_list_texts, page_list_text}
use Rattle.nt_pagelists.specs.Books.{listed_cluster, listed_clusters}
use Rattle.nt_meta.proofs.Appended.{three}
use Rattle.nt_meta.proofs.writing_list.put_page_list.Goals as goal

pub returns : goal.returns
unfolding page_list_text
returns c =
    let n = c.args.to - c.args.from in
    let ws = listed_clusters c.args.book.now c.args.from n in
    three (to_le_bytes w64 c.args.header_sum) (list_frame n (summary_texts ws)) (list_frame n (cluster_list_texts ws))
    c.args.out.now c.put_u64le.new.self c.put_summary_list.new.out c.put_cluster_list.new.out
    c.in_ok-put_u64le.ensures.ok c.in_ok-put_summary_list.ensures c.in_ok-put_cluster_list.ensures
    ∙ ap (λ (k : ℕ). bytes_added (to_le_bytes w64 c.args.header_sum
    ++ (list_frame k (summary_texts ws) ++ list_frame k (cluster_list_texts ws))) c.args.out.now)
    (sym (length-map-range_with_len (listed_cluster c.args.book.now) c.args.from n))
