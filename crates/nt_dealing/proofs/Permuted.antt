-- What the clusters of a deal keep of all chunks, in their order.
use Rattle.std.proofs.Common.{◌≡◌, ◌∙◌, ap, ℕ, ◌+◌, ◌*◌, Bool, List, [], length, map, sum_by}
use Rattle.std.specs.Prelude.{IsPermutation}
use Rattle.std.proofs.lemmas.List.Sorted.{sum_by-IsPermutation, length_permutation}
use Rattle.nt_types.specs.TreeData.{TreesData}
use Rattle.nt_grammar.specs.Table.{Table}
use Rattle.nt_container.specs.Lengths.{anchor_part_len, key_list_part_len, free_list_part_len}
use Rattle.nt_machine.specs.History.{Cluster}
use Rattle.nt_book.specs.declared.meta.ClusterMeta.{ClusterMeta}
use Rattle.nt_book.specs.Books.{BookData, book_clusters}
use Rattle.nt_layout.specs.Headers.{clusters_place}
use Rattle.nt_layout.specs.Laid.{AreBlobsOf, none_left, and_blob, range_of}
use Rattle.nt_dealing.specs.Lengths.{page_list_len, listed_cluster_len, group_count, footer_len, whole_len}
use Rattle.nt_dealing.specs.Texts.{joined_chunks}
use Rattle.nt_dealing.specs.Limits.{IsKeptOf, AreKeptOf}
use Rattle.nt_dealing.specs.Dealt.{commit_order, AreChunksDealt}
use Rattle.nt_dealing.proofs.Undealt.{undealt_all}

-- what is kept of clusters
abbrev metas : List (Cluster ClusterMeta) → List ClusterMeta
metas cs = map (λ (c : Cluster ClusterMeta). c.meta) cs

-- of each blob is kept what its chunk says
blobs_kept : (t : Table) (page : ℕ) (dealt : List (List TreesData)) (ranges : List (List ℕ)) (cs : List (Cluster ClusterMeta))
    → AreBlobsOf t page dealt ranges cs
    → AreKeptOf t page dealt (metas cs)
blobs_kept t page dealt ranges cs none_left = tt
blobs_kept t page dealt ranges cs
    (and_blob {entries = entries} {others = others} {range = range} {ranges = left} {c = c} {cs = ds} first more) =
    (record { columns = first.columns; gives = first.gives; meta_is = first.meta_is }, blobs_kept t page others left ds more)

-- a file by its sums
abbrev parts_len : Table → ℕ → ℕ → ℕ → ℕ → ℕ
parts_len t most lens listed count =
    clusters_place t + lens + (page_list_len [] * group_count most count + listed) + footer_len t (group_count most count)
    + (anchor_part_len + key_list_part_len + free_list_part_len)

same_whole : (t : Table) (most : ℕ) (xs ys : List ClusterMeta) → IsPermutation xs ys → whole_len t most ys ≡ whole_len t most xs
same_whole t most xs ys p =
    let lens = λ (l : List ClusterMeta). sum_by (λ (m : ClusterMeta). m.len) l in
    let listed = λ (l : List ClusterMeta). sum_by listed_cluster_len l in
    ap (λ (n : ℕ). parts_len t most n (listed ys) (length ys)) (sum_by-IsPermutation (λ (m : ClusterMeta). m.len) xs ys p)
    ∙ (ap (λ (n : ℕ). parts_len t most (lens xs) n (length ys)) (sum_by-IsPermutation listed_cluster_len xs ys p)
    ∙ ap (λ (n : ℕ). parts_len t most (lens xs) (listed xs) n) (length_permutation xs ys p))

pub all_chunks_dealt : (staged : Bool) (t : Table) (page most : ℕ) (chunks : List (List (List TreesData))) (book : BookData)
    (ranges : List (List ℕ)) (is : AreChunksDealt staged t page chunks book ranges)
    → IsPermutation is.dealt (joined_chunks chunks) × AreKeptOf t page is.dealt (metas (book_clusters book))
    × ((sorted : List ClusterMeta) × AreKeptOf t page (joined_chunks chunks) sorted
    × (whole_len t most sorted ≡ whole_len t most (metas (book_clusters book))))
all_chunks_dealt staged t page most chunks book ranges is =
    let kept = blobs_kept t page is.dealt (map (range_of ranges) (book_clusters book)) (book_clusters book) is.blobs_are in
    let u = undealt_all (IsKeptOf t page) (commit_order book) chunks is.dealt (metas (book_clusters book)) is.uses.uses is.is_deal kept in
    (u.permuted, kept, (u.sorted, u.pairs, same_whole t most (metas (book_clusters book)) u.sorted u.same))
