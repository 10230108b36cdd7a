-- How many bytes the parts of a finished file have that are written of its clusters: they depend on what is kept of each cluster alone, and
-- not on the order of the clusters (RNTuple Binary Format Specification 1.0.0.0, sections Frames, Envelopes, Page List Envelope and Footer
-- Envelope).
use Rattle.std.specs.Prelude.{ℕ, ◌+◌, ◌*◌, List, [], length}
use Rattle.std.specs.Int.{div_ceil}
use Rattle.std.specs.List.{sum_by}
use Rattle.nt_container.specs.Lengths.{anchor_part_len, key_list_part_len, free_list_part_len}
use Rattle.nt_grammar.specs.Table.{Table}
use Rattle.nt_book.specs.declared.meta.PageMeta.{PageMeta}
use Rattle.nt_book.specs.declared.meta.ClusterMeta.{ClusterMeta}
use Rattle.nt_pagelists.specs.FooterWriting.{extension_text}
use Rattle.nt_pagelists.specs.Blobs.{blob_len}
use Rattle.nt_layout.specs.Headers.{clusters_place}

-- a record frame with so many bytes inside
abbrev pub record_len : ℕ → ℕ
record_len inside = 8 + inside

-- a list frame with so many bytes inside
abbrev pub frame_len : ℕ → ℕ
frame_len inside = 12 + inside

-- an envelope with so many bytes of payload
abbrev pub envelope_len : ℕ → ℕ
envelope_len inside = 16 + inside

-- what a page list has of a column with these pages: each of them, the offset and the compression setting
abbrev pub listed_column_len : List PageMeta → ℕ
listed_column_len pages = frame_len (16 * length pages + 12)

-- what a page list has of a cluster: its summary and its columns
abbrev pub listed_cluster_len : ClusterMeta → ℕ
listed_cluster_len meta = record_len 16 + frame_len (sum_by listed_column_len meta.pages)

-- the blob of the page list of these clusters
abbrev pub page_list_len : List ClusterMeta → ℕ
page_list_len metas = blob_len (envelope_len (8 + (frame_len 0 + frame_len (sum_by listed_cluster_len metas))))

-- the blob of the footer with so many groups
abbrev pub footer_len : Table → ℕ → ℕ
footer_len t groups = blob_len (envelope_len (16 + (record_len (length (extension_text t)) + frame_len (record_len 40 * groups))))

-- how many groups so many clusters make, of which each has at most so many
abbrev pub group_count : ℕ → ℕ → ℕ
group_count most clusters = div_ceil clusters most

-- the page lists of these clusters, of which each group has at most so many
abbrev pub page_lists_len : ℕ → List ClusterMeta → ℕ
page_lists_len most metas = page_list_len [] * group_count most (length metas) + sum_by listed_cluster_len metas

-- the file of these clusters
abbrev pub whole_len : Table → ℕ → List ClusterMeta → ℕ
whole_len t most metas =
    clusters_place t + sum_by (λ (m : ClusterMeta). m.len) metas + page_lists_len most metas
    + footer_len t (group_count most (length metas))
    + (anchor_part_len + key_list_part_len + free_list_part_len)
