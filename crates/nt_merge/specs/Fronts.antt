-- Which limit is passed first where copies of clusters are written one behind the other: by the next one, and where the file of all of them
-- is closed, by what is kept of each (RNTuple Binary Format Specification 1.0.0.0, section Page List Envelope).
use Rattle.std.specs.Prelude.{ℕ, ◌+◌, ◌*◌, ◌-◌, ◌==◌, if◌then◌else◌, List, [], ◌∷◌, ◌++◌, length, map, take, drop, sum_by, Option}
use Rattle.std.specs.List.{range_with_len}
use Rattle.nt_grammar.specs.Table.{Table}
use Rattle.nt_book.specs.declared.meta.ClusterMeta.{ClusterMeta}
use Rattle.nt_book.specs.declared.limits.LimitError.{LimitError}
use Rattle.nt_book.specs.declared.params.Params.{Params}
use Rattle.nt_book.specs.Limiting.{limit_error_with}
use Rattle.nt_layout.specs.Headers.{clusters_place}
use Rattle.nt_close.specs.Passing.{first_passed}
use Rattle.nt_dealing.specs.Lengths.{listed_cluster_len, page_list_len, group_count, footer_len, whole_len}
use Rattle.nt_merge_limits.specs.Limits.{group_metas}

-- how many page lists stand among so many clusters: each is written in front of the next group, so those of all groups but the last
abbrev pub lists_in_front : ℕ → ℕ → ℕ
lists_in_front most clusters = group_count most clusters - 1

-- the page lists among these clusters
abbrev pub front_lists_len : ℕ → List ClusterMeta → ℕ
front_lists_len most metas =
    page_list_len [] * lists_in_front most (length metas)
    + sum_by listed_cluster_len (take (lists_in_front most (length metas) * most) metas)

-- where a file ends of which these clusters were written
abbrev pub front_end : Table → ℕ → List ClusterMeta → ℕ
front_end t most metas = clusters_place t + sum_by (λ (m : ClusterMeta). m.len) metas + front_lists_len most metas

-- the page list that is written in front of the next cluster: that of the last group, where it is full
abbrev pub front_due_len : ℕ → List ClusterMeta → ℕ
front_due_len most metas =
    if length metas == lists_in_front most (length metas) * most + most
    then page_list_len (group_metas most metas (lists_in_front most (length metas))) else 0

-- the first limit that a copy of this length passes behind these clusters, or the page list in front of it
abbrev pub passed_by_copy : Table → Params → List ClusterMeta → ℕ → Option LimitError
passed_by_copy t p metas len =
    limit_error_with p.limits (front_end t p.group metas) (length metas) len (front_due_len p.group metas)

-- the page lists that are left to be written behind these clusters
abbrev pub list_lens_behind : ℕ → List ClusterMeta → List ℕ
list_lens_behind most metas =
    map (λ (k : ℕ). page_list_len (group_metas most metas k))
    (drop (lists_in_front most (length metas)) (range_with_len 0 (group_count most (length metas))))

-- the first limit that the file of these clusters passes where it is closed: these page lists, the footer, or the end of the whole
abbrev pub passed_by_end : Table → Params → List ClusterMeta → Option LimitError
passed_by_end t p metas =
    first_passed p.limits (list_lens_behind p.group metas ++ footer_len t (group_count p.group (length metas)) ∷ [])
    (whole_len t p.group metas)
