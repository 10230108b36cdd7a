-- A cluster more.
use Rattle.std.specs.Prelude.{ℕ, ◌+◌, List, length, get_or, set, Option, Some, None}
use Rattle.nt_types.specs.TreeData.{TreesData}
use Rattle.nt_generate.specs.declared.total.Total.{Total}
use Rattle.nt_generate.specs.Numbers.{entries_sum}
use Rattle.nt_generate.specs.Totals.{counted_to}

-- a total with a cluster of these entries more
abbrev pub with_cluster : List TreesData → Total → Total
with_cluster entries total = record {
  clusters = counted_to (total.clusters + 1);
  entries = counted_to (total.entries + length entries);
  sum = counted_to (total.sum + entries_sum entries);
}

-- nothing
abbrev pub empty_total : Total
empty_total = record { clusters = 0; entries = 0; sum = 0 }

-- totals, of which that of this context has the cluster, if it is there
abbrev pub with_cluster_at : ℕ → List TreesData → List Total → List Total
with_cluster_at context entries totals = set totals context (with_cluster entries (get_or totals context empty_total))

-- the same of the context that is named, if one is
abbrev pub with_named : Option ℕ → List TreesData → List Total → List Total
with_named (Some context) entries totals = with_cluster_at context entries totals
with_named None entries totals = totals
