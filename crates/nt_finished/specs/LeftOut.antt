-- Clusters that were written before fields were added, and what their entries are with these fields.
use Rattle.std.specs.Prelude.{ℕ, ◌≡◌, ◌+◌, ◌≤◌, true, List, [], ◌∷◌, ◌++◌, map, length}
use Rattle.nt_types.specs.TreeData.{TreesData, no_trees, tree}
use Rattle.nt_grammar.specs.declared.rows.ColumnRow.{ColumnRow}
use Rattle.nt_grammar.specs.Table.{Table}
use Rattle.nt_plans.specs.Plan.{PlanData}
use Rattle.nt_plans.specs.Needs.{entries, need_in, is_entries}
use Rattle.nt_plans.specs.Late.{GrowsBy}
use Rattle.nt_pagelists.specs.declared.cluster.ClusterList.{ClusterList}
use Rattle.nt_file_meaning.specs.Holds.{HoldsCluster}
use Rattle.nt_finished.specs.Zeros.{zero_of}

-- of these columns of a plan, whose ids go on from this one, each principal one begins behind so many entries
abbrev pub AllBeginBehind : ℕ → PlanData → ℕ → List ColumnRow → Type 0
AllBeginBehind before p id [] = Unit {0}
AllBeginBehind before p id (c ∷ cs) = (is_entries (need_in entries p id) ≡ true → before ≤ c.first) × AllBeginBehind before p (id + 1) cs

-- a plan was added to those of a table, and its columns behind the others, which begin behind so many entries
pub record IsLeftOut (before : ℕ) (t new : Table) (p : PlanData) : Type 0 where
  pub grows : GrowsBy t new p
  pub rows : List ColumnRow
  pub columns_behind : new.columns ≡ t.columns ++ rows
  pub begin : AllBeginBehind before p (length t.columns) rows

-- trees, and these behind them
abbrev pub and_trees : TreesData → TreesData → TreesData
and_trees no_trees others = others
and_trees (tree t ts) others = tree t (and_trees ts others)

-- entries, each with these trees behind its own
abbrev pub filled : TreesData → List TreesData → List TreesData
filled zeros es = map (λ ts. and_trees ts zeros) es

-- a table grew to another by plans that so many entries leave out, one after the other; these are their zeros
pub data LacksFields (before : ℕ) (new : Table) : Table → TreesData → Type 0 where
  lacks_none : LacksFields before new new no_trees
  lacks_one : {t s : Table} {p : PlanData} {zeros : TreesData} → IsLeftOut before t s p → LacksFields before new s zeros
      → LacksFields before new t (tree (zero_of p) zeros)

-- each of these clusters holds the entries that it was written with under a table that grew to this one; these are its entries here
pub data AreFilled (file : List ℕ) (new : Table) : List ClusterList → List (List TreesData) → Type 0 where
  none_filled : AreFilled file new [] []
  and_filled : {k : ClusterList} {ks : List ClusterList} {t : Table} {zeros : TreesData} {es : List TreesData}
      {others : List (List TreesData)} → HoldsCluster file t k es → length k.columns ≤ length t.columns
      → LacksFields (k.first + k.entries) new t zeros → AreFilled file new ks others
      → AreFilled file new (k ∷ ks) (filled zeros es ∷ others)
