-- Clusters behind which a field is added.
use Rattle.std.proofs.Common.{◌≡◌, ◌∙◌, ap, refl, ℕ, ◌+◌, ◌≤◌, List, [], ◌∷◌, map, length, arith}
use Rattle.std.proofs.lemmas.List.Sums.{sum_by-cons}
use Rattle.nt_types.specs.TreeData.{TreesData, no_trees, tree}
use Rattle.nt_grammar.specs.declared.rows.ColumnRow.{ColumnRow}
use Rattle.nt_grammar.specs.Table.{Table}
use Rattle.nt_plans.specs.Plan.{PlanData}
use Rattle.nt_machine.specs.History.{Cluster}
use Rattle.nt_book.specs.declared.meta.ClusterMeta.{ClusterMeta}
use Rattle.nt_book.specs.Books.{entry_count}
use Rattle.nt_finished.specs.LateFiles.{IsLateBlob, AreLateBlobs, no_blob, late_blob}
use Rattle.nt_finished.specs.LeftOut.{AllBeginBehind, IsLeftOut, and_trees, filled, LacksFields, lacks_none, lacks_one}
use Rattle.nt_finished.specs.Zeros.{zero_of}

begin-earlier : (low high : ℕ) (p : PlanData) (id : ℕ) (rows : List ColumnRow) → low ≤ high → AllBeginBehind high p id rows
    → AllBeginBehind low p id rows
begin-earlier low high p id [] le all = tt
begin-earlier low high p id (c ∷ cs) le all = (
  λ principal. let behind = all.0 principal in omega (arith, le, behind),
  begin-earlier low high p (id + 1) cs le all.1,
)

-- what so many entries leave out, fewer leave out too
left-earlier : (low high : ℕ) (t new : Table) (p : PlanData) → low ≤ high → IsLeftOut high t new p → IsLeftOut low t new p
left-earlier low high t new p le out = record {
  grows = out.grows;
  rows = out.rows;
  columns_behind = out.columns_behind;
  begin = begin-earlier low high p (length t.columns) out.rows le out.begin;
}

pub and_trees-and : (ts us vs : TreesData) → and_trees (and_trees ts us) vs ≡ and_trees ts (and_trees us vs)
and_trees-and no_trees us vs = refl
and_trees-and (tree t ts) us vs = ap (tree t) (and_trees-and ts us vs)

-- zeros behind zeros
pub filled-filled : (us vs : TreesData) (es : List TreesData) → filled vs (filled us es) ≡ filled (and_trees us vs) es
filled-filled us vs [] = refl
filled-filled us vs (e ∷ es) =
    ap (λ (x : TreesData). x ∷ filled vs (filled us es)) (and_trees-and e us vs)
    ∙ ap (λ (l : List TreesData). and_trees e (and_trees us vs) ∷ l) (filled-filled us vs es)

module _ (t new : Table) (p : PlanData) (high : ℕ) (out : IsLeftOut high t new p) where
  abbrev zero : TreesData
  zero = tree (zero_of p) no_trees

  -- a table that lacked fields lacks one more
  lacks-more : (low : ℕ) (s : Table) (zeros : TreesData) → low ≤ high → LacksFields low t s zeros
      → LacksFields low new s (and_trees zeros zero)
  lacks-more low s zeros le lacks_none = lacks_one (left-earlier low high t new p le out) lacks_none
  lacks-more low s zeros le (lacks_one {s = u} {zeros = others} one more) = lacks_one one (lacks-more low u others le more)

  blob-grown : (page first : ℕ) (c : Cluster ClusterMeta) (range : List ℕ) (all : List TreesData) → first + c.meta.entries ≤ high
      → IsLateBlob t page first c range all → IsLateBlob new page first c range (filled zero all)
  blob-grown page first c range all le is = record {
    table = is.table;
    entries = is.entries;
    zeros = and_trees is.zeros zero;
    blob = is.blob;
    begun = is.begun;
    lacks = lacks-more (first + c.meta.entries) is.table is.zeros le is.lacks;
    all_are = ap (filled zero) is.all_are ∙ filled-filled is.zeros zero is.entries;
  }

  -- clusters that end before the field have its zero
  pub late-grown : (page first : ℕ) (clusters : List (List TreesData)) (ranges : List (List ℕ)) (cs : List (Cluster ClusterMeta))
      → first + entry_count cs ≤ high → AreLateBlobs t page first clusters ranges cs
      → AreLateBlobs new page first (map (filled zero) clusters) ranges cs
  late-grown page first clusters ranges cs le no_blob = no_blob
  late-grown page first clusters ranges cs le
      (late_blob {all = es} {others = others} {range = r} {ranges = left} {c = d} {cs = ds} head more) =
      let sum = sum_by-cons (λ (x : Cluster ClusterMeta). x.meta.entries) d ds in
      late_blob (blob-grown page first d r es (omega (arith, le, sum)) head)
      (late-grown page (first + d.meta.entries) others left ds (omega (arith, le, sum)) more)
