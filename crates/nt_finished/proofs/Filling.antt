-- A cluster that leaves fields out holds its entries with their zeros.
use Rattle.std.proofs.Common.{◌≡◌, ℕ, zero, suc, ◌+◌, ◌-◌, ◌<◌, ◌≤◌, List, [], ◌∷◌, ◌++◌, map, length}
use Rattle.std.proofs.Common.{Option, None, Ok, refl, sym, ap, subst, ◌∙◌, ◌⊎◌, inl, inr, append-nil, arith}
use Rattle.std.specs.Prelude.{slice_index_or}
use Rattle.std.specs.List.{range_with_len}
use Rattle.std.proofs.lemmas.Bool.{cases_lt}
use Rattle.std.proofs.lemmas.List.{length-append, get_or_append_left, get_or-append_right}
use Rattle.nt_types.specs.TreeData.{TreeData, TreesData, no_trees, tree}
use Rattle.nt_encode.specs.Elements.{Element}
use Rattle.nt_grammar.specs.declared.rows.ColumnRow.{ColumnRow}
use Rattle.nt_grammar.specs.Table.{Table}
use Rattle.nt_plans.specs.Plan.{PlanData, PlansData, no_plans, plan, and_plan, has_any, Differ, AllDiffer}
use Rattle.nt_plans.specs.Place.{open_plans}
use Rattle.nt_plans.specs.Needs.{NeedData, entries, need_in, need_of}
use Rattle.nt_trees.specs.Columns.{Cols}
use Rattle.nt_trees.specs.Sound.{Sound, AllSound}
use Rattle.nt_trees.specs.TreeAt.{tree_at, each_at}
use Rattle.nt_trees.specs.Faults.{fault_in}
use Rattle.nt_trees.proofs.Elsewhere.{Agree, all_sound-agrees}
use Rattle.nt_trees.proofs.Lists.{Extends}
use Rattle.nt_trees.proofs.Stable.{each_at-stays}
use Rattle.nt_pagelists.specs.declared.cluster.ClusterList.{ClusterList}
use Rattle.nt_file_meaning.specs.Outlines.{Outline, outline_of}
use Rattle.nt_file_meaning.specs.Clusters.{columns_by_id}
use Rattle.nt_file_meaning.specs.Clusters.{cluster_of}
use Rattle.nt_file_meaning.specs.Files.{entries_from, read_file, Means}
use Rattle.nt_file_meaning.specs.Holds.{HoldsColumns}
use Rattle.nt_file_meaning.specs.Holds.{HoldsCluster}
use Rattle.nt_file_meaning.proofs.ClustersBack.{cluster}
use Rattle.nt_finished.specs.LeftOut.{IsLeftOut, and_trees, filled, LacksFields, lacks_none, lacks_one, AreFilled, none_filled}
use Rattle.nt_finished.specs.LeftOut.{and_filled}
use Rattle.nt_finished.specs.Missing.{missing_elements, AreMissing}
use Rattle.nt_finished.specs.Zeros.{zero_of}
use Rattle.nt_finished.proofs.MissingColumns.{missing-fault, missing-tree}
use Rattle.nt_finished.proofs.LeftColumns.{missing_from, rows-held, all-held, length-held, missing-at}

-- ---- plans with one more behind them

last-differ : (ps : PlansData) (p : PlanData) → AllDiffer (and_plan ps p) → Differ p
last-differ no_plans p d = d.0
last-differ (plan q ps) p d = last-differ ps p d.1

and-sound : (ps : PlansData) (p : PlanData) (cols : Cols) (n : ℕ) → AllSound ps cols n → Sound p cols n → AllSound (and_plan ps p) cols n
and-sound no_plans p cols n all last = (last, all)
and-sound (plan q ps) p cols n all last = (all.0, and-sound ps p cols n all.1 last)

and-each : (ps : PlansData) (p : PlanData) (cols : Cols) (i : ℕ)
    → each_at (and_plan ps p) cols i ≡ and_trees (each_at ps cols i) (tree (tree_at p cols i) no_trees)
and-each no_plans p cols i = refl
and-each (plan q ps) p cols i = ap (tree (tree_at q cols i)) (and-each ps p cols i)

map-below : (f g : ℕ → TreesData) (h : TreesData → TreesData) (from n : ℕ) → ((i : ℕ) → i < from + n → f i ≡ h (g i))
    → map f (range_with_len from n) ≡ map h (map g (range_with_len from n))
map-below f g h from zero is = refl
map-below f g h from (suc n) is =
    ap (λ (x : TreesData). x ∷ map f (range_with_len (from + 1) n)) (is from (omega arith))
    ∙ ap (λ (xs : List TreesData). h (g from) ∷ xs) (map-below f g h (from + 1) n (λ i less. is i (omega (arith, less))))

module _ (file : List ℕ) (t new : Table) (p : PlanData) (k : ClusterList) (differ : AllDiffer (open_plans new))
    (before : (j : ℕ) → j < length t.columns → need_of new j ≡ need_of t j)
    (behind : (j : ℕ) → length t.columns ≤ j → need_of new j ≡ need_in entries p j)
    (no_fault : (cols : Cols) (n : ℕ) → fault_in p cols n ≡ None → Sound p cols n)
    (es : List TreesData) (held : HoldsCluster file t k es) (unlisted : length k.columns ≤ length t.columns)
    (out : IsLeftOut (k.first + k.entries) t new p) where
  abbrev cols : List (List Element)
  cols = held.columns ++ missing_from new k.entries (length t.columns) out.rows

  long : length held.columns ≡ length t.columns
  long = length-held file k t 0 t.columns held.columns held.holds

  cols-held : HoldsColumns file k new 0 new.columns cols
  cols-held =
      subst (λ (rows : List ColumnRow). HoldsColumns file k new 0 rows cols) (sym out.columns_behind)
      (all-held file k t new p 0 t.columns out.rows held.columns (missing_from new k.entries (length t.columns) out.rows)
      (λ j less. before j (omega (arith, less))) held.holds
      (let same : length t.columns ≡ 0 + length t.columns = omega arith in
      subst (λ (i : ℕ). HoldsColumns file k new i out.rows (missing_from new k.entries (length t.columns) out.rows)) same
      (rows-held file k t new p (length t.columns) out.rows unlisted behind out.begin)))

  cols-extend : Extends (columns_by_id held.columns) (columns_by_id cols)
  cols-extend j = by (cases_lt j (length held.columns))
    where
      by : (j < length held.columns) ⊎ (length held.columns ≤ j)
          → (more : List Element) × (columns_by_id cols j ≡ columns_by_id held.columns j ++ more)
      by (inl low) = (
        [],
        get_or_append_left held.columns (missing_from new k.entries (length t.columns) out.rows) [] j low
            ∙ sym (append-nil (columns_by_id held.columns j)),
      )
      by (inr high) = (
        columns_by_id cols j,
        ap (λ (l : List Element). l ++ columns_by_id cols j) (sym (none-past held.columns j high)),
      )
        where
          none-past : (ls : List (List Element)) (i : ℕ) → length ls ≤ i → slice_index_or ls i [] ≡ []
          none-past [] i past = refl
          none-past (l ∷ ls) zero past = absurd (omega (arith, past))
          none-past (l ∷ ls) (suc i) past = none-past ls i (omega (arith, past))

  cols-agree : Agree (has_any (open_plans t)) (columns_by_id held.columns) (columns_by_id cols)
  cols-agree j h =
      get_or_append_left held.columns (missing_from new k.entries (length t.columns) out.rows) [] j
      (omega (arith, out.grows.before j h, long))

  cols-missing : AreMissing p (columns_by_id cols) k.entries
  cols-missing j h =
      let both = out.grows.behind j h in
      let from : length t.columns ≤ j = both.0 in
      let rows : length new.columns ≡ length t.columns + length out.rows =
      ap length out.columns_behind ∙ length-append t.columns out.rows in
      let less : j - length held.columns < length out.rows = omega (arith, both.1, both.0, rows, long) in
      let place : length t.columns + (j - length held.columns) ≡ j = omega (arith, from, long) in
      get_or-append_right held.columns (missing_from new k.entries (length t.columns) out.rows) (length held.columns) j [] refl
      (omega (arith, from, long))
      ∙ (missing-at new k.entries (length t.columns) out.rows (j - length held.columns) less
      ∙ (ap (λ (i : ℕ). missing_elements (need_of new i) k.entries) place
      ∙ ap (λ (need : Option NeedData). missing_elements need k.entries) (behind j from)))

  abbrev zero_tail : TreesData
  zero_tail = tree (zero_of p) no_trees

  its-differ : Differ p
  its-differ = last-differ (open_plans t) p (subst AllDiffer out.grows.plans differ)

  entry-is : (i : ℕ) → i < k.entries
      → each_at (open_plans new) (columns_by_id cols) i ≡ and_trees (each_at (open_plans t) (columns_by_id held.columns) i) zero_tail
  entry-is i less =
      ap (λ (ps : PlansData). each_at ps (columns_by_id cols) i) out.grows.plans
      ∙ (and-each (open_plans t) p (columns_by_id cols) i
      ∙ (ap (λ (x : TreeData). and_trees (each_at (open_plans t) (columns_by_id cols) i) (tree x no_trees))
      (missing-tree p (columns_by_id cols) k.entries i its-differ cols-missing)
      ∙ ap (λ (ts : TreesData). and_trees ts zero_tail)
      (each_at-stays (open_plans t) (columns_by_id held.columns) (columns_by_id cols) k.entries i cols-extend held.sound less)))

  pub one-filled : HoldsCluster file new k (filled zero_tail es)
  one-filled = record {
    columns = cols;
    holds = cols-held;
    sound = subst (λ (ps : PlansData). AllSound ps (columns_by_id cols) k.entries) (sym out.grows.plans)
        (and-sound (open_plans t) p (columns_by_id cols) k.entries
        (all_sound-agrees (open_plans t) (columns_by_id held.columns) (columns_by_id cols) k.entries cols-agree held.sound)
        (no_fault (columns_by_id cols) k.entries (missing-fault p (columns_by_id cols) k.entries its-differ cols-missing)));
    give = ap (filled zero_tail) held.give
        ∙ sym (map-below (each_at (open_plans new) (columns_by_id cols)) (each_at (open_plans t) (columns_by_id held.columns))
        (λ ts. and_trees ts zero_tail) 0 k.entries (λ i less. entry-is i (omega (arith, less))));
  }

-- ---- several fields

and-none : (ts : TreesData) → and_trees ts no_trees ≡ ts
and-none no_trees = refl
and-none (tree t ts) = ap (tree t) (and-none ts)

and-and : (ts : TreesData) (z : TreeData) (zs : TreesData) → and_trees (and_trees ts (tree z no_trees)) zs ≡ and_trees ts (tree z zs)
and-and no_trees z zs = refl
and-and (tree t ts) z zs = ap (tree t) (and-and ts z zs)

filled-none : (es : List TreesData) → filled no_trees es ≡ es
filled-none [] = refl
filled-none (ts ∷ es) = ap (λ (x : TreesData). x ∷ filled no_trees es) (and-none ts) ∙ ap (λ (l : List TreesData). ts ∷ l) (filled-none es)

filled-filled : (z : TreeData) (zs : TreesData) (es : List TreesData) → filled zs (filled (tree z no_trees) es) ≡ filled (tree z zs) es
filled-filled z zs [] = refl
filled-filled z zs (ts ∷ es) =
    ap (λ (x : TreesData). x ∷ filled zs (filled (tree z no_trees) es)) (and-and ts z zs)
    ∙ ap (λ (l : List TreesData). and_trees ts (tree z zs) ∷ l) (filled-filled z zs es)

module _ (step : (file : List ℕ) (t new : Table) (p : PlanData) (k : ClusterList) (es : List TreesData) → HoldsCluster file t k es
    → length k.columns ≤ length t.columns → IsLeftOut (k.first + k.entries) t new p
    → HoldsCluster file new k (filled (tree (zero_of p) no_trees) es)) where
  each-filled : (file : List ℕ) (k : ClusterList) (new t : Table) (zeros : TreesData) (es : List TreesData) → HoldsCluster file t k es
      → length k.columns ≤ length t.columns → LacksFields (k.first + k.entries) new t zeros → HoldsCluster file new k (filled zeros es)
  each-filled file k new t zeros es held unlisted lacks_none =
      subst (λ (l : List TreesData). HoldsCluster file new k l) (sym (filled-none es)) held
  each-filled file k new t zeros es held unlisted (lacks_one {s = s} {p = p} {zeros = zs} out more) =
      let more_columns : length s.columns ≡ length t.columns + length out.rows =
      ap length out.columns_behind ∙ length-append t.columns out.rows in
      subst (λ (l : List TreesData). HoldsCluster file new k l) (filled-filled (zero_of p) zs es)
      (each-filled file k new s zs (filled (tree (zero_of p) no_trees) es) (step file t s p k es held unlisted out)
      (omega (arith, unlisted, more_columns)) more)

  pub all-filled : (file : List ℕ) (t new : Table) (zeros : TreesData) (k : ClusterList) (es : List TreesData) → HoldsCluster file t k es
      → length k.columns ≤ length t.columns → LacksFields (k.first + k.entries) new t zeros → HoldsCluster file new k (filled zeros es)
  all-filled file t new zeros k es held unlisted lacks = each-filled file k new t zeros es held unlisted lacks

-- ---- a file

entries-chain : (file : List ℕ) (t : Table) (number : ℕ) (l : ClusterList) (ls : List ClusterList) (es : List TreesData)
    (others : List (List TreesData)) → cluster_of file t number l ≡ Ok es → entries_from file t (number + 1) ls ≡ Ok others
    → entries_from file t number (l ∷ ls) ≡ Ok (es ∷ others)
entries-chain file t number l ls es others p q = rw (p, q) refl

file-chain : (file : List ℕ) (o : Outline) (clusters : List (List TreesData)) → outline_of file ≡ Ok o
    → entries_from file o.table 0 o.clusters ≡ Ok clusters → read_file file ≡ Ok (o.table, clusters)
unfolding read_file
file-chain file o clusters p q = rw (p, q) refl

clusters-read : ((file : List ℕ) (t new : Table) (zeros : TreesData) (k : ClusterList) (es : List TreesData) → HoldsCluster file t k es
    → length k.columns ≤ length t.columns → LacksFields (k.first + k.entries) new t zeros → HoldsCluster file new k (filled zeros es))
    → (file : List ℕ) (new : Table) (number : ℕ) (ks : List ClusterList) (clusters : List (List TreesData)) → AreFilled file new ks clusters
    → entries_from file new number ks ≡ Ok clusters
clusters-read fill file new number ks clusters none_filled = refl
clusters-read fill file new number ks clusters
    (and_filled {k = k} {ks = ls} {t = t} {zeros = zeros} {es = es} {others = others} held unlisted lacks more) =
    entries-chain file new number k ls (filled zeros es) others
    ((cluster file new number k).reads (filled zeros es) (fill file t new zeros k es held unlisted lacks))
    (clusters-read fill file new (number + 1) ls others more)

pub file-filled : ((file : List ℕ) (t new : Table) (zeros : TreesData) (k : ClusterList) (es : List TreesData) → HoldsCluster file t k es
    → length k.columns ≤ length t.columns → LacksFields (k.first + k.entries) new t zeros → HoldsCluster file new k (filled zeros es))
    → (file : List ℕ) (o : Outline) (clusters : List (List TreesData)) → outline_of file ≡ Ok o
    → AreFilled file o.table o.clusters clusters → Means file o.table clusters
file-filled fill file o clusters outline are =
    file-chain file o clusters outline (clusters-read fill file o.table 0 o.clusters clusters are)
