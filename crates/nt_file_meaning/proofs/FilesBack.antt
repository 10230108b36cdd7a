-- A file is read as the entries that it holds, or has one first fault.
use Rattle.std.proofs.Common.{◌≡◌, ℕ, ◌+◌, List, [], ◌∷◌, Result, Ok, Err, refl, sym, ap, subst, ◌∙◌, inl, inr}
use Rattle.std.specs.Prelude.{◌⊎◌}
use Rattle.nt_num.specs.declared.fault.ReadError.{ReadError}
use Rattle.nt_lists.proofs.Variants.{ok_is, err_is}
use Rattle.nt_format.specs.Reading.{IsBytes}
use Rattle.nt_format.specs.Relations.{Agrees, With, Is}
use Rattle.nt_format.proofs.Relations.{bind, exactly, in_words}
use Rattle.nt_types.specs.TreeData.{TreesData}
use Rattle.nt_grammar.specs.Table.{Table}
use Rattle.nt_pagelists.specs.declared.cluster.ClusterList.{ClusterList}
use Rattle.nt_file_meaning.specs.Describes.{HasOutline}
use Rattle.nt_file_meaning.specs.Files.{entries_from, read_file, Means, HasDefect}
use Rattle.nt_file_meaning.specs.Holds.{HoldsCluster, HoldsClusters, no_cluster, and_cluster, HoldsFile}
use Rattle.nt_file_meaning.proofs.OutlinesBack.{outlined}
use Rattle.nt_file_meaning.proofs.ClustersBack.{cluster}

clusters : (file : List ℕ) (t : Table) (number : ℕ) (ks : List ClusterList)
    → Agrees (entries_from file t number ks) (HoldsClusters file t ks)
clusters file t number [] = in_words
    (λ es is. subst (λ (l : List (List TreesData)). HoldsClusters file t [] l) (sym is) no_cluster)
    (λ es h. none es h)
    (exactly [])
  where
    none : (es : List (List TreesData)) → HoldsClusters file t [] es → es ≡ []
    none es no_cluster = refl
clusters file t number (k ∷ ks) = in_words
    (λ es w. subst (λ (l : List (List TreesData)). HoldsClusters file t (k ∷ ks) l) (sym w.second.second)
    (and_cluster w.first w.second.first))
    (λ es h. some es h)
    (bind _ (cluster file t number k) λ first f. bind _ (clusters file t (number + 1) ks) λ others o. exactly (first ∷ others))
  where
    some : (es : List (List TreesData)) → HoldsClusters file t (k ∷ ks) es
        → With (HoldsCluster file t k) (λ first. With (HoldsClusters file t ks) (λ others. Is (first ∷ others))) es
    some es (and_cluster {entries = one} {others = others} first more) =
        record { middle = one; first = first; second = record { middle = others; first = more; second = refl } }

Steps : List ℕ → Table × List (List TreesData) → Type 0
Steps file = With (HasOutline file) λ o. With (HoldsClusters file o.table o.clusters) λ ks. Is (o.table, ks)

steps : (file : List ℕ) → IsBytes file → Agrees (read_file file) (Steps file)
unfolding read_file Steps
steps file fits = bind _ (outlined file fits) λ o h. bind _ (clusters file o.table 0 o.clusters) λ ks c. exactly _

pub file_held : (file : List ℕ) → IsBytes file → Agrees (read_file file) (HoldsFile file)
unfolding Steps
file_held file fits = in_words
    (λ read w. record {
      outline = w.middle;
      has = w.first;
      schema = ap (λ (r : Table × List (List TreesData)). r.0) w.second.second;
      clusters = subst (λ (l : List (List TreesData)). HoldsClusters file w.middle.table w.middle.clusters l)
          (sym (ap (λ (r : Table × List (List TreesData)). r.1) w.second.second)) w.second.first;
    })
    (λ read h. record {
      middle = h.outline;
      first = h.has;
      second = record { middle = read.1; first = h.clusters; second = ap (λ (t : Table). (t, read.1)) h.schema };
    })
    (steps file fits)

pub one_meaning : (file : List ℕ) (t u : Table) (ks ls : List (List TreesData)) → Means file t ks → Means file u ls → (t ≡ u) × (ks ≡ ls)
one_meaning file t u ks ls m n =
    let same = ok_is {E = ReadError} (t, ks) (u, ls) (sym m ∙ n) in
    (ap (λ (r : Table × List (List TreesData)). r.0) same, ap (λ (r : Table × List (List TreesData)). r.1) same)

pub one_defect : (file : List ℕ) (e f : ReadError) → HasDefect file e → HasDefect file f → e ≡ f
one_defect file e f d g = err_is {A = Table × List (List TreesData)} e f (sym d ∙ g)

pub means_or_defect : (file : List ℕ) → ((t : Table) × (ks : List (List TreesData)) × Means file t ks)
    ⊎ ((e : ReadError) × HasDefect file e)
means_or_defect file = by (read_file file) refl
  where
    by : (r : Result (Table × List (List TreesData)) ReadError) → read_file file ≡ r
        → ((t : Table) × (ks : List (List TreesData)) × Means file t ks) ⊎ ((e : ReadError) × HasDefect file e)
    by (Ok read) is = inl (read.0, read.1, is)
    by (Err e) is = inr (e, is)

pub never_both : (file : List ℕ) (t : Table) (ks : List (List TreesData)) (e : ReadError) → Means file t ks → HasDefect file e → ⊥
never_both file t ks e m d = let same : ◌≡◌ {A = Result (Table × List (List TreesData)) ReadError} (Ok (t, ks)) (Err e) =
    sym m ∙ d in absurd cc
