-- What is read of a file is one thing: what it means, its outline, and what is chosen of it.
use Rattle.std.proofs.Common.{◌≡◌, ◌∙◌, inl, inr, ap, sym, refl, ℕ, ◌+◌, List, [], ◌∷◌, ◌++◌, Result, Ok, Err}
use Rattle.std.proofs.lemmas.List.Concat.{flat_map-cons}
use Rattle.nt_lists.specs.Chaining.{◌>>=◌}
use Rattle.nt_num.specs.declared.fault.ReadError.{ReadError}
use Rattle.nt_types.specs.TreeData.{TreesData}
use Rattle.nt_grammar.specs.Table.{Table}
use Rattle.nt_pagelists.specs.declared.cluster.ClusterList.{ClusterList}
use Rattle.nt_file_meaning.specs.Outlines.{Outline, outline_of}
use Rattle.nt_file_meaning.specs.Clusters.{cluster_of}
use Rattle.nt_file_meaning.specs.Files.{entries_from, Means, HasDefect}
use Rattle.nt_skim.specs.declared.error.PlanError.{PlanError}
use Rattle.nt_skim.specs.Planning.{planned}
use Rattle.nt_skim.specs.Select.{Selection, selected, readings_from, cluster_readings, entries_read, before_fault}
use Rattle.nt_skim_file.specs.Choosing.{SkimChoiceData, IsPlanned, IsUnplanned, HasNoPlan, SelectsAll, SelectsBefore}
use Rattle.nt_skim_file.proofs.Meanings.{entries_of_all, before-none, outlined, not_outlined}

next_joined : (r whole : Result (List TreesData) ReadError) (each : Result (List (List TreesData)) ReadError)
    (cs : List (List TreesData))
    → ((os : List (List TreesData)) → each ≡ Ok os → whole ≡ Ok (entries_of_all os))
    → (r >>= λ first. each >>= λ others. Ok (first ∷ others)) ≡ Ok cs
    → (r >>= λ first. whole >>= λ others. Ok (first ++ others)) ≡ Ok (entries_of_all cs)
next_joined (Err e) whole each cs rest is = absurd (cc is)
next_joined (Ok first) whole (Err e) cs rest is = absurd (cc is)
next_joined (Ok first) whole (Ok os) cs rest is =
    let all : first ∷ os ≡ cs = cc is in
    ap (λ (x : Result (List TreesData) ReadError). x >>= λ (o : List TreesData). Ok (first ++ o)) (rest os refl)
    ∙ (ap (λ (l : List TreesData). Ok l) (sym (flat_map-cons (λ (c : List TreesData). c) first os))
    ∙ ap (λ (l : List (List TreesData)). Ok (entries_of_all l)) all)

read-joined : (file : List ℕ) (t : Table) (n : ℕ) (ks : List ClusterList) (cs : List (List TreesData))
    → entries_from file t n ks ≡ Ok cs → entries_read (readings_from file t n ks) ≡ Ok (entries_of_all cs)
read-joined file t n [] cs is =
    let none : [] ≡ cs = cc is in ap (λ (l : List (List TreesData)). Ok (entries_of_all l)) none
read-joined file t n (k ∷ ks) cs is =
    next_joined (cluster_of file t n k) (entries_read (readings_from file t (n + 1) ks)) (entries_from file t (n + 1) ks) cs
    (read-joined file t (n + 1) ks) is

-- the outline of what means something
pub record MeansOutlined (file : List ℕ) (t : Table) (clusters : List (List TreesData)) : Type 0 where
  pub o : Outline
  pub outline : outline_of file ≡ Ok o
  pub table : o.table ≡ t
  pub read : entries_read (cluster_readings file o) ≡ Ok (entries_of_all clusters)

with_table : (each : Result (List (List TreesData)) ReadError) (s t : Table) (clusters : List (List TreesData))
    → ◌>>=◌ {B = Table × List (List TreesData)} each (λ cs. Ok (s, cs)) ≡ Ok (t, clusters) → (s ≡ t) × (each ≡ Ok clusters)
with_table (Err e) s t clusters is = absurd (cc is)
with_table (Ok cs) s t clusters is =
    let both : ◌≡◌ {A = Table × List (List TreesData)} (s, cs) (t, clusters) = cc is in
    (ap (λ (x : Table × List (List TreesData)). x.0) both, ap (λ (x : Table × List (List TreesData)). Ok x.1) both)

pub means-outlined : (file : List ℕ) (t : Table) (clusters : List (List TreesData)) → Means file t clusters
    → MeansOutlined file t clusters
means-outlined file t clusters means = by (outline_of file) refl
  where
    by : (r : Result Outline ReadError) → outline_of file ≡ r → MeansOutlined file t clusters
    by (Err e) is = let bad = sym (not_outlined file e is) ∙ means in absurd (cc bad)
    by (Ok o) is =
        let both = with_table (entries_from file o.table 0 o.clusters) o.table t clusters (sym (outlined file o is) ∙ means) in
        record {
          o = o;
          outline = is;
          table = both.0;
          read = read-joined file o.table 0 o.clusters clusters both.1;
        }

-- a file doesn't mean something and have a fault
pub means-no_defect : (file : List ℕ) (t : Table) (clusters : List (List TreesData)) (e : ReadError) → Means file t clusters
    → HasDefect file e → ⊥
means-no_defect file t clusters e means fault = let both = sym means ∙ fault in cc both

-- it has one first fault
pub same-defect : (file : List ℕ) (e f : ReadError) → HasDefect file e → HasDefect file f → e ≡ f
same-defect file e f one other = let both = sym one ∙ other in cc both

outline_is : (file : List ℕ) (o q : Outline) → outline_of file ≡ Ok o → outline_of file ≡ Ok q → o ≡ q
outline_is file o q one other = let both = sym one ∙ other in cc both

module _ (c : SkimChoiceData) (bytes : List ℕ) where
  -- all that is selected comes before a fault
  pub all-before : (s : Selection) (entries : List TreesData) → SelectsAll c bytes s entries → SelectsBefore c bytes s entries
  all-before s entries all =
      let m = means-outlined bytes all.table all.clusters all.means in
      record {
        o = m.o;
        is_planned = record {
          outline = m.outline;
          plan = ap (λ (t : Table). planned t c.names c.test) m.table ∙ all.plan;
        };
        entries_are = all.entries_are ∙ ap (selected s) (sym (before-none (cluster_readings bytes m.o)
            (entries_of_all all.clusters) m.read));
      }

  -- what is selected before the first fault is one selection, and one list of entries
  selection_is : (s s' : Selection) → ◌≡◌ {A = Result Selection PlanError} (Ok s) (Ok s') → s ≡ s'
  selection_is s s' is = cc is

  pub same-before : (s s' : Selection) (entries entries' : List TreesData) → SelectsBefore c bytes s entries
      → SelectsBefore c bytes s' entries' → (s ≡ s') × (entries ≡ entries')
  same-before s s' entries entries' one other =
      let o = outline_is bytes one.o other.o one.is_planned.outline other.is_planned.outline in
      let s-is = selection_is s s' (sym one.is_planned.plan ∙ (ap (λ (q : Outline). planned q.table c.names c.test) o
      ∙ other.is_planned.plan)) in (
        s-is,
        one.entries_are
            ∙ (ap (λ (x : Selection). selected x (before_fault (cluster_readings bytes one.o))) s-is
            ∙ (ap (λ (q : Outline). selected s' (before_fault (cluster_readings bytes q))) o ∙ sym other.entries_are)),
      )

  -- a plan is made or not
  pub planned-or_not : (s : Selection) (entries : List TreesData) (e : PlanError) → SelectsBefore c bytes s entries
      → IsUnplanned c bytes e → ⊥
  planned-or_not s entries e one not =
      let o = outline_is bytes one.o not.o one.is_planned.outline not.outline in
      let both = sym one.is_planned.plan ∙ (ap (λ (q : Outline). planned q.table c.names c.test) o ∙ not.plan) in
      cc both

  -- what stands against it is one thing
  pub same-unplanned : (e f : PlanError) → IsUnplanned c bytes e → IsUnplanned c bytes f → e ≡ f
  same-unplanned e f one other =
      let o = outline_is bytes one.o other.o one.outline other.outline in
      let both = sym one.plan ∙ (ap (λ (q : Outline). planned q.table c.names c.test) o ∙ other.plan) in
      cc both

  -- a file has an outline or not
  pub outlined-or_not : (o : Outline) (e : ReadError) → outline_of bytes ≡ Ok o → outline_of bytes ≡ Err e → ⊥
  outlined-or_not o e one other = let both = sym one ∙ other in cc both

  -- so a file that has a plan doesn't lack it
  pub planned-or_none : (o : Outline) (s : Selection) → IsPlanned c bytes o s → HasNoPlan c bytes → ⊥
  planned-or_none o s one (inl (e, refused)) = outlined-or_not o e one.outline refused
  planned-or_none o s one (inr (e, not)) =
      planned-or_not s (selected s (before_fault (cluster_readings bytes o))) e
      (record { o = o; is_planned = one; entries_are = refl }) not
