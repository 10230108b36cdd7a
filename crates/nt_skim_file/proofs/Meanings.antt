-- What the clusters of a file are read as, one by one, and what the file means.
use Rattle.std.proofs.Common.{◌≡◌, ◌∙◌, ap, sym, refl, ℕ, ◌+◌, List, [], ◌∷◌, ◌++◌, Result, Ok, Err}
use Rattle.std.specs.List.{flat_map}
use Rattle.std.proofs.lemmas.List.Concat.{flat_map-cons}
use Rattle.nt_lists.specs.Chaining.{◌>>=◌}
use Rattle.nt_num.specs.declared.fault.ReadError.{ReadError}
use Rattle.nt_types.specs.TreeData.{TreesData}
use Rattle.nt_grammar.specs.Table.{Table}
use Rattle.nt_pagelists.specs.declared.cluster.ClusterList.{ClusterList}
use Rattle.nt_file_meaning.specs.Outlines.{Outline, outline_of}
use Rattle.nt_file_meaning.specs.Clusters.{cluster_of}
use Rattle.nt_file_meaning.specs.Files.{entries_from, read_file, Means, HasDefect}
use Rattle.nt_skim.specs.Select.{readings_from, cluster_readings, entries_read, before_fault}

-- the entries of clusters, one behind the other
abbrev pub entries_of_all : List (List TreesData) → List TreesData
entries_of_all clusters = flat_map (λ (c : List TreesData). c) clusters

-- clusters were read whole, with these entries
pub record IsReadWhole (each : Result (List (List TreesData)) ReadError) (es : List TreesData) : Type 0 where
  pub clusters : List (List TreesData)
  pub are : each ≡ Ok clusters
  pub joined : es ≡ entries_of_all clusters

module _ (r whole : Result (List TreesData) ReadError) (each : Result (List (List TreesData)) ReadError) where
  abbrev next_whole : Result (List TreesData) ReadError
  next_whole = r >>= λ first. whole >>= λ others. Ok (first ++ others)

  abbrev next_each : Result (List (List TreesData)) ReadError
  next_each = r >>= λ first. each >>= λ others. Ok (first ∷ others)

next_read : (r whole : Result (List TreesData) ReadError) (each : Result (List (List TreesData)) ReadError) (es : List TreesData)
    → ((os : List TreesData) → whole ≡ Ok os → IsReadWhole each os) → next_whole r whole each ≡ Ok es
    → IsReadWhole (next_each r whole each) es
next_read (Err e) whole each es rest is = absurd (cc is)
next_read (Ok first) (Err e) each es rest is = absurd (cc is)
next_read (Ok first) (Ok os) each es rest is =
    let others = rest os refl in
    let all : es ≡ first ++ os = cc is in
    record {
      clusters = first ∷ others.clusters;
      are = ap (λ (x : Result (List (List TreesData)) ReadError). x >>= λ (o : List (List TreesData)). Ok (first ∷ o)) others.are;
      joined = all
          ∙ (ap (λ (l : List TreesData). first ++ l) others.joined ∙ sym (flat_map-cons (λ (c : List TreesData). c) first others.clusters));
    }

next_faulty : (r whole : Result (List TreesData) ReadError) (each : Result (List (List TreesData)) ReadError) (e : ReadError)
    → (whole ≡ Err e → each ≡ Err e) → next_whole r whole each ≡ Err e → next_each r whole each ≡ Err e
next_faulty (Err f) whole each e rest is = cc is
next_faulty (Ok first) (Err f) each e rest is =
    ap (λ (x : Result (List (List TreesData)) ReadError). x >>= λ (o : List (List TreesData)). Ok (first ∷ o)) (rest (cc is))
next_faulty (Ok first) (Ok os) each e rest is = absurd (cc is)

read-whole : (file : List ℕ) (t : Table) (n : ℕ) (ks : List ClusterList) (es : List TreesData)
    → entries_read (readings_from file t n ks) ≡ Ok es → IsReadWhole (entries_from file t n ks) es
read-whole file t n [] es is = record { clusters = []; are = refl; joined = cc is }
read-whole file t n (k ∷ ks) es is =
    next_read (cluster_of file t n k) (entries_read (readings_from file t (n + 1) ks)) (entries_from file t (n + 1) ks) es
    (read-whole file t (n + 1) ks) is

read-faulty : (file : List ℕ) (t : Table) (n : ℕ) (ks : List ClusterList) (e : ReadError)
    → entries_read (readings_from file t n ks) ≡ Err e → entries_from file t n ks ≡ Err e
read-faulty file t n [] e is = absurd (cc is)
read-faulty file t n (k ∷ ks) e is =
    next_faulty (cluster_of file t n k) (entries_read (readings_from file t (n + 1) ks)) (entries_from file t (n + 1) ks) e
    (read-faulty file t (n + 1) ks e) is

before_next : (first es : List TreesData) (whole : Result (List TreesData) ReadError) (rest : List TreesData)
    → ((os : List TreesData) → whole ≡ Ok os → rest ≡ os) → (whole >>= λ others. Ok (first ++ others)) ≡ Ok es → first ++ rest ≡ es
before_next first es (Ok os) rest turn is =
    let all : first ++ os ≡ es = cc is in ap (λ (l : List TreesData). first ++ l) (turn os refl) ∙ all
before_next first es (Err e) rest turn is = absurd (cc is)

-- where all clusters are read, all entries stand before the first fault
pub before-none : (rs : List (Result (List TreesData) ReadError)) (es : List TreesData) → entries_read rs ≡ Ok es → before_fault rs ≡ es
before-none [] es is = cc is
before-none (Err e ∷ rs) es is = absurd (cc is)
before-none (Ok first ∷ rs) es is = before_next first es (entries_read rs) (before_fault rs) (before-none rs) is

pub outlined : (file : List ℕ) (o : Outline) → outline_of file ≡ Ok o
    → read_file file ≡ (entries_from file o.table 0 o.clusters >>= λ clusters. Ok (o.table, clusters))
unfolding read_file
outlined file o is = rw is refl

pub not_outlined : (file : List ℕ) (e : ReadError) → outline_of file ≡ Err e → read_file file ≡ Err e
unfolding read_file
not_outlined file e is = rw is refl

-- a file whose clusters are all read means the schema of its outline and these clusters
pub record MeansRead (file : List ℕ) (o : Outline) (es : List TreesData) : Type 0 where
  pub clusters : List (List TreesData)
  pub means : Means file o.table clusters
  pub joined : es ≡ entries_of_all clusters

pub means-read : (file : List ℕ) (o : Outline) (es : List TreesData) → outline_of file ≡ Ok o
    → entries_read (cluster_readings file o) ≡ Ok es → MeansRead file o es
means-read file o es is read =
    let whole = read-whole file o.table 0 o.clusters es read in
    record {
      clusters = whole.clusters;
      means = outlined file o is
          ∙ ap (λ (x : Result (List (List TreesData)) ReadError). x >>= λ (cs : List (List TreesData)). Ok (o.table, cs)) whole.are;
      joined = whole.joined;
    }

-- the first fault of its clusters is that of the file
pub defect-read : (file : List ℕ) (o : Outline) (e : ReadError) → outline_of file ≡ Ok o
    → entries_read (cluster_readings file o) ≡ Err e → HasDefect file e
defect-read file o e is read =
    outlined file o is
    ∙ ap (λ (x : Result (List (List TreesData)) ReadError). x >>= λ (cs : List (List TreesData)). Ok (o.table, cs))
    (read-faulty file o.table 0 o.clusters e read)

-- so is that of its outline
pub defect-outline : (file : List ℕ) (e : ReadError) → outline_of file ≡ Err e → HasDefect file e
defect-outline file e is = not_outlined file e is
