-- Clusters that are read one after the other.
use Rattle.std.proofs.Common.{◌≡◌, ℕ, suc, ◌+◌, ◌<◌, ◌≤◌, List, [], ◌∷◌, ◌++◌, length, take, drop, get_or, Result, Ok, Err, refl}
use Rattle.std.proofs.Common.{sym, ap, subst, ◌∙◌, arith}
use Rattle.std.proofs.lemmas.List.{take-append-drop, take_more, take_all, append-nil, length-take-le}
use Rattle.std.proofs.Math.Seq.{drop-cons}
use Rattle.nt_num.specs.declared.fault.ReadError.{ReadError}
use Rattle.nt_lists.specs.Chaining.{◌>>=◌}
use Rattle.nt_lists.proofs.Chaining.{bind_ok}
use Rattle.nt_lists.proofs.Variants.{ok_is}
use Rattle.nt_encode.specs.Elements.{Element}
use Rattle.nt_grammar.specs.Table.{Table}
use Rattle.nt_pagelists.specs.declared.cluster.ClusterList.{ClusterList}
use Rattle.nt_file_meaning.specs.Clusters.{columns_in_cluster}
use Rattle.nt_file_meaning.specs.Outlines.{Outline}
use Rattle.nt_reader.specs.Outlines.{numbered_cluster, unlisted_cluster, columns_read}
use Rattle.nt_scan.specs.Clusters.{columns_over}

-- what is read behind others
abbrev behind : List (List (List Element)) → Result (List (List (List Element))) ReadError → Result (List (List (List Element))) ReadError
behind read r = r >>= λ others. Ok (read ++ others)

behind-none : (r : Result (List (List (List Element))) ReadError) → behind [] r ≡ r
behind-none (Ok x) = refl
behind-none (Err e) = refl

behind-one : (first : List (List Element)) (rest : List (List (List Element))) (r : Result (List (List (List Element))) ReadError)
    → (behind rest r >>= λ others. Ok (first ∷ others)) ≡ behind (first ∷ rest) r
behind-one first rest (Ok x) = refl
behind-one first rest (Err e) = refl

pub over-append : (file : List ℕ) (t : Table) (n : ℕ) (ks ls : List ClusterList) (read : List (List (List Element)))
    → columns_over file t n ks ≡ Ok read → columns_over file t n (ks ++ ls) ≡ behind read (columns_over file t (n + length ks) ls)
over-append file t n [] ls read h =
    let none : n ≡ n + 0 = omega arith in
    sym (behind-none (columns_over file t n ls))
    ∙ ap (λ l. behind l (columns_over file t n ls)) (ok_is [] read h)
    ∙ ap (λ m. behind read (columns_over file t m ls)) none
over-append file t n (k ∷ ks) ls read h =
    let first = bind_ok (columns_in_cluster file t n k) (λ f. columns_over file t (n + 1) ks >>= λ others. Ok (f ∷ others)) read h in
    let rest = bind_ok (columns_over file t (n + 1) ks) (λ others. Ok (first.0 ∷ others)) read first.2 in
    let at : n + 1 + length ks ≡ n + length (k ∷ ks) = omega arith in
    ap (λ r. r >>= λ f. columns_over file t (n + 1) (ks ++ ls) >>= λ others. Ok (f ∷ others)) first.1
    ∙ ap (λ r. r >>= λ others. Ok (first.0 ∷ others)) (over-append file t (n + 1) ks ls rest.0 rest.1)
    ∙ behind-one first.0 rest.0 (columns_over file t (n + 1 + length ks) ls)
    ∙ ap (λ l. behind l (columns_over file t (n + 1 + length ks) ls)) (ok_is (first.0 ∷ rest.0) read rest.2)
    ∙ ap (λ m. behind read (columns_over file t m ls)) at

-- one cluster more
pub over-more : (file : List ℕ) (o : Outline) (k : ℕ) (read : List (List (List Element))) (cs : List (List Element)) → k < length o.clusters
    → columns_over file o.table 0 (take k o.clusters) ≡ Ok read → columns_read o k file ≡ Ok cs
    → columns_over file o.table 0 (take (k + 1) o.clusters) ≡ Ok (read ++ cs ∷ [])
over-more file o k read cs lt so_far here =
    let ks = o.clusters in
    let len : 0 + length (take k ks) ≡ k = omega (arith, length-take-le k ks (omega (arith, lt))) in
    ap (columns_over file o.table 0) (take_more ks k unlisted_cluster lt)
    ∙ over-append file o.table 0 (take k ks) (numbered_cluster o k ∷ []) read so_far
    ∙ ap (λ n. behind read (columns_over file o.table n (numbered_cluster o k ∷ []))) len
    ∙ ap (λ r. behind read (r >>= λ first. Ok (first ∷ []))) here

-- the first cluster with a fault
pub over-fails : (file : List ℕ) (o : Outline) (k : ℕ) (read : List (List (List Element))) (e : ReadError) → k < length o.clusters
    → columns_over file o.table 0 (take k o.clusters) ≡ Ok read → columns_read o k file ≡ Err e
    → columns_over file o.table 0 o.clusters ≡ Err e
over-fails file o k read e lt so_far here =
    let ks = o.clusters in
    let len : 0 + length (take k ks) ≡ k = omega (arith, length-take-le k ks (omega (arith, lt))) in
    ap (columns_over file o.table 0) (sym (take-append-drop k ks))
    ∙ over-append file o.table 0 (take k ks) (drop k ks) read so_far
    ∙ ap (λ n. behind read (columns_over file o.table n (drop k ks))) len
    ∙ ap (λ l. behind read (columns_over file o.table k l)) (drop-cons ks k unlisted_cluster lt)
    ∙ ap (λ r. behind read (r >>= λ first. columns_over file o.table (k + 1) (drop (suc k) ks) >>= λ others. Ok (first ∷ others))) here

pub over-all : (file : List ℕ) (o : Outline) (k : ℕ) (read : List (List (List Element))) → length o.clusters ≤ k
    → columns_over file o.table 0 (take k o.clusters) ≡ Ok read → columns_over file o.table 0 o.clusters ≡ Ok read
over-all file o k read past h = ap (columns_over file o.table 0) (sym (take_all k o.clusters past)) ∙ h
