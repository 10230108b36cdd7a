-- The clusters of files that are copied, by their places among all.
use Rattle.std.proofs.Common.{◌≡◌, ◌∙◌, ap, sym, refl, ℕ, zero, suc, ◌+◌, ◌<◌, ◌≤◌, List, [], ◌∷◌, ◌++◌, map, length, take, drop, arith}
use Rattle.std.proofs.lemmas.List.{map-append}
use Rattle.nt_grammar.specs.Table.{Table}
use Rattle.nt_pagelists.specs.declared.cluster.ClusterList.{ClusterList}
use Rattle.nt_file_meaning.specs.Outlines.{Outline}
use Rattle.nt_reader.specs.Outlines.{unlisted_cluster}
use Rattle.nt_copied.specs.Copies.{Source}
use Rattle.nt_merge.specs.Copying.{AreOfFile, source_at}
use Rattle.nt_merge.specs.Merging.{Numbered, numbered_from, sources, copied_meta, copied_metas}
use Rattle.nt_merge.proofs.Lists.{drop-next}

drop-nil : {A : Type 0} (n : ℕ) → ◌≡◌ {A = List A} (drop n []) []
drop-nil zero = refl
drop-nil (suc n) = refl

pub drop-more : {A : Type 0} (xs : List A) (n k : ℕ) → drop (n + k) xs ≡ drop k (drop n xs)
drop-more xs zero k =
    let none : zero + k ≡ k = omega arith in
    ap (λ (m : ℕ). drop m xs) none
drop-more [] (suc n) k = drop-nil (suc n + k) ∙ sym (drop-nil k)
drop-more (x ∷ xs) (suc n) k =
    let one : suc n + k ≡ suc (n + k) = omega arith in
    ap (λ (m : ℕ). drop m (x ∷ xs)) one ∙ drop-more xs n k

pub drop-front : {A : Type 0} (xs ys : List A) (k : ℕ) → k ≤ length xs → drop k (xs ++ ys) ≡ drop k xs ++ ys
drop-front xs ys zero le = refl
drop-front [] ys (suc k) le = absurd (omega (arith, le))
drop-front (x ∷ xs) ys (suc k) le = drop-front xs ys k (omega (arith, le))

take-suc : {A : Type 0} (xs : List A) (n : ℕ) (x : A) (rest : List A) → drop n xs ≡ x ∷ rest → take (suc n) xs ≡ take n xs ++ x ∷ []
take-suc [] zero x rest is = absurd (cc is)
take-suc [] (suc n) x rest is = absurd (cc is)
take-suc (y ∷ ys) zero x rest is = let same : y ≡ x = cc is in ap (λ (z : _). z ∷ []) same
take-suc (y ∷ ys) (suc n) x rest is = ap (λ (l : List _). y ∷ l) (take-suc ys n x rest is)

pub take-next : {A : Type 0} (xs : List A) (n : ℕ) (x : A) (rest : List A) → drop n xs ≡ x ∷ rest
    → take n xs ++ x ∷ [] ≡ take (n + 1) xs
take-next xs n x rest is =
    let one : suc n ≡ n + 1 = omega arith in
    sym (take-suc xs n x rest is) ∙ ap (λ (m : ℕ). take m xs) one

pub numbered-long : (file number : ℕ) (b : List ℕ) (t : Table) (ks : List ClusterList)
    → length (numbered_from file number b t ks) ≡ length ks
numbered-long file number b t [] = refl
numbered-long file number b t (k ∷ ks) = ap suc (numbered-long file (number + 1) b t ks)

pub numbered-drop : (file number : ℕ) (b : List ℕ) (t : Table) (ks : List ClusterList) (k : ℕ)
    → drop k (numbered_from file number b t ks) ≡ numbered_from file (number + k) b t (drop k ks)
numbered-drop file number b t ks zero =
    let none : number ≡ number + zero = omega arith in
    ap (λ (n : ℕ). numbered_from file n b t ks) none
numbered-drop file number b t [] (suc k) = refl
numbered-drop file number b t (x ∷ ks) (suc k) =
    let one : number + 1 + k ≡ number + suc k = omega arith in
    numbered-drop file (number + 1) b t ks k ∙ ap (λ (n : ℕ). numbered_from file n b t (drop k ks)) one

module _ (file : ℕ) (b : List ℕ) (o : Outline) (ns : List Numbered) (at : ℕ) (is_of : AreOfFile file b o ns at) (k : ℕ)
    (less : k < length o.clusters) where
  -- the cluster of this number, and those behind it
  abbrev pub here : Numbered
  here = record { file = file; number = k; source = source_at b o k }

  abbrev pub behind : List Numbered
  behind = numbered_from file (k + 1) b o.table (drop (k + 1) o.clusters) ++ is_of.after

  pub next-here : drop (at + k) ns ≡ here ∷ behind
  next-here =
      let all = numbered_from file 0 b o.table o.clusters in
      let long = numbered-long file 0 b o.table o.clusters in
      let none : 0 + k ≡ k = omega arith in
      drop-more ns at k
      ∙ (ap (λ (l : List Numbered). drop k l) is_of.is
      ∙ (drop-front all is_of.after k (omega (arith, long, less))
      ∙ ap (λ (l : List Numbered). l ++ is_of.after)
      (numbered-drop file 0 b o.table o.clusters k
      ∙ (ap (λ (n : ℕ). numbered_from file n b o.table (drop k o.clusters)) none
      ∙ ap (λ (l : List ClusterList). numbered_from file k b o.table l) (drop-next o.clusters k unlisted_cluster less)))))

pub metas-append : (xs ys : List Numbered) → copied_metas (xs ++ ys) ≡ copied_metas xs ++ copied_metas ys
metas-append xs ys =
    ap (λ (l : List Source). map copied_meta l) (map-append (λ (n : Numbered). n.source) xs ys)
    ∙ map-append copied_meta (sources xs) (sources ys)
