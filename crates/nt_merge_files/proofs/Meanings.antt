-- What files mean one by one, and what is read of the clusters of all of them.
use Rattle.std.proofs.Common.{◌≡◌, ◌∙◌, ap, sym, refl, subst, ℕ, ◌+◌, List, [], ◌∷◌, ◌++◌, Result, Ok, Err}
use Rattle.std.proofs.lemmas.List.Concat.{flat_map-cons}
use Rattle.nt_lists.specs.Chaining.{◌>>=◌}
use Rattle.nt_lists.proofs.Variants.{ok_is}
use Rattle.nt_num.specs.declared.fault.ReadError.{ReadError}
use Rattle.nt_types.specs.TreeData.{TreesData}
use Rattle.nt_grammar.specs.Table.{Table}
use Rattle.nt_pagelists.specs.declared.cluster.ClusterList.{ClusterList}
use Rattle.nt_file_meaning.specs.Outlines.{Outline, outline_of}
use Rattle.nt_file_meaning.specs.Clusters.{cluster_of}
use Rattle.nt_file_meaning.specs.Files.{entries_from, read_file, Means}
use Rattle.nt_merge.specs.Planning.{of_file, outlines_from}
use Rattle.nt_merge.specs.Merging.{Numbered, numbered_from, all_numbered, readings}
use Rattle.nt_merge.proofs.Numbering.{reads-first}
use Rattle.nt_merge_files.specs.Whole.{MeanEach, clusters_together}

-- ---- outlines

-- the first of them, and the others
pub record OutlinesFirst (file : ℕ) (b : List ℕ) (bs : List (List ℕ)) (os : List Outline) : Type 0 where
  pub first : Outline
  pub others : List Outline
  pub outline : outline_of b ≡ Ok first
  pub rest : outlines_from (file + 1) bs ≡ Ok others
  pub is : os ≡ first ∷ others

pub outlines-first : (file : ℕ) (b : List ℕ) (bs : List (List ℕ)) (os : List Outline) → outlines_from file (b ∷ bs) ≡ Ok os
    → OutlinesFirst file b bs os
outlines-first file b bs os is = at (outline_of b) (outlines_from (file + 1) bs) refl refl is
  where
    at : (a : Result Outline ReadError) (r : Result (List Outline) (ℕ × ReadError)) → outline_of b ≡ a → outlines_from (file + 1) bs ≡ r
        → (of_file file a >>= λ first. r >>= λ others. Ok (first ∷ others)) ≡ Ok os → OutlinesFirst file b bs os
    at (Ok first) (Ok others) one two e = record { first = first; others = others; outline = one; rest = two; is = cc e }
    at (Ok first) (Err e) one two is_ok = absurd (cc is_ok)
    at (Err e) r one two is_ok = absurd (cc is_ok)

-- ---- the clusters of one file

-- clusters were read in two parts
record ReadsBoth (before after : List Numbered) (lists : List (List TreesData)) : Type 0 where
  one : List (List TreesData)
  two : List (List TreesData)
  first : readings before ≡ Ok one
  second : readings after ≡ Ok two
  is : lists ≡ one ++ two

reads-both : (before after : List Numbered) (lists : List (List TreesData)) → readings (before ++ after) ≡ Ok lists
    → ReadsBoth before after lists
reads-both [] after lists is = record { one = []; two = lists; first = refl; second = is; is = refl }
reads-both (n ∷ before) after lists is =
    let some = reads-first n (before ++ after) lists is in
    let more = reads-both before after some.others some.rest in
    record {
      one = some.first ∷ more.one;
      two = more.two;
      first = ap (λ (r : Result (List TreesData) (ℕ × ReadError)). r >>= λ x. readings before >>= λ others. Ok (x ∷ others)) some.reads
          ∙ ap (λ (r : Result (List (List TreesData)) (ℕ × ReadError)). r >>= λ others. Ok (some.first ∷ others)) more.first;
      second = more.second;
      is = some.is ∙ ap (λ (l : List (List TreesData)). some.first ∷ l) more.is;
    }

read-of : {A : Type 0} (file : ℕ) (r : Result A ReadError) (x : A) → of_file file r ≡ Ok x → r ≡ Ok x
read-of file (Ok y) x is = ap (λ z. Ok z) (ok_is y x is)
read-of file (Err e) x is = absurd (cc is)

own-entries : (file number : ℕ) (b : List ℕ) (t : Table) (ks : List ClusterList) (lists : List (List TreesData))
    → readings (numbered_from file number b t ks) ≡ Ok lists → entries_from b t number ks ≡ Ok lists
own-entries file number b t [] lists is = ap (λ (l : List (List TreesData)). Ok l) (ok_is [] lists is)
own-entries file number b t (k ∷ ks) lists is =
    let n : Numbered = record { file = file; number = number; source = record { file = b; table = t; list = k } } in
    let some = reads-first n (numbered_from file (number + 1) b t ks) lists is in
    let first : cluster_of b t number k ≡ Ok some.first = read-of file (cluster_of b t number k) some.first some.reads in
    ap (λ (r : Result (List TreesData) ReadError). r >>= λ x. entries_from b t (number + 1) ks >>= λ others. Ok (x ∷ others)) first
    ∙ (ap (λ (r : Result (List (List TreesData)) ReadError). r >>= λ others. Ok (some.first ∷ others))
    (own-entries file (number + 1) b t ks some.others some.rest)
    ∙ ap (λ (l : List (List TreesData)). Ok l) (sym some.is))

means-of : (b : List ℕ) (o : Outline) (clusters : List (List TreesData)) → outline_of b ≡ Ok o
    → entries_from b o.table 0 o.clusters ≡ Ok clusters → Means b o.table clusters
unfolding read_file
means-of b o clusters outline entries =
    ap (λ (r : Result Outline ReadError). r >>= λ x. entries_from b x.table 0 x.clusters >>= λ all. Ok (x.table, all)) outline
    ∙ ap (λ (r : Result (List (List TreesData)) ReadError). r >>= λ all. Ok (o.table, all)) entries

-- ---- all files

-- each file means its clusters, and these are all of them
pub record MeanTogether (bytes : List (List ℕ)) (os : List Outline) (lists : List (List TreesData)) : Type 0 where
  pub each : List (List (List TreesData))
  pub mean : MeanEach bytes os each
  pub are_all : lists ≡ clusters_together each

pub mean-together : (file : ℕ) (bytes : List (List ℕ)) (os : List Outline) (lists : List (List TreesData))
    → outlines_from file bytes ≡ Ok os → readings (all_numbered file bytes os) ≡ Ok lists → MeanTogether bytes os lists
mean-together file [] [] lists outlines read = record { each = []; mean = tt; are_all = sym (ok_is [] lists read) }
mean-together file [] (o ∷ os) lists outlines read = absurd (cc outlines)
mean-together file (b ∷ bs) [] lists outlines read =
    let some = outlines-first file b bs [] outlines in
    absurd (cc some.is)
mean-together file (b ∷ bs) (o ∷ os) lists outlines read =
    let some = outlines-first file b bs (o ∷ os) outlines in
    let first : some.first ≡ o = cc some.is in
    let others : some.others ≡ os = cc some.is in
    let both = reads-both (numbered_from file 0 b o.table o.clusters) (all_numbered (file + 1) bs os) lists read in
    let more = mean-together (file + 1) bs os both.two (subst (λ (l : List Outline). outlines_from (file + 1) bs ≡ Ok l) others some.rest)
    both.second in
    record {
      each = both.one ∷ more.each;
      mean = (
        means-of b o both.one (subst (λ (x : Outline). outline_of b ≡ Ok x) first some.outline)
            (own-entries file 0 b o.table o.clusters both.one both.first),
        more.mean,
      );
      are_all = both.is
          ∙ (ap (λ (l : List (List TreesData)). both.one ++ l) more.are_all
          ∙ sym (flat_map-cons (λ (l : List (List TreesData)). l) both.one more.each));
    }
