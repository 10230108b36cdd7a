-- What is read of files that are merged is one thing: their bytes, their outlines, what they mean, and what stands against merging them.
use Rattle.std.proofs.Common.{◌≡◌, ◌∙◌, ap, sym, subst, refl, ℕ, ◌+◌, List, [], ◌∷◌, Result, Ok, Err}
use Rattle.nt_lists.specs.Chaining.{◌>>=◌}
use Rattle.nt_lists.proofs.Variants.{some_is, ok_is, err_is}
use Rattle.nt_num.specs.declared.fault.ReadError.{ReadError}
use Rattle.nt_types.specs.TreeData.{TreesData}
use Rattle.nt_grammar.specs.Table.{Table}
use Rattle.nt_pagelists.specs.declared.cluster.ClusterList.{ClusterList}
use Rattle.nt_book.specs.declared.params.Params.{Params}
use Rattle.nt_file_meaning.specs.Outlines.{Outline, outline_of}
use Rattle.nt_file_meaning.specs.Clusters.{cluster_of}
use Rattle.nt_file_meaning.specs.Files.{entries_from, Means}
use Rattle.nt_skim_file.proofs.Meanings.{outlined}
use Rattle.nt_merge_limits.specs.Limits.{MergeOver}
use Rattle.nt_merge_limits.proofs.Passed.{none-over}
use Rattle.nt_merge.specs.declared.place.SchemaPlace.{SchemaPlace as MergePlace}
use Rattle.nt_merge.specs.Comparing.{schema_error}
use Rattle.nt_merge.specs.Planning.{of_file, outlines_from, tables_of, ArePlanned}
use Rattle.nt_merge.specs.Merging.{numbered_from, all_numbered, readings, sound_numbered, copied_metas, merged_table}
use Rattle.nt_merge.proofs.Numbering.{readings-behind, sound-all}
use Rattle.nt_merge_files.specs.Whole.{refused_of, MeanEach, clusters_together, HasSchemaError, PassesMerge}
use Rattle.nt_app.specs.Merges.{MeanAlike, FitsClusters, FitsMerge, FitsBefore}

-- ---- what files mean is read of their clusters, one after the other

mean_entries : (b : List ℕ) (o : Outline) (k : List (List TreesData)) → outline_of b ≡ Ok o → Means b o.table k
    → entries_from b o.table 0 o.clusters ≡ Ok k
mean_entries b o k is means = by (entries_from b o.table 0 o.clusters) (sym (outlined b o is) ∙ means)
  where
    by : (each : Result (List (List TreesData)) ReadError)
        → ◌>>=◌ {B = Table × List (List TreesData)} each (λ cs. Ok (o.table, cs)) ≡ Ok (o.table, k) → each ≡ Ok k
    by (Err e) both = absurd (cc both)
    by (Ok cs) both =
        let same : ◌≡◌ {A = Table × List (List TreesData)} (o.table, cs) (o.table, k) = ok_is _ _ both in
        ap (λ (x : Table × List (List TreesData)). Ok x.1) same

next_read : (file : ℕ) (k : List (List TreesData)) (a : Result (List TreesData) ReadError) (c : Result (List (List TreesData)) ReadError)
    (d : Result (List (List TreesData)) (ℕ × ReadError)) → ((ks : List (List TreesData)) → c ≡ Ok ks → d ≡ Ok ks)
    → (a >>= λ first. c >>= λ others. Ok (first ∷ others)) ≡ Ok k
    → (of_file file a >>= λ first. d >>= λ others. Ok (first ∷ others)) ≡ Ok k
next_read file k (Err e) c d rest is = absurd (cc is)
next_read file k (Ok first) (Err e) d rest is = absurd (cc is)
next_read file k (Ok first) (Ok others) d rest is =
    ap (λ (r : Result (List (List TreesData)) (ℕ × ReadError)). r >>= λ (more : List (List TreesData)). Ok (first ∷ more))
    (rest others refl) ∙ ap (λ (l : List (List TreesData)). Ok l) (ok_is (first ∷ others) k is)

file_reads : (file n : ℕ) (b : List ℕ) (t : Table) (ks : List ClusterList) (k : List (List TreesData)) → entries_from b t n ks ≡ Ok k
    → readings (numbered_from file n b t ks) ≡ Ok k
file_reads file n b t [] k is = ap (λ (l : List (List TreesData)). Ok l) (ok_is [] k is)
file_reads file n b t (x ∷ ks) k is =
    next_read file k (cluster_of b t n x) (entries_from b t (n + 1) ks) (readings (numbered_from file (n + 1) b t ks))
    (λ others. file_reads file (n + 1) b t ks others) is

-- the outline of the first file, and of the others
next_outline : (file : ℕ) (o : Outline) (os : List Outline) (a : Result Outline ReadError) (c : Result (List Outline) (ℕ × ReadError))
    → (of_file file a >>= λ first. c >>= λ others. Ok (first ∷ others)) ≡ Ok (o ∷ os) → (a ≡ Ok o) × (c ≡ Ok os)
next_outline file o os (Err e) c is = absurd (cc is)
next_outline file o os (Ok first) (Err e) is = absurd (cc is)
next_outline file o os (Ok first) (Ok others) is =
    let both : first ∷ others ≡ o ∷ os = ok_is _ _ is in
    (cc, cc)

mean_reads : (file : ℕ) (bs : List (List ℕ)) (os : List Outline) (each : List (List (List TreesData))) → outlines_from file bs ≡ Ok os
    → MeanEach bs os each → readings (all_numbered file bs os) ≡ Ok (clusters_together each)
mean_reads file [] [] [] is mean = refl
mean_reads file [] [] (k ∷ ks) is mean = absurd mean
mean_reads file [] (o ∷ os) each is mean = absurd mean
mean_reads file (b ∷ bs) [] each is mean = absurd mean
mean_reads file (b ∷ bs) (o ∷ os) [] is mean = absurd mean
mean_reads file (b ∷ bs) (o ∷ os) (k ∷ ks) is mean =
    let first = next_outline file o os (outline_of b) (outlines_from (file + 1) bs) is in
    let own = file_reads file 0 b o.table o.clusters k (mean_entries b o k first.0 mean.0) in
    let others = mean_reads (file + 1) bs os ks first.1 mean.1 in
    let both = readings-behind (numbered_from file 0 b o.table o.clusters) (all_numbered (file + 1) bs os) k own in
    rw others at both

-- ---- of files with these bytes

module _ (bytes : List (List ℕ)) where
  pub read_alike : (os : List Outline) (mean : MeanAlike bytes os) → readings (all_numbered 0 bytes os) ≡ Ok (clusters_together mean.each)
  read_alike os mean = mean_reads 0 bytes os mean.each mean.planned.outlines mean.mean

  pub same_outlines : (os os' : List Outline) → outlines_from 0 bytes ≡ Ok os → outlines_from 0 bytes ≡ Ok os' → os ≡ os'
  same_outlines os os' one other = ok_is os os' (sym one ∙ other)

  -- all files have outlines or not
  pub outlined_or_not : (os : List Outline) (fault : ℕ × ReadError) → outlines_from 0 bytes ≡ Ok os → outlines_from 0 bytes ≡ Err fault → ⊥
  outlined_or_not os fault one other = let both = sym one ∙ other in cc both

  -- something stands against merging them or not
  pub alike_or_not : (os : List Outline) (place : MergePlace) → ArePlanned bytes os → HasSchemaError bytes place → ⊥
  alike_or_not os place one other =
      let same = same_outlines os other.outlines one.outlines other.outlines_are in
      let both = sym one.alike ∙ (ap (λ (l : List Outline). schema_error (tables_of l)) same ∙ other.against) in
      cc both

  -- that is one place
  pub same_place : (x y : MergePlace) → HasSchemaError bytes x → HasSchemaError bytes y → x ≡ y
  same_place x y one other =
      let same = same_outlines one.outlines other.outlines one.outlines_are other.outlines_are in
      some_is x y (sym one.against ∙ (ap (λ (l : List Outline). schema_error (tables_of l)) same ∙ other.against))

  -- the first fault of their clusters is one, and none where each means something
  pub same_fault : (os os' : List Outline) (one other : ℕ × ReadError) → ArePlanned bytes os → ArePlanned bytes os'
      → readings (all_numbered 0 bytes os) ≡ Err one → readings (all_numbered 0 bytes os') ≡ Err other → one ≡ other
  same_fault os os' one other are are' is is' =
      let same = same_outlines os os' are.outlines are'.outlines in
      err_is one other (sym is ∙ (ap (λ (l : List Outline). readings (all_numbered 0 bytes l)) same ∙ is'))

  pub mean_no_fault : (os os' : List Outline) (fault : ℕ × ReadError) → MeanAlike bytes os → ArePlanned bytes os'
      → readings (all_numbered 0 bytes os') ≡ Err fault → ⊥
  mean_no_fault os os' fault mean are is =
      let same = same_outlines os os' mean.planned.outlines are.outlines in
      let both = sym (read_alike os mean) ∙ (ap (λ (l : List Outline). readings (all_numbered 0 bytes l)) same ∙ is) in
      cc both

  module _ (p : Params) where
    -- what is refused first of them is one thing
    pub same_refused : (os os' : List Outline) → ArePlanned bytes os → ArePlanned bytes os' → refused_of p bytes os ≡ refused_of p bytes os'
    same_refused os os' are are' = ap (λ (l : List Outline). refused_of p bytes l) (same_outlines os os' are.outlines are'.outlines)

    -- where each means something, all their clusters stand before a fault
    pub all_fit : (os : List Outline) → MeanAlike bytes os → FitsMerge p bytes os → FitsBefore p bytes os
    all_fit os mean fits =
        subst (FitsClusters p os) (sym (sound-all (all_numbered 0 bytes os) (clusters_together mean.each) (read_alike os mean))) fits

    -- a limit is passed only where those before the first fault don't fit
    pub not_over : (os : List Outline) (reached limit : ℕ) → ArePlanned bytes os → FitsBefore p bytes os
        → PassesMerge p bytes reached limit → ⊥
    not_over os reached limit are fits over =
        let same = same_outlines over.outlines os over.planned.outlines are.outlines in
        none-over (merged_table os) p (copied_metas (sound_numbered (all_numbered 0 bytes os))) reached limit fits
        (subst (λ (l : List Outline). MergeOver (merged_table l) p (copied_metas (sound_numbered (all_numbered 0 bytes l))) reached limit)
        same over.over)
