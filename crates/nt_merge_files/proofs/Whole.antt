-- The finished file of copies is the whole one of the files that are merged.
use Rattle.std.proofs.Common.{◌≡◌, ap, subst, ℕ, ◌<◌, ◌^◌, List, [], ◌∷◌, length, None, Some, Ok, arith}
use Rattle.std.specs.Prelude.{All, Option, option_map}
use Rattle.nt_types.specs.TreeData.{TreesData}
use Rattle.nt_format.specs.Reading.{IsBytes}
use Rattle.nt_payloads.proofs.WholeFiles.{all_bytes}
use Rattle.nt_outside.specs.File.{FileState}
use Rattle.nt_grammar.specs.ReadingBack.{IsDescribed}
use Rattle.nt_grammar.specs.Table.{Table}
use Rattle.nt_book.specs.declared.params.Params.{Params}
use Rattle.nt_file_meaning.specs.Files.{Means}
use Rattle.nt_file_meaning.specs.Outlines.{Outline, outline_of}
use Rattle.nt_layout.specs.Laid.{Measures, AreMeasures}
use Rattle.nt_copied.specs.Alike.{bare}
use Rattle.nt_copied.specs.Copies.{Source, IsCopied, HasStoredPages}
use Rattle.nt_close.specs.Passing.{measures_of}
use Rattle.nt_store.proofs.Whole.{measures}
use Rattle.nt_merge.specs.declared.error.MergeError.{MergeError}
use Rattle.nt_merge.specs.Comparing.{schema_error}
use Rattle.nt_merge.specs.Files.{TellBytes}
use Rattle.nt_merge.specs.Planning.{ArePlanned, outlines_from, tables_of}
use Rattle.nt_merge.specs.Merging.{all_numbered, sources, merged_table, IsMerged}
use Rattle.nt_merge.proofs.Target.{Mergeable}
use Rattle.nt_merge_files.specs.Errors.{error_of_merge}
use Rattle.nt_merge_files.specs.Whole.{AreAlike, IsMergeOf}
use Rattle.nt_merge_files.proofs.Meanings.{outlines-first, mean-together}

-- the laws of nt_copied that are cited here
abbrev pub MeansSources : Type 0
MeansSources =
    (file : List ℕ) (t : Table) (ss : List Source) (clusters : List (List TreesData)) (m : Measures) → IsDescribed t → AreMeasures m
    → IsCopied file t ss clusters m → Means file t clusters

abbrev pub HasThePages : Type 0
HasThePages =
    (file : List ℕ) (t : Table) (ss : List Source) (clusters : List (List TreesData)) (m : Measures) → IsDescribed t → AreMeasures m
    → IsCopied file t ss clusters m → HasStoredPages file t ss

abbrev pub ReadIsDescribed : Type 0
ReadIsDescribed = (file : List ℕ) (o : Outline) → IsBytes file → outline_of file ≡ Ok o → IsDescribed o.table

abbrev pub BareIsDescribed : Type 0
BareIsDescribed = (t : Table) → IsDescribed t → IsDescribed (bare t)

-- each byte of these files is one
abbrev pub AreBytes : List (List ℕ) → Type 0
AreBytes [] = Unit {0}
AreBytes (b ∷ bs) = All (λ (n : ℕ). n < 2 ^ 8) b × AreBytes bs

-- as it is of files that tell them
pub told-bytes : {F : Type 0} (state : F → FileState)
    → ((f : F) (told : List ℕ) → (state f).bytes ≡ Some told → All (λ (n : ℕ). n < 2 ^ 8) told) → (files : List F)
    (bytes : List (List ℕ)) → TellBytes state files bytes → AreBytes bytes
told-bytes state fit [] [] tell = tt
told-bytes state fit [] (b ∷ bs) tell = absurd (cc tell)
told-bytes state fit (f ∷ files) [] tell = tt
told-bytes state fit (f ∷ files) (b ∷ bs) tell =
    let first : (state f).bytes ≡ Some b = cc tell in
    let others : TellBytes state files bs = cc tell in
    (fit f b first, told-bytes state fit files bs others)

are-alike : Mergeable → (os : List Outline) → 0 < length os → schema_error (tables_of os) ≡ None → AreAlike os
are-alike law [] some none = absurd (omega (arith, some))
are-alike law (o ∷ os) some none = law o.table (tables_of os) none

described : ReadIsDescribed → BareIsDescribed → (bytes : List (List ℕ)) (os : List Outline) → AreBytes bytes
    → outlines_from 0 bytes ≡ Ok os → 0 < length os → IsDescribed (merged_table os)
described read bare-is bytes [] are outlines some = absurd (omega (arith, some))
described read bare-is [] (o ∷ os) are outlines some = absurd (cc outlines)
described read bare-is (b ∷ bs) (o ∷ os) are outlines some =
    let found = outlines-first 0 b bs (o ∷ os) outlines in
    let first : found.first ≡ o = cc found.is in
    bare-is o.table (read b o (all_bytes b are.0) (subst (λ (x : Outline). outline_of b ≡ Ok x) first found.outline))

module _ (means : MeansSources) (pages : HasThePages) (read : ReadIsDescribed) (bare-is : BareIsDescribed) (law : Mergeable) (p : Params)
    (bytes : List (List ℕ)) (os : List Outline) (are : AreBytes bytes) (planned : ArePlanned bytes os) (some : 0 < length os) where
  pub merge-of : (lists : List (List TreesData)) (image : List ℕ) → IsMerged (merged_table os) p (all_numbered 0 bytes os) lists image
      → IsMergeOf p bytes lists image
  merge-of lists image is =
      let t = merged_table os in
      let ss = sources (all_numbered 0 bytes os) in
      let fits : IsDescribed t = described read bare-is bytes os are planned.outlines some in
      let together = mean-together 0 bytes os lists planned.outlines is.read in
      record {
        outlines = os;
        planned = planned;
        alike = are-alike law os some planned.alike;
        each = together.each;
        mean = together.mean;
        are_all = together.are_all;
        means = means image t ss lists (measures_of p) fits (measures p) is.copied;
        pages = pages image t ss lists (measures_of p) fits (measures p) is.copied;
        laid = is.copied;
        fits = is.fits;
        none_refused = ap (λ (o : Option MergeError). option_map (error_of_merge p.limits.clusters) o) is.none_refused;
      }
