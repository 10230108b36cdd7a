-- How `merge` ends where the outside serves.
use Rattle.std.proofs.Common.{◌≡◌, ◌⊎◌, ◌∙◌, inl, inr, ap, sym, subst, refl, ℕ, List, [], Some, Result, Ok, Err}
use Rattle.std.specs.Prelude.{IsErrOf}
use Rattle.std.proofs.lemmas.Option.{none-some}
use Rattle.nt_lists.proofs.Variants.{some_is, err_is}
use Rattle.nt_num.specs.declared.fault.ReadError.{ReadError}
use Rattle.nt_outside.specs.World.{World}
use Rattle.nt_book.specs.declared.params.Params.{Params}
use Rattle.nt_file_meaning.specs.Outlines.{Outline}
use Rattle.nt_merge.specs.declared.place.SchemaPlace.{SchemaPlace as MergePlace}
use Rattle.nt_merge.specs.Planning.{ArePlanned, outlines_from}
use Rattle.nt_merge_files.specs.declared.error.MergeStoreError.{MergeStoreError}
use Rattle.nt_merge_files.specs.declared.error.MergeStoreError.TheVariants as store
use Rattle.nt_merge_files.specs.Files.{AreThereWith}
use Rattle.nt_merge_files.specs.Whole.{refused_of, IsWholeMerge, HasSchemaError, PassesMerge}
use Rattle.nt_merge_files.specs.Storing.{FirstFaultTold, StoresMerge, MergeTold}
use Rattle.nt_app.specs.declared.status.Status.TheVariants as status
use Rattle.nt_app.specs.Merges.{place_of_merge, status_of_merge, MeanAlike, FitsMerge, MergeWithin, MergeBeyond, HasRefusal}
use Rattle.nt_app.specs.Merges.{HasFaultOf, AnswersMerge}
use Rattle.nt_app.proofs.Joined.{texts_are}
use Rattle.nt_app.proofs.MergeOnce.{same_outlines, outlined_or_not, alike_or_not, same_place, same_fault, mean_no_fault, same_refused}
use Rattle.nt_app.proofs.MergeOnce.{all_fit, not_over}

-- files under these names have both
both_of : (P Q : List (List ℕ) → Type 0) (w : World) (names : List (List ℕ)) → AreThereWith P w names → AreThereWith Q w names
    → (bytes : List (List ℕ)) × P bytes × Q bytes
both_of P Q w names one other =
    (other.bytes, subst P (texts_are one.bytes other.bytes (sym one.there ∙ other.there)) one.has, other.has)

module _ (p : Params) (bytes : List (List ℕ)) where
  -- files that mean something have no fault, whatever limits there are
  mean-no_defect : (out : List ℕ) (w v : World) (file : ℕ) (e : ReadError) (os : List Outline) → FirstFaultTold out p bytes file e w v
      → MeanAlike bytes os → ⊥
  mean-no_defect out w v file e os told mean =
      elim told [
        | inl none ↦ outlined_or_not bytes os (file, e) mean.planned.outlines none.0
        | inr some ↦ mean_no_fault bytes os some.0.outlines (file, e) mean some.0.planned some.0.fault
      ]

  defect-alike : (out : List ℕ) (w v : World) (file : ℕ) (e : ReadError) (place : MergePlace) → FirstFaultTold out p bytes file e w v
      → HasSchemaError bytes place → ⊥
  defect-alike out w v file e place told not =
      elim told [
        | inl none ↦ outlined_or_not bytes not.outlines (file, e) not.outlines_are none.0
        | inr some ↦ alike_or_not bytes some.0.outlines place some.0.planned not
      ]

  fault-alike : (file : ℕ) (e : ReadError) (place : MergePlace) → HasFaultOf p bytes file e → HasSchemaError bytes place → ⊥
  fault-alike file e place (inl none) not = outlined_or_not bytes not.outlines (file, e) not.outlines_are none
  fault-alike file e place (inr (inl some)) not = alike_or_not bytes some.outlines place some.planned not
  fault-alike file e place (inr (inr within)) not = alike_or_not bytes within.outlines place within.planned not

  -- what is refused first is one thing
  same_first : (one other : MergeStoreError) (os : List Outline) → ArePlanned bytes os → refused_of p bytes os ≡ Some one
      → HasRefusal p bytes other → one ≡ other
  same_first one other os planned is has =
      some_is one other (sym is ∙ (same_refused bytes p os has.outlines planned has.planned ∙ has.first))

  -- what was written whole has nothing that is refused
  whole-none : (image : List ℕ) (refusal : MergeStoreError) → IsWholeMerge p bytes image → HasRefusal p bytes refusal → ⊥
  whole-none image refusal (clusters, whole) has =
      none-some refusal
      (sym whole.none_refused ∙ (same_refused bytes p whole.outlines has.outlines whole.planned has.planned ∙ has.first))

  -- the first fault is told
  first_fault : (out : List ℕ) (w v : World) (file file' : ℕ) (e e' : ReadError) → FirstFaultTold out p bytes file e w v
      → HasFaultOf p bytes file' e' → ◌≡◌ {A = ℕ × ReadError} (file, e) (file', e')
  first_fault out w v file file' e e' (inl told) (inl none) = err_is _ _ (sym told.0 ∙ none)
  first_fault out w v file file' e e' (inl told) (inr (inl some)) =
      absurd (outlined_or_not bytes some.outlines (file, e) some.planned.outlines told.0)
  first_fault out w v file file' e e' (inl told) (inr (inr within)) =
      absurd (outlined_or_not bytes within.outlines (file, e) within.planned.outlines told.0)
  first_fault out w v file file' e e' (inr told) (inl none) =
      absurd (outlined_or_not bytes told.0.outlines (file', e') told.0.planned.outlines none)
  first_fault out w v file file' e e' (inr told) (inr (inl some)) =
      let both = same_first (store.Defect file e) (store.Defect file' e') told.0.outlines told.0.planned told.0.first some in
      cc both
  first_fault out w v file file' e e' (inr told) (inr (inr within)) =
      same_fault bytes told.0.outlines within.outlines (file, e) (file', e') told.0.planned within.planned told.0.fault within.fault

  -- what was written whole has no fault
  whole-no_fault : (image : List ℕ) (file : ℕ) (e : ReadError) → IsWholeMerge p bytes image → HasFaultOf p bytes file e → ⊥
  whole-no_fault image file e (clusters, whole) (inl none) =
      outlined_or_not bytes whole.outlines (file, e) whole.planned.outlines none
  whole-no_fault image file e whole (inr (inl some)) = whole-none image (store.Defect file e) whole some
  whole-no_fault image file e (clusters, whole) (inr (inr within)) =
      let mean : MeanAlike bytes whole.outlines = record { planned = whole.planned; each = whole.each; mean = whole.mean } in
      mean_no_fault bytes whole.outlines within.outlines (file, e) mean within.planned within.fault

  -- and fits
  whole-fits : (image : List ℕ) (os : List Outline) → IsWholeMerge p bytes image → outlines_from 0 bytes ≡ Ok os → FitsMerge p bytes os
  whole-fits image os (clusters, whole) is =
      subst (FitsMerge p bytes) (same_outlines bytes whole.outlines os whole.planned.outlines is) whole.fits

  fault_within : (file : ℕ) (e : ReadError) (reached limit : ℕ) → HasFaultOf p bytes file e → PassesMerge p bytes reached limit → ⊥
  fault_within file e reached limit (inl none) over = outlined_or_not bytes over.outlines (file, e) over.planned.outlines none
  fault_within file e reached limit (inr (inl some)) over =
      let both = same_first (store.Limit reached limit) (store.Defect file e) over.outlines over.planned over.first some in
      cc both
  fault_within file e reached limit (inr (inr within)) over =
      not_over bytes p within.outlines reached limit within.planned within.before over

  -- a limit that is refused first
  limit-no_defect : (out : List ℕ) (w v : World) (file : ℕ) (e : ReadError) (reached limit : ℕ) → FirstFaultTold out p bytes file e w v
      → HasRefusal p bytes (store.Limit reached limit) → ⊥
  limit-no_defect out w v file e reached limit told has =
      elim told [
        | inl none ↦ outlined_or_not bytes has.outlines (file, e) has.planned.outlines none.0
        | inr some ↦
            let both = same_first (store.Defect file e) (store.Limit reached limit) some.0.outlines some.0.planned some.0.first has in
            cc both
      ]

  first_limit : (reached limit reached' limit' : ℕ) → PassesMerge p bytes reached limit
      → HasRefusal p bytes (store.Limit reached' limit') → ◌≡◌ {A = ℕ × ℕ} (reached, limit) (reached', limit')
  first_limit reached limit reached' limit' over has =
      let both = same_first (store.Limit reached limit) (store.Limit reached' limit') over.outlines over.planned over.first has in
      cc both

module _ (out : List ℕ) (names : List (List ℕ)) (p : Params) (w v : World) where
  -- the bytes of a file that was written whole
  whole_of : (printed behind : List ℕ) → StoresMerge out names p w v printed behind
      → AreThereWith (λ bytes. (image : List ℕ) × IsWholeMerge p bytes image) w names
  whole_of printed behind told =
      record { bytes = told.bytes; there = told.there; has = (told.makes.image, (told.clusters, told.makes.whole)) }

  completes : (stored : Result Unit MergeStoreError) → MergeTold out names p w v stored → (IsErrOf stored store.Outside → ⊥)
      → AreThereWith (MergeWithin p) w names → (status_of_merge stored ≡ status.Done) ⊎ (status_of_merge stored ≡ status.Memory)
  completes (Ok done) told served fits = inl refl
  completes (Err store.Outside) told served fits = absurd (served refl)
  completes (Err store.Memory) told served fits = inr refl
  completes (Err (store.Defect file e)) told served fits =
      let (bytes, one, other) = both_of _ _ w names told.0 fits in
      absurd (mean-no_defect p bytes out w v file e other.0 one other.1)
  completes (Err (store.Schema place)) told served fits =
      let (bytes, one, other) = both_of _ _ w names told.0 fits in
      absurd (alike_or_not bytes other.0 place other.1.planned one)
  completes (Err (store.Limit reached limit)) told served fits =
      let (bytes, one, other) = both_of _ _ w names told.0 fits in
      absurd (not_over bytes p other.0 reached limit other.1.planned (all_fit bytes p other.0 other.1 other.2) one)

  limits : (stored : Result Unit MergeStoreError) → MergeTold out names p w v stored → (IsErrOf stored store.Outside → ⊥)
      → AreThereWith (MergeBeyond p) w names
      → ((reached limit : ℕ) × (status_of_merge stored ≡ status.Limit reached limit)) ⊎ (status_of_merge stored ≡ status.Memory)
  limits (Ok done) told served beyond =
      let (bytes, one, other) = both_of _ _ w names (whole_of told.0 [] told.1) beyond in
      absurd (other.2 (whole-fits p bytes one.0 other.0 one.1 other.1.planned.outlines))
  limits (Err store.Outside) told served beyond = absurd (served refl)
  limits (Err store.Memory) told served beyond = inr refl
  limits (Err (store.Defect file e)) told served beyond =
      let (bytes, one, other) = both_of _ _ w names told.0 beyond in
      absurd (mean-no_defect p bytes out w v file e other.0 one other.1)
  limits (Err (store.Schema place)) told served beyond =
      let (bytes, one, other) = both_of _ _ w names told.0 beyond in
      absurd (alike_or_not bytes other.0 place other.1.planned one)
  limits (Err (store.Limit reached limit)) told served beyond = inl (reached, limit, refl)

  passes : (stored : Result Unit MergeStoreError) (reached limit : ℕ) → MergeTold out names p w v stored
      → (IsErrOf stored store.Outside → ⊥) → AreThereWith (λ bytes. HasRefusal p bytes (store.Limit reached limit)) w names
      → (status_of_merge stored ≡ status.Limit reached limit) ⊎ (status_of_merge stored ≡ status.Memory)
  passes (Ok done) reached limit told served has =
      let (bytes, one, other) = both_of _ _ w names (whole_of told.0 [] told.1) has in
      absurd (whole-none p bytes one.0 (store.Limit reached limit) one.1 other)
  passes (Err store.Outside) reached limit told served has = absurd (served refl)
  passes (Err store.Memory) reached limit told served has = inr refl
  passes (Err (store.Defect file e)) reached limit told served has =
      let (bytes, one, other) = both_of _ _ w names told.0 has in
      absurd (limit-no_defect p bytes out w v file e reached limit one other)
  passes (Err (store.Schema place)) reached limit told served has =
      let (bytes, one, other) = both_of _ _ w names told.0 has in
      absurd (alike_or_not bytes other.outlines place other.planned one)
  passes (Err (store.Limit reached' limit')) reached limit told served has =
      let (bytes, one, other) = both_of _ _ w names told.0 has in
      inl (ap (λ (x : ℕ × ℕ). status.Limit x.0 x.1) (first_limit p bytes reached' limit' reached limit one other))

  unlikes : (stored : Result Unit MergeStoreError) (place : MergePlace) → MergeTold out names p w v stored
      → (IsErrOf stored store.Outside → ⊥) → AreThereWith (λ bytes. HasSchemaError bytes place) w names
      → (status_of_merge stored ≡ status.Schema (place_of_merge place)) ⊎ (status_of_merge stored ≡ status.Memory)
  unlikes (Ok done) place told served not =
      let (bytes, one, other) = both_of _ _ w names (whole_of told.0 [] told.1) not in
      absurd (alike_or_not bytes one.1.1.outlines place one.1.1.planned other)
  unlikes (Err store.Outside) place told served not = absurd (served refl)
  unlikes (Err store.Memory) place told served not = inr refl
  unlikes (Err (store.Defect file e)) place told served not =
      let (bytes, one, other) = both_of _ _ w names told.0 not in
      absurd (defect-alike p bytes out w v file e place one other)
  unlikes (Err (store.Schema found)) place told served not =
      let (bytes, one, other) = both_of _ _ w names told.0 not in
      inl (ap (λ (x : MergePlace). status.Schema (place_of_merge x)) (same_place bytes found place one other))
  unlikes (Err (store.Limit reached limit)) place told served not =
      let (bytes, one, other) = both_of _ _ w names told.0 not in
      absurd (alike_or_not bytes one.outlines place one.planned other)

  faults : (stored : Result Unit MergeStoreError) (file : ℕ) (e : ReadError) → MergeTold out names p w v stored
      → (IsErrOf stored store.Outside → ⊥) → AreThereWith (λ bytes. HasFaultOf p bytes file e) w names
      → (status_of_merge stored ≡ status.FileOf file e) ⊎ (status_of_merge stored ≡ status.Memory)
  faults (Ok done) file e told served fault =
      let (bytes, one, other) = both_of _ _ w names (whole_of told.0 [] told.1) fault in
      absurd (whole-no_fault p bytes one.0 file e one.1 other)
  faults (Err store.Outside) file e told served fault = absurd (served refl)
  faults (Err store.Memory) file e told served fault = inr refl
  faults (Err (store.Defect file' e')) file e told served fault =
      let (bytes, one, other) = both_of _ _ w names told.0 fault in
      inl (ap (λ (x : ℕ × ReadError). status.FileOf x.0 x.1) (first_fault p bytes out w v file' file e' e one other))
  faults (Err (store.Schema place)) file e told served fault =
      let (bytes, one, other) = both_of _ _ w names told.0 fault in
      absurd (fault-alike p bytes file e place other one)
  faults (Err (store.Limit reached limit)) file e told served fault =
      let (bytes, one, other) = both_of _ _ w names told.0 fault in
      absurd (fault_within p bytes file e reached limit other one)

  -- which answer it is
  pub answers_merge : (stored : Result Unit MergeStoreError) → MergeTold out names p w v stored → (IsErrOf stored store.Outside → ⊥)
      → AnswersMerge names p w (status_of_merge stored)
  answers_merge stored told served = record {
    complete = λ fits. completes stored told served fits;
    limited = λ beyond. limits stored told served beyond;
    passed = λ reached limit has. passes stored reached limit told served has;
    unlike = λ place not. unlikes stored place told served not;
    faulty = λ file e fault. faults stored file e told served fault;
  }
