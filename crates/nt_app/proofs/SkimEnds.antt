-- How `skim` ends where the outside serves.
use Rattle.std.proofs.Common.{◌≡◌, ◌⊎◌, inl, inr, ap, subst, refl, ℕ, List, Option, Some, None, Result, Ok, Err}
use Rattle.std.specs.Prelude.{IsErrOf}
use Rattle.nt_num.specs.declared.fault.ReadError.{ReadError}
use Rattle.nt_types.specs.TreeData.{TreesData}
use Rattle.nt_outside.specs.World.{World, file}
use Rattle.nt_book.specs.declared.params.Params.{Params}
use Rattle.nt_file_meaning.specs.Outlines.{Outline}
use Rattle.nt_store.specs.Worlds.{IsThereWith}
use Rattle.nt_script.proofs.WholePassed.{whole_passed, passed_rows, fits_none}
use Rattle.nt_skim.specs.declared.error.PlanError.{PlanError}
use Rattle.nt_skim.specs.declared.error.PlanError.TheVariants as plan
use Rattle.nt_skim.specs.Select.{Selection, selected, before_fault, cluster_readings}
use Rattle.nt_skim_file.specs.declared.error.SkimStoreError.{SkimStoreError}
use Rattle.nt_skim_file.specs.declared.error.SkimStoreError.TheVariants as store
use Rattle.nt_skim_file.specs.Choosing.{SkimChoiceData, IsPlanned, IsUnplanned, SelectsAll, SelectsBefore}
use Rattle.nt_skim_file.specs.Whole.{script_of, MayFitSelected, PassesSelected}
use Rattle.nt_skim_file.specs.Storing.{DefectTold, PassesSkim, SkimTold}
use Rattle.nt_skim_file.proofs.Unique.{means-no_defect, same-defect, all-before, same-before, planned-or_not, same-unplanned}
use Rattle.nt_skim_file.proofs.Unique.{outlined-or_not}
use Rattle.nt_app.specs.declared.status.Status.TheVariants as status
use Rattle.nt_app.specs.Skims.{status_of_plan, status_of_skim, FitsSelected, FitsSkim, SkimBeyond, SkimPasses, HasDefectBehind}
use Rattle.nt_app.specs.Skims.{AnswersSkim}
use Rattle.nt_app.proofs.Joined.{not_there_both}

module _ (c : SkimChoiceData) (p : Params) where
  -- a limit is passed only where what is selected doesn't fit
  not_over : (bytes : List ℕ) (s : Selection) (entries : List TreesData) (reached limit : ℕ) → SelectsBefore c bytes s entries
      → FitsSelected p s.fields entries → PassesSkim c p bytes reached limit → ⊥
  not_over bytes s entries reached limit before fits over =
      let same = same-before c bytes over.selection s over.entries entries over.before before in
      fits_none s.fields p (script_of entries) reached limit fits
      (subst (λ (es : List TreesData). PassesSelected p s.fields es reached limit) same.1
      (subst (λ (x : Selection). PassesSelected p x.fields over.entries reached limit) same.0 over.over))

  -- what may be within the limits isn't beyond them
  not_within : (bytes : List ℕ) (s : Selection) (entries : List TreesData) → SelectsAll c bytes s entries
      → MayFitSelected p s.fields entries → SkimBeyond c p bytes → ⊥
  not_within bytes s entries all fits other =
      let same = same-before c bytes s other.selection entries other.entries (all-before c bytes s entries all)
      (all-before c bytes other.selection other.entries other.all) in
      other.beyond (subst (λ (es : List TreesData). MayFitSelected p other.selection.fields es) same.1
      (subst (λ (x : Selection). MayFitSelected p x.fields entries) same.0 fits))

  -- a limit that is passed is one of the whole file
  passes_whole : (bytes : List ℕ) (reached limit : ℕ) → PassesSkim c p bytes reached limit → SkimPasses c p bytes reached limit
  passes_whole bytes reached limit passes =
      let fields = passes.selection.fields in
      let rows = passed_rows fields p (script_of passes.entries) reached limit passes.over in
      record {
        selection = passes.selection;
        entries = passes.entries;
        before = passes.before;
        table = rows.0;
        rows = rows.1;
        over = whole_passed fields p (script_of passes.entries) reached limit rows.0 rows.0 rows.1 refl passes.over;
        beyond = λ fits. fits_none fields p (script_of passes.entries) reached limit fits passes.over;
      }

  -- a plan is made of a file, and nothing stands against it
  planned_not : (bytes : List ℕ) (o : Outline) (s : Selection) (e : PlanError) → IsPlanned c bytes o s → IsUnplanned c bytes e → ⊥
  planned_not bytes o s e is not =
      planned-or_not c bytes s (selected s (before_fault (cluster_readings bytes o))) e
      (record { o = o; is_planned = is; entries_are = refl }) not

  defect_not : (out bytes : List ℕ) (d : ReadError) (e : PlanError) (w v : World) → DefectTold out c bytes d w v → IsUnplanned c bytes e
      → ⊥
  defect_not out bytes d e w v told not =
      elim told.left [
        | inl none ↦ outlined-or_not c bytes not.o d not.outline none.0
        | inr some ↦ planned_not bytes some.0 some.1 e some.2 not
      ]

  fault_not : (bytes : List ℕ) (d : ReadError) (e : PlanError) → HasDefectBehind c p bytes d → IsUnplanned c bytes e → ⊥
  fault_not bytes d e behind not =
      elim behind.before [
        | inl none ↦ outlined-or_not c bytes not.o d not.outline none
        | inr some ↦ planned-or_not c bytes some.0 some.1 e some.2 not
      ]

  fault_within : (bytes : List ℕ) (e : ReadError) (reached limit : ℕ) → HasDefectBehind c p bytes e → PassesSkim c p bytes reached limit
      → ⊥
  fault_within bytes e reached limit behind over =
      elim behind.before [
        | inl none ↦ outlined-or_not c bytes over.before.o e over.before.is_planned.outline none
        | inr some ↦ not_over bytes some.0 some.1 reached limit some.2 some.3 over
      ]

-- what is there has both
at_once : (P Q : List ℕ → Type 0) (found : Option (List ℕ)) → IsThereWith P found → IsThereWith Q found
    → (bytes : List ℕ) × P bytes × Q bytes
at_once P Q None one other = absurd one
at_once P Q (Some bytes) one other = (bytes, one, other)

-- what is there has what follows
there_as : (P Q : List ℕ → Type 0) (found : Option (List ℕ)) → ((bytes : List ℕ) → P bytes → Q bytes) → IsThereWith P found
    → IsThereWith Q found
there_as P Q None follows there = absurd there
there_as P Q (Some bytes) follows there = follows bytes there

-- these bytes are there, so they have it
of_these : (P : List ℕ → Type 0) (found : Option (List ℕ)) (bytes : List ℕ) → found ≡ Some bytes → IsThereWith P found → P bytes
of_these P found bytes is there = subst (IsThereWith P) is there

module _ (out name : List ℕ) (c : SkimChoiceData) (p : Params) (w v : World) where
  completes : (stored : Result Unit SkimStoreError) → SkimTold out name c p w v stored → (IsErrOf stored store.Outside → ⊥)
      → IsThereWith (FitsSkim c p) (file w name) → (status_of_skim stored ≡ status.Done) ⊎ (status_of_skim stored ≡ status.Memory)
  completes (Ok done) told served fits = inl refl
  completes (Err store.Outside) told served fits = absurd (served refl)
  completes (Err store.Memory) told served fits = inr refl
  completes (Err (store.Defect e)) told served fits =
      absurd (not_there_both (λ bytes. DefectTold out c bytes e w v) (FitsSkim c p) (file w name)
      (λ bytes one other. means-no_defect bytes other.all.table other.all.clusters e other.all.means one.fault) told.0 fits)
  completes (Err (store.Unplanned e)) told served fits =
      absurd (not_there_both (λ bytes. IsUnplanned c bytes e) (FitsSkim c p) (file w name)
      (λ bytes one other. planned-or_not c bytes other.selection other.entries e
      (all-before c bytes other.selection other.entries other.all) one) told.0 fits)
  completes (Err (store.Limit reached limit)) told served fits =
      absurd (not_there_both (λ bytes. PassesSkim c p bytes reached limit) (FitsSkim c p) (file w name)
      (λ bytes one other. not_over c p bytes other.selection other.entries reached limit
      (all-before c bytes other.selection other.entries other.all) other.fits one) told.0 fits)

  limits : (stored : Result Unit SkimStoreError) → SkimTold out name c p w v stored → (IsErrOf stored store.Outside → ⊥)
      → IsThereWith (SkimBeyond c p) (file w name)
      → ((reached limit : ℕ) × (status_of_skim stored ≡ status.Limit reached limit)) ⊎ (status_of_skim stored ≡ status.Memory)
  limits (Ok done) told served beyond =
      let makes = told.1.makes in
      absurd (not_within c p told.1.bytes makes.selection makes.entries makes.all makes.made.whole.fits
      (of_these (SkimBeyond c p) (file w name) told.1.bytes told.1.there beyond))
  limits (Err store.Outside) told served beyond = absurd (served refl)
  limits (Err store.Memory) told served beyond = inr refl
  limits (Err (store.Defect e)) told served beyond =
      absurd (not_there_both (λ bytes. DefectTold out c bytes e w v) (SkimBeyond c p) (file w name)
      (λ bytes one other. means-no_defect bytes other.all.table other.all.clusters e other.all.means one.fault) told.0 beyond)
  limits (Err (store.Unplanned e)) told served beyond =
      absurd (not_there_both (λ bytes. IsUnplanned c bytes e) (SkimBeyond c p) (file w name)
      (λ bytes one other. planned-or_not c bytes other.selection other.entries e
      (all-before c bytes other.selection other.entries other.all) one) told.0 beyond)
  limits (Err (store.Limit reached limit)) told served beyond = inl (reached, limit, refl)

  unplans : (stored : Result Unit SkimStoreError) (e : PlanError) → SkimTold out name c p w v stored
      → (IsErrOf stored store.Outside → ⊥) → IsThereWith (λ bytes. IsUnplanned c bytes e) (file w name)
      → (status_of_skim stored ≡ status_of_plan e) ⊎ (status_of_skim stored ≡ status.Memory)
  unplans (Ok done) e told served not =
      let all = told.1.makes in
      absurd (planned-or_not c told.1.bytes all.selection all.entries e (all-before c told.1.bytes all.selection all.entries all.all)
      (of_these (λ bytes. IsUnplanned c bytes e) (file w name) told.1.bytes told.1.there not))
  unplans (Err store.Outside) e told served not = absurd (served refl)
  unplans (Err store.Memory) e told served not = inr refl
  unplans (Err (store.Defect d)) e told served not =
      absurd (not_there_both (λ bytes. DefectTold out c bytes d w v) (λ bytes. IsUnplanned c bytes e) (file w name)
      (λ bytes one other. defect_not c p out bytes d e w v one other) told.0 not)
  unplans (Err (store.Unplanned f)) e told served not =
      let both = at_once (λ bytes. IsUnplanned c bytes f) (λ bytes. IsUnplanned c bytes e) (file w name) told.0 not in
      inl (ap status_of_plan (same-unplanned c both.0 f e both.1 both.2))
  unplans (Err (store.Limit reached limit)) e told served not =
      absurd (not_there_both (λ bytes. PassesSkim c p bytes reached limit) (λ bytes. IsUnplanned c bytes e) (file w name)
      (λ bytes one other. planned-or_not c bytes one.selection one.entries e one.before other) told.0 not)

  faults : (stored : Result Unit SkimStoreError) (e : ReadError) → SkimTold out name c p w v stored
      → (IsErrOf stored store.Outside → ⊥) → IsThereWith (λ bytes. HasDefectBehind c p bytes e) (file w name)
      → (status_of_skim stored ≡ status.File e) ⊎ (status_of_skim stored ≡ status.Memory)
  faults (Ok done) e told served behind =
      let all = told.1.makes.all in
      let fault = of_these (λ bytes. HasDefectBehind c p bytes e) (file w name) told.1.bytes told.1.there behind in
      absurd (means-no_defect told.1.bytes all.table all.clusters e all.means fault.fault)
  faults (Err store.Outside) e told served behind = absurd (served refl)
  faults (Err store.Memory) e told served behind = inr refl
  faults (Err (store.Defect d)) e told served behind =
      let both = at_once (λ bytes. DefectTold out c bytes d w v) (λ bytes. HasDefectBehind c p bytes e) (file w name) told.0 behind in
      inl (ap (λ (f : ReadError). status.File f) (same-defect both.0 d e both.1.fault both.2.fault))
  faults (Err (store.Unplanned f)) e told served behind =
      absurd (not_there_both (λ bytes. IsUnplanned c bytes f) (λ bytes. HasDefectBehind c p bytes e) (file w name)
      (λ bytes one other. fault_not c p bytes e f other one) told.0 behind)
  faults (Err (store.Limit reached limit)) e told served behind =
      absurd (not_there_both (λ bytes. PassesSkim c p bytes reached limit) (λ bytes. HasDefectBehind c p bytes e) (file w name)
      (λ bytes one other. fault_within c p bytes e reached limit other one) told.0 behind)

  -- which answer it is
  pub answers_skim : (stored : Result Unit SkimStoreError) → SkimTold out name c p w v stored → (IsErrOf stored store.Outside → ⊥)
      → AnswersSkim name c p w (status_of_skim stored)
  answers_skim stored told served = record {
    complete = λ fits. completes stored told served fits;
    limited = λ beyond. limits stored told served beyond;
    unplanned = λ e not. unplans stored e told served not;
    faulty = λ e behind. faults stored e told served behind;
  }

  -- a limit that is told is passed
  pub told_passed : (stored : Result Unit SkimStoreError) (reached limit : ℕ) → SkimTold out name c p w v stored
      → status_of_skim stored ≡ status.Limit reached limit → IsThereWith (λ bytes. SkimPasses c p bytes reached limit) (file w name)
  told_passed (Ok done) reached limit told is = absurd (cc is)
  told_passed (Err store.Outside) reached limit told is = absurd (cc is)
  told_passed (Err store.Memory) reached limit told is = absurd (cc is)
  told_passed (Err (store.Defect e)) reached limit told is = absurd (cc is)
  told_passed (Err (store.Unplanned (plan.UnknownField field))) reached limit told is = absurd (cc is)
  told_passed (Err (store.Unplanned (plan.Twice field))) reached limit told is = absurd (cc is)
  told_passed (Err (store.Unplanned (plan.NotWritable field))) reached limit told is = absurd (cc is)
  told_passed (Err (store.Unplanned (plan.NotANumber field))) reached limit told is = absurd (cc is)
  told_passed (Err (store.Unplanned plan.Memory)) reached limit told is = absurd (cc is)
  told_passed (Err (store.Limit r l)) reached limit told is =
      let first : r ≡ reached = cc is in
      let second : l ≡ limit = cc is in
      there_as (λ bytes. PassesSkim c p bytes r l) (λ bytes. SkimPasses c p bytes reached limit) (file w name)
      (λ bytes passes. subst (λ (k : ℕ). SkimPasses c p bytes reached k) second
      (subst (λ (n : ℕ). SkimPasses c p bytes n l) first (passes_whole c p bytes r l passes))) told.0
