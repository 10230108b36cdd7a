-- What is chosen of a file, and what is written of it under a name.
use Rattle.std.proofs.Common.{◌≡◌, ◌∙◌, inl, inr, ap, sym, refl, ℕ, ◌<◌, List, length, Some, Result, Ok, Err}
use Rattle.std.proofs.Common.{append-nil, arith}
use Rattle.std.specs.Prelude.{IsErrOf}
use Rattle.nt_types.specs.TreeData.{TreesData}
use Rattle.nt_types.specs.Rules.{AreFields}
use Rattle.nt_outside.specs.File.{FileState}
use Rattle.nt_outside.specs.Log.{Step}
use Rattle.nt_outside.specs.World.{World, HostState}
use Rattle.nt_book.specs.declared.params.Params.{Params}
use Rattle.nt_file_meaning.specs.Outlines.{Outline, outline_of}
use Rattle.nt_tfile.specs.Calls.{Serves, ReadsFile}
use Rattle.nt_tfile.specs.declared.failure.ReadFailure.{ReadFailure}
use Rattle.nt_tfile.specs.declared.failure.ReadFailure.TheVariants as failure
use Rattle.nt_store.proofs.Asking.{same_error}
use Rattle.nt_store.proofs.Refused.{nothing_made}
use Rattle.nt_store.proofs.Crashing.{or_as}
use Rattle.nt_script.specs.declared.storing.Counts.{Counts}
use Rattle.nt_skim.specs.declared.error.PlanError.{PlanError}
use Rattle.nt_skim.specs.declared.error.PlanError.TheVariants as plan
use Rattle.nt_skim.specs.declared.selection.SkimPlan.{SkimPlan}
use Rattle.nt_skim.specs.Planning.{planned, IsPlannedAs}
use Rattle.nt_skim.specs.Select.{Selection, FitsFields, selection_of, selected, entries_read, before_fault, cluster_readings}
use Rattle.nt_skim_file.specs.declared.choosing.Chosen.{Chosen}
use Rattle.nt_skim_file.specs.declared.error.SkimStoreError.{SkimStoreError}
use Rattle.nt_skim_file.specs.declared.error.SkimStoreError.TheVariants.{Outside, Memory, Defect, Unplanned, Limit}
use Rattle.nt_skim_file.specs.Errors.{skim_failure, skim_unplanned}
use Rattle.nt_skim_file.specs.Whole.{IsWholeSelection}
use Rattle.nt_skim_file.specs.Crashes.{SkimCrash}
use Rattle.nt_skim_file.specs.Choosing.{SkimChoiceData, IsPlanned, SelectsAll, ChosenTold, Chooses}
use Rattle.nt_skim_file.specs.Storing.{MakesSelectedFile, SkimFilesTold, FilesSelection, MakesSkim, IsWholeSkim, OpenTold, SkimsOpen}
use Rattle.nt_skim_file.proofs.Meanings.{means-read, defect-read, defect-outline}
use Rattle.nt_skim_file.proofs.Hosted.{none_left}
use Rattle.nt_skim_file.proofs.Unique.{planned-or_none}

-- ---- what is chosen

module _ (c : SkimChoiceData) (old new : FileState) where
  unread_told : (e : ReadFailure) (bytes : List ℕ) → ReadsFile {V = Outline} (λ r. r) outline_of old (Err e) → old.bytes ≡ Some bytes
      → ChosenTold c bytes (Err (skim_failure e))
  unread_told (failure.Defect e) bytes reads is = reads bytes is
  unread_told failure.Fault bytes reads is = tt
  unread_told failure.Memory bytes reads is = tt

  unread_fails : (e : ReadFailure) → IsErrOf {T = Chosen} (Err (skim_failure e)) Outside
      → IsErrOf {T = Outline} (Err e) failure.Fault
  unread_fails (failure.Defect e) is = absurd (cc is)
  unread_fails failure.Fault is = refl
  unread_fails failure.Memory is = absurd (cc is)

  pub unread : (e : ReadFailure) → Serves {V = Outline} old new (Err e) → ReadsFile {V = Outline} (λ r. r) outline_of old (Err e)
      → Chooses c old new (Err (skim_failure e))
  unread e serves reads = record {
    told = λ bytes is. unread_told e bytes reads is;
    fit = λ some. tt;
    kept = record { same = serves.same; later = serves.later };
    failed = λ is. serves.fault (unread_fails e is);
  }

  module _ (o : Outline) (serves : Serves old new (Ok o)) (reads : ReadsFile (λ r. r) outline_of old (Ok o)) where
    unplanned_told : (e : PlanError) (bytes : List ℕ) → IsPlannedAs selection_of (Err e) (planned o.table c.names c.test)
        → old.bytes ≡ Some bytes → ChosenTold c bytes (Err (skim_unplanned e))
    unplanned_told (plan.UnknownField name) bytes not is = record { o = o; outline = reads bytes is; plan = not }
    unplanned_told (plan.Twice name) bytes not is = record { o = o; outline = reads bytes is; plan = not }
    unplanned_told (plan.NotWritable name) bytes not is = record { o = o; outline = reads bytes is; plan = not }
    unplanned_told (plan.NotANumber name) bytes not is = record { o = o; outline = reads bytes is; plan = not }
    unplanned_told plan.Memory bytes not is = tt

    unplanned_fails : (e : PlanError) → IsErrOf {T = Chosen} (Err (skim_unplanned e)) Outside → ⊥
    unplanned_fails (plan.UnknownField name) is = cc is
    unplanned_fails (plan.Twice name) is = cc is
    unplanned_fails (plan.NotWritable name) is = cc is
    unplanned_fails (plan.NotANumber name) is = cc is
    unplanned_fails plan.Memory is = cc is

    pub unplanned : (e : PlanError) → IsPlannedAs selection_of (Err e) (planned o.table c.names c.test)
        → Chooses c old new (Err (skim_unplanned e))
    unplanned e not = record {
      told = λ bytes is. unplanned_told e bytes not is;
      fit = λ some. tt;
      kept = record { same = serves.same; later = serves.later };
      failed = λ is. absurd (unplanned_fails e is);
    }

    pub chosen : (p : SkimPlan) → IsPlannedAs selection_of (Ok p) (planned o.table c.names c.test)
        → FitsFields o.table (selection_of p) → (0 < length c.names → AreFields (selection_of p).fields)
        → Chooses c old new (Ok (record { reader = o; plan = p }))
    chosen p is fits rules = record {
      told = λ bytes told. record { outline = reads bytes told; plan = is };
      fit = λ some. record { fits = fits; rules = rules some };
      kept = record { same = serves.same; later = serves.later };
      failed = λ bad. absurd (cc bad);
    }

-- ---- what is written of it

module _ (out : List ℕ) (c : SkimChoiceData) (p : Params) (bytes : List ℕ) (o : Outline) (s : Selection)
    (plan-is : IsPlanned c bytes o s) where
  -- all was read, and so this is all that is selected
  all_of : (entries : List TreesData) → entries_read (cluster_readings bytes o) ≡ Ok entries
      → SelectsAll c bytes s (selected s entries)
  all_of entries read =
      let m = means-read bytes o entries plan-is.outline read in
      record {
        table = o.table;
        clusters = m.clusters;
        means = m.means;
        plan = plan-is.plan;
        entries_are = ap (selected s) m.joined;
      }

  whole_of : (image : List ℕ) → IsWholeSelection p s (cluster_readings bytes o) image → IsWholeSkim c p bytes image
  whole_of image (entries, read, whole) =
      record { selection = s; entries = selected s entries; all = all_of entries read; whole = whole }

  makes_of : (w w' : World) (entries : List TreesData) → entries_read (cluster_readings bytes o) ≡ Ok entries
      → MakesSelectedFile out p s.fields (selected s entries) w w' → MakesSkim out c p bytes w w'
  makes_of w w' entries read made =
      record { selection = s; entries = selected s entries; all = all_of entries read; made = made }

  open_told : (w w' : World) (result : Result Counts SkimStoreError) → SkimFilesTold out p s (cluster_readings bytes o) w w' result
      → OpenTold out c p bytes w w' result
  unfolding makes_of
  open_told w w' (Ok counts) (entries, read, made, ends, numbers) = (makes_of w w' entries read made, ends, numbers)
  open_told w w' (Err Outside) (inl left) = inl left
  open_told w w' (Err Outside) (inr (entries, read, made, ends)) = inr (makes_of w w' entries read made, ends)
  open_told w w' (Err Memory) left = left
  open_told w w' (Err (Defect e)) (read, left) =
      record { fault = defect-read bytes o e plan-is.outline read; left = inr (o, s, plan-is, left) }
  open_told w w' (Err (Unplanned e)) told = absurd told
  open_told w w' (Err (Limit reached most)) (over, left) = (
    record {
      selection = s;
      entries = selected s (before_fault (cluster_readings bytes o));
      before = record { o = o; is_planned = plan-is; entries_are = refl };
      over = over;
    },
    left,
  )

  open_crash : (log : List Step) (result : Result Counts SkimStoreError)
      → SkimCrash (IsWholeSelection p s (cluster_readings bytes o)) log result → SkimCrash (IsWholeSkim c p bytes) log result
  open_crash log (Ok counts) leaves = (
    or_as (IsWholeSelection p s (cluster_readings bytes o)) (IsWholeSkim c p bytes) log whole_of leaves.0,
    λ image may. whole_of image (leaves.1 image may),
  )
  open_crash log (Err Outside) leaves = or_as (IsWholeSelection p s (cluster_readings bytes o)) (IsWholeSkim c p bytes) log whole_of leaves
  open_crash log (Err Memory) leaves = leaves
  open_crash log (Err (Defect e)) leaves = leaves
  open_crash log (Err (Unplanned e)) leaves = leaves
  open_crash log (Err (Limit reached most)) leaves = leaves

module _ (out : List ℕ) (c : SkimChoiceData) (p : Params) (file mid : FileState) where
  -- with what was chosen
  pub open_filed : (last : FileState) (old new : HostState) (chosen : Chosen) (result : Result Counts SkimStoreError)
      → Chooses c file mid (Ok chosen)
      → FilesSelection out p (selection_of chosen.plan) chosen.reader mid last old new result
      → SkimsOpen out c p file last old new result
  open_filed last old new chosen result chooses files = record {
    told = λ w bytes is tell.
        let back = files.told w bytes is (chooses.kept.same ∙ tell) in (
          back.0,
          back.1,
          back.2,
          back.3,
          back.4,
          open_told out c p bytes chosen.reader (selection_of chosen.plan) (chooses.told bytes tell) w back.0 result back.5,
        );
    order = files.order;
    crash = λ bytes tell w w' is is' made.
        let left = files.crash bytes (chooses.kept.same ∙ tell) w w' is is' made in
        record {
          at = left.at;
          log = left.log;
          there = left.there;
          steps = left.steps;
          leaves = open_crash out c p bytes chosen.reader (selection_of chosen.plan) (chooses.told bytes tell) left.log result left.leaves;
        };
    asked = files.asked;
    plan_first = λ bytes tell lacks.
        absurd (planned-or_none c bytes chosen.reader (selection_of chosen.plan) (chooses.told bytes tell) lacks);
    cause = record {
      kept = record {
        same = files.cause.kept.same ∙ chooses.kept.same;
        later = omega (arith, files.cause.kept.later, chooses.kept.later);
      };
      later = files.cause.later;
      failed = λ bad. elim (files.cause.failed bad) [
        | inl rose ↦ inl rose
        | inr rose ↦ inr (omega (arith, rose, chooses.kept.later))
      ];
    };
    back = files.back;
  }

  unchosen_told : (w : World) (bytes : List ℕ) (e : SkimStoreError) → ChosenTold c bytes (Err e) → OpenTold out c p bytes w w (Err e)
  unchosen_told w bytes Outside told = inl (inl (refl, refl))
  unchosen_told w bytes Memory told = inl (refl, refl)
  unchosen_told w bytes (Defect e) told = record { fault = defect-outline bytes e told; left = inl (told, (refl, refl)) }
  unchosen_told w bytes (Unplanned e) told = (told, (refl, refl))
  unchosen_told w bytes (Limit reached most) told = absurd told

  -- with nothing
  pub open_refused : (host : HostState) (e : SkimStoreError) → Chooses c file mid (Err e) → SkimsOpen out c p file mid host host (Err e)
  open_refused host e chooses = record {
    told = λ w bytes is tell. (w, is, refl, refl, λ other differs. refl, unchosen_told w bytes e (chooses.told bytes tell));
    order = nothing_made out host.world host.world refl;
    crash = λ bytes tell. none_left (λ w. IsWholeSkim c p bytes) out host.world host.world (Err e) refl;
    asked = (0, sym (append-nil host.asked));
    plan_first = λ bytes tell lacks. refl;
    cause = record {
      kept = chooses.kept;
      later = omega arith;
      failed = λ bad. inr (chooses.failed (same_error e Outside bad));
    };
    back = record { err_faults = refl; opened = omega arith };
  }
