-- What is left of a host once the file that was skimmed is back.
use Rattle.std.proofs.Common.{◌≡◌, ◌∙◌, inl, inr, ap, sym, subst, refl, ℕ, List, [], ◌∷◌, ◌++◌, take, drop, Option}
use Rattle.std.proofs.Common.{None, Some}
use Rattle.std.proofs.Common.{Result, Ok, Err, append_assoc, arith}
use Rattle.std.specs.Prelude.{IsSome}
use Rattle.std.proofs.lemmas.List.{take-append-drop}
use Rattle.nt_outside.specs.declared.fault.Refused.{Refused}
use Rattle.nt_outside.specs.declared.fault.Refused.TheVariants as refused
use Rattle.nt_outside.specs.File.{FileState}
use Rattle.nt_outside.specs.World.{World, Asked, File, Out, HostState, Opens, IsOpenFile, TakesBack, file}
use Rattle.nt_book.specs.declared.params.Params.{Params}
use Rattle.nt_outside.specs.Log.{Step}
use Rattle.nt_close.specs.Laws.{EndsOverFirst}
use Rattle.nt_store.specs.Worlds.{IsThereWith, AsksFirst, AsksFor, IsLeftAfter}
use Rattle.nt_store.proofs.Asking.{asks_front}
use Rattle.nt_store.proofs.Ends.{there}
use Rattle.nt_store.proofs.Refused.{nothing_made}
use Rattle.nt_script.specs.declared.storing.Counts.{Counts}
use Rattle.nt_script.proofs.Hosted.{asks_refused}
use Rattle.nt_skim_file.specs.declared.error.SkimStoreError.{SkimStoreError}
use Rattle.nt_skim_file.specs.declared.error.SkimStoreError.TheVariants.{Outside, Memory, Defect, Unplanned, Limit}
use Rattle.nt_skim_file.specs.Errors.{skim_refusal}
use Rattle.nt_skim_file.specs.Crashes.{SkimCrash}
use Rattle.nt_skim_file.specs.Choosing.{SkimChoiceData, IsUnplanned}
use Rattle.nt_skim_file.specs.Storing.{OpenTold, SkimsOpen, IsWholeSkim, IsWholeSkimOf, NamedTold, SkimsNamed, skim_asked}
use Rattle.nt_skim_file.specs.Storing.{MakesSkim, DefectTold, PassesSkim}
use Rattle.nt_skim_file.proofs.Hosted.{refusal_fails, none_left}

there_is : (found : Option (List ℕ)) → IsSome found → (bytes : List ℕ) × (found ≡ Some bytes)
there_is None some = absurd (cc some)
there_is (Some bytes) some = (bytes, refl)

module _ (out name : List ℕ) (c : SkimChoiceData) (p : Params) where
  -- ---- what was asked for

  asked_then : {T : Type 0} (result : Result T SkimStoreError) (old mid new : List Asked) → mid ≡ old ++ File name ∷ []
      → AsksFor (Out out ∷ []) mid new result → AsksFor (skim_asked out name) old new result
  asked_then (Ok value) old mid new first asks =
      asks ∙ (ap (λ (l : List Asked). l ++ Out out ∷ []) first ∙ append_assoc old (File name ∷ []) (Out out ∷ []))
  asked_then (Err e) old mid new first (n, is) =
      asks_front old new (skim_asked out name) (File name ∷ take n (Out out ∷ [])) (drop n (Out out ∷ []))
      (is ∙ (ap (λ (l : List Asked). l ++ take n (Out out ∷ [])) first ∙ append_assoc old (File name ∷ []) (take n (Out out ∷ []))))
      (ap (λ (l : List Asked). File name ∷ l) (sym (take-append-drop n (Out out ∷ []))))

  asked_first : (old new : List Asked) → AsksFirst (File name ∷ []) old new → AsksFirst (skim_asked out name) old new
  asked_first old new (n, is) =
      asks_front old new (skim_asked out name) (take n (File name ∷ [])) (drop n (File name ∷ []) ++ Out out ∷ []) is
      (ap (λ (l : List Asked). l ++ Out out ∷ []) (sym (take-append-drop n (File name ∷ [])))
      ∙ append_assoc (take n (File name ∷ [])) (drop n (File name ∷ [])) (Out out ∷ []))

  -- ---- the file was opened, and is back

  named_told : (w w' : World) (bytes : List ℕ) → file w name ≡ Some bytes → (result : Result Counts SkimStoreError)
      → OpenTold out c p bytes w w' result → NamedTold out name c p w w' result
  named_told w w' bytes is (Ok counts) told = there (λ b. OpenTold out c p b w w' (Ok counts)) (file w name) bytes is told
  named_told w w' bytes is (Err Outside) (inl left) = inl left
  named_told w w' bytes is (Err Outside) (inr whole) =
      inr (there (λ b. MakesSkim out c p b w w' × IsLeftAfter EndsOverFirst out w') (file w name) bytes is whole)
  named_told w w' bytes is (Err Memory) left = left
  named_told w w' bytes is (Err (Defect e)) told = there (λ b. DefectTold out c b e w w') (file w name) bytes is told
  named_told w w' bytes is (Err (Unplanned e)) (told, left) = (there (λ b. IsUnplanned c b e) (file w name) bytes is told, left)
  named_told w w' bytes is (Err (Limit reached most)) (told, left) =
      (there (λ b. PassesSkim c p b reached most) (file w name) bytes is told, left)

  named_crash : (w : World) (bytes : List ℕ) → file w name ≡ Some bytes → (log : List Step) (result : Result Counts SkimStoreError)
      → SkimCrash (IsWholeSkim c p bytes) log result → SkimCrash (IsWholeSkimOf name c p w) log result
  named_crash w bytes is log result leaves =
      subst (λ (o : Option (List ℕ)). SkimCrash (λ image. IsThereWith (λ b. IsWholeSkim c p b image) o) log result) (sym is) leaves

  pub named : {T : Type 0} (old mid last new : HostState) (value : T) (f f' : FileState) (result : Result Counts SkimStoreError)
      → Opens (File name) old mid (Ok value) → IsOpenFile old.world name f → SkimsOpen out c p f f' mid last result
      → TakesBack f'.faults last new → new.world ≡ last.world → SkimsNamed out name c p old new result
  named old mid last new value f f' result opens opened skims back world = record {
    told = λ w is.
        let at = opened.bytes w is in
        let bytes = there_is (file w name) at.0 in
        let told = skims.told w bytes.0 (opens.world ∙ is) (at.1 ∙ bytes.1) in
        (told.0, world ∙ told.1, told.2, told.3, told.4, named_told w told.0 bytes.0 bytes.1 result told.5);
    order = λ w w' is is' made. skims.order w w' (opens.world ∙ is) (sym world ∙ is') made;
    crash = λ w w' is is' made.
        let at = opened.bytes w is in
        let bytes = there_is (file w name) at.0 in
        let left = skims.crash bytes.0 (at.1 ∙ bytes.1) w w' (opens.world ∙ is) (sym world ∙ is') made in
        record {
          at = left.at;
          log = left.log;
          there = left.there;
          steps = left.steps;
          leaves = named_crash w bytes.0 bytes.1 left.log result left.leaves;
        };
    asked = asked_then result old.asked mid.asked new.asked opens.asks.ok
        (subst (λ (l : List Asked). AsksFor (Out out ∷ []) mid.asked l result) (sym back.asked) skims.asked);
    plan_first = λ w is lacks.
        let at = opened.bytes w is in
        let bytes = there_is (file w name) at.0 in
        (1, back.asked ∙ (skims.plan_first bytes.0 (at.1 ∙ bytes.1) (lacks bytes.0 bytes.1) ∙ opens.asks.ok));
    later = omega (arith, opens.asks.cause.later, skims.cause.later, back.faults_taken.later);
    failed = λ bad. elim (skims.cause.failed bad) [
      | inl rose ↦ omega (arith, opens.asks.cause.later, rose, back.faults_taken.later)
      | inr rose ↦ omega (arith, opens.asks.cause.later, skims.cause.later, rose, back.faults_taken.later, back.faults_taken.sum)
    ];
    back = record {
      err_faults = back.err_faults ∙ (skims.back.err_faults ∙ opens.asks.err_faults);
      opened = omega (arith, opens.asks.opened, skims.back.opened, back.opened);
    };
  }

  -- ---- it wasn't opened

  unopened_told : (w : World) (r : Refused) → NamedTold out name c p w w (Err (skim_refusal r))
  unopened_told w refused.Failed = inl (inl (refl, refl))
  unopened_told w refused.Memory = inl (refl, refl)

  pub unopened : {T : Type 0} (old new : HostState) (r : Refused) → Opens {T = T} (File name) old new (Err r)
      → SkimsNamed out name c p old new (Err (skim_refusal r))
  unopened {T} old new r opens = record {
    told = λ w is. (w, opens.world ∙ is, refl, refl, λ other differs. refl, unopened_told w r);
    order = nothing_made out old.world new.world opens.world;
    crash = none_left (IsWholeSkimOf name c p) out old.world new.world (Err (skim_refusal r)) opens.world;
    asked = asked_first old.asked new.asked (asks_refused r old.asked new.asked (File name) opens.asks.failed opens.asks.memory);
    plan_first = λ w is lacks. asks_refused r old.asked new.asked (File name) opens.asks.failed opens.asks.memory;
    later = opens.asks.cause.later;
    failed = λ is. opens.asks.cause.failed (refusal_fails {T = T} r is);
    back = record { err_faults = opens.asks.err_faults; opened = omega (arith, opens.asks.refused) };
  }
