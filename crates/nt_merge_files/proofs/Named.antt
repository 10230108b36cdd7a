-- What is left of a host once the files that were merged are back.
use Rattle.std.proofs.Common.{◌≡◌, ◌∙◌, inl, inr, ap, sym, subst, refl, ℕ, ◌≤◌, List, [], ◌∷◌, ◌++◌, map, length, take, drop, Result}
use Rattle.std.proofs.Common.{Ok, Err, append_assoc, arith}
use Rattle.std.proofs.lemmas.List.{append-nil, length-map, take-append-drop}
use Rattle.nt_outside.specs.File.{FileState}
use Rattle.nt_outside.specs.World.{World, Asked, File, Out, HostState}
use Rattle.nt_book.specs.declared.params.Params.{Params}
use Rattle.nt_close.specs.Laws.{EndsOverFirst}
use Rattle.nt_store.specs.Worlds.{AsksFirst, AsksFor, AsksOnly, LeavesOut, IsLeftAfter}
use Rattle.nt_store.proofs.Asking.{asks_front}
use Rattle.nt_store.proofs.Refused.{nothing_made}
use Rattle.nt_script.specs.declared.storing.Counts.{Counts}
use Rattle.nt_merge.proofs.Kept.{keep-long}
use Rattle.nt_merge_files.specs.declared.error.MergeStoreError.{MergeStoreError}
use Rattle.nt_merge_files.specs.declared.error.MergeStoreError.TheVariants.{Outside, Memory, Defect, Schema, Limit}
use Rattle.nt_merge_files.specs.Errors.{IsMergeRefusal, HasOpeningCause}
use Rattle.nt_merge_files.specs.Files.{as_text, AreOpenFiles, ReturnsFiles, AreThere, AreThereWith}
use Rattle.nt_merge_files.specs.Whole.{IsWholeMerge, HavePlan, HasSchemaError, PassesMerge}
use Rattle.nt_merge_files.specs.Storing.{MakesMerged, FirstFaultTold, MergeOpenTold, MergesOpen, merge_asked, IsWholeMergeOf}
use Rattle.nt_merge_files.specs.Storing.{MergeNamedTold, MergesNamed}
use Rattle.nt_merge_files.proofs.Crashes.{leaves-into, none-left}
use Rattle.nt_merge_files.proofs.Files.{files-told, files-counted, rose-failed}

module _ (out : List ℕ) (names : List (List ℕ)) (p : Params) where
  -- ---- what was asked for

  abbrev last : List Asked
  last = Out out ∷ []

  asked-then : {T : Type 0} (result : Result T MergeStoreError) (old mid new : List Asked) → mid ≡ old ++ map File names
      → AsksFor last mid new result → AsksFor (merge_asked out names) old new result
  asked-then (Ok value) old mid new first asks =
      asks ∙ (ap (λ (l : List Asked). l ++ last) first ∙ append_assoc old (map File names) last)
  asked-then (Err e) old mid new first (n, is) =
      asks_front old new (merge_asked out names) (map File names ++ take n last) (drop n last)
      (is ∙ (ap (λ (l : List Asked). l ++ take n last) first ∙ append_assoc old (map File names) (take n last)))
      (ap (λ (l : List Asked). map File names ++ l) (sym (take-append-drop n last))
      ∙ sym (append_assoc (map File names) (take n last) (drop n last)))

  asked-first : (old new : List Asked) → AsksFirst (map File names) old new → AsksFirst (merge_asked out names) old new
  asked-first old new (n, is) =
      asks_front old new (merge_asked out names) (take n (map File names)) (drop n (map File names) ++ last) is
      (ap (λ (l : List Asked). l ++ last) (sym (take-append-drop n (map File names)))
      ∙ append_assoc (take n (map File names)) (drop n (map File names)) last)

  -- ---- the files were opened, and are back

  there-with : (P : List (List ℕ) → Type 0) (w : World) (bytes : List (List ℕ)) → AreThere w names bytes → P bytes
      → AreThereWith P w names
  there-with P w bytes there has = record { bytes = bytes; there = there; has = has }

  named-told : (w w' : World) (bytes : List (List ℕ)) → AreThere w names bytes → (result : Result Counts MergeStoreError)
      → MergeOpenTold out p bytes w w' result → MergeNamedTold out names p w w' result
  named-told w w' bytes there (Ok counts) told = there-with (λ bs. MergeOpenTold out p bs w w' (Ok counts)) w bytes there told
  named-told w w' bytes there (Err Outside) (inl left) = inl left
  named-told w w' bytes there (Err Outside) (inr whole) =
      inr (there-with (λ bs. MakesMerged (IsWholeMerge p bs) out w w' × IsLeftAfter EndsOverFirst out w') w bytes there whole)
  named-told w w' bytes there (Err Memory) left = left
  named-told w w' bytes there (Err (Defect file e)) told = there-with (λ bs. FirstFaultTold out p bs file e w w') w bytes there told
  named-told w w' bytes there (Err (Schema place)) (told, left) =
      (there-with (λ bs. HasSchemaError bs place) w bytes there told, left)
  named-told w w' bytes there (Err (Limit reached limit)) (told, left) =
      (there-with (λ bs. PassesMerge p bs reached limit) w bytes there told, left)

  module _ {F : Type 0} (state : F → FileState) where
    pub named : {T : Type 0} (old mid last-is new : HostState) (value : T) (files files' : List F)
        (result : Result Counts MergeStoreError) → AsksOnly {E = MergeStoreError} (map File names) old mid (Ok value)
        → old.faults ≤ mid.faults → (more : ℕ) → more ≡ length names → LeavesOut more old mid → AreOpenFiles state old.world names files
        → MergesOpen state out p files files' mid last-is result → ReturnsFiles state files' last-is new
        → MergesNamed out names p old new result
    named old mid last-is new value files files' result asks later more many opened are merges back =
        let long : length files' ≡ length names =
        keep-long state files files' merges.cause.kept ∙ files-counted state old.world names files are in
        let texts = length-map files' (λ (f : F). as_text (state f)) in
        record {
          told = λ w is.
              let at = files-told state w old.world names files is are in
              let told = merges.told w at.bytes (asks.world ∙ is) at.tell in
              (told.0, back.world ∙ told.1, told.2, told.3, told.4, named-told w told.0 at.bytes at.there result told.5);
          order = λ w w' is is' made.
              let at = files-told state w old.world names files is are in
              merges.order at.bytes at.tell w w' (asks.world ∙ is) (sym back.world ∙ is') made;
          crash = λ w w' is is' made.
              let at = files-told state w old.world names files is are in
              leaves-into (IsWholeMerge p at.bytes) (IsWholeMergeOf names p w)
              (λ image whole. there-with (λ bs. IsWholeMerge p bs image) w at.bytes at.there whole) out w' result
              (merges.crash at.bytes at.tell w w' (asks.world ∙ is) (sym back.world ∙ is') made);
          asked = asked-then result old.asked mid.asked new.asked asks.asked
              (subst (λ (l : List Asked). AsksFor last mid.asked l result) (sym back.asked) merges.asked);
          plan_first = λ w is none.
              let at = files-told state w old.world names files is are in
              let none-asked = merges.plan_first at.bytes at.tell (λ plan. none (there-with HavePlan w at.bytes at.there plan)) in
              asks_front old.asked new.asked (map File names) (map File names) [] (back.asked ∙ (none-asked ∙ asks.asked))
              (sym (append-nil (map File names)));
          later = omega (arith, later, merges.cause.later, back.later);
          failed = λ bad. elim (merges.cause.failed bad) [
            | inl rose ↦ omega (arith, later, rose, back.later)
            | inr one ↦
                let rose = back.failed (rose-failed state files files' one) in
                omega (arith, later, merges.cause.later, rose)
          ];
          back = record {
            err_faults = back.err_faults ∙ (merges.back.err_faults ∙ opened.err_faults);
            opened = omega (arith, many, opened.opened, merges.back.opened, back.opened, long, texts);
          };
        }

  -- ---- one of them wasn't

  refused-told : (w : World) (e : MergeStoreError) → IsMergeRefusal e → MergeNamedTold out names p w w (Err e)
  refused-told w Outside is = inl (inl (refl, refl))
  refused-told w Memory is = inl (refl, refl)
  refused-told w (Defect file e) is = absurd is
  refused-told w (Schema place) is = absurd is
  refused-told w (Limit reached limit) is = absurd is

  pub unopened : {T : Type 0} (old new : HostState) (e : MergeStoreError) → AsksOnly {T = T} (map File names) old new (Err e)
      → HasOpeningCause {T = T} old.faults new.faults (Err e) → IsMergeRefusal e → LeavesOut 0 old new
      → MergesNamed out names p old new (Err e)
  unopened old new e asks cause refused left = record {
    told = λ w is. (w, asks.world ∙ is, refl, refl, λ other differs. refl, refused-told w e refused);
    order = nothing_made out old.world new.world asks.world;
    crash = none-left (IsWholeMergeOf names p) out old.world new.world (Err e) asks.world;
    asked = asked-first old.asked new.asked asks.asked;
    plan_first = λ w is none. asks.asked;
    later = cause.later;
    failed = λ is. cause.failed (cc is);
    back = left;
  }
