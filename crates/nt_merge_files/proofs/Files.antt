-- Files that are opened one after the other, and what they tell.
use Rattle.std.proofs.Common.{◌≡◌, ◌⊎◌, ◌∙◌, inl, inr, ap, sym, subst, refl, ℕ, zero, suc, ◌+◌, ◌<◌, List, [], ◌∷◌, ◌++◌, map, take, length}
use Rattle.std.proofs.Common.{get_or, Bor, Option, Some, arith}
use Rattle.std.specs.Prelude.{IsErrOf, Err, slice_get}
use Rattle.std.proofs.lemmas.List.{length-map, map-append, take-map}
use Rattle.std.proofs.lemmas.Option.{none-some}
use Rattle.nt_lists.proofs.Variants.{some_is}
use Rattle.nt_outside.specs.declared.fault.Refused.{Refused}
use Rattle.nt_outside.specs.declared.fault.Refused.TheVariants as refused
use Rattle.nt_outside.specs.Source.{SourceState}
use Rattle.nt_outside.specs.File.{FileState}
use Rattle.nt_outside.specs.World.{World, Asked, File, IsOpenText, IsOpenFile}
use Rattle.nt_store.specs.Worlds.{AsksFirst, SomeFailed}
use Rattle.nt_store.proofs.Asking.{texts_told, texts_counted}
use Rattle.nt_store.proofs.Opening.{names_taken, asked_more}
use Rattle.nt_merge.specs.Files.{TellBytes, OneRose}
use Rattle.nt_merge_files.specs.Files.{as_text, as_texts, AreOpenFiles, AreThere}

-- ---- what is asked for

-- the files of the names up to the next
pub files-asked : (names : List (Bor (List ℕ))) (i : ℕ) (d : Bor (List ℕ)) → i < length names
    → take (i + 1) (map File (map (λ name. name.now) names)) ≡ take i (map File (map (λ name. name.now) names)) ++ File (get_or names i
    d).now ∷ []
files-asked names i d below =
    let all : List (List ℕ) = map (λ (name : Bor (List ℕ)). name.now) names in
    take-map File (i + 1) all
    ∙ (ap (map File) (names_taken names i d below)
    ∙ (map-append File (take i all) ((get_or names i d).now ∷ [])
    ∙ ap (λ (l : List Asked). l ++ File (get_or names i d).now ∷ []) (sym (take-map File i all))))

-- the next one was refused: it was asked for, or memory was wanting for its name
pub file-refused : (T : Type 0) (r : Refused) (names : List (Bor (List ℕ))) (i : ℕ) (d : Bor (List ℕ)) (old mid after new : List Asked)
    → i < length names → mid ≡ old ++ take i (map File (map (λ name. name.now) names))
    → (IsErrOf {T = T} (Err r) refused.Failed → after ≡ mid ++ File (get_or names i d).now ∷ [])
    → (IsErrOf {T = T} (Err r) refused.Memory → (after ≡ mid) ⊎ (after ≡ mid ++ File (get_or names i d).now ∷ [])) → new ≡ after
    → AsksFirst (map File (map (λ name. name.now) names)) old new
file-refused T refused.Failed names i d old mid after new below before failed memory same =
    (i + 1, same ∙ asked_more old mid after _ _ _ before (failed refl) (files-asked names i d below))
file-refused T refused.Memory names i d old mid after new below before failed memory same = elim (memory refl) [
  | inl stays ↦ (i, same ∙ stays ∙ before)
  | inr asked ↦ (i + 1, same ∙ asked_more old mid after _ _ _ before asked (files-asked names i d below))
]

-- ---- files that are open

pub open-text : (world : Option World) (name : List ℕ) (f : FileState) → IsOpenFile world name f → IsOpenText world name (as_text f)
open-text world name f is = record { left = is.bytes; faults = is.faults }

module _ {F : Type 0} (state : F → FileState) where
  texts-left : (files : List F) → map (λ (s : SourceState). s.left) (as_texts state files) ≡ map (λ (f : F). (state f).bytes) files
  texts-left [] = refl
  texts-left (f ∷ files) = ap (λ (l : List (Option (List ℕ))). (state f).bytes ∷ l) (texts-left files)

  -- what they tell
  pub record AreBytesOf (w : World) (names : List (List ℕ)) (files : List F) : Type 0 where
    pub bytes : List (List ℕ)
    pub tell : TellBytes state files bytes
    pub there : AreThere w names bytes

  pub files-told : (w : World) (world : Option World) (names : List (List ℕ)) (files : List F) → world ≡ Some w
      → AreOpenFiles state world names files → AreBytesOf w names files
  files-told w world names files is are =
      let told = texts_told w world names (as_texts state files) is are in
      record { bytes = told.texts; tell = sym (texts-left files) ∙ told.tell; there = told.are }

  -- as many as names
  pub files-counted : (world : Option World) (names : List (List ℕ)) (files : List F) → AreOpenFiles state world names files
      → length files ≡ length names
  files-counted world names files are =
      sym (length-map files (λ (f : F). as_text (state f))) ∙ texts_counted world names (as_texts state files) are

  -- one has failed
  at-failed : (files : List F) (n : ℕ) (f : F) → slice_get files n ≡ Some f → 0 < (state f).faults → SomeFailed (as_texts state files)
  at-failed [] n f is some = absurd (none-some f is)
  at-failed (x ∷ files) zero f is some = inl (subst (λ (y : F). 0 < (state y).faults) (sym (some_is x f is)) some)
  at-failed (x ∷ files) (suc n) f is some = inr (at-failed files n f is some)

  pub rose-failed : (files files' : List F) → OneRose state files files' → SomeFailed (as_texts state files')
  rose-failed files files' one = at-failed files' one.number one.after one.is (omega (arith, one.rose))
