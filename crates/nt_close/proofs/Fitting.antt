-- How long blobs are, and which of them pass a limit.
use Rattle.std.proofs.Common.{◌≡◌, ◌∙◌, ℕ, ◌+◌, ◌≤◌, List, [], ◌∷◌, ◌++◌, length, true, false, Some, None}
use Rattle.std.proofs.Common.{refl, ap, sym, subst, arith, append_assoc}
use Rattle.std.specs.Prelude.{nat_lt, ◌<◌}
use Rattle.std.proofs.lemmas.Bool.Decides.{nat_tests}
use Rattle.std.proofs.lemmas.List.{length-append, append-nil}
use Rattle.nt_container.specs.Spelling.{blob_key}
use Rattle.nt_container.proofs.Lengths.{blob_key-len}
use Rattle.nt_book.specs.declared.limits.Limits.{Limits}
use Rattle.nt_book.specs.declared.limits.LimitError.TheVariants.{FileTooLarge}
use Rattle.nt_pagelists.specs.Blobs.{blob, blob_len}
use Rattle.nt_close.specs.declared.error.CloseError.{CloseError}
use Rattle.nt_close.specs.Passing.{first_passed}
use Rattle.nt_close.specs.Making.{IsPassed, IsPassedBy, ArePassedBy, NonePassed}

-- the blob of an object is so long
pub blob_length : (place : ℕ) (object : List ℕ) → length (blob place object) ≡ blob_len (length object)
blob_length place object =
    length-append (blob_key (length object) place) object ∙ ap (λ k. k + length object) (blob_key-len (length object) place)

-- a blob that is no longer than a range may get passes no limit
pub fitting-first : (limits : Limits) (len : ℕ) (lens : List ℕ) (end : ℕ) → len ≤ limits.range
    → first_passed limits (len ∷ lens) end ≡ first_passed limits lens end
fitting-first limits len lens end fits =
    let no : nat_lt limits.range len ≡ false = grind (arith, nat_tests, fits) in rw no refl

-- blobs that fit, and one more behind them
pub fit-more : (limits : Limits) (lens : List ℕ) (len : ℕ) → NonePassed limits lens → len ≤ limits.range
    → NonePassed limits (lens ++ len ∷ [])
fit-more limits lens len fit fits more end =
    ap (λ (l : List ℕ). first_passed limits l end) (append_assoc lens (len ∷ []) more)
    ∙ (fit (len ∷ more) end ∙ fitting-first limits len more end fits)

-- one blob that fits
pub fit-one : (limits : Limits) (len : ℕ) → len ≤ limits.range → NonePassed limits (len ∷ [])
fit-one limits len fits more end = fitting-first limits len more end fits

-- the last of blobs doesn't fit
pub passed-last : (limits : Limits) (lens : List ℕ) (len : ℕ) (e : CloseError) → NonePassed limits lens → IsPassedBy limits len e
    → ArePassedBy limits (lens ++ len ∷ []) e
passed-last limits lens len e fit passed more end =
    subst (λ p. IsPassed p e) (sym (ap (λ (l : List ℕ). first_passed limits l end) (append_assoc lens (len ∷ []) more)
    ∙ fit (len ∷ more) end)) (passed more end)

-- one before the last doesn't
pub passed-before : (limits : Limits) (lens : List ℕ) (len : ℕ) (e : CloseError) → ArePassedBy limits lens e
    → ArePassedBy limits (lens ++ len ∷ []) e
passed-before limits lens len e passed more end =
    subst (λ p. IsPassed p e) (sym (ap (λ (l : List ℕ). first_passed limits l end) (append_assoc lens (len ∷ []) more)))
    (passed (len ∷ more) end)

-- no blob passes a limit: the file does, or none
pub fit-all : (limits : Limits) (lens : List ℕ) (end : ℕ) → NonePassed limits lens → first_passed limits lens end
    ≡ first_passed limits [] end
fit-all limits lens end fit =
    ap (λ (l : List ℕ). first_passed limits l end) (sym (append-nil lens)) ∙ fit [] end

pub passed-all : (limits : Limits) (lens : List ℕ) (end : ℕ) (e : CloseError) → ArePassedBy limits lens e
    → IsPassed (first_passed limits lens end) e
passed-all limits lens end e passed =
    subst (λ p. IsPassed p e) (ap (λ (l : List ℕ). first_passed limits l end) (append-nil lens)) (passed [] end)

pub file-fits : (limits : Limits) (end : ℕ) → end ≤ limits.file → first_passed limits [] end ≡ None
file-fits limits end fits = let no : nat_lt limits.file end ≡ false = grind (arith, nat_tests, fits) in rw no refl

pub file-passed : (limits : Limits) (end : ℕ) → limits.file < end → first_passed limits [] end ≡ Some (FileTooLarge end limits.file)
file-passed limits end passed = let yes : nat_lt limits.file end ≡ true = grind (arith, nat_tests, passed) in rw yes refl
