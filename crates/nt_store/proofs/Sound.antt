-- Texts without a bad line.
use Rattle.std.proofs.Common.{◌≡◌, ◌∙◌, sym, subst, ℕ, zero, suc, List, [], ◌∷◌, Some, None}
use Rattle.std.specs.Prelude.{slice_get}
use Rattle.nt_types.specs.ShapeData.{MemberData}
use Rattle.nt_event.specs.declared.fault.TextKind.{TextKind}
use Rattle.nt_dealing.specs.Texts.{events_of, AreSound, IsFirstBad}

sound_at : (fields : List MemberData) (texts : List (List ℕ)) (i : ℕ) (text : List ℕ) → AreSound fields texts
    → slice_get texts i ≡ Some text → (events_of fields text).bad ≡ None
sound_at fields [] i text sound at = absurd (cc)
sound_at fields (t ∷ texts) zero text sound at =
    let same : t ≡ text = cc in
    subst (λ (l : List ℕ). (events_of fields l).bad ≡ None) same sound.0
sound_at fields (t ∷ texts) (suc i) text sound at = sound_at fields texts i text sound.1 at

-- none of them has a first one
pub not_sound : (fields : List MemberData) (texts : List (List ℕ)) (input line : ℕ) (kind : TextKind) → AreSound fields texts
    → IsFirstBad fields texts input line kind → ⊥
not_sound fields texts input line kind sound first =
    let none = sound_at fields texts input first.text sound first.at in
    let bad = sym none ∙ first.bad in
    cc
