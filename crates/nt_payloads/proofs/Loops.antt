-- Readings of items one behind the other.
use Rattle.std.proofs.Common.{◌≡◌, ℕ, zero, suc, ◌+◌, List, [], ◌∷◌, ◌++◌, length, Result, Ok, refl, sym, ap, subst, ◌∙◌, append_assoc}
use Rattle.std.proofs.Common.{arith}
use Rattle.std.proofs.lemmas.List.{append-nil}
use Rattle.nt_num.specs.Place.{At}
use Rattle.nt_format.specs.Reading.{IsBytes}
use Rattle.nt_format.specs.Relations.{Agrees, Stands}
use Rattle.nt_payloads.specs.Framed.{Series, no_item, and_item}
use Rattle.nt_payloads.proofs.Texts.{Opens, reword_open, done_open, Both, Done, reword, done}

-- so many values behind these
pub record Behind {V : Type 0} (n : ℕ) (before : List V) (Such : ℕ → List ℕ → List V → Type 0) (place : ℕ) (text : List ℕ)
    (all : List V) : Type 0 where
  pub more : List V
  pub is : all ≡ before ++ more
  pub len : length more ≡ n
  pub such : Such place text more

-- the first of several, and the others
pub record Parted {V : Type 0} (Item : ℕ → List ℕ → V → Type 0) (Others : V → ℕ → List ℕ → List V → Type 0) (place : ℕ) (text : List ℕ)
    (v : V) (vs : List V) : Type 0 where
  pub first : List ℕ
  pub others : List ℕ
  pub parts : text ≡ first ++ others
  pub is_first : Item place first v
  pub are_others : Others v (place + length first) others vs

pub loop_end : {V E : Type 0} {Such : ℕ → List ℕ → List V → Type 0} {here : At} (before : List V) → IsBytes here.left
    → Such here.place [] []
    → ((text : List ℕ) → Such here.place text [] → text ≡ [])
    → Agrees {E = E} (Ok (before, here)) (Stands (Behind zero before Such here.place) here)
loop_end {V = V} {Such = Such} {here = here} before bytes none only = reword
    (λ text all d. record {
      more = [];
      is = d.is
          ∙ sym (append-nil before);
      len = refl;
      such = subst (λ (t : List ℕ). Such here.place t []) (sym d.none) none;
    })
    (λ text all b. ended text all b.more b.is b.len b.such)
    (done before bytes)
  where
    ended : (text : List ℕ) (all more : List V) → all ≡ before ++ more → length more ≡ 0 → Such here.place text more
        → Done before here.place text all
    ended text all [] is len such = record { none = only text such; is = is ∙ append-nil before }
    ended text all (v ∷ vs) is len such = absurd (omega (arith, len))

pub loop_more : {V E : Type 0} {r : Result (List V × At) E} {Item : ℕ → List ℕ → V → Type 0} {Others : V → ℕ → List ℕ → List V
    → Type 0} {Such : ℕ → List ℕ → List V → Type 0} {here : At} (n : ℕ) (before : List V)
    → ((first others : List ℕ) (v : V) (vs : List V) → Item here.place first v → Others v (here.place + length first) others vs
    → Such here.place (first ++ others) (v ∷ vs))
    → ((text : List ℕ) (v : V) (vs : List V) → Such here.place text (v ∷ vs) → Parted Item Others here.place text v vs)
    → Agrees r (Stands (Both Item (λ v. Behind n (before ++ v ∷ []) (Others v)) here.place) here)
    → Agrees r (Stands (Behind (suc n) before Such here.place) here)
loop_more {V = V} {Item = Item} {Others = Others} {Such = Such} {here = here} n before join part a = reword
    (λ text all b. record {
      more = b.head ∷ b.is_second.more;
      is = b.is_second.is ∙ append_assoc before (b.head ∷ []) b.is_second.more;
      len = ap (λ (k : ℕ). suc k) b.is_second.len;
      such = subst (λ (t : List ℕ). Such here.place t (b.head ∷ b.is_second.more)) (sym b.parts)
          (join b.first b.second b.head b.is_second.more b.is_first b.is_second.such);
    })
    (λ text all b. parted text all b.more b.is b.len b.such)
    a
  where
    parted : (text : List ℕ) (all more : List V) → all ≡ before ++ more → length more ≡ suc n → Such here.place text more
        → Both Item (λ v. Behind n (before ++ v ∷ []) (Others v)) here.place text all
    parted text all [] is len such = absurd (omega (arith, len))
    parted text all (v ∷ vs) is len such =
        let p = part text v vs such in
        record {
          head = v;
          first = p.first;
          second = p.others;
          parts = p.parts;
          is_first = p.is_first;
          is_second = record { more = vs; is = is ∙ sym (append_assoc before (v ∷ []) vs); len = omega (arith, len); such = p.are_others };
        }

pub series_parts : {V : Type 0} {Item : ℕ → List ℕ → V → Type 0} (place : ℕ) (text : List ℕ) (v : V) (vs : List V)
    → Series Item place text (v ∷ vs) → Parted Item (λ w. Series Item) place text v vs
series_parts place text v vs (and_item {text = a} {texts = b} first others) =
    record { first = a; others = b; parts = refl; is_first = first; are_others = others }

pub series_none : {V : Type 0} {Item : ℕ → List ℕ → V → Type 0} (place : ℕ) (text : List ℕ) → Series Item place text [] → text ≡ []
series_none place text no_item = refl

-- the same where the reading goes no further
pub loop_end_open : {V E : Type 0} {Such : ℕ → List ℕ → List V → Type 0} {here : At} (before : List V) → IsBytes here.left
    → Such here.place [] []
    → ((text : List ℕ) → Such here.place text [] → text ≡ []) → Agrees {E = E} (Ok before) (Opens (Behind zero before Such) here)
loop_end_open {V = V} {Such = Such} {here = here} before bytes none only = reword_open
    (λ text all d. record {
      more = [];
      is = d.is
          ∙ sym (append-nil before);
      len = refl;
      such = subst (λ (t : List ℕ). Such here.place t []) (sym d.none) none;
    })
    (λ text all b. ended text all b.more b.is b.len b.such)
    (done_open before bytes)
  where
    ended : (text : List ℕ) (all more : List V) → all ≡ before ++ more → length more ≡ 0 → Such here.place text more
        → Done before here.place text all
    ended text all [] is len such = record { none = only text such; is = is ∙ append-nil before }
    ended text all (v ∷ vs) is len such = absurd (omega (arith, len))

pub loop_more_open : {V E : Type 0} {r : Result (List V) E} {Item : ℕ → List ℕ → V → Type 0} {Others : V → ℕ → List ℕ → List V
    → Type 0} {Such : ℕ → List ℕ → List V → Type 0} {here : At} (n : ℕ) (before : List V)
    → ((first others : List ℕ) (v : V) (vs : List V) → Item here.place first v → Others v (here.place + length first) others vs
    → Such here.place (first ++ others) (v ∷ vs))
    → ((text : List ℕ) (v : V) (vs : List V) → Such here.place text (v ∷ vs) → Parted Item Others here.place text v vs)
    → Agrees r (Opens (Both Item (λ v. Behind n (before ++ v ∷ []) (Others v))) here) → Agrees r (Opens (Behind (suc n) before Such) here)
loop_more_open {V = V} {Item = Item} {Others = Others} {Such = Such} {here = here} n before join part a = reword_open
    (λ text all b. record {
      more = b.head ∷ b.is_second.more;
      is = b.is_second.is ∙ append_assoc before (b.head ∷ []) b.is_second.more;
      len = ap (λ (k : ℕ). suc k) b.is_second.len;
      such = subst (λ (t : List ℕ). Such here.place t (b.head ∷ b.is_second.more)) (sym b.parts)
          (join b.first b.second b.head b.is_second.more b.is_first b.is_second.such);
    })
    (λ text all b. parted text all b.more b.is b.len b.such)
    a
  where
    parted : (text : List ℕ) (all more : List V) → all ≡ before ++ more → length more ≡ suc n → Such here.place text more
        → Both Item (λ v. Behind n (before ++ v ∷ []) (Others v)) here.place text all
    parted text all [] is len such = absurd (omega (arith, len))
    parted text all (v ∷ vs) is len such =
        let p = part text v vs such in
        record {
          head = v;
          first = p.first;
          second = p.others;
          parts = p.parts;
          is_first = p.is_first;
          is_second = record { more = vs; is = is ∙ sym (append_assoc before (v ∷ []) vs); len = omega (arith, len); such = p.are_others };
        }
