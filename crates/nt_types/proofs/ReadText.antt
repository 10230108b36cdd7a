-- The text of what is read so far, and the rules that it keeps.
use Rattle.std.proofs.Common.{ℕ, List, [], ◌∷◌, ◌++◌, ◌≡◌, refl, sym, ap, Bool, true, false, Option, Some, None, append_assoc, append-nil}
use Rattle.std.specs.Prelude.{codes}
use Rattle.nt_types.specs.ShapeData.{ShapeData, MemberData, kinds_of, parts_of, kinds_list, parts_list}
use Rattle.nt_types.specs.Words.{is_name}
use Rattle.nt_types.specs.Reading.{OpenData, in_list, in_maybe, at_name, in_member, in_tuple, in_choice}
use Rattle.nt_types.specs.Spelling.{spell, spell_kinds, spell_more_kinds, spell_parts, spell_more_parts, IsType, AreKinds, AreMoreKinds}
use Rattle.nt_types.specs.Spelling.{AreParts, AreMoreParts}

-- the text of what is read

abbrev ended_kinds : List ShapeData → List ℕ
ended_kinds [] = []
ended_kinds (k ∷ ks) = spell k ++ 44 ∷ ended_kinds ks

abbrev pub ended_parts : List MemberData → List ℕ
ended_parts [] = []
ended_parts (p ∷ ps) = p.name ++ 58 ∷ (spell p.of ++ 44 ∷ ended_parts ps)

abbrev pub construct_text : OpenData → List ℕ
construct_text in_list = codes "vec<"
construct_text (in_maybe w) = codes "opt<"
construct_text (at_name ps) = codes "rec{" ++ ended_parts ps
construct_text (in_member ps n) = codes "rec{" ++ (ended_parts ps ++ (n ++ 58 ∷ []))
construct_text (in_tuple ks) = codes "tuple<" ++ ended_kinds ks
construct_text (in_choice w ks) = codes "var<" ++ ended_kinds ks

abbrev pub stack_text : List OpenData → List ℕ
stack_text [] = []
stack_text (o ∷ os) = stack_text os ++ construct_text o

abbrev pub done_text : Option ShapeData → List ℕ
done_text None = []
done_text (Some k) = spell k

-- the rules, of what is read

abbrev pub GoodKinds : Bool → List ShapeData → Type 0
GoodKinds within [] = Unit {0}
GoodKinds within (k ∷ ks) = IsType within k × GoodKinds within ks

abbrev GoodParts : List MemberData → Type 0
GoodParts [] = Unit {0}
GoodParts (p ∷ ps) = (is_name p.name ≡ true) × IsType false p.of × GoodParts ps

-- a construct that lies where this flag says whether a choice or an optional is open, and inside of it that one
abbrev pub GoodConstruct : OpenData → Bool → Bool → Type 0
GoodConstruct in_list out within = out ≡ within
GoodConstruct (in_maybe w) out within = (out ≡ w) × (within ≡ true)
GoodConstruct (at_name ps) out within = (out ≡ within) × (within ≡ false) × GoodParts ps
GoodConstruct (in_member ps n) out within = (out ≡ within) × (within ≡ false) × GoodParts ps × (is_name n ≡ true)
GoodConstruct (in_tuple ks) out within = (out ≡ within) × GoodKinds within ks
GoodConstruct (in_choice w ks) out within = (out ≡ w) × (within ≡ true) × GoodKinds true ks

abbrev pub GoodStack : List OpenData → Bool → Type 0
GoodStack [] within = within ≡ false
GoodStack (o ∷ os) within = (out : Bool) × GoodConstruct o out within × GoodStack os out

abbrev pub GoodDone : Bool → Option ShapeData → Type 0
GoodDone within None = Unit {0}
GoodDone within (Some k) = IsType within k

-- lists with one more at the end

more_kinds : (ks : List ShapeData) (k : ShapeData) → spell_more_kinds (kinds_of (ks ++ k ∷ [])) ≡ 44 ∷ spell_kinds (kinds_of (ks ++ k ∷ []))
more_kinds [] k = refl
more_kinds (j ∷ ks) k = refl

pub kinds_text : (ks : List ShapeData) (k : ShapeData) → spell_kinds (kinds_of (ks ++ k ∷ [])) ≡ ended_kinds ks ++ spell k
kinds_text [] k = append-nil (spell k)
kinds_text (j ∷ ks) k = rw (more_kinds ks k, kinds_text ks k) (sym (append_assoc (spell j) (44 ∷ ended_kinds ks) (spell k)))

pub ended_kinds-snoc : (ks : List ShapeData) (k : ShapeData) → ended_kinds (ks ++ k ∷ []) ≡ ended_kinds ks ++ (spell k ++ 44 ∷ [])
ended_kinds-snoc [] k = refl
ended_kinds-snoc (j ∷ ks) k = rw (ended_kinds-snoc ks k) (sym (append_assoc (spell j) (44 ∷ ended_kinds ks) (spell k ++ 44 ∷ [])))

more_parts : (ps : List MemberData) (p : MemberData) → spell_more_parts (parts_of (ps ++ p ∷ [])) ≡ 44
    ∷ spell_parts (parts_of (ps ++ p ∷ []))
more_parts [] p = refl
more_parts (q ∷ ps) p = refl

pub parts_text : (ps : List MemberData) (p : MemberData) → spell_parts (parts_of (ps ++ p ∷ [])) ≡ ended_parts ps
    ++ (p.name ++ 58 ∷ spell p.of)
parts_text [] p = rw (append-nil (spell p.of)) refl
parts_text (q ∷ ps) p = rw (more_parts ps p, parts_text ps p) (simp append_assoc)

pub ended_parts-snoc : (ps : List MemberData) (p : MemberData) → ended_parts (ps ++ p ∷ []) ≡ ended_parts ps
    ++ (p.name ++ 58 ∷ (spell p.of ++ 44 ∷ []))
ended_parts-snoc [] p = refl
ended_parts-snoc (q ∷ ps) p = rw (ended_parts-snoc ps p) (simp append_assoc)

pub GoodKinds-snoc : (within : Bool) (ks : List ShapeData) (k : ShapeData) → GoodKinds within ks → IsType within k
    → GoodKinds within (ks ++ k ∷ [])
GoodKinds-snoc within [] k g t = (t, tt)
GoodKinds-snoc within (j ∷ ks) k g t = (g.0, GoodKinds-snoc within ks k g.1 t)

AreMoreKinds-snoc : (within : Bool) (ks : List ShapeData) (k : ShapeData) → GoodKinds within ks → IsType within k
    → AreMoreKinds within (kinds_of (ks ++ k ∷ []))
AreMoreKinds-snoc within [] k g t = (t, tt)
AreMoreKinds-snoc within (j ∷ ks) k g t = (g.0, AreMoreKinds-snoc within ks k g.1 t)

pub AreKinds-snoc : (within : Bool) (ks : List ShapeData) (k : ShapeData) → GoodKinds within ks → IsType within k
    → AreKinds within (kinds_of (ks ++ k ∷ []))
AreKinds-snoc within [] k g t = (t, tt)
AreKinds-snoc within (j ∷ ks) k g t = (g.0, AreMoreKinds-snoc within ks k g.1 t)

pub GoodParts-snoc : (ps : List MemberData) (p : MemberData) → GoodParts ps → is_name p.name ≡ true → IsType false p.of
    → GoodParts (ps ++ p ∷ [])
GoodParts-snoc [] p g n t = (n, t, tt)
GoodParts-snoc (q ∷ ps) p g n t = (g.0, g.1, GoodParts-snoc ps p g.2 n t)

AreMoreParts-snoc : (ps : List MemberData) (p : MemberData) → GoodParts ps → is_name p.name ≡ true → IsType false p.of
    → AreMoreParts (parts_of (ps ++ p ∷ []))
AreMoreParts-snoc [] p g n t = (n, t, tt)
AreMoreParts-snoc (q ∷ ps) p g n t = (g.0, g.1, AreMoreParts-snoc ps p g.2 n t)

pub AreParts-snoc : (ps : List MemberData) (p : MemberData) → GoodParts ps → is_name p.name ≡ true → IsType false p.of
    → AreParts (parts_of (ps ++ p ∷ []))
AreParts-snoc [] p g n t = (n, t, tt)
AreParts-snoc (q ∷ ps) p g n t = (g.0, g.1, AreMoreParts-snoc ps p g.2 n t)

pub list_of-kinds : (ks : List ShapeData) → kinds_list (kinds_of ks) ≡ ks
list_of-kinds [] = refl
list_of-kinds (k ∷ ks) = ap (λ (l : List ShapeData). k ∷ l) (list_of-kinds ks)

pub list_of-parts : (ps : List MemberData) → parts_list (parts_of ps) ≡ ps
list_of-parts [] = refl
list_of-parts (p ∷ ps) = ap (λ (l : List MemberData). p ∷ l) (list_of-parts ps)
