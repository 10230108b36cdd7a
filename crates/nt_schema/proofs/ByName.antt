-- Finding fields by name.
use Rattle.std.proofs.Common.{ℕ, suc, Bool, true, false, ◌≡◌, ◌<◌, ◌+◌, List, [], ◌∷◌, ◌++◌, length, take, Option, Some, None, refl, sym}
use Rattle.std.proofs.Common.{ap, ◌∙◌, ◌==◌, if◌then◌else◌, add-one, add-zero, zero-add, Bor, arith}
use Rattle.std.proofs.lemmas.List.{length-take-le}
use Rattle.std.proofs.Math.Seq.{take-suc}
use Rattle.std.proofs.Math.ListN.{get_or}
use Rattle.std.specs.Prelude.{◌&&◌, is_some, not, Vec}
use Rattle.std.specs.Option.{option_or, option_copied}
use Rattle.std.specs.Str.{bytes_eq}
use Rattle.std.specs.declared.alloc.Global.{Global}
use Rattle.std.specs.Map.{lookup, KeepsOthers, IsKeyTest, AreApart}
use Rattle.indexmap.specs.IndexMap.{UpdatesBy}
use Rattle.std.proofs.lemmas.Slice.Eq.{bytes_eq-Decides}
use Rattle.nt_grammar.specs.declared.rows.FieldRow.{FieldRow}
use Rattle.nt_schema.specs.ByName.{Names, found, find_from}

abbrev Key : Type 0
Key = Vec ℕ Global

-- whether two names are one
abbrev same_name : Key → Key → Bool
same_name x y = bytes_eq x.items y.items

other_way : (k n name : List ℕ) → k ≡ name → bytes_eq n name ≡ false → bytes_eq k n ≡ false
other_way k n name is differ = by_case (bytes_eq k n) refl
  where
    by_case : (b : Bool) → bytes_eq k n ≡ b → bytes_eq k n ≡ false
    by_case false e = e
    by_case true e =
        let same : k ≡ n = (bytes_eq-Decides k n).0 e in
        let both : bytes_eq n name ≡ true = (bytes_eq-Decides n name).1 (sym same ∙ is) in
        cc

-- what a change at a name leaves at any others
other_entries : (test : Key → Bool) (old new : List (Key × ℕ)) → KeepsOthers same_name test old new → (other : Key → Bool)
    → IsKeyTest same_name other → AreApart test other → lookup other new ≡ lookup other old
unfolding KeepsOthers
other_entries test old new h = h

apart : (bs cs ks : List ℕ) → bytes_eq bs cs ≡ false → bytes_eq bs ks ≡ true → bytes_eq cs ks ≡ false
apart bs cs ks differ same = by_case (bytes_eq cs ks) refl
  where
    by_case : (b : Bool) → bytes_eq cs ks ≡ b → bytes_eq cs ks ≡ false
    by_case false e = e
    by_case true e =
        let one : bs ≡ ks = (bytes_eq-Decides bs ks).0 same in
        let two : cs ≡ ks = (bytes_eq-Decides cs ks).0 e in
        let both : bytes_eq bs cs ≡ true = (bytes_eq-Decides bs cs).1 (one ∙ sym two) in
        cc

or_none : (o : Option ℕ) → o ≡ option_or o None
or_none None = refl
or_none (Some x) = refl

-- a new name is kept
pub added : (old new : Names) (key : Key) (name : List ℕ) (parent id : ℕ) → (parent == id) ≡ true → key.items ≡ name
    → found old name ≡ None → UpdatesBy same_name (same_name key) old new (Some id)
    → (n : List ℕ) → found new n ≡ option_or (found old n) (if (parent == id) && bytes_eq n name then Some id else None)
added old new key name parent id top is none h n = by_case (bytes_eq n name) refl
  where
    by_case : (b : Bool) → bytes_eq n name ≡ b → found new n
        ≡ option_or (found old n) (if (parent == id) && bytes_eq n name then Some id else None)
    by_case true e =
        let same : n ≡ name = (bytes_eq-Decides n name).0 e in
        let at_key : n ≡ key.items = same ∙ sym is in
        let before : found old n ≡ None = ap (found old) same ∙ none in
        rw (top, e, before) (ap (found new) at_key ∙ h.1)
    by_case false e =
        let differ : bytes_eq key.items n ≡ false = other_way key.items n name is e in
        rw (top, e) (other_entries (same_name key) old.entries new.entries h.3 (λ k. bytes_eq n k.items)
        (λ x y q. ap (λ (z : List ℕ). bytes_eq z y.items) ((bytes_eq-Decides n x.items).0 q))
        (λ k. apart key.items n k.items differ) ∙ or_none (found old n))

pub none_found : {X : Type 0} (o : Option (Bor X)) (b : Bool) → is_some o ≡ not b → b ≡ true → option_copied o ≡ None
none_found None b e t = refl
none_found (Some x) true e t = cc
none_found (Some x) false e t = cc

-- the first of a name, one field further
abbrev one_more : ℕ → FieldRow → List ℕ → Option ℕ
one_more id r name = if (r.parent == id) && bytes_eq name r.name then Some id else None

find_from-snoc : (id : ℕ) (rows : List FieldRow) (r : FieldRow) (name : List ℕ)
    → find_from id (rows ++ r ∷ []) name ≡ option_or (find_from id rows name) (one_more (id + length rows) r name)
find_from-snoc id [] r name = rw add-zero refl
find_from-snoc id (q ∷ rows) r name = cases ((q.parent == id) && bytes_eq name q.name) (rw next at (find_from-snoc (id + 1) rows r name))
  where
    next : (id + 1) + length rows ≡ id + suc (length rows)
    next = omega arith

    cases : (b : Bool) → find_from (id + 1) (rows ++ r ∷ []) name
        ≡ option_or (find_from (id + 1) rows name) (one_more (id + suc (length rows)) r name)
        → (if b then Some id else find_from (id + 1) (rows ++ r ∷ []) name)
        ≡ option_or (if b then Some id else find_from (id + 1) rows name) (one_more (id + suc (length rows)) r name)
    cases true later = refl
    cases false later = later

-- the names of one field more
pub found-next : (rows : List FieldRow) (i : ℕ) (r : FieldRow) (f g : List ℕ → Option ℕ) → i < length rows → r ≡ get_or rows i r
    → ((n : List ℕ) → f n ≡ find_from 0 (take i rows) n)
    → ((n : List ℕ) → g n ≡ option_or (f n) (if (r.parent == i) && bytes_eq n r.name then Some i else None))
    → (n : List ℕ) → g n ≡ find_from 0 (take (i + 1) rows) n
found-next rows i r f g h is before now n =
    let cut : take (i + 1) rows ≡ take i rows ++ r ∷ [] = ap (λ (k : ℕ). take k rows) (add-one i)
    ∙ (take-suc rows i r h ∙ ap (λ (z : FieldRow). take i rows ++ z ∷ []) (sym is)) in
    let len : length (take i rows) ≡ i = length-take-le i rows (omega arith) in
    let one : find_from 0 (take i rows ++ r ∷ []) n ≡ option_or (find_from 0 (take i rows) n) (one_more (0 + length (take i rows)) r n) =
    find_from-snoc 0 (take i rows) r n in
    let one' : find_from 0 (take i rows ++ r ∷ []) n ≡ option_or (find_from 0 (take i rows) n) (one_more i r n) =
    rw (zero-add, len) at one in
    now n ∙ (ap (λ (o : Option ℕ). option_or o (one_more i r n)) (before n)
    ∙ (sym one' ∙ ap (λ (z : List FieldRow). find_from 0 z n) (sym cut)))
