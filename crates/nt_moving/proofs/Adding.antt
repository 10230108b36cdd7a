-- Elements that are added behind others, and their room.
use Rattle.std.proofs.Common.{◌≡◌, ℕ, suc, ◌+◌, ◌-◌, ◌<◌, ◌≤◌, ◌%◌, ◌==◌, Bool, true, false, cond, List, [], ◌∷◌, ◌++◌, length}
use Rattle.std.proofs.Common.{map, take, drop, get_or, refl, sym, ◌∙◌, ap, ap₂, subst, arith, append_assoc, append-nil, length-append}
use Rattle.std.proofs.Math.Nat.{mod-eq_of_lt}
use Rattle.std.proofs.lemmas.List.{take_more, length-drop, map-append, length-map, length-take-le, get_or-drop}
use Rattle.nt_column.specs.Column.{Buffer}
use Rattle.nt_column.specs.Elements.{Element, plain, text_of}
use Rattle.nt_trees.specs.Columns.{Cols, number_at, add_to}
use Rattle.nt_trees.specs.TreeAt.{text_from}
use Rattle.nt_trees.specs.Views.{cols_of}
use Rattle.nt_shred.specs.Frame.{FitsIn}
use Rattle.nt_shred.specs.Steps.{GainsInRoom}
use Rattle.nt_shred.proofs.Sets.{later-room}
use Rattle.nt_moving.specs.Runs.{AllHaveBits}

pub add_to-behind : (k : ℕ) (xs ys : List Element) (cols : Cols) → add_to k ys (add_to k xs cols) ≡ add_to k (xs ++ ys) cols
add_to-behind k xs ys cols = λ i j. by (j == k) (cols j) i
  where
    by : (b : Bool) (c : List Element) → (c ++ cond b xs []) ++ cond b ys [] ≡ c ++ cond b (xs ++ ys) []
    by true c = append_assoc c xs ys
    by false c = append-nil (c ++ [])

pub add_to-none : (k : ℕ) (cols : Cols) → cols ≡ add_to k [] cols
add_to-none k cols = λ i j. by (j == k) (cols j) i
  where
    by : (b : Bool) (c : List Element) → c ≡ c ++ cond b [] []
    by true c = sym (append-nil c)
    by false c = sym (append-nil c)

-- room for some elements is room for fewer
pub fewer-room : (bs : List Buffer) (k : ℕ) (xs ys : List Element) (cols : Cols) → length xs ≤ length ys → FitsIn bs (add_to k ys cols)
    → FitsIn bs (add_to k xs cols)
fewer-room bs k xs ys cols few r = record {
  memory = λ j h. omega (arith, by (j == k) (cols j), r.memory j h);
  ends = λ j h. omega (arith, by (j == k) (cols j), r.ends j h);
}
  where
    by : (b : Bool) (c : List Element) → length (c ++ cond b xs []) ≤ length (c ++ cond b ys [])
    by true c = omega (arith, few, length-append c xs, length-append c ys)
    by false c = omega arith

-- some elements are added, and there is room for all of them
pub record SomeAdded (k : ℕ) (part whole : List Element) (start now : List Buffer) : Type 0 where
  pub gains : GainsInRoom (add_to k part) start now
  pub room : FitsIn start (add_to k whole (cols_of start))

pub none-added : (k : ℕ) (whole : List Element) (bs : List Buffer) → FitsIn bs (add_to k whole (cols_of bs))
    → SomeAdded k [] whole bs bs
none-added k whole bs r = record {
  gains = record { columns = add_to-none k (cols_of bs); frame = refl; room = λ j. omega arith };
  room = r;
}

pub more-room : (k : ℕ) (part more whole : List Element) (start now : List Buffer) → SomeAdded k part whole start now
    → length part + length more ≤ length whole → FitsIn now (add_to k more (cols_of now))
more-room k part more whole start now s few =
    let r = fewer-room start k (part ++ more) whole (cols_of start) (omega (arith, few, length-append part more)) s.room in
    subst (FitsIn now) (sym (ap (add_to k more) s.gains.columns ∙ add_to-behind k part more (cols_of start)))
    (later-room start now _ s.gains.frame s.gains.room r)

pub more-added : (k : ℕ) (part more next whole : List Element) (start now new : List Buffer) → SomeAdded k part whole start now
    → GainsInRoom (add_to k more) now new → next ≡ part ++ more → SomeAdded k next whole start new
more-added k part more next whole start now new s g is = record {
  gains = record {
    columns = g.columns ∙ ap (add_to k more) s.gains.columns ∙ add_to-behind k part more (cols_of start)
        ∙ ap (λ (l : List Element). add_to k l (cols_of start)) (sym is);
    frame = g.frame ∙ s.gains.frame;
    room = λ j. omega (arith, s.gains.room j, g.room j);
  };
  room = s.room;
}

pub all-added : (k : ℕ) (part whole : List Element) (start now : List Buffer) → SomeAdded k part whole start now → part ≡ whole
    → GainsInRoom (add_to k whole) start now
all-added k part whole start now s is = subst (λ (l : List Element). GainsInRoom (add_to k l) start now) is s.gains

-- ---- bytes of a text

pub length-text : (es : List Element) (at n : ℕ) → at + n ≤ length es → length (text_from es at n) ≡ n
length-text es at n within =
    let part = take n (drop at es) in
    length-map (map (λ (e : Element). e.0) part) (λ (m : ℕ). m % 256) ∙ length-map part (λ (e : Element). e.0)
    ∙ length-take-le n (drop at es) (omega (arith, within, length-drop at es))

pub text_from-more : (es : List Element) (from i : ℕ) → from ≤ i → i < length es
    → text_from es from (i + 1 - from) ≡ text_from es from (i - from) ++ number_at es i % 256 ∷ []
text_from-more es from i le less =
    let n = i - from in
    let next : i + 1 - from ≡ n + 1 = omega (arith, le) in
    let place : from + n ≡ i = omega (arith, le) in
    let e = get_or (drop from es) n (0, 0) in
    let more : take (n + 1) (drop from es) ≡ take n (drop from es) ++ e ∷ [] =
    take_more (drop from es) n (0, 0) (omega (arith, less, le, length-drop from es)) in
    let here : e ≡ get_or es i (0, 0) = get_or-drop from es n (0, 0) ∙ ap (λ (j : ℕ). get_or es j (0, 0)) place in
    ap (text_from es from) next
    ∙ ap text_of more
    ∙ ap (map (λ (m : ℕ). m % 256)) (map-append (λ (x : Element). x.0) (take n (drop from es)) (e ∷ []))
    ∙ map-append (λ (m : ℕ). m % 256) (map (λ (x : Element). x.0) (take n (drop from es))) (e.0 ∷ [])
    ∙ ap (λ (x : Element). text_from es from n ++ x.0 % 256 ∷ []) here

-- bytes are their own text
pub text-plain : (xs : List ℕ) → AllHaveBits 8 (map plain xs) → text_of (map plain xs) ≡ xs
text-plain [] h = refl
text-plain (x ∷ xs) h =
    let first : x < 256 = (h 0 (omega arith)).0 in
    let rest = text-plain xs (λ i k. h (suc i) (omega (arith, k))) in
    ap₂ (λ (a : ℕ) (b : List ℕ). a ∷ b) (mod-eq_of_lt first) rest
