-- Arrays that are printed, a value at a time.
use Rattle.std.proofs.Common.{◌≡◌, ℕ, suc, ◌+◌, ◌-◌, ◌<◌, ◌≤◌, List, [], ◌∷◌, ◌++◌, Bool, true, false, length, take, decimal, sym, ap, ◌∙◌}
use Rattle.std.proofs.Common.{refl, subst, arith, append_assoc, append-nil}
use Rattle.std.proofs.lemmas.List.{take-append-le, take_all, length-take}
use Rattle.serde_json.specs.Written.{compact_text, items_text}
use Rattle.nt_types.specs.TreeData.{TreeData, TreesData, no_trees, tree, pick}
use Rattle.nt_event.specs.Json.{data_of, datas_of, line_of}
use Rattle.nt_event.proofs.Prints.{front-then, two_put, three_put}
use Rattle.nt_trees.specs.TreeAt.{trees_from}
use Rattle.nt_print.specs.Marks.{mark_before, end_of, rest_text}

-- some values of an array stand behind what was there, and with these others it is whole
pub record IsBegun (old new : List ℕ) (later : Bool) (left whole : TreesData) : Type 0 where
  pub text : new ++ rest_text later left ≡ old ++ line_of whole
  pub kept : take (length old) new ≡ old

-- what was there stays, where more is put behind what stays
pub kept-more : (a b more : List ℕ) → take (length a) b ≡ a → take (length a) (b ++ more) ≡ a
kept-more a b more h =
    let within : length a ≤ length b = omega (arith, ap length h, length-take (length a) b) in
    take-append-le (length a) b more within ∙ h

pub kept-self : (a : List ℕ) → take (length a) a ≡ a
kept-self a = take_all (length a) a (omega arith)

pub kept-kept : (a b c : List ℕ) → take (length a) b ≡ a → take (length b) c ≡ b → take (length a) c ≡ a
kept-kept a b c h k = front-then a b c [] h (subst (λ l. take (length l) c ≡ l) (sym (append-nil b)) k)

-- before the first
pub IsBegun-none : (old : List ℕ) (whole : TreesData) → IsBegun old old false whole whole
IsBegun-none old whole = record { text = refl; kept = kept-self old }

-- one more value in front of the rest
pub rest-more : (later : Bool) (t : TreeData) (rest : TreesData)
    → mark_before later ∷ (compact_text (data_of t) ++ items_text true (datas_of rest)) ≡ rest_text later (tree t rest)
rest-more true t rest = refl
rest-more false t rest = refl

-- after one more value
pub IsBegun-next : (old new next : List ℕ) (later : Bool) (t : TreeData) (left rest whole : TreesData) → left ≡ tree t rest
    → IsBegun old new later left whole → next ≡ new ++ mark_before later ∷ compact_text (data_of t)
    → IsBegun old next true rest whole
IsBegun-next old new next later t left rest whole is b value =
    let piece = mark_before later ∷ compact_text (data_of t) in
    let others = items_text true (datas_of rest) in
    record {
      text = ap (λ l. l ++ others) value
          ∙ append_assoc new piece others
          ∙ ap (λ l. new ++ l) (rest-more later t rest)
          ∙ ap (λ ts. new ++ rest_text later ts) (sym is) ∙ b.text;
      kept = subst (λ l. take (length old) l ≡ old) (sym value) (kept-more old new piece b.kept);
    }

-- the end of an array
pub rest-none : (later : Bool) → end_of later ≡ rest_text later no_trees
rest-none true = refl
rest-none false = refl

-- after the last, and the end
pub IsBegun-end : (old new next : List ℕ) (later : Bool) (left whole : TreesData) → left ≡ no_trees → IsBegun old new later left whole
    → next ≡ new ++ end_of later → next ≡ old ++ line_of whole
IsBegun-end old new next later left whole none b is =
    is ∙ ap (λ l. new ++ l) (rest-none later) ∙ ap (λ ts. new ++ rest_text later ts) (sym none) ∙ b.text

-- the first tree of some
pub trees_from-first : (f : ℕ → TreeData) (i to : ℕ) → i < to → trees_from f i (to - i) ≡ tree (f i) (trees_from f (i + 1) (to - (i + 1)))
trees_from-first f i to lt =
    let some : to - i ≡ suc (to - (i + 1)) = omega arith in
    let next : suc i ≡ i + 1 = omega arith in
    ap (trees_from f i) some ∙ ap (λ j. tree (f i) (trees_from f j (to - (i + 1)))) next

-- no tree is left
pub trees_from-none : (f : ℕ → TreeData) (i to : ℕ) → to ≤ i → trees_from f i (to - i) ≡ no_trees
trees_from-none f i to le =
    let none : to - i ≡ 0 = omega arith in
    ap (trees_from f i) none

-- an alternative: its tag, its value, and the bracket
pub pick-put : (o a b c : List ℕ) (tag : ℕ) (v : TreeData) → a ≡ o ++ 91 ∷ decimal tag → b ≡ a ++ 44 ∷ compact_text (data_of v)
    → c ≡ b ++ 93 ∷ [] → c ≡ o ++ compact_text (data_of (pick tag v))
pick-put o a b c tag v begun value is =
    three_put o a b c (91 ∷ decimal tag) (44 ∷ compact_text (data_of v)) (93 ∷ []) _ begun value is refl

-- a mark, and the value that is put behind it
pub mark-put : (o a b : List ℕ) (mark : ℕ) (u v : TreeData) → a ≡ o ++ mark ∷ [] → b ≡ a ++ compact_text (data_of u) → u ≡ v
    → b ≡ o ++ mark ∷ compact_text (data_of v)
mark-put o a b mark u v first rest is =
    two_put o a b (mark ∷ []) (compact_text (data_of u)) (mark ∷ compact_text (data_of u)) first rest refl
    ∙ ap (λ t. o ++ mark ∷ compact_text (data_of t)) is
