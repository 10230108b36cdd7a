-- The slow reading, a step at a time.
use Rattle.std.proofs.Common.{◌≡◌, ℕ, zero, suc, ◌+◌, ◌^◌, ◌/◌, ◌<◌, ◌≤◌, nat_lt, nat_eq, ◌⊎◌, inl, inr, List, [], ◌∷◌, ◌++◌, length, map}
use Rattle.std.proofs.Common.{drop, get_or, true, Option, Some, None, option_map, option_and_then, codes, refl, sym, ap, ◌∙◌}
use Rattle.std.proofs.Common.{arith, if◌then◌else◌, rules}
use Rattle.std.proofs.lemmas.Bool.{lt-ltb, le-ltb, ne_eqb, eq-eqb, cases_lt}
use Rattle.std.proofs.lemmas.List.{drop_more}
use Rattle.std.proofs.lemmas.Nat.{pow_pos, le-div}
use Rattle.std.proofs.Math.Pow.{pow_mono}
use Rattle.std.proofs.Math.Nat.{div-eq_of_lt}
use Rattle.serde_json.specs.Data.{Data, object, Items, Members}
use Rattle.serde_json.specs.Find.{as_object, as_array, as_str, get, get_member}
use Rattle.serde_json.specs.Events.{members_len}
use Rattle.serde_json.specs.View.{view, items_view, members_view}
use Rattle.serde_json.specs.declared.value.Value.{Value}
use Rattle.nt_types.specs.ShapeData.{ShapeData}
use Rattle.nt_types.specs.ShapeData as kinds
use Rattle.nt_types.specs.TreeData as trees
use Rattle.nt_types.specs.TreeData.{TreesData, tree, no_trees, pick}
use Rattle.nt_event.specs.Line.{tree_read, all_read, ok_of, one_read, pick_read, tag_read, text_read, hex_read}
use Rattle.nt_event.specs.Line as lines
use Rattle.nt_types.specs.TreeData.{trees_of}
use Rattle.nt_types.specs.ShapeData.{kinds_of, parts_of}
use Rattle.nt_types.specs.Views as views
use Rattle.nt_types.specs.declared.shape.Shape.{Shape}
use Rattle.nt_types.specs.declared.shape.Member.{Member}
use Rattle.nt_types.proofs.ShapeViews.{member_view-of}
use Rattle.nt_event.specs.Entry.{trees_then}
use Rattle.std.specs.Prelude.{Ok, String}
use Rattle.std.proofs.Common.{Global}
use Rattle.hex.specs.Hex.{decode_of}

-- ---- widths

pub short : (n bits : ℕ) → n < 2 ^ 64 → 64 ≤ bits → nat_lt n (2 ^ bits) ≡ true
short n bits small le = lt-ltb n (2 ^ bits) (omega (arith, small, pow_mono le))

-- ---- entries

then-push : (vs : List trees.TreeData) (v : trees.TreeData) (r : TreesData) → trees_then vs (tree v r) ≡ trees_then (vs ++ v ∷ []) r
then-push [] v r = refl
then-push (w ∷ vs) v r = ap (tree w) (then-push vs v r)

pub then-map : (vs : List trees.TreeData) (v : trees.TreeData) (r : Option TreesData)
    → option_map (trees_then vs) (option_map (tree v) r) ≡ option_map (trees_then (vs ++ v ∷ [])) r
then-map vs v None = refl
then-map vs v (Some r) = ap (λ (x : TreesData). Some x) (then-push vs v r)

pub then-all : (vs : List trees.TreeData) → trees_then vs no_trees ≡ trees_of vs
then-all [] = refl
then-all (v ∷ vs) = ap (tree v) (then-all vs)

pub all-step : (f : Data → Option trees.TreeData) (whole : Option TreesData) (vs : List trees.TreeData) (v : trees.TreeData)
    (xs : List Value) (i : ℕ) (x : Value) → i < length xs → x ≡ get_or xs i x
    → whole ≡ option_map (trees_then vs) (all_read f (items_view (drop i xs))) → Some v ≡ f (view x)
    → whole ≡ option_map (trees_then (vs ++ v ∷ [])) (all_read f (items_view (drop (i + 1) xs)))
all-step f whole vs v xs i x lt is so at =
    so ∙ ap (λ (l : List Value). option_map (trees_then vs) (all_read f (items_view l)))
    (drop_more xs i x lt ∙ ap (λ (y : Value). y ∷ drop (i + 1) xs) (sym is))
    ∙ ap (λ o. option_map (trees_then vs) (option_and_then (λ u. option_map (tree u) (all_read f (items_view (drop (i + 1) xs)))) o))
    (sym at)
    ∙ then-map vs v (all_read f (items_view (drop (i + 1) xs)))

pub each-step : (whole : Option TreesData) (vs : List trees.TreeData) (v : trees.TreeData) (ks : List Shape) (xs : List Value) (i : ℕ)
    (k : Shape) (x : Value) → i < length ks → i < length xs → k ≡ get_or ks i k → x ≡ get_or xs i x
    → whole ≡ option_map (trees_then vs) (lines.kinds_read (kinds_of (map views.shape_view (drop i ks))) (items_view (drop i xs)))
    → Some v ≡ tree_read (views.shape_view k) (view x)
    → whole ≡ option_map (trees_then (vs ++ v ∷ []))
    (lines.kinds_read (kinds_of (map views.shape_view (drop (i + 1) ks))) (items_view (drop (i + 1) xs)))
each-step whole vs v ks xs i k x ltk ltx isk isx so at =
    let rest = lines.kinds_read (kinds_of (map views.shape_view (drop (i + 1) ks))) (items_view (drop (i + 1) xs)) in
    so ∙ ap (λ (l : List Value). option_map (trees_then vs)
    (lines.kinds_read (kinds_of (map views.shape_view (drop i ks))) (items_view l)))
    (drop_more xs i x ltx ∙ ap (λ (y : Value). y ∷ drop (i + 1) xs) (sym isx))
    ∙ ap (λ (l : List Shape). option_map (trees_then vs)
    (lines.kinds_read (kinds_of (map views.shape_view l)) (items_view (x ∷ drop (i + 1) xs))))
    (drop_more ks i k ltk ∙ ap (λ (j : Shape). j ∷ drop (i + 1) ks) (sym isk))
    ∙ ap (λ o. option_map (trees_then vs) (option_and_then (λ u. option_map (tree u) rest) o)) (sym at)
    ∙ then-map vs v rest

pub member-step : (whole : Option TreesData) (vs : List trees.TreeData) (v : trees.TreeData) (ms : List Member) (xs : List Value) (i : ℕ)
    (m : Member) (x : Value) → i < length ms → i < length xs → m ≡ get_or ms i m → x ≡ get_or xs i x
    → whole ≡ option_map (trees_then vs) (lines.parts_read (parts_of (map views.member_view (drop i ms))) (items_view (drop i xs)))
    → Some v ≡ tree_read (views.shape_view m.of) (view x)
    → whole ≡ option_map (trees_then (vs ++ v ∷ []))
    (lines.parts_read (parts_of (map views.member_view (drop (i + 1) ms))) (items_view (drop (i + 1) xs)))
member-step whole vs v ms xs i m x ltm ltx ism isx so at =
    let rest = lines.parts_read (parts_of (map views.member_view (drop (i + 1) ms))) (items_view (drop (i + 1) xs)) in
    so ∙ ap (λ (l : List Value). option_map (trees_then vs)
    (lines.parts_read (parts_of (map views.member_view (drop i ms))) (items_view l)))
    (drop_more xs i x ltx ∙ ap (λ (y : Value). y ∷ drop (i + 1) xs) (sym isx))
    ∙ ap (λ (l : List Member). option_map (trees_then vs)
    (lines.parts_read (parts_of (map views.member_view l)) (items_view (x ∷ drop (i + 1) xs))))
    (drop_more ms i m ltm ∙ ap (λ (j : Member). j ∷ drop (i + 1) ms) (sym ism))
    ∙ ap (λ o. option_map (trees_then vs) (option_and_then (λ u. option_map (tree u) rest) o))
    (ap (λ k. tree_read k (view x)) (member_view-of m) ∙ sym at)
    ∙ then-map vs v rest

none-next : (o : Option trees.TreeData) → option_and_then (λ v. option_map (tree v) None) o ≡ None
none-next None = refl
none-next (Some v) = refl

pub lengths-differ : (ks : List ShapeData) (xs : List Value) → (length ks ≡ length xs → ⊥)
    → lines.kinds_read (kinds_of ks) (items_view xs) ≡ None
lengths-differ [] [] h = absurd (h refl)
lengths-differ [] (x ∷ xs) h = refl
lengths-differ (k ∷ ks) [] h = refl
lengths-differ (k ∷ ks) (x ∷ xs) h = ap (λ r. option_and_then (λ v. option_map (tree v) r) (tree_read k (view x)))
    (lengths-differ ks xs (λ e. h (ap suc e))) ∙ none-next (tree_read k (view x))

pub members-differ : (ps : List kinds.MemberData) (xs : List Value) → (length ps ≡ length xs → ⊥)
    → lines.parts_read (parts_of ps) (items_view xs) ≡ None
members-differ [] [] h = absurd (h refl)
members-differ [] (x ∷ xs) h = refl
members-differ (p ∷ ps) [] h = refl
members-differ (p ∷ ps) (x ∷ xs) h = ap (λ r. option_and_then (λ v. option_map (tree v) r) (tree_read p.of (view x)))
    (members-differ ps xs (λ e. h (ap suc e))) ∙ none-next (tree_read p.of (view x))

pub no-pick : (f : ℕ → Data → Option trees.TreeData) (xs : List Value) → (length xs ≡ 2 → ⊥) → pick_read f (items_view xs) ≡ None
no-pick f [] h = refl
no-pick f (x ∷ []) h = refl
no-pick f (x ∷ y ∷ []) h = absurd (h refl)
no-pick f (x ∷ y ∷ z ∷ xs) h = refl

pub two-pick : (f : ℕ → Data → Option trees.TreeData) (xs : List Value) (x y : Value) → length xs ≡ 2 → x ≡ get_or xs 0 x
    → y ≡ get_or xs 1 y → pick_read f (items_view xs) ≡ option_and_then (λ tag. option_map (pick tag) (f tag (view y)))
    (tag_read (view x))
two-pick f [] x y h e g = absurd (omega (arith, h))
two-pick f (a ∷ []) x y h e g = absurd (omega (arith, h))
two-pick f (a ∷ b ∷ []) x y h e g = ap (λ (t : Value). option_and_then (λ tag. option_map (pick tag) (f tag (view b)))
    (tag_read (view t))) (sym e) ∙ ap (λ (t : Value). option_and_then (λ tag. option_map (pick tag) (f tag (view t))) (tag_read (view x)))
    (sym g)
two-pick f (a ∷ b ∷ c ∷ xs) x y h e g = absurd (omega (arith, h))

pub one-zero : (ks : List ShapeData) (d : Data) → one_read (kinds_of ks) 0 d ≡ None
one-zero [] d = refl
one-zero (k ∷ ks) d = refl

pub one-beyond : (ks : List ShapeData) (tag : ℕ) (d : Data) → length ks < tag → one_read (kinds_of ks) tag d ≡ None
one-beyond [] tag d h = refl
one-beyond (k ∷ ks) zero d h = refl
one-beyond (k ∷ ks) (suc zero) d h = absurd (omega (arith, h))
one-beyond (k ∷ ks) (suc (suc n)) d h = one-beyond ks (suc n) d (omega (arith, h))

pub one-nth : (ks : List ShapeData) (i : ℕ) (k : ShapeData) (d : Data) → i < length ks → k ≡ get_or ks i k
    → one_read (kinds_of ks) (suc i) d ≡ tree_read k d
one-nth [] i k d lt is = absurd (omega arith)
one-nth (j ∷ ks) zero k d lt is = ap (λ (u : ShapeData). tree_read u d) (sym is)
one-nth (j ∷ ks) (suc i) k d lt is = one-nth ks i k d (omega arith) is

-- ---- texts

pub text-object : (d : Data) (ms : Members) → Some ms ≡ as_object d → text_read d ≡ hex_read ms
text-object (object ms) ns h = search (rules, h)
text-object _ ns h = search (rules, h)

pub high_bits : (n bits : ℕ) → nat_eq (n / 2 ^ bits) 0 ≡ nat_lt n (2 ^ bits)
high_bits n bits = go (cases_lt n (2 ^ bits))
  where
    go : (n < 2 ^ bits) ⊎ (2 ^ bits ≤ n) → nat_eq (n / 2 ^ bits) 0 ≡ nat_lt n (2 ^ bits)
    go (inl h) = ap (λ q. nat_eq q 0) (div-eq_of_lt h) ∙ sym (lt-ltb n (2 ^ bits) h)
    go (inr h) = let big : 1 ≤ n / 2 ^ bits = le-div 1 n (2 ^ bits) (pow_pos bits) (omega (arith, h)) in
        ne_eqb (n / 2 ^ bits) 0 (λ e. omega (arith, e, big)) ∙ sym (le-ltb n (2 ^ bits) h)

-- ---- choices and lists

pub picked_is : (ks : List ShapeData) (xs : List Value) (x y : Value) (tag : ℕ) → length xs ≡ 2 → x ≡ get_or xs 0 x → y ≡ get_or xs 1 y
    → Some tag ≡ tag_read (view x) → pick_read (one_read (kinds_of ks)) (items_view xs) ≡ option_map (pick tag)
    (one_read (kinds_of ks) tag (view y))
picked_is ks xs x y tag two e g h = two-pick (one_read (kinds_of ks)) xs x y two e g
    ∙ ap (λ o. option_and_then (λ n. option_map (pick n) (one_read (kinds_of ks) n (view y))) o) (sym h)

pub picked_none : (ks : List ShapeData) (xs : List Value) (x : Value) (tag : ℕ) → length xs ≡ 2 → x ≡ get_or xs 0 x
    → Some tag ≡ tag_read (view x) → ((d : Data) → one_read (kinds_of ks) tag d ≡ None)
    → pick_read (one_read (kinds_of ks)) (items_view xs) ≡ None
picked_none ks [] x tag two e h none = absurd (omega (arith, two))
picked_none ks (a ∷ []) x tag two e h none = absurd (omega (arith, two))
picked_none ks (a ∷ b ∷ []) x tag two e h none = picked_is ks (a ∷ b ∷ []) x b tag refl e refl h
    ∙ ap (option_map (pick tag)) (none (view b))
picked_none ks (a ∷ b ∷ c ∷ xs) x tag two e h none = absurd (omega (arith, two))

pub list-tree : (k : ShapeData) (d : Data) (ds : Items) (vs : TreesData) → Some ds ≡ as_array d → Some vs ≡ all_read (tree_read k) ds
    → Some (trees.items vs) ≡ tree_read (kinds.list k) d
list-tree k d ds vs h g = ap (option_map trees.items) g
    ∙ ap (λ o. option_and_then (λ es. option_map trees.items (all_read (tree_read k) es)) o) h

pub record-tree : (ps : kinds.MembersData) (d : Data) (ds : Items) (vs : TreesData) → Some ds ≡ as_array d
    → Some vs ≡ lines.parts_read ps ds → Some (trees.parts vs) ≡ tree_read (kinds.fields ps) d
record-tree ps d ds vs h g = ap (option_map trees.parts) g
    ∙ ap (λ o. option_and_then (λ es. option_map trees.parts (lines.parts_read ps es)) o) h

pub tuple-tree : (ks : kinds.ShapesData) (d : Data) (ds : Items) (vs : TreesData) → Some ds ≡ as_array d
    → Some vs ≡ lines.kinds_read ks ds → Some (trees.parts vs) ≡ tree_read (kinds.tuple ks) d
tuple-tree ks d ds vs h g = ap (option_map trees.parts) g
    ∙ ap (λ o. option_and_then (λ es. option_map trees.parts (lines.kinds_read ks es)) o) h

count_members : (ms : List (String Global × Value)) → members_len (members_view ms) ≡ length ms
count_members [] = refl
count_members (m ∷ ms) = ap suc (count_members ms)

abbrev hex_inside : Members → Option (List ℕ)
hex_inside ms = option_and_then (λ s. ok_of (decode_of s)) (option_and_then as_str (get_member (codes "hex") ms))

pub not_one : (d : Data) (ms : List (String Global × Value)) → Some (members_view ms) ≡ as_object d → (length ms ≡ 1 → ⊥)
    → None ≡ text_read d
not_one d ms h n = sym (text-object d (members_view ms) h
    ∙ ap (λ b. if b then hex_inside (members_view ms) else None)
    (ne_eqb (members_len (members_view ms)) 1 (λ e. n (sym (count_members ms) ∙ e))))

get-object : (d : Data) (ms : Members) (k : List ℕ) → Some ms ≡ as_object d → get k d ≡ get_member k ms
get-object (object ms) ns k h = search (rules, h)
get-object _ ns k h = search (rules, h)

pub one_hex : (d : Data) (ms : List (String Global × Value)) (v : Data) (s b : List ℕ) → Some (members_view ms) ≡ as_object d
    → length ms ≡ 1 → Some v ≡ get (codes "hex") d → Some s ≡ as_str v → decode_of s ≡ Ok b → Some b ≡ text_read d
one_hex d ms v s b h one at is good = sym (text-object d (members_view ms) h
    ∙ ap (λ b. if b then hex_inside (members_view ms) else None) (eq-eqb (members_len (members_view ms)) 1 (count_members ms ∙ one))
    ∙ ap (λ o. option_and_then (λ s. ok_of (decode_of s)) (option_and_then as_str o))
    (sym (get-object d (members_view ms) (codes "hex") h) ∙ sym at)
    ∙ ap (λ o. option_and_then (λ s. ok_of (decode_of s)) o) (sym is)
    ∙ ap ok_of good)
