-- Integers by their keys.
use Rattle.std.proofs.Common.{◌≡◌, ◌≢◌, ℕ, suc, ◌+◌, ◌-◌, ◌*◌, ◌^◌, ◌<◌, ◌≤◌, min, max, Bool, true, false, ℤ, pos, List, [], ◌∷◌}
use Rattle.std.proofs.Common.{map, length, fold, refl, sym, ap, subst, ◌∙◌, arith, Some, None, ⊎_elim, ◌⊎◌, inl, inr, zero}
use Rattle.std.specs.Prelude.{sum, ◌+ℤ◌, ◌-ℤ◌, ◌≤ℤ◌}
use Rattle.std.specs.List.{All, Contains}
use Rattle.std.proofs.lemmas.Int.{ints}
use Rattle.std.proofs.lemmas.Bool.{cases_lt, lt-ltb, le-ltb}
use Rattle.std.proofs.lemmas.List.{length-map}
use Rattle.std.proofs.lemmas.List.Sums.{sum_by-le}
use Rattle.std.proofs.lemmas.List.Elements.{All-nil, All-cons, All-head, All-tail, All-map, All-weaker}
use Rattle.nt_total.specs.declared.piece.Piece.{Piece}
use Rattle.nt_total.specs.declared.total.Total.{Total}
use Rattle.nt_total.specs.Keys.{key, integer_of_key, least_key, greatest_key, IsPieceOf, AreKeysOf}
use Rattle.nt_trees.specs.Integers.{half, integer_of}
use Rattle.nt_types.specs.declared.column_type.ColumnType.{ColumnType}
use Rattle.nt_types.specs.declared.column_type.ColumnType.TheVariants.{Bit, Byte, Char, Int8, UInt8, Int16, UInt16, Int32, UInt32, Int64}
use Rattle.nt_types.specs.declared.column_type.ColumnType.TheVariants.{UInt64, Index32, Index64, Switch, SplitInt16, SplitUInt16}
use Rattle.nt_types.specs.declared.column_type.ColumnType.TheVariants.{SplitInt32, SplitUInt32, SplitInt64, SplitUInt64, SplitIndex32}
use Rattle.nt_types.specs.declared.column_type.ColumnType.TheVariants.{SplitIndex64}
use Rattle.nt_types.specs.ColumnTable.{bits_of}
use Rattle.nt_column.specs.Elements.{Element, numbers, IsElementOf, AreElementsOf}
use Rattle.nt_total.specs.Totals.{below_zero, IsOfWidth, IsLeastOf, IsGreatestOf, IsTotalOf}
use Rattle.nt_total.proofs.Pieces.{sum-append, sum-one}

key-under : (bias n : ℕ) → n < bias → key bias n ≡ n + bias
key-under bias n lt = rw (lt-ltb n bias lt) refl

key-over : (bias n : ℕ) → bias ≤ n → key bias n ≡ n - bias
key-over bias n le = rw (le-ltb n bias le) refl

-- an element's integer is that of its key
pub integer_of-key : (bits : ℕ) (signed : Bool) (n : ℕ) → n < half bits + half bits
    → integer_of bits signed n ≡ integer_of_key (below_zero bits signed) (key (below_zero bits signed) n)
integer_of-key bits false n lt = rw (key-over 0 n (omega arith)) (omega (arith, ints))
integer_of-key bits true n lt = ⊎_elim
    (λ under. rw (lt-ltb n (half bits) under) (omega (arith, ints)))
    (λ over. rw (le-ltb n (half bits) over) (omega (arith, ints)))
    (cases_lt n (half bits))

-- a key is a number of 64 bits
pub key-small : (bias n : ℕ) → bias ≤ 2 ^ 63 → n < 2 ^ 64 → key bias n < 2 ^ 64
key-small bias n few lt = ⊎_elim
    (λ under. rw (key-under bias n under) (omega arith))
    (λ over. rw (key-over bias n over) (omega arith))
    (cases_lt n bias)

-- elements' integers are those of their keys
pub integers-keyed : (bits : ℕ) (signed : Bool) (ns : List ℕ) → All (IsOfWidth bits) ns
    → map (integer_of bits signed) ns ≡ map (integer_of_key (below_zero bits signed)) (map (key (below_zero bits signed)) ns)
integers-keyed bits signed [] all = refl
integers-keyed bits signed (n ∷ ns) all =
    let first = integer_of-key bits signed n (All-head (IsOfWidth bits) n ns all).width in
    let others = integers-keyed bits signed ns (All-tail (IsOfWidth bits) n ns all) in
    rw (first, others) refl

-- the sum of integers by that of their keys
pub sum-keyed : (bias : ℕ) (ks : List ℕ) (a : ℤ) → fold ◌+ℤ◌ a (map (integer_of_key bias) ks) ≡ a +ℤ (pos (sum ks) -ℤ pos
    (length ks * bias))
sum-keyed bias [] a = omega (arith, ints)
sum-keyed bias (k ∷ ks) a =
    let more : length (k ∷ ks) * bias ≡ length ks * bias + bias = omega arith in
    sum-keyed bias ks (a +ℤ integer_of_key bias k) ∙ omega (arith, ints, sum-append (k ∷ []) ks, sum-one k, more)

-- none is below the least
pub least_key-below : (ks : List ℕ) → All (λ k. least_key ks ≤ k) ks
least_key-below [] = All-nil _
least_key-below (k ∷ ks) =
    All-cons (λ x. least_key (k ∷ ks) ≤ x) k ks (omega arith)
    (All-weaker (λ x. least_key ks ≤ x) (λ x. least_key (k ∷ ks) ≤ x) (λ x le. omega arith) ks (least_key-below ks))

pub greatest_key-above : (ks : List ℕ) → All (λ k. k ≤ greatest_key ks) ks
greatest_key-above [] = All-nil _
greatest_key-above (k ∷ ks) =
    All-cons (λ x. x ≤ greatest_key (k ∷ ks)) k ks (omega arith)
    (All-weaker (λ x. x ≤ greatest_key ks) (λ x. x ≤ greatest_key (k ∷ ks)) (λ x le. omega arith) ks (greatest_key-above ks))

-- what is chosen of two
one_of_min : (a b : ℕ) → (min a b ≡ a) ⊎ (min a b ≡ b)
one_of_min a b = ⊎_elim (λ lt. inl (omega arith)) (λ ge. inr (omega arith)) (cases_lt a b)

one_of_max : (a b : ℕ) → (max a b ≡ a) ⊎ (max a b ≡ b)
one_of_max a b = ⊎_elim (λ lt. inr (omega arith)) (λ ge. inl (omega arith)) (cases_lt a b)

first-in : {A : Type 0} (x y : A) (xs : List A) → y ≡ x → Contains (x ∷ xs) y
first-in x y xs e = (0, omega arith, sym e)

later-in : {A : Type 0} (x y : A) (xs : List A) → Contains xs y → Contains (x ∷ xs) y
later-in x y xs h = (suc h.0, omega (arith, h.1), h.2)

-- the least is one of the keys
pub least_key-in : (k : ℕ) (ks : List ℕ) → All (λ x. x < 2 ^ 64) (k ∷ ks) → Contains (k ∷ ks) (least_key (k ∷ ks))
least_key-in k [] all = first-in k _ [] (omega (arith, All-head (λ x. x < 2 ^ 64) k [] all))
least_key-in k (l ∷ ks) all = ⊎_elim
    (λ e. first-in k _ (l ∷ ks) e)
    (λ e. later-in k _ (l ∷ ks) (subst (Contains (l ∷ ks)) (sym e) (least_key-in l ks (All-tail (λ x. x < 2 ^ 64) k (l ∷ ks) all))))
    (one_of_min k (least_key (l ∷ ks)))

pub greatest_key-in : (k : ℕ) (ks : List ℕ) → Contains (k ∷ ks) (greatest_key (k ∷ ks))
greatest_key-in k [] = first-in k _ [] (omega arith)
greatest_key-in k (l ∷ ks) = ⊎_elim
    (λ e. first-in k _ (l ∷ ks) e)
    (λ e. later-in k _ (l ∷ ks) (subst (Contains (l ∷ ks)) (sym e) (greatest_key-in l ks)))
    (one_of_max k (greatest_key (l ∷ ks)))

-- what a list has, its image has
in-image : {A B : Type 0} (f : A → B) (x : A) (xs : List A) → Contains xs x → Contains (map f xs) (f x)
in-image f x [] h = absurd (omega (arith, h.1))
in-image f x (y ∷ xs) (zero, lt, e) = (0, omega arith, ap f e)
in-image f x (y ∷ xs) (suc i, lt, e) = later-in (f y) (f x) (map f xs) (in-image f x xs (i, omega (arith, lt), e))

-- no integers
pub total-none : (bias : ℕ) (ks : List ℕ) (t : Total) → length ks ≡ 0 → t ≡ record { count = 0; sum = pos 0; least = None; greatest = None }
    → IsTotalOf (map (integer_of_key bias) ks) t
total-none bias [] t e is = rw is (record { count = refl; sum = refl; least = refl; greatest = refl })
total-none bias (k ∷ ks) t e is = absurd (omega (arith, e))

-- the order of keys is that of their integers
ordered : (bias a b : ℕ) → a ≤ b → integer_of_key bias a ≤ℤ integer_of_key bias b
ordered bias a b le = omega (arith, ints)

least-keyed : (bias k : ℕ) (ks : List ℕ) → All (λ x. x < 2 ^ 64) (k ∷ ks)
    → IsLeastOf (map (integer_of_key bias) (k ∷ ks)) (Some (integer_of_key bias (least_key (k ∷ ks))))
least-keyed bias k ks words =
    let f = integer_of_key bias in
    let m = least_key (k ∷ ks) in (
      in-image f m (k ∷ ks) (least_key-in k ks words),
      All-map (λ z. f m ≤ℤ z) f (k ∷ ks)
          (All-weaker (λ x. m ≤ x) (λ x. f m ≤ℤ f x) (λ x le. ordered bias m x le) (k ∷ ks) (least_key-below (k ∷ ks))),
    )

greatest-keyed : (bias k : ℕ) (ks : List ℕ) → IsGreatestOf (map (integer_of_key bias) (k ∷ ks)) (Some (integer_of_key bias
    (greatest_key (k ∷ ks))))
greatest-keyed bias k ks =
    let f = integer_of_key bias in
    let m = greatest_key (k ∷ ks) in (
      in-image f m (k ∷ ks) (greatest_key-in k ks),
      All-map (λ z. z ≤ℤ f m) f (k ∷ ks)
          (All-weaker (λ x. x ≤ m) (λ x. f x ≤ℤ f m) (λ x le. ordered bias x m le) (k ∷ ks) (greatest_key-above (k ∷ ks))),
    )

-- the total of integers by what their keys come to
pub total-keyed : (bias n : ℕ) (ks : List ℕ) (p : Piece) (t : Total) → AreKeysOf n p ks → n ≢ 0 → t.count ≡ n
    → t.sum ≡ pos p.sum -ℤ pos (n * bias)
    → t.least ≡ Some (integer_of_key bias p.least) → t.greatest ≡ Some (integer_of_key bias p.greatest)
    → IsTotalOf (map (integer_of_key bias) ks) t
total-keyed bias n [] p t keys some c s l g = absurd (some (sym keys.count))
total-keyed bias n (k ∷ ks) p t keys some c s l g =
    let f = integer_of_key bias in
    let all = k ∷ ks in
    let exact : p.sum ≡ sum all = omega (arith, keys.whole, keys.piece.sum) in
    record {
      count = c ∙ sym keys.count ∙ sym (length-map all f);
      sum = s ∙ rw (exact, sym keys.count) (sym (sum-keyed bias all (pos 0) ∙ omega (arith, ints)));
      least = rw (l, keys.piece.least) (least-keyed bias k ks keys.words);
      greatest = rw (g, keys.piece.greatest) (greatest-keyed bias k ks);
    }

-- keys of a column are words, whose sum is kept whole
pub keys-whole : (bias n : ℕ) (ns : List ℕ) (p : Piece) → bias ≤ 2 ^ 63 → n ≤ 2 ^ 60 → length ns ≡ n → All (λ x. x < 2 ^ 64) ns
    → IsPieceOf (map (key bias) ns) p → AreKeysOf n p (map (key bias) ns)
keys-whole bias n ns p few short len words piece =
    let small = All-map (λ x. x < 2 ^ 64) (key bias) ns
    (All-weaker (λ x. x < 2 ^ 64) (λ x. key bias x < 2 ^ 64) (λ x lt. key-small bias x few lt) ns words) in
    let most = sum_by-le (λ x. x) 18446744073709551615 (map (key bias) ns)
    (All-weaker (λ x. x < 2 ^ 64) (λ x. x ≤ 18446744073709551615) (λ x lt. omega arith) (map (key bias) ns) small) in
    let count : length (map (key bias) ns) ≡ n = length-map ns (key bias) ∙ len in
    record { count = count; whole = omega (arith, most, count); words = small; piece = piece }

-- the elements of a type are those of its width
width-whole : (kind : ColumnType) → half (bits_of kind) + half (bits_of kind) ≡ 2 ^ bits_of kind
width-whole Bit = refl
width-whole Byte = refl
width-whole Char = refl
width-whole Int8 = refl
width-whole UInt8 = refl
width-whole Int16 = refl
width-whole UInt16 = refl
width-whole Int32 = refl
width-whole UInt32 = refl
width-whole Int64 = refl
width-whole UInt64 = refl
width-whole Index32 = refl
width-whole Index64 = refl
width-whole Switch = refl
width-whole SplitInt16 = refl
width-whole SplitUInt16 = refl
width-whole SplitInt32 = refl
width-whole SplitUInt32 = refl
width-whole SplitInt64 = refl
width-whole SplitUInt64 = refl
width-whole SplitIndex32 = refl
width-whole SplitIndex64 = refl

-- the numbers of elements of a type are of its width
pub widths-of : (kind : ColumnType) (es : List Element) → AreElementsOf kind es → All (IsOfWidth (bits_of kind)) (numbers es)
widths-of kind es are = All-map (IsOfWidth (bits_of kind)) (λ (e : Element). e.0) es
    (All-weaker (λ (e : Element). IsElementOf kind e) (λ (e : Element). IsOfWidth (bits_of kind) e.0)
    (λ e h. record { width = rw (width-whole kind) h.number; word = h.word }) es are)
