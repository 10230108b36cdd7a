-- What pieces of groups come to is what all that is in them comes to.
use Rattle.std.proofs.Common.{◌≡◌, ℕ, ◌%◌, ◌^◌, ◌<◌, ◌≤◌, List, [], ◌∷◌, ◌++◌, map, length, refl, sym, ap, ◌∙◌, arith}
use Rattle.std.specs.Prelude.{sum}
use Rattle.std.specs.List.{All, AllZip, flat_map}
use Rattle.std.specs.Int.{div_ceil}
use Rattle.std.specs.List.{range_with_len}
use Rattle.std.proofs.lemmas.List.{map-append}
use Rattle.std.proofs.lemmas.List.Folds.{flat_map-map}
use Rattle.nt_lists.specs.Chunks.{chunk}
use Rattle.nt_lists.proofs.Groups.{chunks-joined}
use Rattle.std.proofs.lemmas.List.Elements.{All-nil, All-cons, All-head}
use Rattle.rayon.specs.Lists.{Reduces}
use Rattle.rayon.proofs.ListFacts.{All-parts}
use Rattle.rayon.proofs.Reducing.{Reduces-elim}
use Rattle.nt_total.specs.declared.piece.Piece.{Piece}
use Rattle.nt_total.specs.Keys.{least_key, greatest_key, IsPieceOf, IsJoinOf}
use Rattle.nt_total.proofs.Pieces.{least_key-append, greatest_key-append, least_key-le, sum-append, sum-one}

abbrev sums : List Piece → List ℕ
sums ps = map (λ (p : Piece). p.sum) ps

abbrev leasts : List Piece → List ℕ
leasts ps = map (λ (p : Piece). p.least) ps

abbrev greatests : List Piece → List ℕ
greatests ps = map (λ (p : Piece). p.greatest) ps

-- the numbers of a piece are those of their types
record IsSmall (p : Piece) : Type 0 where
  sum : p.sum < 2 ^ 128
  least : p.least ≤ 18446744073709551615

-- the pieces themselves, put together
record IsWhole (ps : List Piece) (r : Piece) : Type 0 where
  sum : r.sum ≡ sum (sums ps) % 2 ^ 128
  least : r.least ≡ least_key (leasts ps)
  greatest : r.greatest ≡ greatest_key (greatests ps)

abbrev IsWholeOfSmall : List Piece → Piece → Type 0
IsWholeOfSmall ps r = All IsSmall ps → IsWhole ps r

whole-none : (e : Piece) → IsPieceOf [] e → IsWholeOfSmall [] e
whole-none e f _ = record { sum = f.sum; least = f.least; greatest = f.greatest }

whole-one : (x : Piece) → IsSmall x → IsWhole (x ∷ []) x
whole-one x s = record { sum = omega (arith, s.sum, sum-one x.sum); least = omega (arith, s.least); greatest = omega arith }

join : (xs ys : List Piece) (a b r : Piece) → IsWhole xs a → IsWhole ys b → IsJoinOf a b r → IsWhole (xs ++ ys) r
join xs ys a b r f g j = record {
  sum = rw (map-append (λ (p : Piece). p.sum) xs ys) (omega (arith, f.sum, g.sum, j.sum, sum-append (sums xs) (sums ys)));
  least = rw (map-append (λ (p : Piece). p.least) xs ys) (omega (
    arith,
    f.least,
    g.least,
    j.least,
    least_key-append (leasts xs)
        (leasts ys),
  ));
  greatest = rw (map-append (λ (p : Piece). p.greatest) xs ys)
      (omega (arith, f.greatest, g.greatest, j.greatest, greatest_key-append (greatests xs) (greatests ys)));
}

whole-join : (xs ys : List Piece) (a b r : Piece) → IsWholeOfSmall xs a → IsWholeOfSmall ys b → IsJoinOf a b r → IsWholeOfSmall (xs ++ ys) r
whole-join xs ys a b r f g j all =
    let parts = All-parts IsSmall xs ys all in
    join xs ys a b r (f parts.0) (g parts.1) j

whole-more : (xs : List Piece) (a x r : Piece) → IsWholeOfSmall xs a → IsJoinOf a x r → IsWholeOfSmall (xs ++ x ∷ []) r
whole-more xs a x r f j all =
    let parts = All-parts IsSmall xs (x ∷ []) all in
    join xs (x ∷ []) a x r (f parts.0) (whole-one x (All-head IsSmall x [] parts.1)) j

module _ (f : ℕ → List ℕ) where
  abbrev Each : List ℕ → List Piece → Type 0
  Each is ps = AllZip (λ i p. IsPieceOf (f i) p) is ps

  small : (is : List ℕ) (ps : List Piece) → Each is ps → All IsSmall ps
  small [] [] h = All-nil IsSmall
  small [] (p ∷ ps) h = absurd h
  small (i ∷ is) [] h = absurd h
  small (i ∷ is) (p ∷ ps) h =
      All-cons IsSmall p ps (record { sum = omega (arith, h.0.sum); least = omega (arith, h.0.least, least_key-le (f i)) })
      (small is ps h.1)

  sums-whole : (is : List ℕ) (ps : List Piece) → Each is ps → sum (sums ps) % 2 ^ 128 ≡ sum (flat_map f is) % 2 ^ 128
  sums-whole [] [] h = refl
  sums-whole [] (p ∷ ps) h = absurd h
  sums-whole (i ∷ is) [] h = absurd h
  sums-whole (i ∷ is) (p ∷ ps) h =
      omega (arith, h.0.sum, sums-whole is ps h.1, sum-append (p.sum ∷ []) (sums ps), sum-one p.sum, sum-append (f i) (flat_map f is))

  leasts-whole : (is : List ℕ) (ps : List Piece) → Each is ps → least_key (leasts ps) ≡ least_key (flat_map f is)
  leasts-whole [] [] h = refl
  leasts-whole [] (p ∷ ps) h = absurd h
  leasts-whole (i ∷ is) [] h = absurd h
  leasts-whole (i ∷ is) (p ∷ ps) h = omega (arith, h.0.least, leasts-whole is ps h.1, least_key-append (f i) (flat_map f is))

  greatests-whole : (is : List ℕ) (ps : List Piece) → Each is ps → greatest_key (greatests ps) ≡ greatest_key (flat_map f is)
  greatests-whole [] [] h = refl
  greatests-whole [] (p ∷ ps) h = absurd h
  greatests-whole (i ∷ is) [] h = absurd h
  greatests-whole (i ∷ is) (p ∷ ps) h = omega (arith, h.0.greatest, greatests-whole is ps h.1, greatest_key-append (f i) (flat_map f is))

  -- what a reduction of the groups' pieces comes to
  pub reduced : (is : List ℕ) (ps : List Piece) (r : Piece) → Each is ps → Reduces (λ e. IsPieceOf [] e) (λ a b c. IsJoinOf a b c) ps r
      → IsPieceOf (flat_map f is) r
  reduced is ps r each h =
      let whole = Reduces-elim (λ e. IsPieceOf [] e) (λ a b c. IsJoinOf a b c) IsWholeOfSmall whole-none whole-more whole-join ps r h
      (small is ps each) in
      record {
        sum = whole.sum ∙ sums-whole is ps each;
        least = whole.least ∙ leasts-whole is ps each;
        greatest = whole.greatest ∙ greatests-whole is ps each;
      }

-- a function on all that groups have
pub flat_map-of_map : (g : ℕ → ℕ) (h : ℕ → List ℕ) (is : List ℕ) → flat_map (λ i. map g (h i)) is ≡ map g (flat_map h is)
flat_map-of_map g h [] = refl
flat_map-of_map g h (i ∷ is) = ap (λ l. map g (h i) ++ l) (flat_map-of_map g h is) ∙ sym (map-append g (h i) (flat_map h is))

-- a function on all that a list has, group by group
pub map-of_chunks : (g : ℕ → ℕ) (n : ℕ) (xs : List ℕ) → 0 < n
    → flat_map (λ i. map g (chunk n xs i)) (range_with_len 0 (div_ceil (length xs) n)) ≡ map g xs
map-of_chunks g n xs lt =
    let is = range_with_len 0 (div_ceil (length xs) n) in
    flat_map-of_map g (chunk n xs) is
    ∙ ap (map g) (sym (flat_map-map (λ (l : List ℕ). l) (chunk n xs) is) ∙ chunks-joined n xs lt)
