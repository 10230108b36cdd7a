-- Parts of lists by their places, and sums over them.
use Rattle.std.proofs.Common.{◌≡◌, ℕ, zero, suc, ◌+◌, ◌*◌, ◌≤◌, List, [], ◌∷◌, length, map, take, drop, drop-cons, refl, sym, ap, ◌∙◌}
use Rattle.std.proofs.Common.{sum_by, arith}
use Rattle.std.specs.Prelude.{slice_index_or}
use Rattle.std.specs.List.{range_with_len, flat_map}
use Rattle.std.proofs.lemmas.List.Sums.{sum_by-cons, sum_by-append}

module _ {A : Type 0} where
  -- the elements at so many places from one on
  pub map-places : (xs : List A) (d : A) (from count : ℕ) → from + count ≤ length xs
      → map (λ k. slice_index_or xs k d) (range_with_len from count) ≡ take count (drop from xs)
  map-places xs d from zero fits = refl
  map-places xs d from (suc n) fits =
      let next : suc from ≡ from + 1 = omega arith in
      let more : drop from xs ≡ slice_index_or xs from d ∷ drop (suc from) xs = drop-cons xs from d (omega arith) in
      ap (λ (l : List A). slice_index_or xs from d ∷ l) (map-places xs d (from + 1) n (omega arith))
      ∙ sym (ap (λ (l : List A). take (suc n) l) (more ∙ ap (λ (k : ℕ). slice_index_or xs from d ∷ drop k xs) next))

  -- a sum over a list of lists
  pub sum_by-joined : (f : A → ℕ) (xss : List (List A)) → sum_by f (flat_map (λ (xs : List A). xs) xss)
      ≡ sum_by (λ (xs : List A). sum_by f xs) xss
  sum_by-joined f [] = refl
  sum_by-joined f (xs ∷ xss) =
      sum_by-append f xs (flat_map (λ (ys : List A). ys) xss)
      ∙ (ap (λ (n : ℕ). sum_by f xs + n) (sum_by-joined f xss) ∙ sym (sum_by-cons (λ (ys : List A). sum_by f ys) xs xss))

  -- a sum of values with the same added to each
  pub sum_by-plus : (c : ℕ) (f : A → ℕ) (xs : List A) → sum_by (λ (x : A). c + f x) xs ≡ c * length xs + sum_by f xs
  sum_by-plus c f [] = omega arith
  sum_by-plus c f (x ∷ xs) = omega (arith, sum_by-cons (λ (y : A). c + f y) x xs, sum_by-cons f x xs, sum_by-plus c f xs)

  -- a sum of one value
  pub sum_by-same : (c : ℕ) (xs : List A) → sum_by (λ (x : A). c) xs ≡ c * length xs
  sum_by-same c [] = omega arith
  sum_by-same c (x ∷ xs) = omega (arith, sum_by-cons (λ (y : A). c) x xs, sum_by-same c xs)

  -- a sum of values that are the same, one by one
  pub sum_by-each : (f g : A → ℕ) (xs : List A) → ((x : A) → f x ≡ g x) → sum_by f xs ≡ sum_by g xs
  sum_by-each f g [] same = refl
  sum_by-each f g (x ∷ xs) same = omega (arith, sum_by-cons f x xs, sum_by-cons g x xs, same x, sum_by-each f g xs same)

  -- a sum over what a list is made of
  pub sum_by-mapped : {B : Type 0} (f : B → ℕ) (g : A → B) (xs : List A) → sum_by f (map g xs) ≡ sum_by (λ (x : A). f (g x)) xs
  sum_by-mapped f g [] = refl
  sum_by-mapped f g (x ∷ xs) = omega (arith, sum_by-cons f (g x) (map g xs), sum_by-cons (λ (y : A). f (g y)) x xs, sum_by-mapped f g xs)

  -- a sum of sums
  pub sum_by-both : (f g : A → ℕ) (xs : List A) → sum_by (λ (x : A). f x + g x) xs ≡ sum_by f xs + sum_by g xs
  sum_by-both f g [] = omega arith
  sum_by-both f g (x ∷ xs) = omega (
    arith,
    sum_by-cons (λ (y : A). f y + g y) x xs,
    sum_by-cons f x xs,
    sum_by-cons g x xs,
    sum_by-both f g xs,
  )
