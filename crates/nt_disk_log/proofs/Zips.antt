-- Lists that go side by side.
use Rattle.std.proofs.Common.{◌≡◌, ℕ, zero, suc, ◌+◌, ◌<◌, ◌≤◌, List, [], ◌∷◌, ◌++◌, length, take, drop, map, replicate, sym, refl, ap}
use Rattle.std.proofs.Common.{◌∙◌, subst, arith}
use Rattle.std.specs.List.{AllZip}
use Rattle.nt_lists.specs.Places.{put_at}

module _ {A B : Type 0} (R : A → B → Type 0) where
  pub zip-length : (xs : List A) (ys : List B) → AllZip R xs ys → length ys ≡ length xs
  zip-length [] [] z = refl
  zip-length [] (y ∷ ys) z = absurd z
  zip-length (x ∷ xs) [] z = absurd z
  zip-length (x ∷ xs) (y ∷ ys) z = let e = zip-length xs ys z.1 in omega (arith, e)

  pub zip-append : (xs us : List A) (ys vs : List B) → AllZip R xs ys → AllZip R us vs → AllZip R (xs ++ us) (ys ++ vs)
  zip-append [] us [] vs z w = w
  zip-append [] us (y ∷ ys) vs z w = absurd z
  zip-append (x ∷ xs) us [] vs z w = absurd z
  zip-append (x ∷ xs) us (y ∷ ys) vs z w = (z.0, zip-append xs us ys vs z.1 w)

  pub zip-take : (n : ℕ) (xs : List A) (ys : List B) → AllZip R xs ys → AllZip R (take n xs) (take n ys)
  zip-take zero xs ys z = tt
  zip-take (suc n) [] [] z = tt
  zip-take (suc n) [] (y ∷ ys) z = absurd z
  zip-take (suc n) (x ∷ xs) [] z = absurd z
  zip-take (suc n) (x ∷ xs) (y ∷ ys) z = (z.0, zip-take n xs ys z.1)

  pub zip-drop : (n : ℕ) (xs : List A) (ys : List B) → AllZip R xs ys → AllZip R (drop n xs) (drop n ys)
  zip-drop zero xs ys z = z
  zip-drop (suc n) [] [] z = tt
  zip-drop (suc n) [] (y ∷ ys) z = absurd z
  zip-drop (suc n) (x ∷ xs) [] z = absurd z
  zip-drop (suc n) (x ∷ xs) (y ∷ ys) z = zip-drop n xs ys z.1

  pub zip-put : (xs us : List A) (ys vs : List B) (at : ℕ) → AllZip R xs ys → AllZip R us vs → AllZip R (put_at xs at us) (put_at ys at vs)
  zip-put xs us ys vs at z w =
      let same = zip-length us vs w in
      let rest : AllZip R (drop (at + length us) xs) (drop (at + length vs) ys) =
      subst (λ n. AllZip R (drop (at + length us) xs) (drop (at + n) ys)) (sym same) (zip-drop (at + length us) xs ys z) in
      zip-append (take at xs ++ us) (drop (at + length us) xs) (take at ys ++ vs) (drop (at + length vs) ys)
      (zip-append (take at xs) us (take at ys) vs (zip-take at xs ys z) w) rest
