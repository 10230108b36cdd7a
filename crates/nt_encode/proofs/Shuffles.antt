-- Words that vectors put together of the planes of their bytes.
use Rattle.std.proofs.Common.{◌≡◌, ℕ, zero, suc, ◌+◌, ◌*◌, ◌<◌, ◌≤◌, ◌^◌, List, [], ◌∷◌, ◌++◌, length, get_or, map}
use Rattle.std.proofs.Common.{refl, ◌∙◌, ap, arith}
use Rattle.std.proofs.lemmas.Simd.{get_or_wider, length-chunk, get_or-chunk}
use lib.Lanes.{Each1, pick_l, chunk, number_l, digits_l}
use Rattle.std.specs.List.{range_with_len}
use Rattle.nt_encode.specs.Digits.{list_of, number_of}
use Rattle.nt_encode.proofs.Lists.{Filled, list_of_filled}

-- sixteen bytes from a place, where a plane begins at another
pub sixteen_at : (bytes : List ℕ) (start i : ℕ) → start + i + 16 ≤ length bytes
    → chunk (start + i) 16 bytes ≡ list_of 16 (λ k. get_or bytes (start + (i + k)) 0)
sixteen_at bytes start i within =
    list_of_filled (chunk (start + i) 16 bytes) 16 (λ k. get_or bytes (start + (i + k)) 0) (length-chunk (start + i) 16 bytes within) at
  where
    at : Filled (chunk (start + i) 16 bytes) 16 (λ k. get_or bytes (start + (i + k)) 0)
    at k h =
        let place : start + i + k ≡ start + (i + k) = omega arith in
        get_or-chunk (start + i) 16 bytes k 0 h ∙ ap (λ (p : ℕ). get_or bytes p 0) place

-- bytes
abbrev AreBytes : List ℕ → Type 0
AreBytes xs = Each1 (λ x. x < 256) xs

bytes_joined : (xs ys : List ℕ) → AreBytes xs → AreBytes ys → AreBytes (xs ++ ys)
bytes_joined [] ys h g = g
bytes_joined (x ∷ xs) ys h g = (h.0, bytes_joined xs ys h.1 g)

byte_at : (xs : List ℕ) (i : ℕ) → AreBytes xs → get_or xs i 0 < 256
byte_at [] i h = omega arith
byte_at (x ∷ xs) zero h = h.0
byte_at (x ∷ xs) (suc i) h = byte_at xs i h.1

bytes_picked : (xs ks : List ℕ) → AreBytes xs → AreBytes (pick_l 0 xs ks)
bytes_picked xs [] h = cc
bytes_picked xs (k ∷ ks) h = (byte_at xs k h, bytes_picked xs ks h)

bytes_mapped : (f : ℕ → ℕ) (ks : List ℕ) → ((k : ℕ) → f k < 256) → AreBytes (map f ks)
bytes_mapped f [] h = cc
bytes_mapped f (k ∷ ks) h = (h k, bytes_mapped f ks h)

-- lanes of two vectors
abbrev pub lanes : List ℕ → List ℕ → List ℕ → List ℕ
lanes ks xs ys = pick_l 0 (xs ++ ys) ks

bytes_lanes : (ks xs ys : List ℕ) → AreBytes xs → AreBytes ys → AreBytes (lanes ks xs ys)
bytes_lanes ks xs ys h g = bytes_picked (xs ++ ys) ks (bytes_joined xs ys h g)

abbrev pub low_1 : List ℕ
low_1 = 0 ∷ 16 ∷ 1 ∷ 17 ∷ 2 ∷ 18 ∷ 3 ∷ 19 ∷ 4 ∷ 20 ∷ 5 ∷ 21 ∷ 6 ∷ 22 ∷ 7 ∷ 23 ∷ []

abbrev pub high_1 : List ℕ
high_1 = 8 ∷ 24 ∷ 9 ∷ 25 ∷ 10 ∷ 26 ∷ 11 ∷ 27 ∷ 12 ∷ 28 ∷ 13 ∷ 29 ∷ 14 ∷ 30 ∷ 15 ∷ 31 ∷ []

abbrev pub low_2 : List ℕ
low_2 = 0 ∷ 1 ∷ 16 ∷ 17 ∷ 2 ∷ 3 ∷ 18 ∷ 19 ∷ 4 ∷ 5 ∷ 20 ∷ 21 ∷ 6 ∷ 7 ∷ 22 ∷ 23 ∷ []

abbrev pub high_2 : List ℕ
high_2 = 8 ∷ 9 ∷ 24 ∷ 25 ∷ 10 ∷ 11 ∷ 26 ∷ 27 ∷ 12 ∷ 13 ∷ 28 ∷ 29 ∷ 14 ∷ 15 ∷ 30 ∷ 31 ∷ []

abbrev pub low_4 : List ℕ
low_4 = 0 ∷ 1 ∷ 2 ∷ 3 ∷ 16 ∷ 17 ∷ 18 ∷ 19 ∷ 4 ∷ 5 ∷ 6 ∷ 7 ∷ 20 ∷ 21 ∷ 22 ∷ 23 ∷ []

abbrev pub high_4 : List ℕ
high_4 = 8 ∷ 9 ∷ 10 ∷ 11 ∷ 24 ∷ 25 ∷ 26 ∷ 27 ∷ 12 ∷ 13 ∷ 14 ∷ 15 ∷ 28 ∷ 29 ∷ 30 ∷ 31 ∷ []

-- a plane from an element on
abbrev pub plane : (ℕ → ℕ → ℕ) → ℕ → List ℕ
plane f j = list_of 16 (f j)

bytes_plane : (f : ℕ → ℕ → ℕ) (j : ℕ) → ((j k : ℕ) → f j k < 256) → AreBytes (plane f j)
bytes_plane f j fits = bytes_mapped (f j) (range_with_len 0 16) (fits j)

-- the number of four bytes
number_of_four : (f : ℕ → ℕ) → number_l 256 (f 0 ∷ f 1 ∷ f 2 ∷ f 3 ∷ []) ≡ number_of 8 4 f
unfolding number_of
number_of_four f = omega arith

-- four words of four bytes each
abbrev pub fours : List ℕ → List ℕ
fours xs = digits_l (2 ^ 32) 4 (number_l 256 xs)

-- sixteen bytes as the words from word m on, whose bytes j are f j
abbrev AreFours : List ℕ → (ℕ → ℕ → ℕ) → ℕ → Type 0
AreFours xs f m = (r : ℕ) → r < 4 → chunk (4 * r) 4 xs ≡ f 0 (m + r) ∷ f 1 (m + r) ∷ f 2 (m + r) ∷ f 3 (m + r) ∷ []

pub fours_at : (xs : List ℕ) (f : ℕ → ℕ → ℕ) (m : ℕ) → AreBytes xs → AreFours xs f m
    → (r : ℕ) → r < 4 → get_or (fours xs) r 0 ≡ number_of 8 4 (λ j. f j (m + r))
fours_at xs f m fits are r h =
    get_or_wider 256 4 (2 ^ 32) 4 xs r refl fits h ∙ (ap (number_l 256) (are r h) ∙ number_of_four (λ j. f j (m + r)))

-- of four vectors the sixteen bytes at some positions
abbrev pub picked : List ℕ → List ℕ → List ℕ → List ℕ → List ℕ → List ℕ → List ℕ
picked ks ls a b c d = lanes ls (lanes ks a b) (lanes ks c d)

-- of four planes the sixteen bytes at some positions
abbrev pub four_planes : List ℕ → List ℕ → (ℕ → ℕ → ℕ) → List ℕ
four_planes ks ls f = picked ks ls (plane f 0) (plane f 1) (plane f 2) (plane f 3)

pub bytes_fours : (f : ℕ → ℕ → ℕ) (ks ls : List ℕ) → ((j k : ℕ) → f j k < 256) → AreBytes (four_planes ks ls f)
bytes_fours f ks ls fits =
    bytes_lanes ls (lanes ks (plane f 0) (plane f 1)) (lanes ks (plane f 2) (plane f 3))
    (bytes_lanes ks (plane f 0) (plane f 1) (bytes_plane f 0 fits) (bytes_plane f 1 fits))
    (bytes_lanes ks (plane f 2) (plane f 3) (bytes_plane f 2 fits) (bytes_plane f 3 fits))

-- each number below four
below_4 : (p : ℕ → Type 0) → p 0 → p 1 → p 2 → p 3 → (r : ℕ) → r < 4 → p r
below_4 p at_0 at_1 at_2 at_3 zero h = at_0
below_4 p at_0 at_1 at_2 at_3 (suc zero) h = at_1
below_4 p at_0 at_1 at_2 at_3 (suc (suc zero)) h = at_2
below_4 p at_0 at_1 at_2 at_3 (suc (suc (suc zero))) h = at_3
below_4 p at_0 at_1 at_2 at_3 (suc (suc (suc (suc r)))) h = absurd (omega (arith, h))

-- bytes picked of the planes are the words from word m on
abbrev pub PickFours : List ℕ → List ℕ → ℕ → Type 0
PickFours ks ls m = (f : ℕ → ℕ → ℕ) → AreFours (four_planes ks ls f) f m

pub fours_0 : PickFours low_1 low_2 0
fours_0 f = below_4 _ refl refl refl refl

pub fours_4 : PickFours low_1 high_2 4
fours_4 f = below_4 _ refl refl refl refl

pub fours_8 : PickFours high_1 low_2 8
fours_8 f = below_4 _ refl refl refl refl

pub fours_12 : PickFours high_1 high_2 12
fours_12 f = below_4 _ refl refl refl refl

-- bytes j of the words from word i on
abbrev pub bytes_from : ℕ → ℕ → List ℕ → ℕ → ℕ → ℕ
bytes_from n i bytes j k = get_or bytes (j * n + (i + k)) 0

-- the number of eight bytes
number_of_eight : (f : ℕ → ℕ) → number_l 256 (f 0 ∷ f 1 ∷ f 2 ∷ f 3 ∷ f 4 ∷ f 5 ∷ f 6 ∷ f 7 ∷ []) ≡ number_of 8 8 f
unfolding number_of
number_of_eight f = omega arith

-- two words of eight bytes each
abbrev pub eights : List ℕ → List ℕ
eights xs = digits_l (2 ^ 64) 2 (number_l 256 xs)

-- sixteen bytes as the words from word m on, whose bytes j are f j
abbrev AreEights : List ℕ → (ℕ → ℕ → ℕ) → ℕ → Type 0
AreEights xs f m =
    (r : ℕ) → r < 2
    → chunk (8 * r) 8 xs ≡ f 0 (m + r) ∷ f 1 (m + r) ∷ f 2 (m + r) ∷ f 3 (m + r)
    ∷ f 4 (m + r) ∷ f 5 (m + r) ∷ f 6 (m + r) ∷ f 7 (m + r) ∷ []

pub eights_at : (xs : List ℕ) (f : ℕ → ℕ → ℕ) (m : ℕ) → AreBytes xs → AreEights xs f m
    → (r : ℕ) → r < 2 → get_or (eights xs) r 0 ≡ number_of 8 8 (λ j. f j (m + r))
eights_at xs f m fits are r h =
    get_or_wider 256 8 (2 ^ 64) 2 xs r refl fits h ∙ (ap (number_l 256) (are r h) ∙ number_of_eight (λ j. f j (m + r)))

-- of eight planes the sixteen bytes at some positions
abbrev pub planes : List ℕ → List ℕ → List ℕ → (ℕ → ℕ → ℕ) → List ℕ
planes ks ls ms f = lanes ms (four_planes ks ls f) (picked ks ls (plane f 4) (plane f 5) (plane f 6) (plane f 7))

pub bytes_eights : (f : ℕ → ℕ → ℕ) (ks ls ms : List ℕ) → ((j k : ℕ) → f j k < 256) → AreBytes (planes ks ls ms f)
bytes_eights f ks ls ms fits =
    bytes_lanes ms (four_planes ks ls f) (four_planes ks ls (λ j. f (4 + j)))
    (bytes_fours f ks ls fits) (bytes_fours (λ j. f (4 + j)) ks ls (λ j k. fits (4 + j) k))

-- each number below two
below_2 : (p : ℕ → Type 0) → p 0 → p 1 → (r : ℕ) → r < 2 → p r
below_2 p at_0 at_1 zero h = at_0
below_2 p at_0 at_1 (suc zero) h = at_1
below_2 p at_0 at_1 (suc (suc r)) h = absurd (omega (arith, h))

-- bytes picked of the planes are the words from word m on
abbrev pub PickEights : List ℕ → List ℕ → List ℕ → ℕ → Type 0
PickEights ks ls ms m = (f : ℕ → ℕ → ℕ) → AreEights (planes ks ls ms f) f m

pub eights_0 : PickEights low_1 low_2 low_4 0
eights_0 f = below_2 _ refl refl

pub eights_2 : PickEights low_1 low_2 high_4 2
eights_2 f = below_2 _ refl refl

pub eights_4 : PickEights low_1 high_2 low_4 4
eights_4 f = below_2 _ refl refl

pub eights_6 : PickEights low_1 high_2 high_4 6
eights_6 f = below_2 _ refl refl

pub eights_8 : PickEights high_1 low_2 low_4 8
eights_8 f = below_2 _ refl refl

pub eights_10 : PickEights high_1 low_2 high_4 10
eights_10 f = below_2 _ refl refl

pub eights_12 : PickEights high_1 high_2 low_4 12
eights_12 f = below_2 _ refl refl

pub eights_14 : PickEights high_1 high_2 high_4 14
eights_14 f = below_2 _ refl refl
