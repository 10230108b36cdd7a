-- What a log tells of each byte, and the lists of bytes that read it.
use Rattle.std.proofs.Common.{◌≡◌, ℕ, ◌==◌, Bool, true, false, List, [], ◌∷◌, length, map, refl, eq-eqb, eqb-true, arith}
use Rattle.std.specs.Prelude.{◌&&◌, ◌||◌}
use Rattle.nt_outside.specs.Log.{Step}
use Rattle.nt_outside.specs.Reads.{Known, exactly, allows, all_allowed, Reads, IsKnown}

and_parts : (a b : Bool) → (a && b) ≡ true → (a ≡ true) × (b ≡ true)
and_parts true b h = (refl, h)
and_parts false b h = cc

or_none : (a : Bool) → (a || false) ≡ true → a ≡ true
or_none true h = refl
or_none false h = h

-- as many bytes as are told of
pub allowed-length : (known : List Known) (bytes : List ℕ) → all_allowed known bytes ≡ true → length known ≡ length bytes
allowed-length [] [] h = refl
allowed-length [] (byte ∷ bytes) h = absurd (cc)
allowed-length (one ∷ known) [] h = absurd (cc)
allowed-length (one ∷ known) (byte ∷ bytes) h =
    omega (arith, allowed-length known bytes (and_parts (allows one byte) (all_allowed known bytes) h).1)

allowed_exactly : (bytes : List ℕ) → all_allowed (map exactly bytes) bytes ≡ true
allowed_exactly [] = refl
allowed_exactly (byte ∷ bytes) = rw (eq-eqb byte byte refl) (allowed_exactly bytes)

allowed_once : (bytes other : List ℕ) → all_allowed (map exactly bytes) other ≡ true → other ≡ bytes
allowed_once [] [] h = refl
allowed_once [] (y ∷ ys) h = cc
allowed_once (x ∷ xs) [] h = cc
allowed_once (x ∷ xs) (y ∷ ys) h =
    let parts = and_parts ((x == y) || false) (all_allowed (map exactly xs) ys) h in
    let heads : x ≡ y = eqb-true x y (or_none (x == y) parts.0) in
    let tails : ys ≡ xs = allowed_once xs ys parts.1 in
    cc

pub known_reads : (log : List Step) (bytes : List ℕ) → IsKnown log bytes → Reads log bytes
known_reads log bytes is = rw is (allowed_exactly bytes)

pub known_once : (log : List Step) (bytes other : List ℕ) → IsKnown log bytes → Reads log other → other ≡ bytes
known_once log bytes other is reads = allowed_once bytes other (rw is at reads)
