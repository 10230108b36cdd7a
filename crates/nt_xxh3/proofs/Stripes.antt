-- The accumulators of an input that grows.
use Rattle.std.proofs.Common.{◌≡◌, ℕ, zero, suc, ◌+◌, ◌-◌, ◌*◌, ◌/◌, ◌<◌, ◌≤◌, List, ◌++◌, length, take, drop, refl, sym, ◌∙◌, arith}
use Rattle.std.proofs.Common.{length-drop, add-zero}
use Rattle.std.proofs.lemmas.List.{take-append-le, drop-append-le, take-append-drop, length-take-le}
use Rattle.std.proofs.Math.Seq.{drop-append-add}
use Rattle.nt_xxh3.specs.Long.{initial_lanes, stripes, stripe_at, after, after_stripe, merged, above_240}

-- a stripe that the front has
stripe_at-append : (m x : List ℕ) (k : ℕ) → 64 * k + 64 ≤ length m → stripe_at (m ++ x) k ≡ stripe_at m k
stripe_at-append m x k h =
    let fits : 64 ≤ length (drop (64 * k) m) = omega (arith, length-drop (64 * k) m) in
    rw (drop-append-le (64 * k) m x (omega arith)) (take-append-le 64 (drop (64 * k) m) x fits)

-- stripes depend on their own bytes alone
pub stripes-append : (m x : List ℕ) (k : ℕ) → 64 * k ≤ length m → stripes (m ++ x) k ≡ stripes m k
unfolding stripes
stripes-append m x zero h = refl
stripes-append m x (suc k) h =
    let front : stripe_at (m ++ x) k ≡ stripe_at m k = stripe_at-append m x k (omega arith) in
    rw (front, stripes-append m x k (omega arith)) refl

-- no stripe of what follows
pub stripes_none : (m x old : List ℕ) (before : ℕ) → length m ≡ 64 * before → old ≡ stripes m before → old ≡ stripes (m ++ x) (before + 0)
stripes_none m x old before len is = rw (add-zero, stripes-append m x before (omega arith)) is

-- one more stripe of what follows
pub stripes_next : (m x old new stripe : List ℕ) (before k : ℕ) → length m ≡ 64 * before → old ≡ stripes (m ++ x) (before + k)
    → stripe ≡ take 64 (drop (64 * k) x) → new ≡ after old (before + k) stripe → new ≡ stripes (m ++ x) (before + (k + 1))
unfolding stripes
stripes_next m x old new stripe before k len is bytes next =
    let place : 64 * (before + k) ≡ length m + 64 * k = omega arith in
    let same : stripe_at (m ++ x) (before + k) ≡ stripe = rw (place, drop-append-add m x (64 * k)) (sym bytes) in
    let more : before + (k + 1) ≡ suc (before + k) = omega arith in
    rw (more, same, ← is) next

-- stripes of the front are those of the whole
pub stripes-take : (x : List ℕ) (n k : ℕ) → 64 * k ≤ n → n ≤ length x → stripes (take n x) k ≡ stripes x k
stripes-take x n k fits within =
    let len : length (take n x) ≡ n = length-take-le n x within in
    let front : stripes (take n x ++ drop n x) k ≡ stripes (take n x) k = stripes-append (take n x) (drop n x) k (omega arith) in
    sym (rw take-append-drop at front)

pub stripes_start : (m : List ℕ) → stripes m 0 ≡ initial_lanes
unfolding stripes
stripes_start m = refl

-- a whole input: the stripes that end before its last byte, and its last 64 bytes
pub above_240_of : (x front taken last : List ℕ) (result k : ℕ) → 0 < length x
    → front ≡ take (length x - 1) x → k ≡ (length x - 1) / 64 → taken ≡ stripes front k
    → last ≡ drop (length x - 64) x → result ≡ merged (length x) (after_stripe taken last 121) → result ≡ above_240 x
unfolding above_240
above_240_of x front taken last result k some front_is count taken_is last_is result_is =
    let all : taken ≡ stripes x ((length x - 1) / 64) =
    taken_is ∙ rw (count, front_is) (stripes-take x (length x - 1) ((length x - 1) / 64) (omega arith) (omega arith)) in
    rw (result_is, last_is, all) refl
