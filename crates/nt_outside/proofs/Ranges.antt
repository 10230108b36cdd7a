-- Ranges without the first that is a given one.
use Rattle.std.proofs.Common.{◌≡◌, ◌∙◌, ap, refl, ℕ, zero, suc, ◌==◌, ◌<◌, ◌&&◌, Bool, true, false, List, [], ◌∷◌, ◌++◌, length, take, drop}
use Rattle.std.proofs.Common.{arith, eq-eqb, eqb-true}
use Rattle.std.specs.Prelude.{slice_index_or, if◌then◌else◌}
use Rattle.std.specs.List.{remove}
use Rattle.nt_outside.specs.Range.{Range, is_same_range, without}

both_are : (a b : Bool) → (a && b) ≡ true → (a ≡ true) × (b ≡ true)
both_are true b h = (refl, h)
both_are false b h = cc

-- ranges that are the same
pub same_is : (x r : Range) → is_same_range x r ≡ true → x ≡ r
same_is x r h =
    let both = both_are (x.start == r.start) (x.len == r.len) h in
    let at : Range → ℕ → Range = λ y n. record { start = n; len = y.len } in
    let long : Range → ℕ → Range = λ y n. record { start = y.start; len = n } in
    ap (at x) (eqb-true x.start r.start both.0) ∙ ap (long r) (eqb-true x.len r.len both.1)

pub is_same : (r : Range) → is_same_range r r ≡ true
is_same r = ap (λ b. b && (r.len == r.len)) (eq-eqb r.start r.start refl) ∙ eq-eqb r.len r.len refl

-- a range that is the one, and one that isn't
pub without_here : (x r : Range) (xs : List Range) → is_same_range x r ≡ true → without r (x ∷ xs) ≡ xs
without_here x r xs h = ap (λ b. if b then xs else (x ∷ without r xs)) h

pub without_next : (x r : Range) (xs : List Range) → is_same_range x r ≡ false → without r (x ∷ xs) ≡ x ∷ without r xs
without_next x r xs h = ap (λ b. if b then xs else (x ∷ without r xs)) h

drop_at : (out : List Range) (i : ℕ) (d : Range) → i < length out → drop i out ≡ slice_index_or out i d ∷ drop (suc i) out
drop_at [] i d lt = absurd (omega arith)
drop_at (y ∷ ys) zero d lt = refl
drop_at (y ∷ ys) (suc i) d lt = drop_at ys i d (omega (arith, lt))

-- the search for a range found it
pub found_at : (out : List Range) (i : ℕ) (d r : Range) → i < length out → is_same_range (slice_index_or out i d) r ≡ true
    → without r out ≡ take i out ++ without r (drop i out) → without r out ≡ remove out i
found_at out i d r lt same so_far =
    so_far ∙ ap (λ (l : List Range). take i out ++ l) (ap (without r) (drop_at out i d lt) ∙ without_here (slice_index_or out i d) r
    (drop (suc i) out) same)
