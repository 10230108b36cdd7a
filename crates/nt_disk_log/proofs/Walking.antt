-- The steps of a log, one row after the other.
use Rattle.std.proofs.Common.{◌≡◌, ◌∙◌, ap, sym, subst, refl, ℕ, zero, suc, ◌+◌, ◌<◌, ◌≤◌, min, List, [], ◌∷◌, ◌++◌, length, take, drop}
use Rattle.std.proofs.Common.{map, replicate, arith, length-append, length-take, length-drop, Some, None, Option}
use Rattle.std.specs.Prelude.{slice_index_or, vec_len, Result, Ok, Err, IfOk}
use Rattle.nt_lists.specs.Places.{put_at}
use Rattle.nt_outside.specs.Log.{Step, Write, FailedWrite, Append, FailedAppend, Reserve, Settle, Sync}
use Rattle.nt_disk_log.specs.declared.log.Row.{Row}
use Rattle.nt_disk_log.specs.declared.left.Leaves.{Leaves}
use Rattle.nt_disk_log.specs.Rows.{steps, step, bytes_of, total_bytes}
use Rattle.nt_disk_log.specs.Left.{Left, zeros, failed_over, left_after, left_from, left_by, length_after, IsInside, AreInside}
use Rattle.nt_disk_log.specs.Leaves.{left_view}
use Rattle.nt_disk_log.proofs.Allowed.{put_at_same}
use Rattle.nt_disk_log.proofs.Following.{length-over, length-failed, length-zeros}

-- a failed write of a single byte leaves what was there
pub missed_one : (bytes whole : List ℕ) (at : ℕ) → length bytes ≡ 1 → at + 1 ≤ length whole
    → whole ≡ put_at whole at (failed_over bytes (drop at whole))
missed_one [] whole at one inside = absurd (omega (arith, one))
missed_one (b ∷ []) whole at one inside = sym (put_at_same whole at 1 inside)
missed_one (b ∷ n ∷ bytes) whole at one inside = absurd (omega (arith, one))

-- of others zeros
pub missed_others : (bytes old : List ℕ) → (length bytes ≡ 1 → ⊥) → replicate (length bytes) 0 ≡ failed_over bytes old
missed_others [] old others = refl
missed_others (b ∷ []) old others = absurd (others refl)
missed_others (b ∷ n ∷ bytes) old others = refl

-- the length after one more step
long-after : (l : Left) (s : Step) → IsInside (length l.whole) s → length (left_after l s).whole ≡ length_after (length l.whole) s
long-after l (Write at bytes) inside = length-over l.whole bytes at inside
long-after l (FailedWrite at bytes) inside =
    let same = length-failed bytes (drop at l.whole) (omega (arith, inside, length-drop at l.whole)) in
    length-over l.whole (failed_over bytes (drop at l.whole)) at (omega (arith, inside, same))
long-after l (Append bytes) inside = length-append l.whole bytes
long-after l (FailedAppend len) inside = omega (arith, length-append l.whole (zeros len), length-zeros len)
long-after l (Reserve start len) inside = omega (arith, length-append l.whole (zeros len), length-zeros len)
long-after l (Settle start len (Some bytes)) inside = length-over l.whole bytes start (omega (arith, inside.0, inside.1))
long-after l (Settle start len None) inside = length-over l.whole (zeros len) start (omega (arith, inside, length-zeros len))
long-after l Sync inside = refl

rows_at : (rows : List Row) (i : ℕ) (d : Row) → i < length rows → drop i rows ≡ slice_index_or rows i d ∷ drop (suc i) rows
rows_at [] i d lt = absurd (omega arith)
rows_at (r ∷ rows) zero d lt = refl
rows_at (r ∷ rows) (suc i) d lt = rows_at rows i d (omega (arith, lt))

-- the first rows have the first steps
pub steps-take : (n : ℕ) (rows : List Row) (bytes : List ℕ) → steps (take n rows) bytes ≡ take n (steps rows bytes)
steps-take zero rows bytes = refl
steps-take (suc n) [] bytes = refl
steps-take (suc n) (r ∷ rows) bytes =
    ap (λ (l : List Step). step r (take (bytes_of r) bytes) ∷ l) (steps-take n rows (drop (bytes_of r) bytes))

pub total_bytes-take : (n : ℕ) (rows : List Row) → total_bytes (take n rows) ≤ total_bytes rows
total_bytes-take zero rows = omega arith
total_bytes-take (suc n) [] = omega arith
total_bytes-take (suc n) (r ∷ rows) = omega (arith, total_bytes-take n rows)

-- more rows than there are
pub take_min : (n m : ℕ) (rows : List Row) → m ≡ min n (length rows) → take m rows ≡ take n rows
take_min zero zero rows is = refl
take_min zero (suc m) rows is = absurd (omega (arith, is))
take_min (suc n) zero [] is = refl
take_min (suc n) zero (r ∷ rows) is = absurd (omega (arith, is))
take_min (suc n) (suc m) [] is = absurd (omega (arith, is))
take_min (suc n) (suc m) (r ∷ rows) is = ap (λ (l : List Row). r ∷ l) (take_min n m rows (omega (arith, is)))

-- so many first rows of these, or all of them, have as many first steps
pub first_steps : (count m : ℕ) (rows rows' : List Row) (bytes bytes' : List ℕ) → m ≡ min count (length rows) → rows' ≡ rows
    → bytes' ≡ bytes → steps (take m rows') bytes' ≡ take count (steps rows bytes)
first_steps count m rows rows' bytes bytes' is rows-are bytes-are =
    ap (λ (r : List Row). steps (take m r) bytes') rows-are ∙ ap (λ (b : List ℕ). steps (take m rows) b) bytes-are
    ∙ ap (λ (r : List Row). steps r bytes) (take_min count m rows is) ∙ steps-take count rows bytes

-- a file that is this one, if there is one, is such
pub such_file : {E : Type 0} (found : Result (List ℕ) E) (file : List ℕ) (Such : List ℕ → Type 0) → IfOk found (λ b. b ≡ file)
    → Such file → IfOk found Such
such_file (Ok b) file Such is such = subst Such (sym is) such
such_file (Err e) file Such is such = tt

-- what is left so far and these rows more make what all rows do
abbrev Ahead : Leaves → List Row → List ℕ → List Step → Type 0
Ahead leaves rows rest all =
    (left_from (left_view leaves) (steps rows rest) ≡ left_by all) × AreInside (vec_len leaves.whole) (steps rows rest)
    × (total_bytes rows ≤ length rest)

-- the rows from a place on are still to come
pub record Walked (leaves : Leaves) (i : ℕ) (rows : List Row) (all rest : List ℕ) : Type 0 where
  pub left : left_from (left_view leaves) (steps (drop i rows) rest) ≡ left_by (steps rows all)
  pub inside : AreInside (vec_len leaves.whole) (steps (drop i rows) rest)
  pub few : total_bytes (drop i rows) ≤ length rest

-- the next row is this one
pub ahead : (leaves : Leaves) (i : ℕ) (d : Row) (rows : List Row) (all rest : List ℕ) → i < length rows → Walked leaves i rows all rest
    → Ahead leaves (slice_index_or rows i d ∷ drop (suc i) rows) rest (steps rows all)
ahead leaves i d rows all rest lt w =
    subst (λ (xs : List Row). Ahead leaves xs rest (steps rows all)) (rows_at rows i d lt) (w.left, w.inside, w.few)

-- its bytes are there
pub own_length : (leaves : Leaves) (row : Row) (rows : List Row) (rest : List ℕ) (all : List Step) → Ahead leaves (row ∷ rows) rest all
    → bytes_of row ≤ length rest
own_length leaves row rows rest all h = omega (arith, h.2)

-- once it is taken, the rows behind it are still to come
pub walk : (leaves after : Leaves) (i j : ℕ) (d : Row) (rows : List Row) (all rest own next : List ℕ) → i < length rows → j ≡ suc i
    → own ≡ take (bytes_of (slice_index_or rows i d)) rest → next ≡ drop (bytes_of (slice_index_or rows i d)) rest
    → left_view after ≡ left_after (left_view leaves) (step (slice_index_or rows i d) own) → Walked leaves i rows all rest
    → Walked after j rows all next
walk leaves after i j d rows all rest own next lt j-is own-is next-is after-is w =
    let row = slice_index_or rows i d in
    let h = ahead leaves i d rows all rest lt w in
    let now : left_view after ≡ left_after (left_view leaves) (step row (take (bytes_of row) rest)) =
    after-is ∙ ap (λ (b : List ℕ). left_after (left_view leaves) (step row b)) own-is in
    let big : vec_len leaves.whole ≡ length leaves.whole.items = leaves.whole.ok.0 in
    let one : IsInside (length leaves.whole.items) (step row (take (bytes_of row) rest)) =
    subst (λ (n : ℕ). IsInside n (step row (take (bytes_of row) rest))) big h.1.0 in
    let long : vec_len after.whole ≡ length_after (vec_len leaves.whole) (step row (take (bytes_of row) rest)) =
    after.whole.ok.0 ∙ ap (λ (l : Left). length l.whole) now ∙ long-after (left_view leaves) (step row (take (bytes_of row) rest)) one
    ∙ ap (λ (n : ℕ). length_after n (step row (take (bytes_of row) rest))) (sym big) in
    let moved : Walked after (suc i) rows all (drop (bytes_of row) rest) = record {
      left = ap (λ (l : Left). left_from l (steps (drop (suc i) rows) (drop (bytes_of row) rest))) now ∙ h.0;
      inside = subst (λ (n : ℕ). AreInside n (steps (drop (suc i) rows) (drop (bytes_of row) rest))) (sym long) h.1.1;
      few = omega (arith, h.2, length-drop (bytes_of row) rest);
    } in
    subst (λ (n : ℕ). Walked after n rows all next) (sym j-is)
    (subst (λ (b : List ℕ). Walked after (suc i) rows all b) (sym next-is) moved)
