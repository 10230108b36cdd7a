-- The ranges that are out of a disk in memory.
use Rattle.std.proofs.Common.{◌≡◌, ◌∙◌, ap, sym, refl, ℕ, zero, suc, ◌+◌, ◌==◌, ◌<◌, ◌≤◌, ◌&&◌, Bool, true, false, List, [], ◌∷◌, ◌++◌}
use Rattle.std.proofs.Common.{length, take, drop, arith, eq-eqb, eqb-true, subst, Some, Option, length-take, length-drop}
use Rattle.std.specs.Prelude.{All, Contains, sum_by, slice_index_or, if◌then◌else◌}
use Rattle.std.specs.List.{AllByRecursion, remove}
use Rattle.std.proofs.lemmas.List.Sums.{sum_by-cons}
use Rattle.std.proofs.lemmas.List.{take-append-drop, append-nil}
use Rattle.std.proofs.lemmas.List.Elements.{All-append, All-from_recursion}
use Rattle.nt_lists.specs.Places.{put_at}
use Rattle.nt_outside.specs.Log.{Step, Reserve, Settle}
use Rattle.nt_outside.specs.Reads.{Reads}
use Rattle.nt_outside.specs.declared.range.Range.{Range}
use Rattle.nt_outside.specs.Range.{is_same_range, without}
use Rattle.nt_outside.proofs.Ranges.{same_is, is_same, without_here, without_next}
use Rattle.nt_outside.specs.Held.{Held, BecomesSome, IsRangeSettled, IsReserved}
use Rattle.nt_memory.specs.Grown.{IsGrown}
use Rattle.nt_disk_log.specs.Left.{IsInside}
use Rattle.nt_memory.specs.Ext.{content_of, extent}
use Rattle.nt_disk_log.proofs.Allowed.{reads-settle, reads-unfilled, put_at_same}

-- the ranges lie inside a longer file too
pub within_more : (out : List Range) (n m : ℕ) → All (λ (r : Range). r.start + r.len ≤ n) out → n ≤ m
    → All (λ (r : Range). r.start + r.len ≤ m) out
within_more out n m all le = λ k d lt. omega (arith, all k d lt, le)

pub within_push : (out out' : List Range) (n m : ℕ) (r : Range) → All (λ (r : Range). r.start + r.len ≤ n) out → n ≤ m
    → r.start + r.len ≤ m → out' ≡ out ++ r ∷ [] → All (λ (r : Range). r.start + r.len ≤ m) out'
within_push out out' n m r all le last is =
    subst (All (λ (r : Range). r.start + r.len ≤ m)) (sym is)
    (All-append (λ (r : Range). r.start + r.len ≤ m) out (r ∷ []) (within_more out n m all le)
    (All-from_recursion (λ (r : Range). r.start + r.len ≤ m) (r ∷ []) (last, tt)))

pub within_one : (out : List Range) (n : ℕ) (r : Range) → All (λ (r : Range). r.start + r.len ≤ n) out → Contains out r
    → r.start + r.len ≤ n
within_one out n r all h = subst (λ (x : Range). x.start + x.len ≤ n) h.2 (all h.0 r h.1)

weight_cons : (b : Bool) (f : Range → ℕ) (x r : Range) (xs : List Range) → is_same_range x r ≡ b → sum_by f (without r xs)
    + f r ≤ sum_by f xs → sum_by f (without r (x ∷ xs)) + f r ≤ sum_by f (x ∷ xs)
weight_cons true f x r xs is le =
    omega (arith, ap (sum_by f) (without_here x r xs is), sum_by-cons f x xs, ap f (same_is x r is))
weight_cons false f x r xs is le =
    omega (arith, ap (sum_by f) (without_next x r xs is), sum_by-cons f x xs, sum_by-cons f x (without r xs), le)

weight_at : (f : Range → ℕ) (out : List Range) (k : ℕ) (r : Range) → k < length out → slice_index_or out k r ≡ r
    → sum_by f (without r out) + f r ≤ sum_by f out
weight_at f [] k r lt e = absurd (omega arith)
weight_at f (x ∷ xs) zero r lt e =
    let same : is_same_range x r ≡ true = ap (λ y. is_same_range y r) e ∙ is_same r in
    omega (arith, ap (sum_by f) (without_here x r xs same), sum_by-cons f x xs, ap f e)
weight_at f (x ∷ xs) (suc k) r lt e =
    weight_cons (is_same_range x r) f x r xs refl (weight_at f xs k r (omega (arith, lt)) e)

-- what is taken off weighs as much as the range
pub weight_less : (f : Range → ℕ) (out : List Range) (r : Range) → Contains out r → sum_by f (without r out) + f r ≤ sum_by f out
weight_less f out r h = weight_at f out h.0 r h.1 h.2

pub few_bytes : (filled : Bool) (len : ℕ) (items : List ℕ) → (filled ≡ true → length items ≡ len) → (filled ≡ false → items ≡ [])
    → length items ≤ len
few_bytes true len items whole empty = omega (arith, whole refl)
few_bytes false len items whole empty = omega (arith, ap length (empty refl))

-- a range is settled inside the file, with as many bytes as it is long
pub settle_inside : (filled : Bool) (items : List ℕ) (end start len : ℕ) → (filled ≡ true → length items ≡ len) → start + len ≤ end
    → IsInside end (Settle start len (content_of filled items))
settle_inside true items end start len whole inside = (whole refl, inside)
settle_inside false items end start len whole inside = inside

-- no bytes over those at a place
put_at_none : (image : List ℕ) (at : ℕ) → put_at image at [] ≡ image
put_at_none image at =
    let end : at + 0 ≡ at = omega arith in
    ap (λ (n : ℕ). take at image ++ [] ++ drop n image) end ∙ (ap (λ (l : List ℕ). l ++ drop at image) (append-nil (take at image))
    ∙ take-append-drop at image)

pub settle_reads : (filled : Bool) (log log' : List Step) (image image' bytes : List ℕ) (start len : ℕ) → Reads log image
    → (filled ≡ false → bytes ≡ []) → start + len ≤ length image
    → log' ≡ log ++ Settle start len (content_of filled bytes) ∷ [] → image' ≡ put_at image start bytes → Reads log' image'
settle_reads true log log' image image' bytes start len reads empty inside log-is image-is =
    reads-settle log log' image image' bytes start len reads log-is image-is
settle_reads false log log' image image' bytes start len reads empty inside log-is image-is =
    let same : image ≡ image' = sym (image-is ∙ (ap (put_at image start) (empty refl) ∙ put_at_none image start)) in
    subst (λ (l : List ℕ). Reads log' l) same (reads-unfilled log log' image start len reads inside log-is)

some_is : (x y : Held) → Some x ≡ Some y → x ≡ y
some_is x y e = cc

settled_by : (filled : Bool) (log log' : List Step) (image image' bytes : List ℕ) (start len : ℕ)
    → (filled ≡ true → length bytes ≡ len) → (filled ≡ false → bytes ≡ []) → start + len ≤ length image
    → log' ≡ log ++ Settle start len (content_of filled bytes) ∷ [] → image' ≡ put_at image start bytes
    → IsRangeSettled (extent (record { start = start; len = len }) filled bytes) (record { log = log; image = image })
    (record { log = log'; image = image' })
settled_by true log log' image image' bytes start len whole empty inside log-is image-is = record {
  bytes = bytes;
  whole = whole refl;
  given = λ content is. cc;
  log = log-is;
  image = image-is;
}
settled_by false log log' image image' bytes start len whole empty inside log-is image-is = record {
  bytes = take len (drop start image);
  whole = omega (arith, length-take len (drop start image), length-drop start image);
  given = λ content is. absurd (cc);
  log = log-is;
  image = image-is ∙ (ap (put_at image start) (empty refl) ∙ (put_at_none image start ∙ sym (put_at_same image start len inside)));
}

pub settle_holds : (filled : Bool) (log log' : List Step) (image image' bytes : List ℕ) (start len : ℕ)
    → (filled ≡ true → length bytes ≡ len) → (filled ≡ false → bytes ≡ []) → start + len ≤ length image
    → log' ≡ log ++ Settle start len (content_of filled bytes) ∷ [] → image' ≡ put_at image start bytes
    → BecomesSome (Some (record { log = log; image = image })) (Some (record { log = log'; image = image' }))
    (IsRangeSettled (extent (record { start = start; len = len }) filled bytes))
settle_holds filled log log' image image' bytes start len whole empty inside log-is image-is = λ h is. (
  record { log = log'; image = image' },
  refl,
  subst (λ (k : Held). IsRangeSettled (extent (record { start = start; len = len }) filled bytes) k (record {
    log = log';
    image = image';
  })) (some_is (record { log = log; image = image }) h is)
      (settled_by filled log log' image image' bytes start len whole empty inside log-is image-is),
)

pub reserve_holds : (log log' : List Step) (image image' : List ℕ) (start len : ℕ) → start ≡ length image
    → log' ≡ log ++ Reserve start len ∷ [] → IsGrown len image image'
    → BecomesSome (Some (record { log = log; image = image })) (Some (record { log = log'; image = image' })) (IsReserved start len)
reserve_holds log log' image image' start len place log-is grown = λ h is. (
  record { log = log'; image = image' },
  refl,
  subst (λ (k : Held). IsReserved start len k (record { log = log'; image = image' })) (some_is (record { log = log; image = image }) h is)
      (record { junk = grown.more; whole = grown.whole; log = log-is; image = grown.is }),
)

all_without : (b : Bool) (P : Range → Type 0) (x r : Range) (xs : List Range) → is_same_range x r ≡ b → P x → AllByRecursion P xs
    → AllByRecursion P (without r xs) → AllByRecursion P (without r (x ∷ xs))
all_without true P x r xs is here all rest = subst (AllByRecursion P) (sym (without_here x r xs is)) all
all_without false P x r xs is here all rest = subst (AllByRecursion P) (sym (without_next x r xs is)) (here, rest)

all_off : (P : Range → Type 0) (r : Range) (xs : List Range) → AllByRecursion P xs → AllByRecursion P (without r xs)
all_off P r [] a = tt
all_off P r (x ∷ xs) a = all_without (is_same_range x r) P x r xs refl a.0 a.1 (all_off P r xs a.1)

all_each : (P : Range → Type 0) (xs : List Range) → All P xs → AllByRecursion P xs
all_each P [] a = tt
all_each P (x ∷ xs) a = (a 0 x (omega arith), all_each P xs (λ k d lt. a (suc k) d (omega (arith, lt))))

-- the ranges that are left lie inside the file
pub within_off : (out out' : List Range) (n m : ℕ) (r : Range) → All (λ (r : Range). r.start + r.len ≤ n) out → n ≤ m
    → out' ≡ without r out → All (λ (r : Range). r.start + r.len ≤ m) out'
within_off out out' n m r all le is =
    let P : Range → Type 0 = λ r. r.start + r.len ≤ n in
    within_more out' n m (subst (All P) (sym is) (All-from_recursion P (without r out) (all_off P r out (all_each P out all)))) le
