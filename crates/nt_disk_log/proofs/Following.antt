-- What is picked_file follows what a crash may leave, step by step.
use Rattle.std.proofs.Common.{◌≡◌, ℕ, zero, suc, ◌+◌, ◌<◌, ◌≤◌, true, List, [], ◌∷◌, ◌++◌, length, take, drop, map, replicate, sym, refl}
use Rattle.std.proofs.Common.{ap, ◌∙◌, subst, arith, append_assoc, length-append, length-take, length-drop}
use Rattle.std.specs.Prelude.{Option, Some, None, IsTrue}
use Rattle.std.specs.List.{AllZip}
use Rattle.nt_lists.specs.Places.{put_at}
use Rattle.nt_outside.specs.Log.{Step, Write, FailedWrite, Append, FailedAppend, Reserve, Settle, Sync}
use Rattle.nt_outside.specs.Reads.{Known, Anything, OneOf, exactly, or_also, unknown, torn, settled, allows, all_allowed}
use Rattle.nt_outside.specs.Crash.{Crash, crash_after, crash_from, crash_of, no_crash, MayLeave, LeavesBehind}
use Rattle.nt_disk_log.specs.Left.{Left, zeros, covered, renew, renewed, failed_over, settled_bytes, left_after, left_from, left_by, worst}
use Rattle.nt_disk_log.specs.Left.{picked_file, length_after, IsInside, AreInside}
use Rattle.nt_disk_log.proofs.Allowed.{and_both, and_first, and_second, or_first, eq_self, allowed-append, allowed-take, allowed-length}
use Rattle.nt_disk_log.proofs.Allowed.{allowed-exactly, allowed-anything, allowed-torn, allowed-put_at, put_at_same}
use Rattle.nt_disk_log.proofs.Zips.{zip-length, zip-append, zip-take, zip-drop, zip-put}

-- the bytes may stand there
abbrev pub A : List Known → List ℕ → Type 0
A known bytes = IsTrue (all_allowed known bytes)

-- a place may have the newest byte, or it was covered
abbrev N : Known → Option ℕ → Type 0
N Anything cell = Unit {0}
N (OneOf bytes) None = ⊥
N (OneOf bytes) (Some byte) = IsTrue (allows (OneOf bytes) byte)

pub length-zeros : (n : ℕ) → length (zeros n) ≡ n
length-zeros zero = refl
length-zeros (suc n) = ap suc (length-zeros n)

length-unknown : (n : ℕ) → length (unknown n) ≡ n
length-unknown zero = refl
length-unknown (suc n) = ap suc (length-unknown n)

-- of a place of which nothing is known anything may be
anything-of : (n : ℕ) (bytes : List ℕ) → length bytes ≡ n → A (unknown n) bytes
anything-of n bytes e = subst (λ m. A (unknown m) bytes) e (allowed-anything bytes)

none-of : (n : ℕ) → AllZip N (unknown n) (covered n)
none-of zero = tt
none-of (suc n) = (tt, none-of n)

some-of : (known : List Known) (bytes : List ℕ) → A known bytes → AllZip N known (map Some bytes)
some-of [] [] a = tt
some-of [] (b ∷ bytes) a = absurd (cc)
some-of (k ∷ known) [] a = absurd (cc)
some-of (Anything ∷ known) (b ∷ bytes) a = (tt, some-of known bytes a)
some-of (OneOf bs ∷ known) (b ∷ bytes) a = (and_first (allows (OneOf bs) b) _ a, some-of known bytes (and_second (allows (OneOf bs) b) _ a))

pub worst-of : (known : List Known) (cells : List (Option ℕ)) → AllZip N known cells → A known (map worst cells)
worst-of [] [] z = refl
worst-of [] (c ∷ cells) z = absurd z
worst-of (k ∷ known) [] z = absurd z
worst-of (Anything ∷ known) (c ∷ cells) z = worst-of known cells z.1
worst-of (OneOf bs ∷ known) (None ∷ cells) z = absurd z.0
worst-of (OneOf bs ∷ known) (Some b ∷ cells) z = and_both (allows (OneOf bs) b) _ z.0 (worst-of known cells z.1)

-- the newest byte of one that is written over
renew-of : (byte : ℕ) (k : Known) (c : Option ℕ) → N k c → N (or_also byte k) (renew byte c)
renew-of byte Anything c z = tt
renew-of byte (OneOf bs) None z = absurd z
renew-of byte (OneOf bs) (Some b) z = or_first _ _ (eq_self byte)

renewed-of : (bytes : List ℕ) (known : List Known) (cells : List (Option ℕ)) → AllZip N known cells
    → AllZip N (torn bytes known) (renewed bytes cells)
renewed-of [] known cells z = tt
renewed-of (b ∷ []) [] [] z = tt
renewed-of (b ∷ []) [] (c ∷ cells) z = absurd z
renewed-of (b ∷ []) (k ∷ known) [] z = absurd z
renewed-of (b ∷ []) (k ∷ known) (c ∷ cells) z = (renew-of b k c z.0, tt)
renewed-of (b ∷ n ∷ bytes) known cells z = none-of (length (b ∷ n ∷ bytes))

-- a failed write of one byte leaves the old one, and of more zeros
failed-of : (bytes : List ℕ) (known : List Known) (old : List ℕ) → A known old → length bytes ≤ length old
    → A (torn bytes known) (failed_over bytes old)
failed-of [] known old a h = refl
failed-of (b ∷ []) known old a h = allowed-torn (b ∷ []) known old a h
failed-of (b ∷ n ∷ bytes) known old a h = anything-of (length (b ∷ n ∷ bytes)) (zeros (length (b ∷ n ∷ bytes))) (length-zeros (length
    (b ∷ n ∷ bytes)))

-- the new byte of one that is written over, or anything
written-of : (bytes : List ℕ) (known : List Known) → length bytes ≤ length known → A (torn bytes known) bytes
written-of [] known h = refl
written-of (b ∷ []) [] h = absurd (omega (arith, h))
written-of (b ∷ []) (Anything ∷ known) h = refl
written-of (b ∷ []) (OneOf bs ∷ known) h = and_both (allows (OneOf (b ∷ bs)) b) _ (or_first _ _ (eq_self b)) refl
written-of (b ∷ n ∷ bytes) known h = anything-of (length (b ∷ n ∷ bytes)) (b ∷ n ∷ bytes) refl

-- what is left so far goes with what a crash may leave, in a file of this length
pub record Follows (c : Crash) (l : Left) (len : ℕ) : Type 0 where
  pub known : A c.known l.whole
  pub left : A c.left l.whole
  pub more : List ℕ
  pub kept : A c.left (l.kept ++ more)
  pub synced : length l.kept ≡ c.synced
  pub newest : AllZip N c.left l.newest
  pub long : length l.whole ≡ len

-- items put over so many at a place leave the length
pub length-over : (xs items : List ℕ) (at : ℕ) → at + length items ≤ length xs → length (put_at xs at items) ≡ length xs
length-over xs items at h = omega (
  arith,
  h,
  length-append (take at xs ++ items) (drop (at + length items) xs),
  length-append (take at xs) items,
  length-take at xs,
  length-drop (at + length items) xs,
)

-- of a step that puts over so many bytes inside the file
over : (c : Crash) (l : Left) (len at n : ℕ) (ks ls : List Known) (ws : List ℕ) (ns : List (Option ℕ)) → Follows c l len
    → at + n ≤ len → length ws ≡ n
    → A ks ws → A ls ws → ((old : List ℕ) → A c.left old → A ls (take n (drop at old))) → AllZip N ls ns
    → Follows (record { known = put_at c.known at ks; left = put_at c.left at ls; synced = c.synced }) (record {
      whole =
          put_at l.whole at ws;
      kept = l.kept;
      newest = put_at l.newest at ns;
    }) len
over c l len at n ks ls ws ns f inside same a b old z =
    let full = l.kept ++ f.more in
    let long : length c.left ≡ length full = allowed-length c.left full f.kept in
    let wide : length c.left ≡ length l.whole = allowed-length c.left l.whole f.left in
    let there : at + n ≤ length full = let e = f.long in omega (arith, inside, long, wide, e) in
    record {
      known = allowed-put_at c.known l.whole at ks ws f.known a;
      left = allowed-put_at c.left l.whole at ls ws f.left b;
      more = f.more;
      kept = subst (λ (x : List ℕ). A (put_at c.left at ls) x) (put_at_same full at n there) (allowed-put_at c.left full at ls (take n
          (drop at full)) f.kept (old full f.kept));
      synced = f.synced;
      newest = zip-put N c.left ls l.newest ns at f.newest z;
      long = let e = f.long in let o = length-over l.whole ws at (omega (arith, inside, same, e)) in omega (arith, o, e);
    }

-- of a step that adds bytes at the end
behind : (c : Crash) (l : Left) (len n : ℕ) (ks ls : List Known) (ws : List ℕ) (ns : List (Option ℕ)) → Follows c l len
    → length ws ≡ n → A ks ws → A ls ws → AllZip N ls ns
    → Follows (record { known = c.known ++ ks; left = c.left ++ ls; synced = c.synced }) (record {
      whole = l.whole ++ ws;
      kept =
          l.kept;
      newest = l.newest ++ ns;
    }) (len + n)
behind c l len n ks ls ws ns f same a b z = record {
  known = allowed-append c.known l.whole ks ws f.known a;
  left = allowed-append c.left l.whole ls ws f.left b;
  more = f.more ++ ws;
  kept = subst (λ (x : List ℕ). A (c.left ++ ls) x) (append_assoc l.kept f.more ws) (allowed-append c.left
      (l.kept ++ f.more) ls ws f.kept b);
  synced = f.synced;
  newest = zip-append N c.left ls l.newest ns f.newest z;
  long = let e = f.long in let o = length-append l.whole ws in omega (arith, o, e, same);
}

room-at : (known : List Known) (old : List ℕ) (at n : ℕ) → A known old → at + n ≤ length old → n ≤ length (drop at known)
room-at known old at n a h = let e = allowed-length known old a in let d = length-drop at known in omega (arith, e, d, h)

torn-old : (c : Crash) (bytes : List ℕ) (at len : ℕ) (whole : List ℕ) → A c.left whole → length whole ≡ len → at + length bytes ≤ len
    → (old : List ℕ) → A c.left old
    → A (torn bytes (drop at c.left)) (take (length bytes) (drop at old))
torn-old c bytes at len whole w is inside old a =
    let e = allowed-length c.left old a in
    let e' = allowed-length c.left whole w in
    let d = length-drop at old in
    allowed-torn bytes (drop at c.left) (drop at old) (allowed-drop' at c.left old a) (omega (arith, e, e', d, is, inside))
  where
    allowed-drop' : (n : ℕ) (k : List Known) (b : List ℕ) → A k b → A (drop n k) (drop n b)
    allowed-drop' zero k b h = h
    allowed-drop' (suc n) [] [] h = refl
    allowed-drop' (suc n) [] (y ∷ b) h = absurd (cc)
    allowed-drop' (suc n) (x ∷ k) [] h = absurd (cc)
    allowed-drop' (suc n) (x ∷ k) (y ∷ b) h = allowed-drop' n k b (and_second (allows x y) _ h)

allowed-drop-same : (n : ℕ) (k : List Known) (b : List ℕ) → A k b → A (drop n k) (drop n b)
allowed-drop-same zero k b h = h
allowed-drop-same (suc n) [] [] h = refl
allowed-drop-same (suc n) [] (y ∷ b) h = absurd (cc)
allowed-drop-same (suc n) (x ∷ k) [] h = absurd (cc)
allowed-drop-same (suc n) (x ∷ k) (y ∷ b) h = allowed-drop-same n k b (and_second (allows x y) _ h)

pub length-failed : (bytes old : List ℕ) → length bytes ≤ length old → length (failed_over bytes old) ≡ length bytes
length-failed [] old h = refl
length-failed (b ∷ []) [] h = absurd (omega (arith, h))
length-failed (b ∷ []) (o ∷ old) h = refl
length-failed (b ∷ n ∷ bytes) old h = length-zeros (length (b ∷ n ∷ bytes))

-- what stood at a place of which nothing is known any more
unknown-old : (c : Crash) (l : Left) (len at n : ℕ) → Follows c l len → at + n ≤ len → (old : List ℕ) → A c.left old
    → A (unknown n) (take n (drop at old))
unknown-old c l len at n f inside old a =
    let e = allowed-length c.left old a in
    let w = allowed-length c.left l.whole f.left in
    let s = f.long in
    let d = length-drop at old in
    let t = length-take n (drop at old) in
    anything-of n (take n (drop at old)) (omega (arith, e, w, s, d, t, inside))

zero-of : (n : ℕ) → A (unknown n) (zeros n)
zero-of n = anything-of n (zeros n) (length-zeros n)

pub follows-step : (c : Crash) (l : Left) (len : ℕ) (step : Step) → Follows c l len → IsInside len step
    → Follows (crash_after c step) (left_after l step) (length_after len step)
follows-step c l len (Write at bytes) f inside =
    let room : length bytes ≤ length (drop at c.left) = room-at c.left l.whole at (length bytes) f.left (let s =
    f.long in omega (arith, inside, s)) in
    over c l len at (length bytes) (map exactly bytes) (torn bytes (drop at c.left)) bytes (renewed bytes
    (drop at l.newest)) f inside refl (allowed-exactly bytes)
    (written-of bytes (drop at c.left) room) (torn-old c bytes at len l.whole f.left f.long inside) (renewed-of bytes (drop at c.left)
    (drop at l.newest) (zip-drop N at c.left l.newest f.newest))
follows-step c l len (FailedWrite at bytes) f inside =
    let wide : length bytes ≤ length (drop at l.whole) = let d = length-drop at l.whole in let s = f.long in omega (arith, inside, d, s) in
    over c l len at (length bytes) (torn bytes (drop at c.known)) (torn bytes (drop at c.left)) (failed_over bytes (drop at l.whole))
    (renewed bytes (drop at l.newest)) f inside
    (length-failed bytes (drop at l.whole) wide)
    (failed-of bytes (drop at c.known) (drop at l.whole) (allowed-drop-same at c.known l.whole f.known) wide)
    (failed-of bytes (drop at c.left) (drop at l.whole) (allowed-drop-same at c.left l.whole f.left) wide)
    (torn-old c bytes at len l.whole f.left f.long inside) (renewed-of bytes (drop at c.left) (drop at l.newest)
    (zip-drop N at c.left l.newest f.newest))
follows-step c l len (Append bytes) f inside =
    behind c l len (length bytes) (map exactly bytes) (unknown (length bytes)) bytes (covered (length bytes)) f refl
    (allowed-exactly bytes) (allowed-anything bytes) (none-of (length bytes))
follows-step c l len (FailedAppend n) f inside = behind c l len n (unknown n) (unknown n) (zeros n) (covered n) f (length-zeros n)
    (zero-of n) (zero-of n) (none-of n)
follows-step c l len (Reserve start n) f inside = behind c l len n (unknown n) (unknown n) (zeros n) (covered n) f (length-zeros n)
    (zero-of n) (zero-of n) (none-of n)
follows-step c l len (Settle start n (Some bytes)) f inside =
    over c l len start n (map exactly bytes) (unknown n) bytes (covered n) f inside.1 inside.0 (allowed-exactly bytes)
    (anything-of n bytes inside.0)
    (unknown-old c l len start n f inside.1) (none-of n)
follows-step c l len (Settle start n None) f inside =
    over c l len start n (unknown n) (unknown n) (zeros n) (covered n) f inside (length-zeros n) (zero-of n) (zero-of n)
    (unknown-old c l len start n f inside) (none-of n)
follows-step c l len Sync f inside = record {
  known = f.known;
  left = f.known;
  more = [];
  kept = subst (λ (x : List ℕ). A c.known x) (sym (append-none l.whole)) f.known;
  synced = sym (allowed-length c.known l.whole f.known);
  newest = some-of c.known l.whole f.known;
  long = f.long;
}
  where
    append-none : (xs : List ℕ) → xs ++ [] ≡ xs
    append-none [] = refl
    append-none (x ∷ xs) = ap (λ (l : List ℕ). x ∷ l) (append-none xs)
