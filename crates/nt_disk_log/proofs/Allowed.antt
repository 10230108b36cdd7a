-- What a disk reads as is allowed by its log, after each step.
use Rattle.std.proofs.Common.{◌≡◌, ◌∙◌, ap, sym, subst, refl, ℕ, zero, suc, ◌+◌, ◌==◌, ◌≤◌, Bool, true, false, ◌&&◌, ◌||◌, List, [], ◌∷◌}
use Rattle.std.proofs.Common.{◌++◌, length, take, drop, map, replicate, IsTrue, arith, length-drop, length-take, take-append-drop}
use Rattle.std.proofs.Common.{drop-drop, append_assoc}
use Rattle.std.specs.Prelude.{Option, Some, None}
use Rattle.nt_lists.specs.Places.{put_at}
use Rattle.nt_outside.specs.Log.{Step, Write, FailedWrite, Append, FailedAppend, Reserve, Settle, Sync}
use Rattle.nt_outside.specs.Reads.{Known, Anything, OneOf, exactly, or_also, unknown, torn, after_step, known_from, known_of, allows}
use Rattle.nt_outside.specs.Reads.{all_allowed, Reads}

pub and_both : (a b : Bool) → a ≡ true → b ≡ true → (a && b) ≡ true
and_both true b p q = q
and_both false b p q = p

pub and_first : (a b : Bool) → (a && b) ≡ true → a ≡ true
and_first true b p = refl
and_first false b p = p

pub and_second : (a b : Bool) → (a && b) ≡ true → b ≡ true
and_second true b p = p
and_second false b p = absurd (cc)

pub or_second : (a b : Bool) → b ≡ true → (a || b) ≡ true
or_second true b p = refl
or_second false b p = p

pub or_first : (a b : Bool) → a ≡ true → (a || b) ≡ true
or_first true b p = refl
or_first false b p = absurd (cc)

-- one more step
pub known_from-push : (known : List Known) (log : List Step) (step : Step) → known_from known (log ++ step ∷ [])
    ≡ after_step (known_from known log) step
known_from-push known [] step = refl
known_from-push known (s ∷ log) step = known_from-push (after_step known s) log step

pub allowed-append : (k : List Known) (b : List ℕ) (k' : List Known) (b' : List ℕ) → IsTrue (all_allowed k b)
    → IsTrue (all_allowed k' b') → IsTrue (all_allowed (k ++ k') (b ++ b'))
allowed-append [] [] k' b' h h' = h'
allowed-append [] (y ∷ b) k' b' h h' = absurd (cc)
allowed-append (x ∷ k) [] k' b' h h' = absurd (cc)
allowed-append (x ∷ k) (y ∷ b) k' b' h h' =
    and_both (allows x y) _ (and_first (allows x y) _ h) (allowed-append k b k' b' (and_second (allows x y) _ h) h')

pub allowed-take : (n : ℕ) (k : List Known) (b : List ℕ) → IsTrue (all_allowed k b) → IsTrue (all_allowed (take n k) (take n b))
allowed-take zero k b h = refl
allowed-take (suc n) [] [] h = refl
allowed-take (suc n) [] (y ∷ b) h = absurd (cc)
allowed-take (suc n) (x ∷ k) [] h = absurd (cc)
allowed-take (suc n) (x ∷ k) (y ∷ b) h =
    and_both (allows x y) _ (and_first (allows x y) _ h) (allowed-take n k b (and_second (allows x y) _ h))

pub allowed-drop : (n : ℕ) (k : List Known) (b : List ℕ) → IsTrue (all_allowed k b) → IsTrue (all_allowed (drop n k) (drop n b))
allowed-drop zero k b h = h
allowed-drop (suc n) [] [] h = refl
allowed-drop (suc n) [] (y ∷ b) h = absurd (cc)
allowed-drop (suc n) (x ∷ k) [] h = absurd (cc)
allowed-drop (suc n) (x ∷ k) (y ∷ b) h = allowed-drop n k b (and_second (allows x y) _ h)

pub allowed-length : (k : List Known) (b : List ℕ) → IsTrue (all_allowed k b) → length k ≡ length b
allowed-length [] [] h = refl
allowed-length [] (y ∷ b) h = absurd (cc)
allowed-length (x ∷ k) [] h = absurd (cc)
allowed-length (x ∷ k) (y ∷ b) h = omega (arith, allowed-length k b (and_second (allows x y) _ h))

pub eq_self : (n : ℕ) → (n == n) ≡ true
eq_self n = grind arith

pub allowed-exactly : (b : List ℕ) → IsTrue (all_allowed (map exactly b) b)
allowed-exactly [] = refl
allowed-exactly (y ∷ b) = and_both (allows (exactly y) y) _ (or_first (y == y) false (eq_self y)) (allowed-exactly b)

pub allowed-anything : (b : List ℕ) → IsTrue (all_allowed (replicate (length b) Anything) b)
allowed-anything [] = refl
allowed-anything (y ∷ b) = allowed-anything b

allows-or_also : (new : ℕ) (k : Known) (y : ℕ) → IsTrue (allows k y) → IsTrue (allows (or_also new k) y)
allows-or_also new Anything y h = refl
allows-or_also new (OneOf bytes) y h = or_second (new == y) _ h

-- what a failed write may leave allows what was there
pub allowed-torn : (bytes : List ℕ) (k : List Known) (old : List ℕ) → IsTrue (all_allowed k old) → length bytes ≤ length old
    → IsTrue (all_allowed (torn bytes k) (take (length bytes) old))
allowed-torn [] k old h le = refl
allowed-torn (x ∷ []) [] [] h le = absurd (omega arith)
allowed-torn (x ∷ []) [] (y ∷ old) h le = absurd (cc)
allowed-torn (x ∷ []) (k ∷ ks) [] h le = absurd (cc)
allowed-torn (x ∷ []) (k ∷ ks) (y ∷ old) h le = and_both (allows (or_also x k) y) _ (allows-or_also x k y (and_first (allows k y) _ h)) refl
allowed-torn (x ∷ x2 ∷ bytes) k old h le =
    let n = length (x ∷ x2 ∷ bytes) in
    let len : length (take n old) ≡ n = omega (arith, length-take n old) in
    subst (λ (m : ℕ). IsTrue (all_allowed (replicate m Anything) (take n old))) len (allowed-anything (take n old))

-- bytes over those at a place, on both sides
pub allowed-put_at : (k : List Known) (b : List ℕ) (at : ℕ) (k' : List Known) (b' : List ℕ) → IsTrue (all_allowed k b)
    → IsTrue (all_allowed k' b') → IsTrue (all_allowed (put_at k at k') (put_at b at b'))
allowed-put_at k b at k' b' h h' =
    let tail : IsTrue (all_allowed (drop (at + length k') k) (drop (at + length b') b)) =
    subst (λ (m : ℕ). IsTrue (all_allowed (drop (at + m) k) (drop (at + length b') b))) (sym (allowed-length k' b' h'))
    (allowed-drop (at + length b') k b h) in
    allowed-append (take at k ++ k') (take at b ++ b') _ _ (allowed-append (take at k) (take at b) k' b' (allowed-take at k b h) h') tail

-- what stands at a place, put there again
pub put_at_same : (image : List ℕ) (at n : ℕ) → at + n ≤ length image → put_at image at (take n (drop at image)) ≡ image
put_at_same image at n inside =
    let rest = drop at image in
    let len : length (take n rest) ≡ n = omega (arith, length-take n rest, length-drop at image) in
    ap (λ (k : ℕ). take at image ++ take n rest ++ drop (at + k) image) len
    ∙ append_assoc (take at image) (take n rest) (drop (at + n) image)
    ∙ ap (λ (x : List ℕ). take at image ++ (take n rest ++ x)) (sym (drop-drop n at image))
    ∙ ap (λ (x : List ℕ). take at image ++ x) (take-append-drop n rest)
    ∙ take-append-drop at image

-- a log with one more step, and what it then reads as
reads-step : (log log' : List Step) (step : Step) (image image' : List ℕ) → log' ≡ log ++ step ∷ []
    → IsTrue (all_allowed (after_step (known_of log) step) image) → image ≡ image' → Reads log' image'
reads-step log log' step image image' log-is h image-is =
    subst (λ (l : List Step). Reads l image') (sym log-is)
    (subst (λ (k : List Known). IsTrue (all_allowed k image')) (sym (known_from-push [] log step))
    (subst (λ (b : List ℕ). IsTrue (all_allowed (after_step (known_of log) step) b)) image-is h))

pub reads-append : (log log' : List Step) (image image' bytes : List ℕ) → Reads log image → log' ≡ log ++ Append bytes ∷ []
    → image' ≡ image ++ bytes → Reads log' image'
reads-append log log' image image' bytes reads log-is image-is =
    reads-step log log' (Append bytes) (image ++ bytes) image' log-is (allowed-append (known_of log) image (map exactly bytes) bytes
    reads (allowed-exactly bytes)) (sym image-is)

pub reads-failed_append : (log log' : List Step) (image image' more : List ℕ) (len : ℕ) → Reads log image
    → log' ≡ log ++ FailedAppend len ∷ [] → len ≡ length more → image' ≡ image ++ more → Reads log' image'
reads-failed_append log log' image image' more len reads log-is whole image-is =
    reads-step log log' (FailedAppend len) (image ++ more) image' log-is
    (allowed-append (known_of log) image (unknown len) more reads
    (subst (λ (n : ℕ). IsTrue (all_allowed (replicate n Anything) more)) (sym whole) (allowed-anything more))) (sym image-is)

pub reads-write : (log log' : List Step) (image image' bytes : List ℕ) (at : ℕ) → Reads log image → log' ≡ log ++ Write at bytes
    ∷ [] → image' ≡ put_at image at bytes → Reads log' image'
reads-write log log' image image' bytes at reads log-is image-is =
    reads-step log log' (Write at bytes) (put_at image at bytes) image' log-is
    (allowed-put_at (known_of log) image at (map exactly bytes) bytes reads (allowed-exactly bytes)) (sym image-is)

pub reads-failed_write : (log log' : List Step) (image bytes : List ℕ) (at : ℕ) → Reads log image → at + length bytes ≤ length image
    → log' ≡ log ++ FailedWrite at bytes ∷ [] → Reads log' image
reads-failed_write log log' image bytes at reads inside log-is =
    let n = length bytes in
    let old = drop at image in
    let fits : n ≤ length old = omega (arith, length-drop at image) in
    reads-step log log' (FailedWrite at bytes) (put_at image at (take n old)) image log-is
    (allowed-put_at (known_of log) image at (torn bytes (drop at (known_of log))) (take n old) reads
    (allowed-torn bytes (drop at (known_of log)) old (allowed-drop at (known_of log) image reads) fits))
    (put_at_same image at n inside)

pub reads-sync : (log log' : List Step) (image : List ℕ) → Reads log image → log' ≡ log ++ Sync ∷ [] → Reads log' image
reads-sync log log' image reads log-is = reads-step log log' Sync image image log-is reads refl

pub reads-reserve : (log log' : List Step) (image image' more : List ℕ) (start len : ℕ) → Reads log image
    → log' ≡ log ++ Reserve start len ∷ [] → length more ≡ len → image' ≡ image ++ more → Reads log' image'
reads-reserve log log' image image' more start len reads log-is whole image-is =
    reads-step log log' (Reserve start len) (image ++ more) image' log-is
    (allowed-append (known_of log) image (unknown len) more reads
    (subst (λ (n : ℕ). IsTrue (all_allowed (replicate n Anything) more)) whole (allowed-anything more))) (sym image-is)

pub reads-settle : (log log' : List Step) (image image' bytes : List ℕ) (start len : ℕ) → Reads log image
    → log' ≡ log ++ Settle start len (Some bytes) ∷ [] → image' ≡ put_at image start bytes → Reads log' image'
reads-settle log log' image image' bytes start len reads log-is image-is =
    reads-step log log' (Settle start len (Some bytes)) (put_at image start bytes) image' log-is
    (allowed-put_at (known_of log) image start (map exactly bytes) bytes reads (allowed-exactly bytes)) (sym image-is)

pub reads-unfilled : (log log' : List Step) (image : List ℕ) (start len : ℕ) → Reads log image → start + len ≤ length image
    → log' ≡ log ++ Settle start len None ∷ [] → Reads log' image
reads-unfilled log log' image start len reads inside log-is =
    let old = take len (drop start image) in
    let whole : length old ≡ len = omega (arith, length-take len (drop start image), length-drop start image) in
    reads-step log log' (Settle start len None) (put_at image start old) image log-is
    (allowed-put_at (known_of log) image start (unknown len) old reads
    (subst (λ (n : ℕ). IsTrue (all_allowed (replicate n Anything) old)) whole (allowed-anything old)))
    (put_at_same image start len inside)
