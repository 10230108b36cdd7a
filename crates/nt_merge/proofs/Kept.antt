-- Files that are read one after the other.
use Rattle.std.proofs.Common.{◌≡◌, ◌∙◌, ap, sym, refl, subst, ℕ, zero, suc, ◌+◌, ◌<◌, ◌≤◌, List, [], ◌∷◌, ◌++◌, map, length, drop}
use Rattle.std.proofs.Common.{Option, Some}
use Rattle.std.proofs.Common.{arith}
use Rattle.std.specs.Prelude.{slice_get, slice_set, slice_index_or, option_map, Result, Ok, Err}
use Rattle.std.proofs.lemmas.Option.{slice_get-map, none-some}
use Rattle.std.proofs.lemmas.List.{length-map}
use Rattle.nt_lists.specs.Chaining.{◌>>=◌}
use Rattle.nt_lists.proofs.Variants.{some_is}
use Rattle.nt_num.specs.declared.fault.ReadError.{ReadError}
use Rattle.nt_outside.specs.File.{FileState}
use Rattle.nt_outside.specs.Faults.{Rose}
use Rattle.nt_file_meaning.specs.Outlines.{Outline, outline_of}
use Rattle.nt_merge.specs.Files.{TellBytes, KeepFiles, OneRose}
use Rattle.nt_tfile.specs.Calls.{IsReadOrFails}
use Rattle.nt_tfile.specs.declared.failure.ReadFailure.{ReadFailure}
use Rattle.nt_tfile.specs.declared.failure.ReadFailure.TheVariants as failure
use Rattle.nt_merge.specs.declared.error.MergeError.TheVariants.{DiskFault, ReadFault}
use Rattle.nt_merge.specs.Planning.{outlines_from, AreAttached, error_of_read}
use Rattle.nt_merge.proofs.Lists.{drop-next, found-more}

index-some : {A : Type 0} (xs : List A) (n : ℕ) (x d : A) → slice_get xs n ≡ Some x → slice_index_or xs n d ≡ x
index-some [] n x d is = absurd (none-some x is)
index-some (y ∷ xs) zero x d is = some_is y x is
index-some (y ∷ xs) (suc n) x d is = index-some xs n x d is

module _ {F : Type 0} (state : F → FileState) where
  abbrev bytes_of : F → Option (List ℕ)
  bytes_of f = (state f).bytes

  pub keep-none : (fs : List F) → KeepFiles state fs fs
  keep-none fs = record {
    bytes = refl;
    later = λ k a b was is.
        let same : a ≡ b = some_is a b (sym was ∙ is) in
        subst (λ (x : F). (state a).faults ≤ (state x).faults) same (omega arith);
  }

  rose-before : (a b c : ℕ) → a ≤ b → Rose b c → Rose a c
  rose-before a b c le rose = omega (arith, le, rose)

  get-kept : (old new : List F) → KeepFiles state old new → (k : ℕ) (b : F) → slice_get new k ≡ Some b
      → (a : F) × (slice_get old k ≡ Some a)
  get-kept old new kept k b is = there old (map bytes_of new) (sym kept.bytes) k b
      (slice_get-map bytes_of new k ∙ ap (option_map bytes_of) is)
    where
      there : (fs : List F) (os : List (Option (List ℕ))) → map bytes_of fs ≡ os → (j : ℕ) (g : F) → slice_get os j ≡ Some (bytes_of g)
          → (a : F) × (slice_get fs j ≡ Some a)
      there [] [] same j g at = absurd (cc at)
      there [] (o ∷ os) same j g at = absurd (cc same)
      there (f ∷ fs) [] same j g at = absurd (cc same)
      there (f ∷ fs) (o ∷ os) same zero g at = (f, refl)
      there (f ∷ fs) (o ∷ os) same (suc j) g at = there fs os (cc same) j g at

  pub keep-more : (a b c : List F) → KeepFiles state a b → KeepFiles state b c → KeepFiles state a c
  keep-more a b c one more = record {
    bytes = more.bytes ∙ one.bytes;
    later = λ k x z was is.
        let mid = get-kept b c more k z is in
        let first = one.later k x mid.0 was mid.1 in
        let next = more.later k mid.0 z mid.1 is in
        omega (arith, first, next);
  }

  pub rose-more : (a b c : List F) → KeepFiles state a b → OneRose state b c → OneRose state a c
  rose-more a b c kept rose =
      let first = get-kept a b kept rose.number rose.before rose.was in
      record {
        number = rose.number;
        before = first.0;
        after = rose.after;
        was = first.1;
        is = rose.is;
        rose = rose-before (state first.0).faults (state rose.before).faults (state rose.after).faults
            (kept.later rose.number first.0 rose.before first.1 rose.was) rose.rose;
      }

  -- one of them was read
  set-bytes : (fs : List F) (n : ℕ) (f g : F) → slice_get fs n ≡ Some f → bytes_of g ≡ bytes_of f
      → map bytes_of (slice_set fs n g) ≡ map bytes_of fs
  set-bytes [] n f g is same = absurd (none-some f is)
  set-bytes (x ∷ fs) zero f g is same =
      ap (λ (o : Option (List ℕ)). o ∷ map bytes_of fs) (same ∙ ap bytes_of (sym (some_is x f is)))
  set-bytes (x ∷ fs) (suc n) f g is same = ap (λ (l : List (Option (List ℕ))). bytes_of x ∷ l) (set-bytes fs n f g is same)

  set-at : (fs : List F) (n : ℕ) (f g : F) → slice_get fs n ≡ Some f → slice_get (slice_set fs n g) n ≡ Some g
  set-at [] n f g is = absurd (none-some f is)
  set-at (x ∷ fs) zero f g is = refl
  set-at (x ∷ fs) (suc n) f g is = set-at fs n f g is

  set-later : (fs : List F) (n : ℕ) (f g : F) → slice_get fs n ≡ Some f → (state f).faults ≤ (state g).faults → (k : ℕ) (a b : F)
      → slice_get fs k ≡ Some a → slice_get (slice_set fs n g) k ≡ Some b → (state a).faults ≤ (state b).faults
  set-later [] n f g is le k a b was now = absurd (none-some f is)
  set-later (x ∷ fs) zero f g is le zero a b was now =
      subst (λ (y : F). (state y).faults ≤ (state b).faults) (sym (some_is x f is) ∙ some_is x a was)
      (subst (λ (y : F). (state f).faults ≤ (state y).faults) (some_is g b now) le)
  set-later (x ∷ fs) zero f g is le (suc k) a b was now =
      subst (λ (y : F). (state a).faults ≤ (state y).faults) (some_is a b (sym was ∙ now)) (omega arith)
  set-later (x ∷ fs) (suc n) f g is le zero a b was now =
      subst (λ (y : F). (state a).faults ≤ (state y).faults) (some_is a b (sym was ∙ now)) (omega arith)
  set-later (x ∷ fs) (suc n) f g is le (suc k) a b was now = set-later fs n f g is le k a b was now

  pub keep-set : (old new : List F) (n : ℕ) (f g : F) → slice_get old n ≡ Some f → new ≡ slice_set old n g → bytes_of g ≡ bytes_of f
      → (state f).faults ≤ (state g).faults → KeepFiles state old new
  keep-set old new n f g is new-is same le =
      subst (KeepFiles state old) (sym new-is)
      (record { bytes = set-bytes old n f g is same; later = set-later old n f g is le })

  pub rose-set : (old new : List F) (n : ℕ) (f g : F) → slice_get old n ≡ Some f → new ≡ slice_set old n g
      → Rose (state f).faults (state g).faults → OneRose state old new
  rose-set old new n f g is new-is rose =
      subst (OneRose state old) (sym new-is)
      (record { number = n; before = f; after = g; was = is; is = set-at old n f g is; rose = rose })

  -- ---- what they tell

  pub tell-kept : (old new : List F) (bytes : List (List ℕ)) → KeepFiles state old new → TellBytes state old bytes
      → TellBytes state new bytes
  tell-kept old new bytes kept tells = kept.bytes ∙ tells

  pub tell-long : (fs : List F) (bytes : List (List ℕ)) → TellBytes state fs bytes → length bytes ≡ length fs
  tell-long fs bytes tells =
      sym (length-map bytes (λ (b : List ℕ). Some b)) ∙ (ap length (sym tells) ∙ length-map fs bytes_of)

  pub tell-at : (fs : List F) (bytes : List (List ℕ)) (n : ℕ) (f : F) → TellBytes state fs bytes → slice_get fs n ≡ Some f
      → bytes_of f ≡ Some (slice_index_or bytes n [])
  tell-at [] bytes n f tells is = absurd (none-some f is)
  tell-at (x ∷ fs) [] n f tells is = absurd (cc tells)
  tell-at (x ∷ fs) (b ∷ bytes) zero f tells is = ap bytes_of (sym (some_is x f is)) ∙ cc tells
  tell-at (x ∷ fs) (b ∷ bytes) (suc n) f tells is = tell-at fs bytes n f (cc tells) is

-- ---- outlines of all

outlined-chain : (n : ℕ) (b : List ℕ) (bs : List (List ℕ)) (o : Outline) → outline_of b ≡ Ok o
    → outlines_from n (b ∷ bs) ≡ (outlines_from (n + 1) bs >>= λ others. Ok (o ∷ others))
outlined-chain n b bs o p = rw p refl

outlined-fault : (n : ℕ) (b : List ℕ) (bs : List (List ℕ)) (e : ReadError) → outline_of b ≡ Err e → outlines_from n (b ∷ bs) ≡ Err (n, e)
outlined-fault n b bs e p = rw p refl

module _ (bytes : List (List ℕ)) (n : ℕ) (os : List Outline) (less : n < length bytes)
    (so : outlines_from 0 bytes ≡ (outlines_from n (drop n bytes) >>= λ others. Ok (os ++ others))) where
  so-far : outlines_from 0 bytes
      ≡ (outlines_from n (slice_index_or bytes n [] ∷ drop (n + 1) bytes) >>= λ others. Ok (os ++ others))
  so-far = so ∙ ap (λ (l : List (List ℕ)). outlines_from n l >>= λ others. Ok (os ++ others)) (drop-next bytes n [] less)

  pub outlined-next : (o : Outline) → outline_of (slice_index_or bytes n []) ≡ Ok o
      → outlines_from 0 bytes ≡ (outlines_from (n + 1) (drop (n + 1) bytes) >>= λ others. Ok ((os ++ o ∷ []) ++ others))
  outlined-next o is =
      so-far
      ∙ (ap (λ (r : Result (List Outline) (ℕ × ReadError)). r >>= λ others. Ok (os ++ others))
      (outlined-chain n (slice_index_or bytes n []) (drop (n + 1) bytes) o is)
      ∙ found-more os o (outlines_from (n + 1) (drop (n + 1) bytes)))

  pub outlined-err : (e : ReadError) → outline_of (slice_index_or bytes n []) ≡ Err e → outlines_from 0 bytes ≡ Err (n, e)
  outlined-err e is =
      so-far
      ∙ ap (λ (r : Result (List Outline) (ℕ × ReadError)). r >>= λ others. Ok (os ++ others))
      (outlined-fault n (slice_index_or bytes n []) (drop (n + 1) bytes) e is)

pub file-at : {F : Type 0} (fs : List F) (n : ℕ) → n < length fs → (f : F) × (slice_get fs n ≡ Some f)
file-at [] n less = absurd (omega (arith, less))
file-at (x ∷ fs) zero less = (x, refl)
file-at (x ∷ fs) (suc n) less = file-at fs n (omega (arith, less))

pub keep-long : {F : Type 0} (state : F → FileState) (old new : List F) → KeepFiles state old new → length new ≡ length old
keep-long state old new kept =
    sym (length-map new (λ (f : _). (state f).bytes)) ∙ (ap length kept.bytes ∙ length-map old (λ (f : _). (state f).bytes))

-- ---- a file that can't be attached to

pub attached-err : (bytes : List (List ℕ)) (n : ℕ) (os : List Outline) → n < length bytes
    → outlines_from 0 bytes ≡ (outlines_from n (drop n bytes) >>= λ others. Ok (os ++ others)) → (e : ReadFailure)
    → IsReadOrFails {V = Outline} {W = Outline} (λ r. r) (Err e) (outline_of (slice_index_or bytes n []))
    → AreAttached bytes (Err (error_of_read n e))
attached-err bytes n os less so (failure.Defect e) is = outlined-err bytes n os less so e is
attached-err bytes n os less so failure.Fault is = tt
attached-err bytes n os less so failure.Memory is = tt

pub fault-read : (n : ℕ) (e : ReadFailure) → error_of_read n e ≡ ReadFault → e ≡ failure.Fault
fault-read n (failure.Defect e) is = absurd (cc is)
fault-read n failure.Fault is = refl
fault-read n failure.Memory is = absurd (cc is)

pub none-disk : (n : ℕ) (e : ReadFailure) → error_of_read n e ≡ DiskFault → ⊥
none-disk n (failure.Defect e) is = cc is
none-disk n failure.Fault is = cc is
none-disk n failure.Memory is = cc is
