-- The clusters of all files that are copied, by their places.
use Rattle.std.proofs.Common.{◌≡◌, ◌∙◌, ap, sym, refl, subst, ℕ, zero, suc, ◌+◌, List, [], ◌∷◌}
use Rattle.std.proofs.Common.{◌++◌, length, drop, Some, Err}
use Rattle.std.proofs.Common.{arith}
use Rattle.std.specs.Prelude.{slice_get, slice_index_or}
use Rattle.std.specs.List.{AllByRecursion}
use Rattle.std.proofs.lemmas.List.{length-append}
use Rattle.std.proofs.lemmas.Option.{none-some}
use Rattle.nt_lists.proofs.Variants.{some_is}
use Rattle.nt_outside.specs.Disk.{DiskState}
use Rattle.nt_grammar.specs.Table.{Table}
use Rattle.nt_book.specs.declared.params.Params.{Params}
use Rattle.nt_book.specs.Books.{BookData}
use Rattle.nt_commit.specs.declared.error.CommitError.TheVariants as commit
use Rattle.nt_tfile.specs.declared.failure.ReadFailure.TheVariants as failure
use Rattle.nt_file_meaning.specs.Outlines.{Outline}
use Rattle.nt_merge.specs.declared.copy_error.CopyError.{CopyError}
use Rattle.nt_merge.specs.declared.copy_error.CopyError.TheVariants.{Read, Commit}
use Rattle.nt_merge.specs.declared.error.MergeError.TheVariants.{ReadFault, DiskFault}
use Rattle.nt_merge.specs.Copying.{AreOfFile, ToldUpTo}
use Rattle.nt_merge.specs.Joining.{ToldOfAll, error_of_copy}
use Rattle.nt_merge.specs.Merging.{Numbered, numbered_from, all_numbered}
use Rattle.nt_merge.proofs.Positions.{drop-more, numbered-long}

-- how many clusters stand before those of the file of this number
abbrev pub before : ℕ → List Outline → ℕ
before zero os = 0
before (suc n) [] = 0
before (suc n) (o ∷ os) = length o.clusters + before n os

drop-past : {A : Type 0} (xs ys : List A) (k : ℕ) → length xs ≡ k → drop k (xs ++ ys) ≡ ys
drop-past [] ys zero is = refl
drop-past [] ys (suc k) is = absurd (omega (arith, is))
drop-past (x ∷ xs) ys zero is = absurd (omega (arith, is))
drop-past (x ∷ xs) ys (suc k) is = drop-past xs ys k (omega (arith, is))

of-suc : (first n : ℕ) (b : List ℕ) (o : Outline) (ns : List Numbered) (at : ℕ) → AreOfFile (first + 1 + n) b o ns at
    → AreOfFile (first + suc n) b o ns at
of-suc first n b o ns at is =
    let same : first + 1 + n ≡ first + suc n = omega arith in
    subst (λ (f : ℕ). AreOfFile f b o ns at) same is

-- behind them come its own
of-file : (first : ℕ) (bytes : List (List ℕ)) (os : List Outline) (n : ℕ) (o : Outline) → length bytes ≡ length os → slice_get os n ≡ Some o
    → AreOfFile (first + n) (slice_index_or bytes n []) o (all_numbered first bytes os) (before n os)
of-file first [] [] n o long is = absurd (none-some o is)
of-file first [] (x ∷ os) n o long is = absurd (omega (arith, long))
of-file first (b ∷ bs) [] n o long is = absurd (none-some o is)
of-file first (b ∷ bs) (x ∷ os) zero o long is =
    let same : x ≡ o = some_is x o is in
    let none : first ≡ first + zero = omega arith in
    record {
      after = all_numbered (first + 1) bs os;
      is = ap (λ (u : Outline). numbered_from first 0 b u.table u.clusters ++ all_numbered (first + 1) bs os) same
          ∙ ap (λ (f : ℕ). numbered_from f 0 b o.table o.clusters ++ all_numbered (first + 1) bs os) none;
    }
of-file first (b ∷ bs) (x ∷ os) (suc n) o long is =
    let more = of-file (first + 1) bs os n o (omega (arith, long)) is in
    let own = numbered_from first 0 b x.table x.clusters in
    let rest = all_numbered (first + 1) bs os in
    of-suc first n (slice_index_or bs n []) o (own ++ rest) (length x.clusters + before n os)
    (record {
      after = more.after;
      is = drop-more (own ++ rest) (length x.clusters) (before n os)
          ∙ (ap (λ (l : List Numbered). drop (before n os) l)
          (drop-past own rest (length x.clusters) (numbered-long first 0 b x.table x.clusters)) ∙ more.is);
    })

pub of-number : (bytes : List (List ℕ)) (os : List Outline) (n : ℕ) (o : Outline) → length bytes ≡ length os → slice_get os n ≡ Some o
    → AreOfFile n (slice_index_or bytes n []) o (all_numbered 0 bytes os) (before n os)
of-number bytes os n o long is =
    let same : 0 + n ≡ n = omega arith in
    subst (λ (f : ℕ). AreOfFile f (slice_index_or bytes n []) o (all_numbered 0 bytes os) (before n os)) same
    (of-file 0 bytes os n o long is)

before-suc : (os : List Outline) (n : ℕ) (o : Outline) → slice_get os n ≡ Some o → before (suc n) os ≡ before n os + length o.clusters
before-suc [] n o is = absurd (none-some o is)
before-suc (x ∷ os) zero o is =
    let same : x ≡ o = some_is x o is in
    let long = ap (λ (u : Outline). length u.clusters) same in
    omega (arith, long)
before-suc (x ∷ os) (suc n) o is = let more = before-suc os n o is in omega (arith, more)

-- one file more
pub before-more : (os : List Outline) (n : ℕ) (o : Outline) → slice_get os n ≡ Some o → before n os + length o.clusters ≡ before (n + 1) os
before-more os n o is =
    let one : suc n ≡ n + 1 = omega arith in
    sym (before-suc os n o is) ∙ ap (λ (m : ℕ). before m os) one

-- all files
all-long : (first : ℕ) (bytes : List (List ℕ)) (os : List Outline) → length bytes ≡ length os
    → before (length os) os ≡ length (all_numbered first bytes os)
all-long first [] [] long = refl
all-long first [] (o ∷ os) long = absurd (omega (arith, long))
all-long first (b ∷ bs) [] long = refl
all-long first (b ∷ bs) (o ∷ os) long =
    let more = all-long (first + 1) bs os (omega (arith, long)) in
    let own = numbered-long first 0 b o.table o.clusters in
    let both = length-append (numbered_from first 0 b o.table o.clusters) (all_numbered (first + 1) bs os) in
    omega (arith, more, own, both)

pub before-all : (bytes : List (List ℕ)) (os : List Outline) → length bytes ≡ length os → (n : ℕ) → n ≡ length os
    → before n os ≡ length (all_numbered 0 bytes os)
before-all bytes os long n is = ap (λ (m : ℕ). before m os) is ∙ all-long 0 bytes os long

pub all-get : {A : Type 0} (P : A → Type 0) (xs : List A) (n : ℕ) (x : A) → AllByRecursion P xs → slice_get xs n ≡ Some x → P x
all-get P [] n x all is = absurd (none-some x is)
all-get P (y ∷ xs) zero x all is = subst P (some_is y x is) all.0
all-get P (y ∷ xs) (suc n) x all is = all-get P xs n x all.1 is

-- ---- why not all were copied

pub refused-all : (file : ℕ) (t : Table) (p : Params) (given new : DiskState) (book : BookData) (ns : List Numbered) (at : ℕ)
    (e : CopyError)
    → ToldUpTo file t p given new book ns at (Err e) → ToldOfAll t p given new book ns (Err (error_of_copy file e))
refused-all file t p given new book ns at (Read (failure.Defect e)) told = told
refused-all file t p given new book ns at (Read failure.Fault) told = tt
refused-all file t p given new book ns at (Read failure.Memory) told = tt
refused-all file t p given new book ns at (Commit commit.Memory) told = tt
refused-all file t p given new book ns at (Commit commit.Fault) told = tt
refused-all file t p given new book ns at (Commit (commit.RangeTooLarge len most)) told = told
refused-all file t p given new book ns at (Commit (commit.FileTooLarge end most)) told = told
refused-all file t p given new book ns at (Commit commit.TooManyClusters) told = told

pub fault-copy : (file : ℕ) (e : CopyError) → error_of_copy file e ≡ ReadFault → e ≡ Read failure.Fault
fault-copy file (Read (failure.Defect e)) is = absurd (cc is)
fault-copy file (Read failure.Fault) is = refl
fault-copy file (Read failure.Memory) is = absurd (cc is)
fault-copy file (Commit commit.Memory) is = absurd (cc is)
fault-copy file (Commit commit.Fault) is = absurd (cc is)
fault-copy file (Commit (commit.RangeTooLarge len most)) is = absurd (cc is)
fault-copy file (Commit (commit.FileTooLarge end most)) is = absurd (cc is)
fault-copy file (Commit commit.TooManyClusters) is = absurd (cc is)

pub disk-copy : (file : ℕ) (e : CopyError) → error_of_copy file e ≡ DiskFault → e ≡ Commit commit.Fault
disk-copy file (Read (failure.Defect e)) is = absurd (cc is)
disk-copy file (Read failure.Fault) is = absurd (cc is)
disk-copy file (Read failure.Memory) is = absurd (cc is)
disk-copy file (Commit commit.Memory) is = absurd (cc is)
disk-copy file (Commit commit.Fault) is = refl
disk-copy file (Commit (commit.RangeTooLarge len most)) is = absurd (cc is)
disk-copy file (Commit (commit.FileTooLarge end most)) is = absurd (cc is)
disk-copy file (Commit commit.TooManyClusters) is = absurd (cc is)
