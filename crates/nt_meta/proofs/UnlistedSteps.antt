-- Columns that a cluster doesn't list, judged one after the other, or all at once.
use Rattle.std.proofs.Common.{◌≡◌, ℕ, suc, ◌+◌, ◌<◌, ◌≤◌, min, Bool, true, false, not, ◌&&◌, ◌||◌, cond, eqb, leb, ltb, List, [], ◌∷◌}
use Rattle.std.proofs.Common.{length, drop, Result, Ok, Err, refl, sym, ap, subst, ◌∙◌, arith, drop-cons}
use Rattle.std.specs.Prelude.{slice_index_or}
use Rattle.nt_num.specs.declared.fault.ReadError.{ReadError}
use Rattle.nt_lists.specs.Chaining.{◌>>=◌}
use Rattle.nt_pagelists.specs.declared.column.KnownColumn.{KnownColumn}
use Rattle.nt_pagelists.specs.declared.cluster.ClusterSummary.{ClusterSummary}
use Rattle.nt_pagelists.specs.Columns.{unknown_column, is_sound_column, judged, judged_unlisted, least_first, ends_before}
use Rattle.std.proofs.lemmas.List.{drop_all}
use Rattle.std.specs.List.{list_all}
use Rattle.std.proofs.lemmas.Bool.Decides.{nat_tests}
use Rattle.nt_pagelists.proofs.ColumnsBack.{unlisted-fine}

-- the column that is judged next
judged-first : (k : ClusterSummary) (frame i : ℕ) (columns : List KnownColumn) → i < length columns
    → judged_unlisted k frame i (drop i columns) ≡ (judged k i (slice_index_or columns i unknown_column) 0 frame [] 0 >>= λ fine.
    judged_unlisted k frame (i + 1) (drop (i + 1) columns))
judged-first k frame i columns lt =
    let same : suc i ≡ i + 1 = omega arith in
    ap (judged_unlisted k frame i) (drop-cons columns i unknown_column lt)
    ∙ ap (λ (j : ℕ). judged k i (slice_index_or columns i unknown_column) 0 frame [] 0 >>= λ fine. judged_unlisted k frame (i + 1)
    (drop j columns)) same

pub unlisted-next : (k : ClusterSummary) (frame i : ℕ) (c : KnownColumn) (columns : List KnownColumn)
    (all : Result (Unit {0}) ReadError) → i < length columns → c ≡ slice_index_or columns i unknown_column
    → judged k i c 0 frame [] 0 ≡ Ok tt → judged_unlisted k frame i (drop i columns)
    ≡ all → judged_unlisted k frame (i + 1) (drop (i + 1) columns) ≡ all
unlisted-next k frame i c columns all lt of e h =
    let read = subst (λ (x : KnownColumn). judged k i x 0 frame [] 0 ≡ Ok tt) of e in
    sym (judged-first k frame i columns lt ∙ ap (λ (r : Result (Unit {0}) ReadError). r >>= λ fine. judged_unlisted k frame (i + 1)
    (drop (i + 1) columns)) read) ∙ h

pub unlisted-fail : (k : ClusterSummary) (frame i : ℕ) (c : KnownColumn) (columns : List KnownColumn) (d : ReadError)
    (all : Result (Unit {0}) ReadError) → i < length columns → c ≡ slice_index_or columns i unknown_column
    → judged k i c 0 frame [] 0 ≡ Err d → judged_unlisted k frame i (drop i columns) ≡ all → all ≡ Err d
unlisted-fail k frame i c columns d all lt of e h =
    let read = subst (λ (x : KnownColumn). judged k i x 0 frame [] 0 ≡ Err d) of e in
    sym h ∙ (judged-first k frame i columns lt ∙ ap (λ (r : Result (Unit {0}) ReadError). r >>= λ fine. judged_unlisted k frame
    (i + 1) (drop (i + 1) columns)) read)

pub unlisted-done : (k : ClusterSummary) (frame i : ℕ) (columns : List KnownColumn) (all : Result (Unit {0}) ReadError)
    → length columns ≤ i → judged_unlisted k frame i (drop i columns) ≡ all → all ≡ Ok tt
unlisted-done k frame i columns all le h = sym h ∙ ap (judged_unlisted k frame i) (drop_all i columns le)

pub ruleset unlisted_steps = (unlisted-next, unlisted-fail, unlisted-done)

-- the tests of a column without pages, on plain numbers
fine-plain : (o p z : Bool) (from n f least : ℕ) → (eqb n 0 || leb (from + n) (cond (o && p) (min f least) least)) ≡ true
    → (not (o && p && ltb from f && ltb f (from + n)) && ((not (o && p) || cond (eqb n 0 || ltb from f) true (eqb 0 n))
    && (not o || eqb 0 0 || z))) ≡ true
fine-plain o p z from n f least h = grind (arith, nat_tests, h)

fine-late : (k : ClusterSummary) (c : KnownColumn) (least : ℕ)
    → ends_before k (cond (c.is_open && c.is_principal) (min c.first least) least) ≡ true → is_sound_column k c 0 [] 0 ≡ true
fine-late k c least h = fine-plain c.is_open c.is_principal (eqb 0 (c.first + 0)) k.first k.entries c.first least h

before-less : (k : ClusterSummary) (a b : ℕ) → a ≤ b → ends_before k a ≡ true → ends_before k b ≡ true
before-less k a b le h = grind (arith, nat_tests, h)

least-tail : (c : KnownColumn) (cs : List KnownColumn) → least_first (c ∷ cs) ≤ least_first cs
least-tail c cs = cut (c.is_open && c.is_principal) c.first (least_first cs)
  where
    cut : (b : Bool) (f l : ℕ) → cond b (min f l) l ≤ l
    cut true f l = omega arith
    cut false f l = omega arith

pub all-late : (k : ClusterSummary) (cs : List KnownColumn) → ends_before k (least_first cs) ≡ true
    → list_all (λ c. is_sound_column k c 0 [] 0) cs ≡ true
all-late k [] h = refl
all-late k (c ∷ cs) h = rw (
  fine-late k c (least_first cs) h,
  all-late k cs (before-less k (least_first (c ∷ cs)) (least_first cs) (least-tail c cs) h),
) refl

-- where a cluster lies before the columns that it doesn't list, nothing is wrong with them
pub unlisted_late : (k : ClusterSummary) (frame id first : ℕ) (columns : List KnownColumn) → id ≤ length columns
    → first ≡ least_first (drop id columns) → ends_before k first ≡ true → judged_unlisted k frame id (drop id columns) ≡ Ok tt
unlisted_late k frame id first columns le is late =
    unlisted-fine k frame id (drop id columns) (all-late k (drop id columns) (subst (λ (n : ℕ). ends_before k n ≡ true) is late))
