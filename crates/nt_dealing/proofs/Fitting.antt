-- The chunks that contexts committed pass no limit.
use Rattle.std.proofs.Common.{◌≡◌, ◌∙◌, ap, sym, refl, subst, ℕ, zero, suc, ◌+◌, ◌≤◌, ◌==◌, Bool, true, false, cond, List, [], ◌∷◌, ◌++◌}
use Rattle.std.proofs.Common.{length, map, take, sum_by, arith}
use Rattle.std.specs.List.{AllByRecursion, AllZip}
use Rattle.std.proofs.lemmas.Bool.{eqb-true, eqb-false}
use Rattle.std.proofs.lemmas.List.{length-append}
use Rattle.std.proofs.lemmas.List.Sums.{sum_by-cons, sum_by-append}
use Rattle.std.proofs.lemmas.Slice.Zip.{AllZip-long}
use Rattle.nt_turn.specs.Pass.{PassState, Closes}
use Rattle.nt_types.specs.TreeData.{TreesData}
use Rattle.nt_grammar.specs.Table.{Table}
use Rattle.nt_outside.specs.Disk.{DiskState}
use Rattle.nt_machine.specs.declared.entry.Entry.{Entry}
use Rattle.nt_machine.specs.History.{Cluster, mine_of, own_of, ranges_of}
use Rattle.nt_machine.proofs.Histories.{own-fold, AllByRecursion-append}
use Rattle.nt_book.specs.declared.limits.Limits.{Limits}
use Rattle.nt_book.specs.declared.meta.ClusterMeta.{ClusterMeta}
use Rattle.nt_book.specs.declared.params.Params.{Params}
use Rattle.nt_book.specs.Books.{BookData}
use Rattle.nt_commit.specs.declared.locked.Birth.{Birth}
use Rattle.nt_commit.specs.Locked.{IsInStep, birth_of, context_of, history_of_locked, locked_by}
use Rattle.nt_dealing.specs.Begun.{IsBornFor}
use Rattle.nt_dealing.specs.Limits.{IsKeptOf, AreKeptOf}
use Rattle.nt_dealing.specs.Written.{AllCommittedFrom, HaveCommitted}
use Rattle.nt_dealing.specs.Failing.{committed_chunks, CommitsFit}
use Rattle.nt_dealing.proofs.Fronts.{own-here, own-other}
use Rattle.nt_dealing.proofs.Lists.{sum_by-same}

-- the sum over so many numbers from one on
abbrev total : ℕ → ℕ → (ℕ → ℕ) → ℕ
total i zero f = 0
total i (suc n) f = f i + total (suc i) n f

total-same : (g h : ℕ → ℕ) (i n : ℕ) → ((j : ℕ) → h j ≡ g j) → total i n h ≡ total i n g
total-same g h i zero same = refl
total-same g h i (suc n) same = omega (arith, same i, total-same g h (suc i) n same)

total-none : (i n : ℕ) → total i n (λ j. 0) ≡ 0
total-none i zero = refl
total-none i (suc n) = omega (arith, total-none (suc i) n)

total-less : (g h : ℕ → ℕ) (i n : ℕ) → ((j : ℕ) → i ≤ j → h j ≤ g j) → total i n h ≤ total i n g
total-less g h i zero less = omega arith
total-less g h i (suc n) less =
    omega (arith, less i (omega arith), total-less g h (suc i) n (λ j up. less j (omega (arith, up))))

-- the sum where one number has more
total-one : (g h : ℕ → ℕ) (a k i n : ℕ) → h k ≤ a + g k → ((j : ℕ) → (j ≡ k → ⊥) → h j ≤ g j) → total i n h ≤ a + total i n g
total-one g h a k i zero here other = omega arith
total-one g h a k i (suc n) here other = at (total-one g h a k (suc i) n here other) (i == k) refl
  where
    at : total (suc i) n h ≤ a + total (suc i) n g → (b : Bool) → (i == k) ≡ b → h i + total (suc i) n h ≤ a + (g i + total (suc i) n g)
    at later true e =
        let same : i ≡ k = eqb-true i k e in
        let first : h i ≤ a + g i = subst (λ (m : ℕ). h m ≤ a + g m) (sym same) here in
        let rest = total-less g h (suc i) n (λ j up. other j (λ is. omega (arith, is, same, up))) in
        omega (arith, first, rest)
    at later false e = omega (arith, other i (eqb-false i k e), later)

-- the parts of some contexts make no more than the whole
parts-within : {M : Type 0} (f : Cluster M → ℕ) (cs : List (Cluster M)) (i n : ℕ) → total i n (λ j. sum_by f (own_of cs j)) ≤ sum_by f cs
parts-within f [] i n = omega (arith, total-none i n)
parts-within f (c ∷ cs) i n =
    let here : sum_by f (own_of (c ∷ cs) c.context) ≡ f c + sum_by f (own_of cs c.context) =
    ap (λ (l : List (Cluster _)). sum_by f l) (own-here c cs) ∙ sum_by-cons f c (own_of cs c.context) in
    let other : (j : ℕ) → (j ≡ c.context → ⊥) → sum_by f (own_of (c ∷ cs) j) ≡ sum_by f (own_of cs j) =
    λ j differ. ap (λ (l : List (Cluster _)). sum_by f l) (own-other c cs j differ) in
    let one = total-one (λ j. sum_by f (own_of cs j)) (λ j. sum_by f (own_of (c ∷ cs) j)) (f c) c.context i n (omega (arith, here))
    (λ j differ. omega (arith, other j differ)) in
    omega (arith, one, parts-within f cs i n, sum_by-cons f c cs)

-- what holds of each holds of those of a context
part-all : {M : Type 0} (P : Cluster M → Type 0) (cs : List (Cluster M)) (i : ℕ) → AllByRecursion P cs → AllByRecursion P (own_of cs i)
part-all P [] i all = tt
part-all P (c ∷ cs) i all = at (part-all P cs i all.1) (c.context == i)
  where
    at : AllByRecursion P (own_of cs i) → (b : Bool) → AllByRecursion P (cond b (c ∷ own_of cs i) (own_of cs i))
    at rest true = (all.0, rest)
    at rest false = rest

zip-append : {A B : Type 0} (R : A → B → Type 0) (xs : List A) (us : List B) (ys : List A) (vs : List B) → AllZip R xs us → AllZip R ys vs
    → AllZip R (xs ++ ys) (us ++ vs)
zip-append R [] [] ys vs one two = two
zip-append R [] (u ∷ us) ys vs one two = absurd one
zip-append R (x ∷ xs) [] ys vs one two = absurd one
zip-append R (x ∷ xs) (u ∷ us) ys vs one two = (one.0, zip-append R xs us ys vs one.1 two)

abbrev Range : Type 0
Range = Cluster ClusterMeta

abbrev metas : List Range → List ClusterMeta
metas cs = map (λ (c : Range). c.meta) cs

-- what is kept of ranges is as long as they are
metas-long : (cs : List Range) → AllByRecursion (λ (c : Range). c.len ≡ c.meta.len) cs
    → sum_by (λ (m : ClusterMeta). m.len) (metas cs) ≡ sum_by (λ (c : Range). c.len) cs
metas-long [] same = refl
metas-long (c ∷ cs) same =
    let one = same.0 in
    omega (
      arith,
      sum_by-cons (λ (m : ClusterMeta). m.len) c.meta (metas cs),
      sum_by-cons (λ (d : Range). d.len) c cs,
      one,
      metas-long cs same.1,
    )

metas-short : (most : ℕ) (cs : List Range) → AllByRecursion (λ (c : Range). c.len ≡ c.meta.len) cs
    → AllByRecursion (λ (c : Range). c.len ≤ most) cs
    → AllByRecursion (λ (m : ClusterMeta). m.len ≤ most) (metas cs)
metas-short most [] same short = tt
metas-short most (c ∷ cs) same short = let one = same.0 in (omega (arith, one, short.0), metas-short most cs same.1 short.1)

module _ (t : Table) (page most : ℕ) (history : List (Entry ClusterMeta))
    (short : AllByRecursion (λ (c : Range). c.len ≤ most) (ranges_of history)) where
  abbrev ranges_in : ℕ → List Range
  ranges_in j = ranges_of (mine_of history j)

  -- the committed chunks of contexts from this number on: what is kept of them, how long they are, and how many
  record Committed (i : ℕ) (chunks : List (List (List TreesData))) (kept : List (ℕ × List (Entry ClusterMeta))) : Type 0 where
    all : List ClusterMeta
    are : AreKeptOf t page (committed_chunks chunks kept) all
    low : AllByRecursion (λ (m : ClusterMeta). m.len ≤ most) all
    long : sum_by (λ (m : ClusterMeta). m.len) all ≡ total i (length kept) (λ j. sum_by (λ (c : Range). c.len) (ranges_in j))
    count : length (committed_chunks chunks kept) ≡ total i (length kept) (λ j. sum_by (λ (c : Range). 1) (ranges_in j))

  committed-from : (i : ℕ) (chunks : List (List (List TreesData))) (kept : List (ℕ × List (Entry ClusterMeta)))
      → AllCommittedFrom t page i chunks kept
      → AllByRecursion (λ (k : ℕ × List (Entry ClusterMeta)). k.1 ≡ mine_of history k.0) kept
      → Committed i chunks kept
  committed-from i [] [] have are = record { all = []; are = tt; low = tt; long = refl; count = refl }
  committed-from i [] (k ∷ kept) have are = absurd have
  committed-from i (own-chunks ∷ others) [] have are = absurd have
  committed-from i (own-chunks ∷ others) (k ∷ kept) have are =
      let mine : k.1 ≡ mine_of history i = are.0 ∙ ap (λ (n : ℕ). mine_of history n) have.0 in
      let cs = ranges_of k.1 in
      let here : cs ≡ ranges_in i = ap (λ (l : List (Entry ClusterMeta)). ranges_of l) mine in
      let first = take (length cs) own-chunks in
      let rest = committed-from (i + 1) others kept have.2 are.1 in
      let next : i + 1 ≡ suc i = omega arith in
      let low : AllByRecursion (λ (c : Range). c.len ≤ most) cs =
      subst (λ (l : List Range). AllByRecursion (λ (c : Range). c.len ≤ most) l) (own-fold [] history i ∙ sym here)
      (part-all (λ (c : Range). c.len ≤ most) (ranges_of history) i short) in
      let chunk-count : length first ≡ length cs =
      sym (AllZip-long (IsKeptOf t page) first (metas cs) have.1.kept) ∙ length-metas cs in
      let lens = λ (l : List Range). sum_by (λ (c : Range). c.len) l in
      let ones = λ (l : List Range). sum_by (λ (c : Range). 1) l in
      record {
        all = metas cs ++ rest.all;
        are = zip-append (IsKeptOf t page) first (metas cs) (committed_chunks others kept) rest.all have.1.kept rest.are;
        low = AllByRecursion-append (λ (m : ClusterMeta). m.len ≤ most) (metas cs) rest.all (metas-short most cs have.1.lengths low)
            rest.low;
        long =
            let rest-long : sum_by (λ (m : ClusterMeta). m.len) rest.all ≡ total (suc i) (length kept) (λ j. lens (ranges_in j)) =
            rest.long ∙ ap (λ (n : ℕ). total n (length kept) (λ j. lens (ranges_in j))) next in
            omega (
              arith,
              sum_by-append (λ (m : ClusterMeta). m.len) (metas cs) rest.all,
              metas-long cs have.1.lengths,
              rest-long,
              ap lens here,
            );
        count =
            let rest-count : length (committed_chunks others kept) ≡ total (suc i) (length kept) (λ j. ones (ranges_in j)) =
            rest.count ∙ ap (λ (n : ℕ). total n (length kept) (λ j. ones (ranges_in j))) next in
            omega (arith, length-append first (committed_chunks others kept), chunk-count, rest-count, sum_by-same 1 cs, ap ones here);
      }
    where
      length-metas : (cs : List Range) → length (metas cs) ≡ length cs
      length-metas [] = refl
      length-metas (c ∷ cs) = ap suc (length-metas cs)

  -- all committed chunks are no longer and no more than all ranges
  parts-are : (f : Range → ℕ) (n : ℕ) → total 0 n (λ j. sum_by f (ranges_in j)) ≤ sum_by f (ranges_of history)
  parts-are f n =
      let same = total-same (λ j. sum_by f (own_of (ranges_of history) j)) (λ j. sum_by f (ranges_in j)) 0 n
      (λ j. ap (λ (l : List Range). sum_by f l) (sym (own-fold [] history j))) in
      omega (arith, same, parts-within f (ranges_of history) 0 n)

module _ {D : Type 0} (state : D → DiskState) where
  pub committed-fit : (birth : Birth D) (disk : D) (book : BookData) (first : PassState (Entry ClusterMeta) (Birth D)) (t : Table)
      (p : Params) (chunks : List (List (List TreesData)))
      → Closes (history_of_locked state) birth_of context_of first (locked_by birth disk book)
      → IsInStep state (locked_by birth disk book) → IsBornFor state birth t p
      → HaveCommitted t p.page chunks first.number first.own first.kept → CommitsFit t p (committed_chunks chunks first.kept)
  committed-fit birth disk book first t p chunks closes step born have =
      let history : List (Entry ClusterMeta) = history_of_locked state (locked_by birth disk book) in
      let cs = ranges_of history in
      let range : birth.limits.range ≡ p.limits.range = ap (λ (l : Limits). l.range) born.limits in
      let short = subst (λ (n : ℕ). AllByRecursion (λ (c : Range). c.len ≤ n) cs) range step.short in
      let c = committed-from t p.page p.limits.range history short 0 chunks first.kept have.each closes.kept in
      let lens = parts-are t p.page p.limits.range history short (λ (c : Range). c.len) (length first.kept) in
      let ones = parts-are t p.page p.limits.range history short (λ (c : Range). 1) (length first.kept) in
      let all = sum_by-same 1 cs in
      record {
        metas = c.all;
        kept = c.are;
        short = c.low;
        file = λ some.
            let end = step.within.file (omega (arith, some, c.count, ones, all)) in
            omega (arith, end, born.end, c.long, lens, ap (λ (l : Limits). l.file) born.limits);
        few = omega (arith, step.within.few, c.count, ones, all, ap (λ (l : Limits). l.clusters) born.limits);
      }

-- the first of chunks that pass no limit pass none
record Split {A B : Type 0} (R : A → B → Type 0) (xs : List A) (ms : List B) : Type 0 where
  front : List B
  back : List B
  whole : ms ≡ front ++ back
  pairs : AllZip R xs front

split : {A B : Type 0} (R : A → B → Type 0) (xs ys : List A) (ms : List B) → AllZip R (xs ++ ys) ms → Split R xs ms
split R [] ys ms zip = record { front = []; back = ms; whole = refl; pairs = tt }
split R (x ∷ xs) ys [] zip = absurd zip
split R (x ∷ xs) ys (m ∷ ms) zip =
    let rest = split R xs ys ms zip.1 in
    record { front = m ∷ rest.front; back = rest.back; whole = ap (λ (l : List _). m ∷ l) rest.whole; pairs = (zip.0, rest.pairs) }

front-all : {A : Type 0} (P : A → Type 0) (xs ys : List A) → AllByRecursion P (xs ++ ys) → AllByRecursion P xs
front-all P [] ys all = tt
front-all P (x ∷ xs) ys all = (all.0, front-all P xs ys all.1)

pub front-fits : (t : Table) (p : Params) (xs ys : List (List TreesData)) → CommitsFit t p (xs ++ ys) → CommitsFit t p xs
front-fits t p xs ys fit =
    let s = split (IsKeptOf t p.page) xs ys fit.metas fit.kept in
    let len : ClusterMeta → ℕ = λ (m : ClusterMeta). m.len in
    let count = length-append xs ys in
    let long : sum_by len fit.metas ≡ sum_by len s.front + sum_by len s.back =
    ap (λ (l : List ClusterMeta). sum_by len l) s.whole ∙ sum_by-append len s.front s.back in
    record {
      metas = s.front;
      kept = s.pairs;
      short = front-all (λ (m : ClusterMeta). m.len ≤ p.limits.range) s.front s.back
          (subst (λ (l : List ClusterMeta). AllByRecursion (λ (m : ClusterMeta). m.len ≤ p.limits.range) l) s.whole fit.short);
      file = λ some. omega (arith, fit.file (omega (arith, some, count)), long);
      few = omega (arith, fit.few, count);
    }
