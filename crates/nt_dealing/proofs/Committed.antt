-- The limit that the next chunk of a context passes is one that the file of all chunks passes.
use Rattle.std.proofs.Common.{◌≡◌, ◌≢◌, sym, refl, subst, ℕ, zero, suc, ◌+◌, ◌<◌, ◌≤◌, ◌==◌, Bool, true, false, List, [], ◌∷◌}
use Rattle.std.proofs.Common.{◌++◌, length, map, take, Some, None, if◌then◌else◌, sum_by, arith, inl, inr}
use Rattle.std.specs.Prelude.{slice_get, slice_index_or, nat_lt}
use Rattle.std.specs.List.{AllByRecursion, AllZip}
use borrow.Author.Tests.{ltb-true, eqb-true}
use Rattle.std.proofs.lemmas.Bool.{cases_lt, eq-eqb}
use Rattle.std.proofs.lemmas.List.Sums.{sum_by-cons}
use Rattle.nt_lists.proofs.Variants.{some_is}
use Rattle.nt_turn.specs.History.{HasNone}
use Rattle.nt_types.specs.TreeData.{TreesData}
use Rattle.nt_grammar.specs.Table.{Table}
use Rattle.nt_machine.specs.declared.entry.Entry.{Entry}
use Rattle.nt_machine.specs.History.{Cluster, mine_of, ranges_of, IsIdle}
use Rattle.nt_book.specs.declared.meta.ClusterMeta.{ClusterMeta}
use Rattle.nt_book.specs.declared.limits.Limits.{Limits}
use Rattle.nt_book.specs.declared.limits.LimitError.{LimitError}
use Rattle.nt_book.specs.declared.limits.LimitError.TheVariants as limit
use Rattle.nt_book.specs.Limiting.{limit_error_with}
use Rattle.nt_dealing.specs.Written.{CommittedFirst, AllCommittedFrom, HaveCommitted}
use Rattle.nt_dealing.specs.Limits.{IsKeptOf, AreKeptOf}
use Rattle.nt_dealing.proofs.Fronts.{idle_ranges}

-- a range is that of a chunk
pub record IsRangeOf (t : Table) (page : ℕ) (chunk : List TreesData) (c : Cluster ClusterMeta) : Type 0 where
  pub kept : IsKeptOf t page chunk c.meta
  pub len : c.len ≡ c.meta.len

ranges_are : (t : Table) (page : ℕ) (xs : List (List TreesData)) (cs : List (Cluster ClusterMeta))
    → AreKeptOf t page xs (map (λ (c : Cluster ClusterMeta). c.meta) cs)
    → AllByRecursion (λ (c : Cluster ClusterMeta). c.len ≡ c.meta.len) cs → AllZip (IsRangeOf t page) xs cs
ranges_are t page [] [] kept lens = tt
ranges_are t page [] (c ∷ cs) kept lens = absurd kept
ranges_are t page (x ∷ xs) [] kept lens = absurd kept
ranges_are t page (x ∷ xs) (c ∷ cs) kept lens = (record { kept = kept.0; len = lens.0 }, ranges_are t page xs cs kept.1 lens.1)

pub kept_are : (t : Table) (page : ℕ) (xs : List (List TreesData)) (cs : List (Cluster ClusterMeta)) → AllZip (IsRangeOf t page) xs cs
    → AreKeptOf t page xs (map (λ (c : Cluster ClusterMeta). c.meta) cs)
kept_are t page [] [] zip = tt
kept_are t page [] (c ∷ cs) zip = absurd zip
kept_are t page (x ∷ xs) [] zip = absurd zip
kept_are t page (x ∷ xs) (c ∷ cs) zip = (zip.0.kept, kept_are t page xs cs zip.1)

pub lens_are : (t : Table) (page : ℕ) (xs : List (List TreesData)) (cs : List (Cluster ClusterMeta)) → AllZip (IsRangeOf t page) xs cs
    → sum_by (λ (c : Cluster ClusterMeta). c.len) cs ≡ sum_by (λ (m : ClusterMeta). m.len) (map (λ (c : Cluster ClusterMeta). c.meta) cs)
lens_are t page [] [] zip = refl
lens_are t page [] (c ∷ cs) zip = absurd zip
lens_are t page (x ∷ xs) [] zip = absurd zip
lens_are t page (x ∷ xs) (c ∷ cs) zip =
    let one = zip.0.len in
    omega (
      arith,
      sum_by-cons (λ (d : Cluster ClusterMeta). d.len) c cs,
      sum_by-cons (λ (m : ClusterMeta). m.len) c.meta (map (λ (d : Cluster ClusterMeta). d.meta) cs),
      one,
      lens_are t page xs cs zip.1,
    )

pub kept_more : (t : Table) (page : ℕ) (xs : List (List TreesData)) (ms : List ClusterMeta) (x : List TreesData) (m : ClusterMeta)
    → AreKeptOf t page xs ms → IsKeptOf t page x m
    → AreKeptOf t page (xs ++ x ∷ []) (ms ++ m ∷ [])
kept_more t page [] [] x m kept one = (one, tt)
kept_more t page [] (n ∷ ms) x m kept one = absurd kept
kept_more t page (y ∷ xs) [] x m kept one = absurd kept
kept_more t page (y ∷ xs) (n ∷ ms) x m kept one = (kept.0, kept_more t page xs ms x m kept.1 one)

module _ (t : Table) (page : ℕ) (history : List (Entry ClusterMeta)) where
  abbrev AreKeptHere : List (ℕ × List (Entry ClusterMeta)) → Type 0
  AreKeptHere kept = AllByRecursion (λ (k : ℕ × List (Entry ClusterMeta)). k.1 ≡ mine_of history k.0) kept

  committed_at : (i : ℕ) (chunks : List (List (List TreesData))) (kept : List (ℕ × List (Entry ClusterMeta)))
      → AllCommittedFrom t page i chunks kept → AreKeptHere kept → (j : ℕ) → j < length chunks
      → CommittedFirst t page (slice_index_or chunks j []) (mine_of history (i + j))
  committed_at i [] [] h kept j less = absurd (omega arith)
  committed_at i [] (k ∷ ks) h kept j less = absurd h
  committed_at i (cs ∷ css) [] h kept j less = absurd h
  committed_at i (cs ∷ css) (k ∷ ks) h kept zero less =
      let here : k.0 ≡ i + 0 = omega (arith, h.0) in
      subst (λ (n : ℕ). CommittedFirst t page cs (mine_of history n)) here
      (subst (λ (l : List (Entry ClusterMeta)). CommittedFirst t page cs l) kept.0 h.1)
  committed_at i (cs ∷ css) (k ∷ ks) h kept (suc j) less =
      let next : i + 1 + j ≡ i + suc j = omega arith in
      subst (λ (n : ℕ). CommittedFirst t page (slice_index_or css j []) (mine_of history n)) next
      (committed_at (i + 1) css ks h.2 kept.1 j (omega arith))

  none_kept : (i : ℕ) (chunks : List (List (List TreesData))) (kept : List (ℕ × List (Entry ClusterMeta)))
      → AllCommittedFrom t page i chunks kept → (n : ℕ) → i + length chunks ≤ n → HasNone kept n
  none_kept i [] [] h n behind = tt
  none_kept i [] (k ∷ ks) h n behind = absurd h
  none_kept i (cs ∷ css) [] h n behind = absurd h
  none_kept i (cs ∷ css) (k ∷ ks) h n behind =
      let not : k.0 ≢ n = λ is. omega (arith, is, h.0, behind) in
      (not, none_kept (i + 1) css ks h.2 n (omega arith))

  pub own_kept : (kept : List (ℕ × List (Entry ClusterMeta))) (j i : ℕ) (own : List (Entry ClusterMeta)) → AreKeptHere kept
      → slice_get kept j ≡ Some (i, own) → own ≡ mine_of history i
  own_kept [] j i own are at = cc
  own_kept (k ∷ ks) zero i own are at =
      let same : k ≡ (i, own) = some_is k (i, own) at in
      subst (λ (p : ℕ × List (Entry ClusterMeta)). p.1 ≡ mine_of history p.0) same are.0
  own_kept (k ∷ ks) (suc j) i own are at = own_kept ks j i own are.1 at

  idle_from : (number n : ℕ) (own : List (Entry ClusterMeta)) → own ≡ mine_of history number → IsIdle own
      → (n ≢ number → mine_of history n ≡ []) → IsIdle (mine_of history n)
  idle_from number n own is idle others = at (n == number) refl
    where
      at : (b : Bool) → (n == number) ≡ b → IsIdle (mine_of history n)
      at true e =
          let same : number ≡ n = sym (eqb-true n number e) in
          subst (λ (m : ℕ). IsIdle (mine_of history m)) same (subst (λ (l : List (Entry ClusterMeta)). IsIdle l) is idle)
      at false e =
          let differ : n ≢ number = λ same. let yes : (n == number) ≡ true = eq-eqb n number same in cc in
          subst (λ (l : List (Entry ClusterMeta)). IsIdle l) (sym (others differ)) tt

  -- what a context has in a history is a front of its chunks
  abbrev pub IsFront : List (List (List TreesData)) → ℕ → Type 0
  IsFront chunks i =
      AllZip (IsRangeOf t page) (take (length (ranges_of (mine_of history i))) (slice_index_or chunks i []))
      (ranges_of (mine_of history i))

  pub each_front : (chunks : List (List (List TreesData))) (number : ℕ) (own : List (Entry ClusterMeta))
      (kept : List (ℕ × List (Entry ClusterMeta)))
      → HaveCommitted t page chunks number own kept → AreKeptHere kept → own ≡ mine_of history number
      → ((n : ℕ) → n ≢ number → HasNone kept n → mine_of history n ≡ []) → (i : ℕ)
      → IsFront chunks i
  each_front chunks number own kept have are is others i = elim (cases_lt i (length chunks)) [
    | inl low ↦ below low
    | inr high ↦ above high
  ]
    where
      below : i < length chunks
          → IsFront chunks i
      below low =
          let none : 0 + i ≡ i = omega arith in
          let c : CommittedFirst t page (slice_index_or chunks i []) (mine_of history i) =
          subst (λ (n : ℕ). CommittedFirst t page (slice_index_or chunks i []) (mine_of history n)) none
          (committed_at 0 chunks kept have.each are i low) in
          ranges_are t page (take (length (ranges_of (mine_of history i))) (slice_index_or chunks i [])) (ranges_of (mine_of history i))
          c.kept c.lengths

      above : length chunks ≤ i
          → IsFront chunks i
      above high =
          let idle : IsIdle (mine_of history i) =
          idle_from number i own is have.idle (λ differ. others i differ (none_kept 0 chunks kept have.each i (omega (arith, high)))) in
          let empty : ranges_of (mine_of history i) ≡ [] = idle_ranges [] (mine_of history i) idle in
          subst (λ (l : List (Cluster ClusterMeta)). AllZip (IsRangeOf t page) (take (length l) (slice_index_or chunks i [])) l)
          (sym empty) tt

-- an error by the limit that it names
pub by_limit : (P : LimitError → Type 0) (limits : Limits) (end count len list : ℕ) (error : LimitError)
    → limit_error_with limits end count len list ≡ Some error
    → (limits.range < len → P (limit.RangeTooLarge len limits.range))
    → (limits.range < list → P (limit.RangeTooLarge list limits.range))
    → (limits.file < end + list + len → P (limit.FileTooLarge (end + list + len) limits.file))
    → (count ≡ limits.clusters → P limit.TooManyClusters) → P error
by_limit P limits end count len list error is range lists file clusters =
    first (nat_lt limits.range len) (nat_lt limits.range list) (nat_lt limits.file (end + list + len)) (count == limits.clusters)
    (ltb-true limits.range len) (ltb-true limits.range list) (ltb-true limits.file (end + list + len)) (eqb-true count limits.clusters) is
  where
    first : (a b c d : Bool) → (a ≡ true → limits.range < len) → (b ≡ true → limits.range < list)
        → (c ≡ true → limits.file < end + list + len) → (d ≡ true → count ≡ limits.clusters)
        → (if a then Some (limit.RangeTooLarge len limits.range) else if b then Some (limit.RangeTooLarge list limits.range)
        else if c then Some (limit.FileTooLarge (end + list + len) limits.file) else if d then Some limit.TooManyClusters else None)
        ≡ Some error
        → P error
    first true b c d one two three four e = subst P (some_is (limit.RangeTooLarge len limits.range) error e) (range (one refl))
    first false true c d one two three four e = subst P (some_is (limit.RangeTooLarge list limits.range) error e) (lists (two refl))
    first false false true d one two three four e =
        subst P (some_is (limit.FileTooLarge (end + list + len) limits.file) error e) (file (three refl))
    first false false false true one two three four e = subst P (some_is limit.TooManyClusters error e) (clusters (four refl))
    first false false false false one two three four e = cc
