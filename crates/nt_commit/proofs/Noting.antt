-- Page lists that a book notes, while the book grows behind them.
use Rattle.std.proofs.Common.{◌≡◌, ◌∙◌, ap, sym, refl, subst, ℕ, zero, suc, ◌+◌, ◌*◌, ◌≤◌, ◌&&◌, ◌==◌, Bool, true, false, cond, List, []}
use Rattle.std.proofs.Common.{◌∷◌}
use Rattle.std.proofs.Common.{◌++◌, length, map, take, drop, Option, Some, None, arith}
use Rattle.std.proofs.Math.Nat.{zero-mul, one-mul, add-mul}
use Rattle.std.proofs.lemmas.List.{length-map, length-append}
use Rattle.std.proofs.lemmas.List.Sums.{sum_by-cons}
use Rattle.nt_lists.specs.Parts.{Part}
use Rattle.nt_outside.specs.Held.{Held}
use Rattle.nt_machine.specs.declared.entry.Entry.{Entry}
use Rattle.nt_machine.specs.declared.entry.EntryKind.{EntryKind}
use Rattle.nt_machine.specs.declared.entry.EntryKind.TheVariants as entry
use Rattle.nt_machine.specs.History.{Cluster, Fate, Out, Settled, Spoiled, is_out, handed_back, after_kind, ranges_of}
use Rattle.nt_machine.specs.Untold.{untold, with_bytes}
use Rattle.nt_machine.proofs.Legality.{ranges_of-snoc}
use Rattle.nt_machine.proofs.Untelling.{same}
use Rattle.nt_book.specs.declared.list.NotedList.{NotedList}
use Rattle.nt_book.specs.declared.meta.ClusterMeta.{ClusterMeta}
use Rattle.nt_book.specs.Books.{BookData}
use Rattle.nt_book.specs.Listing.{clusters_listed, lists_bytes}
use Rattle.nt_logged.specs.Tails.{range_steps}
use Rattle.nt_logged.specs.Steps.{told_bytes, told_history}
use Rattle.nt_pagelists.specs.Objects.{ClusterSpan, list_object, list_len}
use Rattle.nt_pagelists.specs.Staying.{without_fate}
use Rattle.nt_commit.specs.Lists.{IsNoted, AreNoted, groups_len}

module _ (i n : ℕ) (fate : Fate) where
  stays-handed : (k : ℕ) (cs : List (Cluster ClusterMeta))
      → map without_fate (take k (map (handed_back i n fate) cs)) ≡ map without_fate (take k cs)
  stays-handed zero cs = refl
  stays-handed (suc k) [] = refl
  stays-handed (suc k) (c ∷ cs) =
      ap (λ (d : Cluster ClusterMeta). d ∷ map without_fate (take k (map (handed_back i n fate) cs)))
      (at (c.context == i && c.number == n && is_out c.state))
      ∙ ap (λ (l : List (Cluster ClusterMeta)). without_fate c ∷ l) (stays-handed k cs)
    where
      at : (b : Bool) → without_fate (cond b (record c { state = fate }) c) ≡ without_fate c
      at true = refl
      at false = refl

stays-behind : (k : ℕ) (cs more : List (Cluster ClusterMeta)) → k ≤ length cs
    → map without_fate (take k (cs ++ more)) ≡ map without_fate (take k cs)
stays-behind zero cs more le = refl
stays-behind (suc k) [] more le = absurd (omega (arith, le))
stays-behind (suc k) (c ∷ cs) more le =
    ap (λ (l : List (Cluster ClusterMeta)). without_fate c ∷ l) (stays-behind k cs more (omega (arith, le)))

-- the clusters below stay with one entry more, whatever became of their ranges
stays-kind : (k : ℕ) (cs : List (Cluster ClusterMeta)) (i : ℕ) (kind : EntryKind ClusterMeta) → k ≤ length cs
    → map without_fate (take k (after_kind cs i kind)) ≡ map without_fate (take k cs)
stays-kind k cs i (entry.Committed n start len meta) le = stays-behind k cs _ le
stays-kind k cs i (entry.Reserved n start len meta) le = stays-behind k cs _ le
stays-kind k cs i (entry.Published ns) le = refl
stays-kind k cs i (entry.Settled n bytes) le = stays-handed i n (Settled bytes) k cs
stays-kind k cs i (entry.Spoiled n faults) le = stays-handed i n (Spoiled faults) k cs
stays-kind k cs i (entry.Faulted faults) le = refl

more-kind : (cs : List (Cluster ClusterMeta)) (i : ℕ) (kind : EntryKind ClusterMeta) → length cs ≤ length (after_kind cs i kind)
more-kind cs i (entry.Committed n start len meta) =
    let more : Cluster ClusterMeta = record { context = i; number = n; start = start; len = len; meta = meta; state = Out } in
    omega (arith, length-append cs (more ∷ []))
more-kind cs i (entry.Reserved n start len meta) =
    let more : Cluster ClusterMeta = record { context = i; number = n; start = start; len = len; meta = meta; state = Out } in
    omega (arith, length-append cs (more ∷ []))
more-kind cs i (entry.Published ns) = omega arith
more-kind cs i (entry.Settled n bytes) = omega (arith, length-map cs (handed_back i n (Settled bytes)))
more-kind cs i (entry.Spoiled n faults) = omega (arith, length-map cs (handed_back i n (Spoiled faults)))
more-kind cs i (entry.Faulted faults) = omega arith

pub stays-snoc : (k : ℕ) (history : List (Entry ClusterMeta)) (e : Entry ClusterMeta) → k ≤ length (ranges_of history)
    → map without_fate (take k (ranges_of (history ++ e ∷ []))) ≡ map without_fate (take k (ranges_of history))
stays-snoc k history e le =
    ap (λ (l : List (Cluster ClusterMeta)). map without_fate (take k l)) (ranges_of-snoc history e)
    ∙ stays-kind k (ranges_of history) e.context e.kind le

pub more-snoc : (history : List (Entry ClusterMeta)) (e : Entry ClusterMeta)
    → length (ranges_of history) ≤ length (ranges_of (history ++ e ∷ []))
more-snoc history e =
    omega (
      arith,
      more-kind (ranges_of history) e.context e.kind,
      ap (λ (l : List (Cluster ClusterMeta)). length l) (ranges_of-snoc history e),
    )

stays-untold : (k : ℕ) (cs ds : List (Cluster ClusterMeta)) → map untold cs ≡ map untold ds
    → map without_fate (take k cs) ≡ map without_fate (take k ds)
stays-untold zero cs ds is = refl
stays-untold (suc k) [] [] is = refl
stays-untold (suc k) [] (d ∷ ds) is = absurd (cc is)
stays-untold (suc k) (c ∷ cs) [] is = absurd (cc is)
stays-untold (suc k) (c ∷ cs) (d ∷ ds) is =
    let first : untold c ≡ untold d = cc is in
    let rest : map untold cs ≡ map untold ds = cc is in
    ap (λ (e : Cluster ClusterMeta). without_fate e ∷ map without_fate (take k cs)) first
    ∙ ap (λ (l : List (Cluster ClusterMeta)). without_fate d ∷ l) (stays-untold k cs ds rest)

-- a history with its bytes has the clusters that it has without
pub stays-told : (k : ℕ) (begun now : Option Held) (history : List (Entry ClusterMeta))
    → map without_fate (take k (ranges_of (told_history begun now history))) ≡ map without_fate (take k (ranges_of history))
stays-told k None now history = refl
stays-told k (Some h) None history = refl
stays-told k (Some h) (Some h') history =
    let told = told_bytes history (range_steps (drop (length h.log) h'.log)) in
    stays-untold k (ranges_of (with_bytes history told)) (ranges_of history) (same history told)

-- the page lists of the first so many clusters are the same
abbrev pub SameLists : ℕ → ℕ → BookData → BookData → Type 0
SameLists sum clusters old new = (s : ClusterSpan) → s.from + s.count ≤ clusters → list_object sum new s ≡ list_object sum old s

pub suc-times : (n most : ℕ) → suc n * most ≡ most + n * most
suc-times n most = omega (arith, add-mul n 1 most, one-mul most)

pub times : (most : ℕ) (ls : List NotedList) → clusters_listed most ls ≡ length ls * most
times most [] = sym (zero-mul most)
times most (l ∷ ls) = omega (arith, times most ls, suc-times (length ls) most)

module _ (sum most : ℕ) where
  -- what is noted stays noted
  pub noted-same : (clusters : ℕ) (old new : BookData) → SameLists sum clusters old new
      → (from : ℕ) (ls : List NotedList) (ps : List Part) → from + clusters_listed most ls ≤ clusters
      → AreNoted sum most old from ls ps → AreNoted sum most new from ls ps
  noted-same clusters old new same from [] [] le h = tt
  noted-same clusters old new same from [] (p ∷ ps) le h = absurd h
  noted-same clusters old new same from (l ∷ ls) [] le h = absurd h
  noted-same clusters old new same from (l ∷ ls) (p ∷ ps) le h =
      let is : list_object sum old (record { from = from; count = most }) ≡ list_object sum new (record { from = from; count = most }) =
      sym (same (record { from = from; count = most }) (omega (arith, le))) in (
        subst (λ (object : List ℕ). IsNoted object l p) is h.0,
        noted-same clusters old new same (from + most) ls ps (omega (arith, le)) h.1,
      )

  -- where none is noted, none is
  pub noted-none : (old new : BookData) (from : ℕ) (ls : List NotedList) (ps : List Part) → ls ≡ []
      → AreNoted sum most old from ls ps → AreNoted sum most new from ls ps
  noted-none old new from [] [] none h = tt
  noted-none old new from [] (p ∷ ps) none h = absurd h
  noted-none old new from (l ∷ ls) ps none h = absurd (cc none)

  -- one list more
  pub noted-snoc : (book : BookData) (from : ℕ) (ls : List NotedList) (ps : List Part) (l : NotedList) (p : Part)
      → AreNoted sum most book from ls ps
      → IsNoted (list_object sum book (record { from = from + clusters_listed most ls; count = most })) l p
      → AreNoted sum most book from (ls ++ l ∷ []) (ps ++ p ∷ [])
  noted-snoc book from [] [] l p h next =
      (subst (λ (m : ℕ). IsNoted (list_object sum book (record { from = m; count = most })) l p) (omega arith) next, tt)
  noted-snoc book from [] (q ∷ qs) l p h next = absurd h
  noted-snoc book from (k ∷ ks) [] l p h next = absurd h
  noted-snoc book from (k ∷ ks) (q ∷ qs) l p h next = (
    h.0,
    noted-snoc book (from + most) ks qs l p h.1
        (subst (λ (m : ℕ). IsNoted (list_object sum book (record { from = m; count = most })) l p) (omega arith) next),
  )

  -- the lists that are noted are those of the first groups
  pub noted-len : (book : BookData) (from : ℕ) (ls : List NotedList) (ps : List Part) → AreNoted sum most book from ls ps
      → lists_bytes ls ≡ groups_len sum book most from (length ls)
  noted-len book from [] [] h = refl
  noted-len book from [] (p ∷ ps) h = absurd h
  noted-len book from (l ∷ ls) [] h = absurd h
  noted-len book from (l ∷ ls) (p ∷ ps) h =
      let len : l.len ≡ list_len sum book (record { from = from; count = most }) = ap (λ (k : NotedList). k.len) h.0.noted in
      omega (arith, len, sum_by-cons (λ (k : NotedList). k.len) l ls, noted-len book (from + most) ls ps h.1)

  pub groups-snoc : (book : BookData) (from n : ℕ)
      → groups_len sum book most from (suc n)
      ≡ groups_len sum book most from n + list_len sum book (record { from = from + n * most; count = most })
  groups-snoc book from zero =
      omega (arith, ap (λ (m : ℕ). list_len sum book (record { from = m; count = most })) (none from))
    where
      none : (from : ℕ) → from ≡ from + 0 * most
      none from = omega (arith, zero-mul most)
  groups-snoc book from (suc n) =
      omega (
        arith,
        groups-snoc book (from + most) n,
        ap (λ (m : ℕ). list_len sum book (record { from = m; count = most })) (next from n),
      )
    where
      next : (from n : ℕ) → from + most + n * most ≡ from + suc n * most
      next from n = omega (arith, suc-times n most)

  pub groups-more : (book : BookData) (n m from : ℕ) → n ≤ m → groups_len sum book most from n ≤ groups_len sum book most from m
  groups-more book zero m from le = omega arith
  groups-more book (suc n) zero from le = absurd (omega (arith, le))
  groups-more book (suc n) (suc m) from le = omega (arith, groups-more book n m (from + most) (omega (arith, le)))

  pub groups-same : (clusters : ℕ) (old new : BookData) → SameLists sum clusters old new → (n from : ℕ) → from + n * most ≤ clusters
      → groups_len sum new most from n ≡ groups_len sum old most from n
  groups-same clusters old new same zero from le = refl
  groups-same clusters old new same (suc n) from le =
      omega (
        arith,
        ap (λ (object : List ℕ). length object) (same (record { from = from; count = most }) (omega (arith, le, suc-times n most))),
        groups-same clusters old new same n (from + most) (omega (arith, le, suc-times n most)),
      )
