-- What a context has committed once its own list grew.
use Rattle.std.proofs.Common.{◌≡◌, ℕ, ◌==◌, ◌&&◌, Bool, true, false, cond, List, [], ◌∷◌, ◌++◌, length, map, take, Some, refl, sym, ap, ◌∙◌}
use Rattle.std.proofs.Common.{subst, append_assoc, arith}
use Rattle.std.specs.Prelude.{slice_get}
use Rattle.std.specs.List.{AllByRecursion, AllZip}
use Rattle.std.proofs.lemmas.List.{length-map, map-append, take_all, take-append-le}
use Rattle.std.proofs.lemmas.Slice.Zip.{AllZip-long}
use Rattle.nt_types.specs.TreeData.{TreesData}
use Rattle.nt_grammar.specs.Table.{Table}
use Rattle.nt_machine.specs.declared.entry.Entry.{Entry}
use Rattle.nt_machine.specs.declared.entry.EntryKind.TheVariants as entry
use Rattle.nt_machine.specs.History.{Fate, Out, Settled, Spoiled, Cluster, is_out, handed_back, after_entry, ranges_of, reserving}
use Rattle.nt_machine.proofs.Legality.{ranges_of-snoc}
use Rattle.nt_machine.proofs.Histories.{AllByRecursion-append, AllByRecursion-map}
use Rattle.nt_book.specs.declared.meta.ClusterMeta.{ClusterMeta}
use Rattle.nt_dealing.specs.Limits.{IsKeptOf, AreKeptOf}
use Rattle.nt_dealing.specs.Written.{CommittedFirst}
use Rattle.nt_contexts.specs.Filling.{HasCommitted}
use Rattle.nt_contexts.proofs.Chunking.{slice_get-seam}

-- lists that are related have one pair more
AllZip-more : {A B : Type 0} (R : A → B → Type 0) (xs : List A) (ys : List B) (x : A) (y : B) → AllZip R xs ys → R x y
    → AllZip R (xs ++ x ∷ []) (ys ++ y ∷ [])
AllZip-more R [] [] x y h r = (r, tt)
AllZip-more R [] (b ∷ ys) x y h r = absurd h
AllZip-more R (a ∷ xs) [] x y h r = absurd h
AllZip-more R (a ∷ xs) (b ∷ ys) x y h r = (h.0, AllZip-more R xs ys x y h.1 r)

abbrev meta_in : Cluster ClusterMeta → ClusterMeta
meta_in c = c.meta

-- its length is kept of it
abbrev HasLength : Cluster ClusterMeta → Type 0
HasLength c = c.len ≡ c.meta.len

-- a range that is handed back has what is kept of it
handed-meta : (i n : ℕ) (fate : Fate) (c : Cluster ClusterMeta) → meta_in (handed_back i n fate c) ≡ meta_in c
handed-meta i n fate c = at (c.context == i && c.number == n && is_out c.state)
  where
    at : (b : Bool) → meta_in (cond b (record c { state = fate }) c) ≡ meta_in c
    at true = refl
    at false = refl

handed-length : (i n : ℕ) (fate : Fate) (c : Cluster ClusterMeta) → HasLength c → HasLength (handed_back i n fate c)
handed-length i n fate c h = at (c.context == i && c.number == n && is_out c.state)
  where
    at : (b : Bool) → HasLength (cond b (record c { state = fate }) c)
    at true = h
    at false = h

map-handed : (i n : ℕ) (fate : Fate) (cs : List (Cluster ClusterMeta)) → map meta_in (map (handed_back i n fate) cs) ≡ map meta_in cs
map-handed i n fate [] = refl
map-handed i n fate (c ∷ cs) =
    ap (λ (m : ClusterMeta). m ∷ map meta_in (map (handed_back i n fate) cs)) (handed-meta i n fate c)
    ∙ ap (λ (l : List ClusterMeta). meta_in c ∷ l) (map-handed i n fate cs)

-- a range that was reserved stands behind the others, as a staged one or with its cluster
reserved-last : (staged : Bool) (cs : List (Cluster ClusterMeta)) (i n start len : ℕ) (meta : ClusterMeta)
    → after_entry cs (record { context = i; kind = reserving staged n start len meta })
    ≡ cs ++ record { context = i; number = n; start = start; len = len; meta = meta; state = Out } ∷ []
reserved-last false cs i n start len meta = refl
reserved-last true cs i n start len meta = refl

module _ (t : Table) (page : ℕ) where
  -- by the ranges alone
  committed_as : (chunks : List (List TreesData)) (own : List (Entry ClusterMeta)) (ranges : List (Cluster ClusterMeta))
      → ranges_of own ≡ ranges
      → AreKeptOf t page chunks (map meta_in ranges) → AllByRecursion HasLength ranges → HasCommitted t page chunks own
  committed_as chunks own ranges is kept lengths = record {
    kept = subst (λ (l : List (Cluster ClusterMeta)). AreKeptOf t page chunks (map meta_in l)) (sym is) kept;
    lengths = subst (λ (l : List (Cluster ClusterMeta)). AllByRecursion HasLength l) (sym is) lengths;
  }

  -- nothing was committed
  pub committed-none : HasCommitted t page [] []
  committed-none = record { kept = tt; lengths = tt }

  -- a fault commits nothing
  pub committed-faulted : (chunks : List (List TreesData)) (own : List (Entry ClusterMeta)) (i faults : ℕ) → HasCommitted t page chunks own
      → HasCommitted t page chunks (own ++ record { context = i; kind = entry.Faulted faults } ∷ [])
  committed-faulted chunks own i faults h =
      committed_as chunks (own ++ record { context = i; kind = entry.Faulted faults } ∷ []) (ranges_of own) (ranges_of-snoc own
      (record { context = i; kind = entry.Faulted faults })) h.kept h.lengths

  -- nor does what is published
  pub committed-published : (chunks : List (List TreesData)) (own : List (Entry ClusterMeta)) (i : ℕ) (ns : List ℕ)
      → HasCommitted t page chunks own → HasCommitted t page chunks (own ++ record { context = i; kind = entry.Published ns } ∷ [])
  committed-published chunks own i ns h =
      committed_as chunks (own ++ record { context = i; kind = entry.Published ns } ∷ []) (ranges_of own) (ranges_of-snoc own
      (record { context = i; kind = entry.Published ns })) h.kept h.lengths

  -- nor does what becomes of a range
  handed : (chunks : List (List TreesData)) (own : List (Entry ClusterMeta)) (e : Entry ClusterMeta) (i n : ℕ) (fate : Fate)
      → after_entry (ranges_of own) e ≡ map (handed_back i n fate) (ranges_of own) → HasCommitted t page chunks own
      → HasCommitted t page chunks (own ++ e ∷ [])
  handed chunks own e i n fate is h =
      committed_as chunks (own ++ e ∷ []) (map (handed_back i n fate) (ranges_of own)) (ranges_of-snoc own e ∙ is)
      (subst (λ (l : List ClusterMeta). AreKeptOf t page chunks l) (sym (map-handed i n fate (ranges_of own))) h.kept)
      (AllByRecursion-map HasLength HasLength (handed_back i n fate) (handed-length i n fate) (ranges_of own) h.lengths)

  module _ (staged : Bool) (chunks : List (List TreesData)) (own : List (Entry ClusterMeta)) (chunk : List TreesData) (i n start len : ℕ)
      (meta : ClusterMeta) where
    -- the context reserved this
    abbrev first : Entry ClusterMeta
    first = record { context = i; kind = reserving staged n start len meta }

    committed-one : HasCommitted t page chunks own → IsKeptOf t page chunk meta → len ≡ meta.len
        → HasCommitted t page (chunks ++ chunk ∷ []) (own ++ first ∷ [])
    committed-one h kept is =
        let range : Cluster ClusterMeta = record { context = i; number = n; start = start; len = len; meta = meta; state = Out } in
        committed_as (chunks ++ chunk ∷ []) (own ++ first ∷ []) (ranges_of own ++ range ∷ [])
        (ranges_of-snoc own first ∙ reserved-last staged (ranges_of own) i n start len meta)
        (subst (λ (l : List ClusterMeta). AreKeptOf t page (chunks ++ chunk ∷ []) l) (sym (map-append meta_in (ranges_of own) (range ∷ [])))
        (AllZip-more (IsKeptOf t page) chunks (map meta_in (ranges_of own)) chunk meta h.kept kept))
        (AllByRecursion-append HasLength (ranges_of own) (range ∷ []) h.lengths (is, tt))

    -- a chunk more was committed and settled
    pub committed-settled : (bytes : _) → HasCommitted t page chunks own → IsKeptOf t page chunk meta → len ≡ meta.len
        → HasCommitted t page (chunks ++ chunk ∷ []) (own ++ first ∷ record { context = i; kind = entry.Settled n bytes } ∷ [])
    committed-settled bytes h kept is =
        subst (λ (l : List (Entry ClusterMeta)). HasCommitted t page (chunks ++ chunk ∷ []) l) (append_assoc own (first ∷ [])
        (record { context = i; kind = entry.Settled n bytes } ∷ []))
        (handed (chunks ++ chunk ∷ []) (own ++ first ∷ []) (record { context = i; kind = entry.Settled n bytes }) i n (Settled bytes) refl
        (committed-one h kept is))

    -- or spoiled
    pub committed-spoiled : (faults : ℕ) → HasCommitted t page chunks own → IsKeptOf t page chunk meta → len ≡ meta.len
        → HasCommitted t page (chunks ++ chunk ∷ []) (own ++ first ∷ record { context = i; kind = entry.Spoiled n faults } ∷ [])
    committed-spoiled faults h kept is =
        subst (λ (l : List (Entry ClusterMeta)). HasCommitted t page (chunks ++ chunk ∷ []) l) (append_assoc own (first ∷ [])
        (record { context = i; kind = entry.Spoiled n faults } ∷ []))
        (handed (chunks ++ chunk ∷ []) (own ++ first ∷ []) (record { context = i; kind = entry.Spoiled n faults }) i n
        (Spoiled faults) refl (committed-one h kept is))

  module _ (full : List (List TreesData)) (own : List (Entry ClusterMeta)) (h : HasCommitted t page full own) where
    -- as many as the ranges
    pub length-committed : length (ranges_of own) ≡ length full
    length-committed = sym (length-map (ranges_of own) meta_in) ∙ AllZip-long (IsKeptOf t page) full (map meta_in (ranges_of own)) h.kept

    -- they are the first, whatever comes behind
    pub committed-first : (others : List (List TreesData)) → CommittedFirst t page (full ++ others) own
    committed-first others =
        let are : take (length (ranges_of own)) (full ++ others) ≡ full =
        ap (λ (n : ℕ). take n (full ++ others)) length-committed
        ∙ (take-append-le (length full) full others (omega arith) ∙ take_all (length full) full (omega arith)) in
        record {
          kept = subst (λ (l : List (List TreesData)). AreKeptOf t page l (map meta_in (ranges_of own)))
              (sym are) h.kept;
          lengths = h.lengths;
        }

    -- and that comes next
    pub committed-next : (chunk : List TreesData) (others : List (List TreesData))
        → slice_get (full ++ chunk ∷ others) (length (ranges_of own)) ≡ Some chunk
    committed-next chunk others = ap (λ (n : ℕ). slice_get (full ++ chunk ∷ others) n) length-committed ∙ slice_get-seam full others chunk
