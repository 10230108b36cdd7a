-- A context publishes its ranges.
use Rattle.std.proofs.Common.{◌≡◌, ℕ, ◌+◌, ◌*◌, ◌≤◌, ◌^◌, ◌==◌, Bool, true, false, cond, List, [], ◌∷◌, ◌++◌, length, refl, sym, ap}
use Rattle.std.proofs.Common.{subst}
use Rattle.std.proofs.Common.{◌∙◌, append-nil, arith}
use Rattle.std.specs.Prelude.{Option}
use Rattle.std.specs.List.{AllByRecursion, sum_by, flat_map}
use Rattle.std.proofs.lemmas.List.Sums.{sum_by-cons}
use Rattle.std.proofs.lemmas.List.Concat.{flat_map-append}
use Rattle.nt_machine.specs.declared.entry.Entry.{Entry}
use Rattle.nt_machine.specs.Deal.{times}
use Rattle.nt_machine.specs.History.{Cluster, publishers_of, ranges_of, own_of, numbers_of}
use Rattle.nt_machine.specs.Legal.{IsAllowed, IsFilledRange}
use Rattle.nt_machine.specs.Staging.{KeepsStaging}
use Rattle.nt_machine.proofs.ClusterSums.{clusters-sum-le}
use Rattle.nt_machine.proofs.Legality.{ranges_of-snoc}
use Rattle.nt_machine.proofs.Publishers.{publishers-snoc, staged-snoc}
use Rattle.nt_book.specs.declared.limits.Limits.{Limits}
use Rattle.nt_book.specs.declared.meta.ClusterMeta.{ClusterMeta}
use Rattle.nt_book.specs.declared.event.Event.{Event}
use Rattle.nt_book.specs.declared.row.ClusterRow.{ClusterRow}
use Rattle.nt_book.specs.declared.row.PublishedRow.{PublishedRow}
use Rattle.nt_book.specs.Entries.{history_of, published_entry, row_clusters}
use Rattle.nt_book.specs.Keeping.{IsHistory, IsCounted, KeepsStagedOrder, order_numbers, own_count, own_columns, own_numbers, row_at}
use Rattle.nt_book.specs.Pages.{IsPaged}
use Rattle.nt_book.proofs.Clusters.{published-rows, sum-numbered}
use Rattle.nt_book.proofs.Fitting.{metas-low}

-- so many offsets for each of a context's rows
pub columns-counted : (columns : ℕ) (rows : List ClusterRow) (i : ℕ) → own_columns columns rows i ≡ own_count rows i * columns
columns-counted columns [] i = omega arith
columns-counted columns (row ∷ rows) i = at (row.meta.context == i) refl (columns-counted columns rows i)
  where
    at : (b : Bool) → row.meta.context == i ≡ b → own_columns columns rows i ≡ own_count rows i * columns
        → own_columns columns (row ∷ rows) i ≡ own_count (row ∷ rows) i * columns
    at b is rest =
        let offsets : own_columns columns (row ∷ rows) i ≡ cond {A = ℕ} b columns 0 + own_columns columns rows i =
        sum_by-cons (λ (r : ClusterRow). cond {A = ℕ} (r.meta.context == i) columns 0) row rows
        ∙ ap (λ (y : Bool). cond {A = ℕ} y columns 0 + own_columns columns rows i) is in
        let count : own_count (row ∷ rows) i ≡ cond {A = ℕ} b 1 0 + own_count rows i =
        sum_by-cons (λ (r : ClusterRow). cond {A = ℕ} (r.meta.context == i) 1 0) row rows
        ∙ ap (λ (y : Bool). cond {A = ℕ} y 1 0 + own_count rows i) is in
        offsets ∙ (more b rest ∙ sym (ap (λ (n : ℕ). n * columns) count))
      where
        more : (y : Bool) → own_columns columns rows i ≡ own_count rows i * columns
            → cond {A = ℕ} y columns 0 + own_columns columns rows i ≡ (cond {A = ℕ} y 1 0 + own_count rows i) * columns
        more true same = omega (arith, same)
        more false same = omega (arith, same)

module _ (staged : Bool) (group : Option (ℕ × ℕ)) (columns : ℕ) (order : List PublishedRow) (rows : List ClusterRow) (events : List Event)
    (k : KeepsStagedOrder staged group columns order rows events) (is_staged : staged ≡ true) (context : ℕ)
    (before : times context (publishers_of (history_of rows events)) ≡ 0) where
  abbrev told : List (Entry ClusterMeta)
  told = history_of rows events

  abbrev published : Entry ClusterMeta
  published = published_entry (row_clusters 0 rows) context

  staging-published : KeepsStaging staged (told ++ published ∷ [])
  staging-published = staged-snoc staged [] told published k.staging (is_staged, before)

  numbers-published : order_numbers order ++ own_numbers 0 rows context
      ≡ flat_map (own_numbers 0 rows) (publishers_of (told ++ published ∷ []))
  numbers-published =
      ap (λ (l : List ℕ). l ++ own_numbers 0 rows context) k.numbers
      ∙ (ap (λ (l : List ℕ). flat_map (own_numbers 0 rows) (publishers_of told) ++ l) (sym (append-nil (own_numbers 0 rows context)))
      ∙ (sym (flat_map-append (own_numbers 0 rows) (publishers_of told) (context ∷ []))
      ∙ ap (λ (l : List ℕ). flat_map (own_numbers 0 rows) l) (sym (publishers-snoc told published))))

  -- no number gets too large
  pub publishing-fits : (begin end out : ℕ) (limits : Limits) (firsts : List ℕ) → IsHistory begin rows events
      → IsCounted begin end out limits firsts rows
      → (g : ClusterMeta → ℕ) → ((meta : ClusterMeta) → IsPaged meta → g meta ≤ 8 * meta.len)
      → sum_by (λ (n : ℕ). g (row_at rows n).meta) (order_numbers order ++ own_numbers 0 rows context) ≤ 2 ^ 59
  publishing-fits begin end out limits firsts is_history h g low =
      let w : ℕ → ℕ = λ n. g (row_at rows n).meta in
      let sum : List (Cluster ClusterMeta) → ℕ = λ cs. sum_by (λ (c : Cluster ClusterMeta). g c.meta) cs in
      let all : List (Entry ClusterMeta) = told ++ published ∷ [] in
      let same : row_clusters 0 rows ≡ ranges_of all = is_history.clusters ∙ sym (ranges_of-snoc told published) in
      omega (
        arith,
        ap (sum_by w) numbers-published,
        sum-numbered g rows (flat_map (own_numbers 0 rows) (publishers_of all)),
        ap sum (sym (published-rows rows (publishers_of all))
            ∙ ap (λ (l : List (Cluster ClusterMeta)). flat_map (own_of l) (publishers_of all)) same),
        clusters-sum-le (λ (c : Cluster ClusterMeta). g c.meta) true all
            (subst (λ (b : Bool). KeepsStaging b all) is_staged staging-published),
        ap sum same,
        metas-low g low (length firsts) 0 rows h.each,
        h.summing,
        h.most,
      )

  pub KeepsStagedOrder-published : (now : List PublishedRow) (more : List Event)
      → order_numbers now ≡ order_numbers order ++ own_numbers 0 rows context → history_of rows more ≡ told ++ published ∷ []
      → KeepsStagedOrder staged group columns now rows more
  KeepsStagedOrder-published now more numbers is = record {
    staging = subst (KeepsStaging staged) (sym is) staging-published;
    numbers = numbers ∙ (numbers-published
        ∙ ap (λ (l : List (Entry ClusterMeta)). flat_map (own_numbers 0 rows) (publishers_of l)) (sym is));
    lists_all = k.lists_all;
    no_groups = k.no_groups;
  }

-- it is allowed where all its ranges are filled
pub published-allowed : (begin : ℕ) (rows : List ClusterRow) (events : List Event) → IsHistory begin rows events → (context : ℕ)
    → AllByRecursion IsFilledRange (own_of (ranges_of (history_of rows events)) context)
    → IsAllowed begin (ranges_of (history_of rows events)) (published_entry (row_clusters 0 rows) context)
published-allowed begin rows events h context filled =
    (ap (λ (l : List (Cluster ClusterMeta)). numbers_of (own_of l context)) h.clusters, filled)
