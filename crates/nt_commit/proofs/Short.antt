-- Ranges that are at most so long and end where they may, and one entry more.
use Rattle.std.proofs.Common.{◌≡◌, ℕ, ◌+◌, ◌<◌, ◌≤◌, List, [], ◌∷◌, ◌++◌, length, map, sym, subst, arith}
use Rattle.std.proofs.lemmas.List.{length-append, length-map}
use Rattle.std.specs.List.{AllByRecursion}
use Rattle.nt_machine.specs.declared.entry.Entry.{Entry}
use Rattle.nt_machine.specs.declared.entry.EntryKind.{EntryKind}
use Rattle.nt_machine.specs.declared.entry.EntryKind.TheVariants as entry
use Rattle.nt_machine.specs.Legal.{end_after}
use Rattle.nt_machine.specs.History.{Cluster, Fate, Out, Settled, Spoiled, handed_back, after_kind, ranges_of}
use Rattle.nt_machine.proofs.Histories.{AllByRecursion-append, AllByRecursion-map}
use Rattle.nt_machine.proofs.Legality.{ranges_of-snoc, end_after-snoc}
use Rattle.nt_book.specs.declared.limits.Limits.{Limits}
use Rattle.nt_commit.specs.Locked.{EndWithin}
use Rattle.nt_commit.proofs.Handed.{len-handed_back, end_after-handed_back}

module _ {M : Type 0} (most : ℕ) where
  abbrev pub IsShort : Cluster M → Type 0
  IsShort c = c.len ≤ most

  -- a range that the entry reserves is at most so long
  abbrev pub ReservesShort : EntryKind M → Type 0
  ReservesShort (entry.Committed n start len meta) = len ≤ most
  ReservesShort (entry.Reserved n start len meta) = len ≤ most
  ReservesShort (entry.Published ns) = Unit {0}
  ReservesShort (entry.Settled n bytes) = Unit {0}
  ReservesShort (entry.Spoiled n faults) = Unit {0}
  ReservesShort (entry.Faulted faults) = Unit {0}

  -- handing back keeps lengths
  short-handed_back : (i n : ℕ) (fate : Fate) (cs : List (Cluster M)) → AllByRecursion IsShort cs
      → AllByRecursion IsShort (map (handed_back i n fate) cs)
  short-handed_back i n fate cs short =
      AllByRecursion-map IsShort IsShort (handed_back i n fate)
      (λ c h. subst (λ (len : ℕ). len ≤ most) (sym (len-handed_back i n fate c)) h) cs short

  short-after : (cs : List (Cluster M)) (i : ℕ) (k : EntryKind M) → ReservesShort k → AllByRecursion IsShort cs
      → AllByRecursion IsShort (after_kind cs i k)
  short-after cs i (entry.Committed n start len meta) low short = AllByRecursion-append IsShort cs _ short (low, tt)
  short-after cs i (entry.Reserved n start len meta) low short = AllByRecursion-append IsShort cs _ short (low, tt)
  short-after cs i (entry.Published ns) low short = short
  short-after cs i (entry.Settled n bytes) low short = short-handed_back i n (Settled bytes) cs short
  short-after cs i (entry.Spoiled n faults) low short = short-handed_back i n (Spoiled faults) cs short
  short-after cs i (entry.Faulted faults) low short = short

  -- the ranges of a history with one entry more
  pub short-snoc : (history : List (Entry M)) (e : Entry M) → ReservesShort e.kind → AllByRecursion IsShort (ranges_of history)
      → AllByRecursion IsShort (ranges_of (history ++ e ∷ []))
  short-snoc history e low short =
      subst (λ (l : List (Cluster M)). AllByRecursion IsShort l) (sym (ranges_of-snoc history e))
      (short-after (ranges_of history) e.context e.kind low short)

module _ {M : Type 0} (limits : Limits) (begin : ℕ) where
  -- the entry reserves a range behind these that the limits let be, or none
  abbrev pub ReservesWithin : List (Cluster M) → EntryKind M → Type 0
  ReservesWithin cs (entry.Committed n start len meta) =
      (len ≤ limits.range) × (end_after begin cs + len ≤ limits.file) × (length cs < limits.clusters)
  ReservesWithin cs (entry.Reserved n start len meta) =
      (len ≤ limits.range) × (end_after begin cs + len ≤ limits.file) × (length cs < limits.clusters)
  ReservesWithin cs (entry.Published ns) = Unit {0}
  ReservesWithin cs (entry.Settled n bytes) = Unit {0}
  ReservesWithin cs (entry.Spoiled n faults) = Unit {0}
  ReservesWithin cs (entry.Faulted faults) = Unit {0}

  pub reserves-short : (cs : List (Cluster M)) (k : EntryKind M) → ReservesWithin cs k → ReservesShort limits.range k
  reserves-short cs (entry.Committed n start len meta) low = low.0
  reserves-short cs (entry.Reserved n start len meta) low = low.0
  reserves-short cs (entry.Published ns) low = tt
  reserves-short cs (entry.Settled n bytes) low = tt
  reserves-short cs (entry.Spoiled n faults) low = tt
  reserves-short cs (entry.Faulted faults) low = tt

  -- handing back keeps their number and their end
  within-handed_back : (i n : ℕ) (fate : Fate) (cs : List (Cluster M)) → EndWithin limits begin cs
      → EndWithin limits begin (map (handed_back i n fate) cs)
  within-handed_back i n fate cs within =
      let same : length (map (handed_back i n fate) cs) ≡ length cs = length-map cs (handed_back i n fate) in
      let end = end_after-handed_back begin i n fate cs in
      record { file = λ some. omega (arith, end, within.file (omega (arith, some, same))); few = omega (arith, same, within.few) }

  within-after : (cs : List (Cluster M)) (i : ℕ) (k : EntryKind M) → ReservesWithin cs k → EndWithin limits begin cs
      → EndWithin limits begin (after_kind cs i k)
  within-after cs i (entry.Committed n start len meta) low within =
      let c : Cluster M = record { context = i; number = n; start = start; len = len; meta = meta; state = Out } in
      record {
        file = λ some. omega (arith, end_after-snoc begin cs c, low.1);
        few = omega (arith, length-append cs (c ∷ []), low.2);
      }
  within-after cs i (entry.Reserved n start len meta) low within =
      let c : Cluster M = record { context = i; number = n; start = start; len = len; meta = meta; state = Out } in
      record {
        file = λ some. omega (arith, end_after-snoc begin cs c, low.1);
        few = omega (arith, length-append cs (c ∷ []), low.2);
      }
  within-after cs i (entry.Published ns) low within = within
  within-after cs i (entry.Settled n bytes) low within = within-handed_back i n (Settled bytes) cs within
  within-after cs i (entry.Spoiled n faults) low within = within-handed_back i n (Spoiled faults) cs within
  within-after cs i (entry.Faulted faults) low within = within

  -- the ranges of a history with one entry more
  pub within-snoc : (history : List (Entry M)) (e : Entry M) → ReservesWithin (ranges_of history) e.kind
      → EndWithin limits begin (ranges_of history) → EndWithin limits begin (ranges_of (history ++ e ∷ []))
  within-snoc history e low within =
      subst (λ (l : List (Cluster M)). EndWithin limits begin l) (sym (ranges_of-snoc history e))
      (within-after (ranges_of history) e.context e.kind low within)
