-- A history of contexts that wrote all their chunks tells of no fault.
use Rattle.std.proofs.Common.{◌≡◌, refl, ℕ, ◌==◌, Bool, true, false, cond, List, [], ◌∷◌}
use Rattle.std.specs.List.{flat_map}
use Rattle.std.proofs.lemmas.Bool.{eq-eqb}
use Rattle.nt_machine.specs.declared.entry.Entry.{Entry}
use Rattle.nt_machine.specs.declared.entry.EntryKind.TheVariants as entry
use Rattle.nt_machine.specs.History.{IsFaulted, WrittenChunk, entries_of_chunk, written_numbers, whole_entries, mine_of}
use Rattle.nt_machine.proofs.Histories.{AllByRecursion-append}
use Rattle.nt_book.specs.declared.meta.ClusterMeta.{ClusterMeta}
use Rattle.nt_commit.specs.Lists.{HasNoFault}

-- the entries by which chunks are written
wrote-no_fault : (staged : Bool) (i : ℕ) (ws : List (WrittenChunk ClusterMeta)) → HasNoFault (flat_map (entries_of_chunk staged i) ws)
wrote-no_fault staged i [] = tt
wrote-no_fault false i (w ∷ ws) = (λ is. is, (λ is. is, wrote-no_fault false i ws))
wrote-no_fault true i (w ∷ ws) = (λ is. is, (λ is. is, wrote-no_fault true i ws))

-- and all entries of a context that wrote chunks
pub whole-no_fault : (staged : Bool) (i : ℕ) (ws : List (WrittenChunk ClusterMeta)) → HasNoFault (whole_entries staged i ws)
whole-no_fault false i ws = wrote-no_fault false i ws
whole-no_fault true i ws =
    AllByRecursion-append (λ (e : Entry ClusterMeta). IsFaulted e.kind → ⊥) (flat_map (entries_of_chunk true i) ws)
    (record { context = i; kind = entry.Published (written_numbers ws) } ∷ []) (wrote-no_fault true i ws) (λ is. is, tt)

-- no context has a fault, and so the history has none
pub none-of_each : (history : List (Entry ClusterMeta)) → ((i : ℕ) → HasNoFault (mine_of history i)) → HasNoFault history
none-of_each [] none = tt
none-of_each (e ∷ es) none = (
  first (e.context == e.context) (eq-eqb e.context e.context refl) (none e.context),
  none-of_each es (λ i. rest (e.context == i) i (none i)),
)
  where
    first : (b : Bool) → b ≡ true → HasNoFault (cond b (e ∷ mine_of es e.context) (mine_of es e.context)) → IsFaulted e.kind → ⊥
    first true is h = h.0
    first false is h = cc

    rest : (b : Bool) (i : ℕ) → HasNoFault (cond b (e ∷ mine_of es i) (mine_of es i)) → HasNoFault (mine_of es i)
    rest true i h = h.1
    rest false i h = h
