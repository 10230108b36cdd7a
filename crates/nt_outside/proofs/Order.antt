-- One more step of a log that is in order.
use Rattle.std.proofs.Common.{◌≡◌, ◌∙◌, ap, sym, subst, refl, ℕ, suc, ◌<◌, Bool, true, false, List, [], ◌∷◌, ◌++◌, length, arith}
use Rattle.std.proofs.Common.{append_assoc}
use Rattle.std.specs.Prelude.{IsTrue}
use Rattle.std.proofs.lemmas.List.{append-nil}
use Rattle.nt_outside.specs.Log.{Step, Write, FailedWrite, Append, FailedAppend, Sync}
use Rattle.nt_outside.specs.Held.{Held, IsTornAppend, IsTornWrite}
use Rattle.nt_outside.specs.Reads.{Known, known_of, all_allowed, Reads}
use Rattle.nt_outside.specs.Order.{BeginsOpen, MayFollow, MayAllFollow, FirstByteLast}

all_follow-push : (before log : List Step) (step : Step) → MayAllFollow before log → MayFollow (before ++ log) step
    → MayAllFollow before (log ++ step ∷ [])
all_follow-push before [] step follow may = (subst (λ (l : List Step). MayFollow l step) (append-nil before) may, tt)
all_follow-push before (s ∷ log) step follow may = (
  follow.0,
  all_follow-push (before ++ s ∷ []) log step follow.1
      (subst (λ (l : List Step). MayFollow l step) (sym (append_assoc before (s ∷ []) log)) may),
)

-- a step that may follow
pub one_follows : (log : List Step) (step : Step) → FirstByteLast log → MayFollow log step → FirstByteLast (log ++ step ∷ [])
one_follows log step order may = all_follow-push [] log step order may

-- bytes at the end of a file that has some
pub append_follows : (h : Held) (bytes : List ℕ) → 0 < length h.image → Reads h.log h.image → FirstByteLast h.log
    → FirstByteLast (h.log ++ Append bytes ∷ [])
append_follows h bytes some reads order = one_follows h.log (Append bytes) order
    (λ none. absurd (no_bytes h.image some (subst (λ (k : List Known). IsTrue (all_allowed k h.image)) none reads)))
  where
    no_bytes : (image : List ℕ) → 0 < length image → IsTrue (all_allowed [] image) → ⊥
    no_bytes [] few allowed = omega (arith, few)
    no_bytes (byte ∷ image) few allowed = cc allowed

-- the first bytes of a file
pub first_append_follows : (bytes : List ℕ) → BeginsOpen bytes → FirstByteLast (Append bytes ∷ [])
first_append_follows bytes begins = (λ none. begins, tt)

pub torn_append_follows : (most : ℕ) (old new : Held) → IsTornAppend most old new → FirstByteLast old.log → FirstByteLast new.log
torn_append_follows most old new torn order = subst FirstByteLast (sym torn.log)
    (one_follows old.log (FailedAppend (length torn.junk)) order tt)

-- bytes over those behind the first one
pub write_follows : (log : List Step) (at : ℕ) (bytes : List ℕ) → 0 < at → FirstByteLast log → FirstByteLast (log ++ Write at bytes ∷ [])
write_follows log at bytes behind order = one_follows log (Write at bytes) order (λ first. absurd (omega (arith, behind, first)))

pub torn_write_follows : (at : ℕ) (bytes : List ℕ) (old new : Held) → 0 < at → IsTornWrite at bytes old new → FirstByteLast old.log
    → FirstByteLast new.log
torn_write_follows at bytes old new behind torn order =
    subst FirstByteLast (sym torn.log) (one_follows old.log (FailedWrite at bytes) order (λ first. absurd (omega (arith, behind, first))))

pub sync_follows : (log : List Step) → FirstByteLast log → FirstByteLast (log ++ Sync ∷ [])
sync_follows log order = one_follows log Sync order tt

-- the first byte, right behind a sync
pub first_byte_follows : (log : List Step) (bytes : List ℕ) → FirstByteLast (log ++ Sync ∷ [])
    → FirstByteLast ((log ++ Sync ∷ []) ++ Write 0 bytes ∷ [])
first_byte_follows log bytes order = one_follows (log ++ Sync ∷ []) (Write 0 bytes) order (λ first. (log, refl))

pub torn_first_byte_follows : (log : List Step) (bytes : List ℕ) (old new : Held) → old.log ≡ log ++ Sync ∷ []
    → IsTornWrite 0 bytes old new → FirstByteLast old.log → FirstByteLast new.log
torn_first_byte_follows log bytes old new synced torn order =
    subst FirstByteLast (sym torn.log) (one_follows old.log (FailedWrite 0 bytes) order (λ first. (log, synced)))
