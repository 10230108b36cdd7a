-- What a crash leaves where the first byte is written over, behind a sync.
use Rattle.std.proofs.Common.{◌≡◌, ◌∙◌, ap, sym, subst, refl, ℕ, ◌==◌, Bool, true, false, List, [], ◌∷◌, ◌++◌, length, take, drop, map}
use Rattle.std.proofs.Common.{get_or, arith, append_assoc, eqb-true, inl, inr}
use Rattle.std.specs.Prelude.{◌⊎◌, ◌||◌, IsTrue}
use Rattle.std.specs.List.{list_any}
use Rattle.std.proofs.lemmas.List.{take_all}
use Rattle.nt_lists.proofs.Bools.{and_true, both_true}
use Rattle.nt_outside.specs.Log.{Step, Write, FailedWrite, Append, FailedAppend, Reserve, Settle, Sync}
use Rattle.nt_outside.specs.Reads.{Known, Anything, OneOf, exactly, or_also, after_step, known_from, known_of, allows, all_allowed, Reads}
use Rattle.nt_outside.specs.Reads.{IsKnown}
use Rattle.nt_outside.specs.Crash.{Crash, no_crash, crash_after, crash_from, crash_of, MayLeave}
use Rattle.nt_outside.proofs.Known.{known_once}
use Rattle.nt_outside.proofs.Crashes.{left_by_sync, overwrites}
use Rattle.nt_cuts.specs.Cuts.{WritesFirst, ReadsButFirst}
use Rattle.nt_cuts.specs.Shut.{StaysShut}
use Rattle.nt_cuts.proofs.Orders.{shut-push, ZeroOr, Cut, cut-shut, cut-push}

known_from-push : (known : List Known) (log : List Step) (s : Step)
    → known_from known (log ++ s ∷ []) ≡ after_step (known_from known log) s
known_from-push known [] s = refl
known_from-push known (x ∷ log) s = known_from-push (after_step known x) log s

pub known_of-push : (log : List Step) (s : Step) → known_of (log ++ s ∷ []) ≡ after_step (known_of log) s
known_of-push log s = known_from-push [] log s

crash_from-push : (c : Crash) (log : List Step) (s : Step) → crash_from c (log ++ s ∷ []) ≡ crash_after (crash_from c log) s
crash_from-push c [] s = refl
crash_from-push c (x ∷ log) s = crash_from-push (crash_after c x) log s

crash_of-push : (log : List Step) (s : Step) → crash_of (log ++ s ∷ []) ≡ crash_after (crash_of log) s
crash_of-push log s = crash_from-push no_crash log s

known-after : (c : Crash) (s : Step) → (crash_after c s).known ≡ after_step c.known s
known-after c (Write at bytes) = refl
known-after c (FailedWrite at bytes) = refl
known-after c (Append bytes) = refl
known-after c (FailedAppend len) = refl
known-after c (Reserve start len) = refl
known-after c (Settle start len bytes) = refl
known-after c Sync = refl

known-crash : (c : Crash) (log : List Step) → (crash_from c log).known ≡ known_from c.known log
known-crash c [] = refl
known-crash c (s ∷ log) = known-crash (crash_after c s) log ∙ ap (λ (k : List Known). known_from k log) (known-after c s)

-- all that is known stays
abbrev stays : List Known → Crash
stays known = record { known = known; left = known; synced = length known }

crash-synced : (log : List Step) → crash_of (log ++ Sync ∷ []) ≡ stays (known_of log)
crash-synced log = crash_of-push log Sync ∙ ap stays (known-crash no_crash log)

first-allowed : (k : Known) (byte b : ℕ) → allows (or_also byte k) b ≡ true → (allows k b ≡ true) ⊎ (b ≡ byte)
first-allowed Anything byte b h = inl refl
first-allowed (OneOf bytes) byte b h = at (byte == b) refl h
  where
    at : (new : Bool) → (byte == b) ≡ new → (new || list_any (λ (one : ℕ). one == b) bytes) ≡ true
        → (list_any (λ (one : ℕ). one == b) bytes ≡ true) ⊎ (b ≡ byte)
    at true new h = inr (sym (eqb-true byte b new))
    at false new h = inl h

-- the bytes are as they may be, or as they may be but for the first one
abbrev OldOrNew : List Known → ℕ → List ℕ → Type 0
OldOrNew known byte bytes =
    IsTrue (all_allowed known bytes) ⊎ ((rest : List ℕ) × (bytes ≡ byte ∷ rest) × IsTrue (all_allowed (drop 1 known) rest))

first-and : (k : Known) (known : List Known) (byte b : ℕ) (bytes : List ℕ) → IsTrue (all_allowed known bytes)
    → (allows k b ≡ true) ⊎ (b ≡ byte) → OldOrNew (k ∷ known) byte (b ∷ bytes)
first-and k known byte b bytes rest (inl old) = inl (both_true (allows k b) (all_allowed known bytes) old rest)
first-and k known byte b bytes rest (inr new) = inr (bytes, ap (λ (n : ℕ). n ∷ bytes) new, rest)

left-first : (known : List Known) (byte : ℕ) (bytes : List ℕ) → MayLeave (crash_after (stays known) (Write 0 (byte ∷ []))) bytes
    → OldOrNew known byte bytes
left-first [] byte [] may = inl refl
left-first [] byte (b ∷ bytes) may = let most = may.most in absurd (omega arith)
left-first (k ∷ known) byte [] may = let least = may.least in absurd (omega arith)
left-first (k ∷ known) byte (b ∷ bytes) may =
    let least = may.least in
    let whole : take (length bytes) known ≡ known = take_all (length bytes) known (omega arith) in
    let parts = and_true (allows (or_also byte k) b) (all_allowed (take (length bytes) known) bytes) may.allowed in
    first-and k known byte b bytes (subst (λ (l : List Known). IsTrue (all_allowed l bytes)) whole parts.1)
    (first-allowed k byte b parts.0)

-- the first byte was written over, behind a sync
pub written-left : (log : List Step) (byte : ℕ) (bytes : List ℕ)
    → MayLeave (crash_of ((log ++ Sync ∷ []) ++ Write 0 (byte ∷ []) ∷ [])) bytes
    → Reads log bytes ⊎ ReadsButFirst log byte bytes
written-left log byte bytes may =
    let kept_log = log ++ Sync ∷ [] in
    left-first (known_of log) byte bytes
    (subst (λ (c : Crash). MayLeave c bytes)
    (crash_of-push kept_log (Write 0 (byte ∷ [])) ∙ ap (λ (c : Crash). crash_after c (Write 0 (byte ∷ []))) (crash-synced log)) may)

-- or that failed
pub torn-left : (log : List Step) (byte : ℕ) (bytes : List ℕ)
    → MayLeave (crash_of ((log ++ Sync ∷ []) ++ FailedWrite 0 (byte ∷ []) ∷ [])) bytes
    → Reads log bytes ⊎ ReadsButFirst log byte bytes
torn-left log byte bytes may = written-left log byte bytes (((overwrites (log ++ Sync ∷ [])).failed 0 (byte ∷ []) bytes).0 may)

module _ (log : List Step) where
  -- all of it stays
  abbrev kept_log : List Step
  kept_log = log ++ Sync ∷ []

  -- the first byte was written over, or that failed
  abbrev pub open_log : List Step
  open_log = kept_log ++ Write 0 (0x72 ∷ []) ∷ []

  abbrev pub torn_log : List Step
  torn_log = kept_log ++ FailedWrite 0 (0x72 ∷ []) ∷ []

  -- and stays
  abbrev pub done_log : List Step
  done_log = open_log ++ Sync ∷ []

  open-writes : WritesFirst open_log
  open-writes = record { before = kept_log; step = Write 0 (0x72 ∷ []); after = []; is = refl; over = refl; kept = (log, refl) }

  torn-writes : WritesFirst torn_log
  torn-writes = record { before = kept_log; step = FailedWrite 0 (0x72 ∷ []); after = []; is = refl; over = refl; kept = (log, refl) }

  done-writes : WritesFirst done_log
  done-writes =
      let is : done_log ≡ kept_log ++ Write 0 (0x72 ∷ []) ∷ Sync ∷ [] = append_assoc kept_log (Write 0 (0x72 ∷ []) ∷ []) (Sync ∷ []) in
      record { before = kept_log; step = Write 0 (0x72 ∷ []); after = Sync ∷ []; is = is; over = refl; kept = (log, refl) }

  module _ (rest : List ℕ) (is : IsKnown log (0 ∷ rest)) where
    -- the finished file
    abbrev IsWhole : List ℕ → Type 0
    IsWhole bytes = bytes ≡ 0x72 ∷ rest

    -- the old first byte, or the new one
    with-first : (l : List Step) → WritesFirst l → (bytes : List ℕ) → Reads log bytes ⊎ ReadsButFirst log 0x72 bytes
        → ZeroOr IsWhole l bytes
    with-first l writes bytes (inl reads) = inl (ap (λ (b : List ℕ). get_or b 0 0) (known_once log (0 ∷ rest) bytes is reads))
    with-first l writes bytes (inr but) =
        let told : IsTrue (all_allowed (map exactly rest) but.0) =
        subst (λ (k : List Known). IsTrue (all_allowed (drop 1 k) but.0)) is but.2 in
        let same : but.0 ≡ rest = known_once (Append rest ∷ []) rest but.0 refl told in
        inr (writes, but.1 ∙ ap (λ (l : List ℕ). 0x72 ∷ l) same)

    -- the new one alone
    pub done : (bytes : List ℕ) → MayLeave (crash_of done_log) bytes → bytes ≡ 0x72 ∷ rest
    done bytes may =
        let known : IsKnown open_log (0x72 ∷ rest) =
        known_of-push kept_log (Write 0 (0x72 ∷ []))
        ∙ ap (λ (k : List Known). after_step k (Write 0 (0x72 ∷ []))) (known_of-push log Sync ∙ is) in
        known_once open_log (0x72 ∷ rest) bytes known (left_by_sync open_log bytes may)

    module _ (shut : StaysShut log) where
      kept-cut : Cut IsWhole kept_log
      kept-cut = cut-shut IsWhole kept_log (shut-push log Sync shut tt)

      pub torn-cut : Cut IsWhole torn_log
      torn-cut =
          cut-push IsWhole kept_log (FailedWrite 0 (0x72 ∷ [])) kept-cut
          (λ bytes may. with-first torn_log torn-writes bytes (torn-left log 0x72 bytes may))

      pub open-cut : Cut IsWhole open_log
      open-cut =
          cut-push IsWhole kept_log (Write 0 (0x72 ∷ [])) kept-cut
          (λ bytes may. with-first open_log open-writes bytes (written-left log 0x72 bytes may))

      pub done-cut : Cut IsWhole done_log
      done-cut = cut-push IsWhole open_log Sync open-cut (λ bytes may. inr (done-writes, done bytes may))
