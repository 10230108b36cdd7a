-- What a crash leaves of a file whose blobs are appended, wherever it cuts the steps off.
use Rattle.std.proofs.Common.{◌≡◌, ◌⊎◌, ◌∙◌, inl, inr, ap, sym, subst, refl, ℕ, List, [], ◌∷◌, ◌++◌, length, take}
use Rattle.std.proofs.Common.{drop, map, get_or, arith}
use Rattle.std.specs.Prelude.{IsTrue}
use Rattle.nt_lists.specs.Places.{put_at}
use Rattle.nt_outside.specs.Log.{Step, Write, FailedWrite, Append, FailedAppend, Sync}
use Rattle.nt_outside.specs.Held.{Held, nothing_held, appended, written, synced, IsTornAppend}
use Rattle.nt_outside.specs.Reads.{Known, exactly, all_allowed, Reads, IsKnown}
use Rattle.nt_outside.specs.Crash.{crash_of, MayLeave}
use Rattle.nt_outside.specs.Order.{FirstByteLast}
use Rattle.nt_outside.proofs.Crashes.{left_by_sync}
use Rattle.nt_outside.proofs.Known.{known_reads, known_once}
use Rattle.nt_outside.proofs.Order.{sync_follows}
use Rattle.nt_container.specs.Spelling.{begun}
use Rattle.nt_grammar.specs.Table.{Table}
use Rattle.nt_layout.specs.Headers.{header_blob}
use Rattle.nt_close.specs.Laws.{IsShut}
use Rattle.nt_close.specs.Steps.{IsBegunSoFar, first_byte, shut_on, closed_on, IsClosedSoFar, closed_partly, torn_tail, torn_front}
use Rattle.nt_close.specs.Steps.{not_kept_shut, torn_first, not_kept_open, closed_whole}
use Rattle.nt_close.proofs.FirstByte.{closes_in_order}
use Rattle.nt_cuts.specs.Cuts.{ReadsButFirst, LeavesUnfinished, LeavesUnfinishedOr, LeavesOnly}
use Rattle.nt_cuts.proofs.Reading.{unfinished-zero}
use Rattle.nt_seq.specs.Written.{file_so_far, IsUnclosedOf}
use Rattle.nt_seq.specs.Crashes.{IsClosedBy, AppendsLeave}
use Rattle.nt_seq.proofs.Plain.{known-appended, known-synced, known-written, AreBehind, behind-push, behind-take, never_over, HasFirst}
use Rattle.nt_seq.proofs.Plain.{first-push, IsPlain, plain-file, IsAny, Left, or_whole, one_more}

-- the laws of crashes that are cited here
abbrev pub OrderedLeaves : Type 0
OrderedLeaves =
    (byte : ℕ) (bytes : List ℕ) (log : List Step) → FirstByteLast (Append (byte ∷ bytes) ∷ log)
    → LeavesUnfinishedOr (λ (left : List ℕ). Unit {0}) (Append (byte ∷ bytes) ∷ log)

abbrev pub WrittenLeaves : Type 0
WrittenLeaves =
    (log : List Step) (byte : ℕ) (left : List ℕ) → MayLeave (crash_of ((log ++ Sync ∷ []) ++ Write 0 (byte ∷ []) ∷ [])) left
    → Reads log left ⊎ ReadsButFirst log byte left

abbrev pub TornLeaves : Type 0
TornLeaves =
    (log : List Step) (byte : ℕ) (left : List ℕ) → MayLeave (crash_of ((log ++ Sync ∷ []) ++ FailedWrite 0 (byte ∷ []) ∷ [])) left
    → Reads log left ⊎ ReadsButFirst log byte left

-- ---- a file that is begun, with blobs behind its header

module _ (order : OrderedLeaves) where
  any-left : (log : List Step) → HasFirst log → FirstByteLast log → LeavesUnfinishedOr IsAny log
  any-left log first last =
      subst (λ (l : List Step). LeavesUnfinishedOr IsAny l) (sym first.is)
      (order first.byte first.bytes first.more (subst FirstByteLast first.is last))

  -- where no step is over the first byte, what isn't finished is left
  behind-left : (log : List Step) → HasFirst log → FirstByteLast log → AreBehind log → LeavesUnfinished log
  behind-left log first last behind k bytes has may = elim (any-left log first last k bytes has may) [
    | inl none ↦ none
    | inr writes ↦ absurd (never_over (take k log) writes.0.before writes.0.after writes.0.step (behind-take log k behind) writes.0.is
        writes.0.over)
  ]

  -- a file that isn't closed
  pub unclosed-left : (t : Table) (h : Held) → IsUnclosedOf t h → FirstByteLast h.log → LeavesUnfinished h.log
  unclosed-left t h is last = at is.steps
    where
      plain : IsPlain (file_so_far t is.blobs)
      plain = plain-file t is.blobs

      at : (h ≡ file_so_far t is.blobs) ⊎ ((most : ℕ) × IsTornAppend most (file_so_far t is.blobs) h)
          → LeavesUnfinished h.log
      at (inl same) =
          behind-left h.log (subst (λ (k : Held). HasFirst k.log) (sym same) plain.first) last
          (subst (λ (k : Held). AreBehind k.log) (sym same) plain.behind)
      at (inr torn) =
          let log = (file_so_far t is.blobs).log in
          let s = FailedAppend (length torn.1.junk) in
          behind-left h.log (subst HasFirst (sym torn.1.log) (first-push log s plain.first)) last
          (subst AreBehind (sym torn.1.log) (behind-push log s plain.behind (λ over. over)))

  -- ---- and is closed

  module _ (writes : WrittenLeaves) (torn : TornLeaves) (t : Table) (blobs : List (List ℕ)) (tail front : List ℕ)
      (shut : IsShut (file_so_far t blobs).image) (last : FirstByteLast (file_so_far t blobs).log) where
    abbrev h : Held
    h = file_so_far t blobs

    abbrev IsClosedFile : List ℕ → Type 0
    IsClosedFile = IsClosedBy t blobs tail front

    plain : IsPlain h
    plain = plain-file t blobs

    abbrev shut_log : List Step
    shut_log = (shut_on tail front h).log

    abbrev kept_log : List Step
    kept_log = shut_log ++ Sync ∷ []

    abbrev open_log : List Step
    open_log = kept_log ++ Write 0 first_byte ∷ []

    first : HasFirst shut_log
    first = first-push (h.log ++ Append tail ∷ []) (Write 1 front) (first-push h.log (Append tail) plain.first)

    behind : AreBehind shut_log
    behind =
        behind-push (h.log ++ Append tail ∷ []) (Write 1 front) (behind-push h.log (Append tail) plain.behind (λ over. over))
        (λ over. omega (arith, over))

    known : IsKnown shut_log (shut_on tail front h).image
    known = known-written (appended tail h) 1 front (known-appended h tail plain.known)

    -- what stands behind the first byte
    rest : (bytes : List ℕ) × ((shut_on tail front h).image ≡ 0 ∷ bytes)
    rest = (_, ap (λ (l : List ℕ). put_at (l ++ tail) 1 front) shut.1)

    known-rest : IsKnown shut_log (0 ∷ rest.0)
    known-rest = known ∙ ap (λ (l : List ℕ). map exactly l) rest.1

    closed-rest : (closed_on tail front h).image ≡ 0x72 ∷ rest.0
    closed-rest = ap (λ (l : List ℕ). put_at l 0 first_byte) rest.1

    in-order : (left : Held) → IsClosedSoFar tail front h left → FirstByteLast left.log
    in-order left so_far =
        closes_in_order tail front h (omega (arith, ap (λ (l : List ℕ). length l) shut.1)) (known_reads h.log h.image plain.known) last
        left so_far

    -- the old first byte, or the new one
    old_or_new : (bytes : List ℕ) → Reads shut_log bytes ⊎ ReadsButFirst shut_log 0x72 bytes → Left IsClosedFile bytes
    old_or_new bytes (inl reads) =
        inl (unfinished-zero bytes (ap (λ (b : List ℕ). get_or b 0 0) (known_once shut_log (0 ∷ rest.0) bytes known-rest reads)))
    old_or_new bytes (inr but) =
        let told : IsTrue (all_allowed (map exactly rest.0) but.0) =
        subst (λ (k : List Known). IsTrue (all_allowed (drop 1 k) but.0)) known-rest but.2 in
        let same : but.0 ≡ rest.0 = known_once (Append rest.0 ∷ []) rest.0 but.0 refl told in
        inr (but.1 ∙ ap (λ (l : List ℕ). 0x72 ∷ l) same ∙ sym closed-rest)

    kept-order : FirstByteLast kept_log
    kept-order = sync_follows shut_log (in-order (shut_on tail front h) (closed_partly (not_kept_shut refl)))

    kept : LeavesUnfinishedOr IsClosedFile kept_log
    kept =
        or_whole IsClosedFile kept_log
        (behind-left kept_log (first-push shut_log Sync first) kept-order (behind-push shut_log Sync behind (λ over. over)))

    kept-first : HasFirst kept_log
    kept-first = first-push shut_log Sync first

    opened : LeavesUnfinishedOr IsClosedFile open_log
    opened =
        one_more IsClosedFile kept_log (Write 0 first_byte) kept
        (any-left open_log (first-push kept_log (Write 0 first_byte) kept-first)
        (in-order (written 0 first_byte (synced (shut_on tail front h))) (closed_partly (not_kept_open refl))))
        (λ bytes may. old_or_new bytes (writes shut_log 0x72 bytes may))

    -- all steps
    pub closed-only : LeavesOnly IsClosedFile (closed_on tail front h).log
    closed-only bytes may =
        known_once open_log (closed_on tail front h).image bytes
        (known-written (synced (shut_on tail front h)) 0 first_byte (known-synced (shut_on tail front h) known))
        (left_by_sync open_log bytes may)

    leaves-as : (now left : Held) → left ≡ now → LeavesUnfinishedOr IsClosedFile now.log → LeavesUnfinishedOr IsClosedFile left.log
    leaves-as now left is leaves = subst (λ (k : Held). LeavesUnfinishedOr IsClosedFile k.log) (sym is) leaves

    -- a log whose last step isn't over the first byte
    behind-as : (log left : List Step) → left ≡ log → HasFirst log → AreBehind log → FirstByteLast left
        → LeavesUnfinishedOr IsClosedFile left
    behind-as log left is first behind last =
        or_whole IsClosedFile left (behind-left left (subst HasFirst (sym is) first) last (subst AreBehind (sym is) behind))

    -- wherever closing came
    pub closing-left : (left : Held) → IsClosedSoFar tail front h left → LeavesUnfinishedOr IsClosedFile left.log
    closing-left left (closed_partly (torn_tail cut)) =
        let s = FailedAppend (length cut.junk) in
        behind-as (h.log ++ s ∷ []) left.log cut.log (first-push h.log s plain.first) (behind-push h.log s plain.behind (λ over. over))
        (in-order left (closed_partly (torn_tail cut)))
    closing-left left (closed_partly (torn_front cut)) =
        let grown = h.log ++ Append tail ∷ [] in
        behind-as (grown ++ FailedWrite 1 front ∷ []) left.log cut.log
        (first-push grown (FailedWrite 1 front) (first-push h.log (Append tail) plain.first))
        (behind-push grown (FailedWrite 1 front) (behind-push h.log (Append tail) plain.behind (λ over. over))
        (λ over. omega (arith, over)))
        (in-order left (closed_partly (torn_front cut)))
    closing-left left (closed_partly (not_kept_shut is)) =
        behind-as shut_log left.log (ap (λ (k : Held). k.log) is) first behind (in-order left (closed_partly (not_kept_shut is)))
    closing-left left (closed_partly (torn_first cut)) =
        let s = FailedWrite 0 first_byte in
        let last = subst FirstByteLast cut.log (in-order left (closed_partly (torn_first cut))) in
        subst (λ (l : List Step). LeavesUnfinishedOr IsClosedFile l) (sym cut.log)
        (one_more IsClosedFile kept_log s kept (any-left (kept_log ++ s ∷ []) (first-push kept_log s kept-first) last)
        (λ bytes may. old_or_new bytes (torn shut_log 0x72 bytes may)))
    closing-left left (closed_partly (not_kept_open is)) = leaves-as (written 0 first_byte (synced (shut_on tail front h))) left is opened
    closing-left left (closed_whole is) =
        leaves-as (closed_on tail front h) left is
        (one_more IsClosedFile open_log Sync opened
        (any-left (open_log ++ Sync ∷ []) (first-push open_log Sync (first-push kept_log (Write 0 first_byte) kept-first))
        (in-order (closed_on tail front h) (closed_whole refl)))
        (λ bytes may. inr (closed-only bytes may)))

-- all of it
pub appends_leave : ((t : Table) (left : Held) → IsBegunSoFar (begun 0 0 0) (header_blob t) nothing_held left → LeavesUnfinished left.log)
    → OrderedLeaves → WrittenLeaves → TornLeaves → ((t : Table) (h : Held) → IsUnclosedOf t h → IsShut h.image)
    → ((t : Table) (h : Held) → IsUnclosedOf t h → FirstByteLast h.log) → AppendsLeave
appends_leave beginning order writes torn shut last = record {
  beginning = beginning;
  unclosed = λ t h is. unclosed-left order t h is (last t h is);
  closing = λ t blobs tail front left so_far.
      closing-left order writes torn t blobs tail front (shut t (file_so_far t blobs) (unclosed t blobs))
      (last t (file_so_far t blobs) (unclosed t blobs)) left so_far;
  closed = λ t blobs tail front.
      closed-only order writes torn t blobs tail front (shut t (file_so_far t blobs) (unclosed t blobs))
      (last t (file_so_far t blobs) (unclosed t blobs));
}
  where
    unclosed : (t : Table) (blobs : List (List ℕ)) → IsUnclosedOf t (file_so_far t blobs)
    unclosed t blobs = record { blobs = blobs; steps = inl refl }
