-- What a crash leaves of a file that is begun, and of one that is closed: the finished file.
use Rattle.std.proofs.Common.{◌≡◌, ◌∙◌, ap, sym, refl, subst, ℕ, Bool, List, [], ◌∷◌, ◌++◌, length, map, get_or, arith, append_assoc}
use Rattle.std.proofs.Common.{append-nil, Option, Result, Ok, Err}
use Rattle.nt_outside.specs.Log.{Append, Sync}
use Rattle.nt_outside.specs.Held.{Held, Becomes, BecomesSome, WhereHeld, nothing_held}
use Rattle.nt_outside.specs.Disk.{DiskState}
use Rattle.nt_outside.specs.Reads.{exactly, IsKnown}
use Rattle.nt_container.specs.Spelling.{begun}
use Rattle.nt_container.proofs.Gate.{begin-shut, begin-len}
use Rattle.nt_grammar.specs.Table.{Table}
use Rattle.nt_book.specs.declared.limits.LimitError.{LimitError}
use Rattle.nt_book.specs.declared.params.Params.{Params}
use Rattle.nt_book.specs.Books.{BookData}
use Rattle.nt_book.specs.Kept.{IsBookKept}
use Rattle.nt_layout.specs.Headers.{header_blob, clusters_place}
use Rattle.nt_layout.specs.Finished.{finished}
use Rattle.nt_finished.specs.Filled.{IsArrangedBook}
use Rattle.nt_cuts.specs.Cuts.{LeavesUnfinished, LeavesUnfinishedOr, LeavesOnly}
use Rattle.nt_cuts.specs.Shut.{StaysShut}
use Rattle.nt_cuts.proofs.Reading.{read-cut, read-shut, unsynced-leaves}
use Rattle.nt_close.specs.declared.error.CloseError.{CloseError}
use Rattle.nt_close.specs.declared.error.CloseError.TheVariants.{Spoiled, Torn, Unpublished, Memory, RangeTooLarge, FileTooLarge, Fault}
use Rattle.nt_close.specs.Steps.{begun_on, IsBegunPartly, IsBegunSoFar, begun_partly, torn_head, torn_blob, not_kept, begun_whole}
use Rattle.nt_close.specs.Steps.{closed_on, IsClosedSoFar, closed_partly, closed_whole}
use Rattle.nt_close.specs.Damage.{IsUndamaged}
use Rattle.nt_close.specs.Filled.{AreListsNoted, filled_file, closing_tail, closing_front}
use Rattle.nt_close.specs.Closing.{AreRangesOf, HasCloseCause, LeavesClosed}
use Rattle.nt_close.specs.Crashes.{CrashesByAnswer}
use Rattle.nt_close.proofs.Cutting.{closed-only, closed-cut}
use Rattle.nt_close.proofs.Finishing.{front_len, stands, finished-apart}
use Rattle.nt_close.proofs.Within.{has_lists}

-- a room of 226 bytes whose first is 0
pub record Room (head : List ℕ) : Type 0 where
  pub rest : List ℕ
  pub is : head ≡ 0 ∷ rest
  pub long : length rest ≡ 225

room-of : (head : List ℕ) → get_or head 0 0 ≡ 0 → length head ≡ 226 → Room head
room-of [] shut long = absurd (omega arith)
room-of (b ∷ rest) shut long = record { rest = rest; is = ap (λ (n : ℕ). n ∷ rest) shut; long = omega arith }

-- the one in which a file begins
pub room : Room (begun 0 0 0)
room = room-of (begun 0 0 0) (ap (λ (l : List ℕ). get_or l 0 0) (sym (append-nil (begun 0 0 0))) ∙ begin-shut 0 0 0 []) (begin-len 0 0 0)

-- ---- a file that is begun

-- is shut
pub begun-shut : (t : Table) → StaysShut (begun_on (begun 0 0 0) (header_blob t) nothing_held).log
begun-shut t = record {
  rest = room.rest;
  more = Append (header_blob t) ∷ Sync ∷ [];
  is = ap (λ (head : List ℕ). Append head ∷ Append (header_blob t) ∷ Sync ∷ []) room.is;
  spares = (tt, (tt, tt));
}

-- and before it is, there is no sync
pub begun-leaves : (t : Table) (left : Held) → IsBegunSoFar (begun 0 0 0) (header_blob t) nothing_held left → LeavesUnfinished left.log
begun-leaves t left (begun_partly (torn_head torn)) = unsynced-leaves left.log _ torn.log ((λ e. cc), tt)
begun-leaves t left (begun_partly (torn_blob torn)) = unsynced-leaves left.log _ torn.log ((λ e. cc), ((λ e. cc), tt))
begun-leaves t left (begun_partly (not_kept e)) = unsynced-leaves left.log _ (ap (λ (h : Held). h.log) e) ((λ e. cc), ((λ e. cc), tt))
begun-leaves t left (begun_whole e) =
    subst (λ (h : Held). LeavesUnfinished h.log) (sym e)
    (read-shut (begun_on (begun 0 0 0) (header_blob t) nothing_held).log (begun-shut t))

module _ (t : Table) (old new : Option Held) (empty : WhereHeld old (λ (h : Held). h ≡ nothing_held)) where
  -- all steps were taken
  pub begun-crash : Becomes old new (begun_on (begun 0 0 0) (header_blob t))
      → BecomesSome old new (λ h h'. StaysShut h'.log × LeavesUnfinished h'.log)
  begun-crash becomes h was = (
    begun_on (begun 0 0 0) (header_blob t) h,
    becomes h was,
    subst
        (λ (k : Held).
        StaysShut (begun_on (begun 0 0 0) (header_blob t) k).log × LeavesUnfinished (begun_on (begun 0 0 0) (header_blob t) k).log)
        (sym (empty h was)) (begun-shut t, read-shut _ (begun-shut t)),
  )

  -- or some
  pub cut-crash : BecomesSome old new (IsBegunPartly (begun 0 0 0) (header_blob t)) → BecomesSome old new (λ h h'. LeavesUnfinished h'.log)
  cut-crash becomes h was =
      let left = becomes h was in (
        left.0,
        left.1,
        begun-leaves t left.0 (begun_partly
            (subst (λ (k : Held). IsBegunPartly (begun 0 0 0) (header_blob t) k left.0) (empty h was) left.2)),
      )

-- ---- a file that is closed

module _ (staged : Bool) (t : Table) (book : BookData) (most : ℕ) where
  -- what closing writes
  abbrev last : List ℕ
  last = closing_tail staged t book most

  abbrev lead : List ℕ
  lead = closing_front staged t book most

  module _ (ranges : List (List ℕ)) (are : IsArrangedBook staged t most book ranges) (h : Held)
      (is : IsKnown h.log (filled_file staged t book most ranges)) where
    -- what stands behind the front
    abbrev body : List ℕ
    body = header_blob t ++ stands staged t book most ranges

    known : IsKnown h.log (0 ∷ (room.rest ++ body))
    known =
        is
        ∙ ap (λ (l : List ℕ). map exactly l)
        (append_assoc (begun 0 0 0) (header_blob t) (stands staged t book most ranges) ∙ ap (λ (l : List ℕ). l ++ body) room.is)

    whole-is : 0x72 ∷ (lead ++ (body ++ last)) ≡ finished staged t book most ranges
    whole-is =
        ap (λ (l : List ℕ). 0x72 ∷ (lead ++ l)) (append_assoc (header_blob t) (stands staged t book most ranges) last)
        ∙ sym (finished-apart staged t book most ranges are)

    same : length room.rest ≡ length lead
    same = room.long ∙ sym (front_len staged t book most)

    pub closed-leaves : LeavesOnly (λ (bytes : List ℕ). bytes ≡ finished staged t book most ranges) (closed_on last lead h).log
    closed-leaves bytes may = closed-only room.rest body last lead h same known bytes may ∙ whole-is

    pub closing-leaves : StaysShut h.log → (left : Held) → IsClosedSoFar last lead h left
        → LeavesUnfinishedOr (λ (bytes : List ℕ). bytes ≡ finished staged t book most ranges) left.log
    closing-leaves shut left closed =
        subst (λ (file : List ℕ). LeavesUnfinishedOr (λ (bytes : List ℕ). bytes ≡ file) left.log) whole-is
        (read-cut (λ (bytes : List ℕ). bytes ≡ 0x72 ∷ (lead ++ (body ++ last))) left.log
        (closed-cut room.rest body last lead h same known shut left closed))

-- what is left after an answer
module _ (t : Table) (p : Params) (book : BookData) (kept : IsBookKept book) (begins : book.begin ≡ clusters_place t)
    (noted : AreListsNoted t p book) where
  -- that of a book which isn't torn
  arranged : IsUndamaged book → (ranges : List (List ℕ)) → AreRangesOf book ranges → IsArrangedBook p.staged t p.group book ranges
  arranged whole ranges are =
      record { kept = kept; lists = has_lists t p book kept noted whole.untorn; begin = begins; lens = are }

  pub answered : (passed : Option LimitError) (old new : DiskState) (result : Result Unit CloseError) → HasCloseCause book passed result
      → LeavesClosed (closing_tail p.staged t book p.group) (closing_front p.staged t book p.group) old new result
      → CrashesByAnswer p.staged t book p.group old.held new.held result
  answered passed old new (Ok done) cause left h was =
      let now = closed_on (closing_tail p.staged t book p.group) (closing_front p.staged t book p.group) h in (
        now,
        left.held h was,
        λ shut ranges are is. (
          closing-leaves p.staged t book p.group ranges (arranged cause.0 ranges are) h is shut now (closed_whole refl),
          closed-leaves p.staged t book p.group ranges (arranged cause.0 ranges are) h is,
        ),
      )
  answered passed old new (Err (Spoiled cluster faults)) cause left h was =
      (h, left.place.held ∙ was, λ shut ranges are is. read-shut h.log shut)
  answered passed old new (Err (Torn group faults)) cause left h was =
      (h, left.place.held ∙ was, λ shut ranges are is. read-shut h.log shut)
  answered passed old new (Err (Unpublished range)) cause left h was =
      (h, left.place.held ∙ was, λ shut ranges are is. read-shut h.log shut)
  answered passed old new (Err Memory) cause left h was = (h, left.place.held ∙ was, λ shut ranges are is. read-shut h.log shut)
  answered passed old new (Err (RangeTooLarge len most)) cause left h was =
      (h, left.place.held ∙ was, λ shut ranges are is. read-shut h.log shut)
  answered passed old new (Err (FileTooLarge end most)) cause left h was =
      (h, left.place.held ∙ was, λ shut ranges are is. read-shut h.log shut)
  answered passed old new (Err Fault) cause left h was =
      let cut = left.held h was in (
        cut.0,
        cut.1,
        λ shut ranges are is.
            closing-leaves p.staged t book p.group ranges (arranged cause.0 ranges are) h is shut cut.0 (closed_partly cut.2),
      )
