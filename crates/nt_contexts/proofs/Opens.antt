-- Contexts are let in, one after the other.
use Rattle.std.proofs.Common.{◌≡◌, ℕ, ◌+◌, ◌≤◌, List, [], ◌∷◌, ◌++◌, length, map, Option, Some, refl, sym, ap, ◌∙◌, subst}
use Rattle.std.proofs.Common.{append_assoc, append-nil, length-append, arith}
use Rattle.std.proofs.lemmas.List.{length-map}
use Rattle.std.proofs.lemmas.Slice.Zip.{AllZip-long}
use Rattle.std.specs.Prelude.{All, IsSome}
use Rattle.nt_types.specs.ShapeData.{MemberData}
use Rattle.nt_grammar.specs.Table.{Table}
use Rattle.nt_book.specs.declared.params.Params.{Params}
use Rattle.nt_turn.specs.Pass.{TurnState}
use Rattle.nt_outside.specs.Source.{SourceState}
use Rattle.nt_outside.specs.declared.fault.Refused.{Refused}
use Rattle.nt_commit.specs.declared.locked.Birth.{Birth}
use Rattle.nt_commit.specs.Holds.{IsPassOf}
use Rattle.nt_event.specs.Lines.{before_first_line}
use Rattle.nt_contexts.specs.declared.seats.Seat.{Seat}
use Rattle.nt_contexts.specs.Reading.{left_of}
use Rattle.nt_contexts.specs.Seats.{DiskPass, IsFreshSeat}
use Rattle.nt_contexts.specs.Contexts.{AreLater}
use Rattle.nt_contexts.specs.Seating.{IsLettingIn, HasLetIn, RefusesSeat, IsNewSeat, AreNewSeats, HasOpened, MayWork, CanRun}
use Rattle.nt_contexts.proofs.LettingIn.{let-in-so-far}

-- no count fell
pub same-later : (states : List SourceState) → AreLater states states
same-later [] = tt
same-later (s ∷ states) = (omega arith, same-later states)

no-others : (others left : List SourceState) → AreLater others left → left ≡ [] → others ≡ []
no-others [] left later none = refl
no-others (s ∷ others) [] later none = absurd later
no-others (s ∷ others) (r ∷ left) later none = cc

module _ {D : Type 0} (committer : TurnState (Birth D)) where
  module _ {S P : Type 0} (source : S → SourceState) where
    pub new-seat : (n : ℕ) (s : SourceState) (seat : Seat S (DiskPass D) P) (pass : DiskPass D) (pen : P) → seat.pass ≡ Some pass
        → seat.pen ≡ Some pen
        → IsPassOf committer pass × (pass.own ≡ []) × (pass.number ≡ n) → left_of source seat.lines ≡ before_first_line s
        → IsNewSeat committer source n s seat
    new-seat n s seat pass pen there pen_is of begun = record {
      fresh = record {
        pass = pass;
        there = there;
        of = of.0;
        unused = of.1;
        pen = subst (λ (o : Option P). IsSome o) (sym pen_is) refl;
        first = ap (λ (l : _). l.number) begun;
      };
      number_is = of.2;
      begun = begun;
    }

    AreNewSeats-snoc : (n : ℕ) (states : List SourceState) (seats : List (Seat S (DiskPass D) P)) (s : SourceState) (seat : Seat S
        (DiskPass D) P)
        → AreNewSeats committer source n states seats → IsNewSeat committer source (n + length seats) s seat
        → AreNewSeats committer source n (states ++ s ∷ []) (seats ++ seat ∷ [])
    AreNewSeats-snoc n [] [] s seat are is = (subst (λ (m : ℕ). IsNewSeat committer source m s seat) (omega arith) is, tt)
    AreNewSeats-snoc n [] (x ∷ seats) s seat are is = absurd are
    AreNewSeats-snoc n (r ∷ states) [] s seat are is = absurd are
    AreNewSeats-snoc n (r ∷ states) (x ∷ seats) s seat are is =
        let next : n + length (x ∷ seats) ≡ n + 1 + length seats = omega arith in
        (are.0, AreNewSeats-snoc (n + 1) states seats s seat are.1 (subst (λ (m : ℕ). IsNewSeat committer source m s seat) next is))

    -- some sources have seats, and these are left
    pub record StillOpens (all left : List S) (seats : List (Seat S (DiskPass D) P)) (first : DiskPass D) : Type 0 where
      pub states : List SourceState
      pub whole : map source all ≡ states ++ map source left
      pub seats_are : AreNewSeats committer source 0 states seats
      pub letting : IsLettingIn committer (length seats) first

    pub opening-begins : (all : List S) (seats : List (Seat S (DiskPass D) P)) (first : DiskPass D) → seats ≡ []
        → IsLettingIn committer 0 first → StillOpens all all seats first
    opening-begins all seats first none h =
        subst (λ (l : List (Seat S (DiskPass D) P)). StillOpens all all l first) (sym none) (record {
          states = [];
          whole = refl;
          seats_are = tt;
          letting = h;
        })

    pub opening-goes-on : (all left rest : List S) (s : S) (seats : List (Seat S (DiskPass D) P)) (seat : Seat S (DiskPass D) P) (first
        next : DiskPass D) → left ≡ s ∷ rest
        → StillOpens all left seats first → IsLettingIn committer (first.splits + 1) next
        × IsNewSeat committer source first.splits (source s) seat
        → StillOpens all rest (seats ++ seat ∷ []) next
    opening-goes-on all left rest s seats seat first next is h opens =
        let count : first.splits ≡ length seats = h.letting.splits in
        let more : first.splits + 1 ≡ length (seats ++ seat ∷ []) = omega (arith, count, length-append seats (seat ∷ [])) in
        record {
          states = h.states ++ source s ∷ [];
          whole = h.whole ∙ (ap (λ (l : List S). h.states ++ map source l) is
              ∙ sym (append_assoc h.states (source s ∷ []) (map source rest)));
          seats_are = AreNewSeats-snoc 0 h.states seats (source s) seat h.seats_are (subst (λ (m : ℕ). IsNewSeat committer source m
              (source s) seat) (count ∙ omega arith) opens.1);
          letting = subst (λ (m : ℕ). IsLettingIn committer m next) more opens.0;
        }

    -- each source has its seat
    pub opening-ends : (all left : List S) (seats : List (Seat S (DiskPass D) P)) (first : DiskPass D)
        → StillOpens all left seats first → HasOpened committer source all left seats first
    opening-ends all left seats first h = record {
      states = h.states;
      others = map source left;
      whole = h.whole;
      left = same-later (map source left);
      seats_are = h.seats_are;
      let_in = let-in-so-far committer (length seats) first h.letting;
    }

    -- the first source that is left has no seat, and stands before the others again
    pub opening-stops : (all left rest : List S) (s s' : S) (seats : List (Seat S (DiskPass D) P)) (first next : DiskPass D) (error :
        Refused) → left ≡ s ∷ rest
        → StillOpens all left seats first → (source s').faults ≡ (source s).faults → RefusesSeat committer first.splits next error
        → HasOpened committer source all (s' ∷ rest) seats next
    opening-stops all left rest s s' seats first next error is h same refuses = record {
      states = h.states;
      others = source s ∷ map source rest;
      whole = h.whole ∙ ap (λ (l : List S). h.states ++ map source l) is;
      left = (omega (arith, same), same-later (map source rest));
      seats_are = h.seats_are;
      let_in = subst (λ (n : ℕ). HasLetIn committer n next) h.letting.splits refuses.let_in;
    }

    new-count : (i : ℕ) (states : List SourceState) (seats : List (Seat S (DiskPass D) P))
        → AreNewSeats committer source i states seats → length states ≡ length seats
    new-count i [] [] new = refl
    new-count i [] (x ∷ xs) new = absurd new
    new-count i (s ∷ states) [] new = absurd new
    new-count i (s ∷ states) (x ∷ xs) new = omega (arith, new-count (i + 1) states xs new.1)

    -- each source has a seat or is left
    pub opened-count : (all left : List S) (seats : List (Seat S (DiskPass D) P)) (first : DiskPass D)
        → HasOpened committer source all left seats first
        → length seats + length left ≡ length all
    opened-count all left seats first h =
        let long : length all ≡ length (h.states ++ h.others) = sym (length-map all source)
        ∙ ap (λ (l : List SourceState). length l) h.whole in
        let others : length (map source left) ≡ length h.others = AllZip-long (λ (s s' : SourceState). s.faults ≤ s'.faults) h.others
        (map source left) h.left in
        omega (arith, long, length-append h.states h.others, others, length-map left source, new-count 0 h.states seats h.seats_are)

    -- where none is left, these are all
    pub opened-all : (all left : List S) (seats : List (Seat S (DiskPass D) P)) (first : DiskPass D) (h : HasOpened committer source all
        left seats first) → left ≡ []
        → map source all ≡ h.states
    opened-all all left seats first h none =
        h.whole ∙ (ap (λ (l : List SourceState). h.states ++ l) (no-others h.others (map source left) h.left (ap (λ (l : List S). map
        source l) none)) ∙ append-nil h.states)

    -- contexts that all have their seats may run
    pub may-run : (fields : List MemberData) (t : Table) (p : Params) (all left : List S) (seats : List (Seat S (DiskPass D) P)) (first
        next : DiskPass D)
        → MayWork committer fields t p (length all) first → HasOpened committer source all left seats next
        → (left ≡ []) × (next.own ≡ []) → All (IsFreshSeat source committer) seats
        → CanRun committer source fields t p seats next
    may-run fields t p all left seats first next may opened none fresh =
        let count = opened-count all left seats next opened in
        let empty : length left ≡ 0 = ap (λ (l : List S). length l) none.0 in
        record {
          schema = may.schema;
          some = omega (arith, may.some, count, empty);
          few = omega (arith, may.few, count, empty);
          seated = omega (arith, may.seated, count, empty);
          fresh = fresh;
          letting = record {
            of = opened.let_in.of;
            splits = opened.let_in.splits;
            kept = opened.let_in.kept;
            unused = none.1;
          };
        }
