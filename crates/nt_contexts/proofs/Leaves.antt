-- Contexts leave, one after the other.
use Rattle.std.proofs.Common.{◌≡◌, ℕ, ◌+◌, List, [], ◌∷◌, ◌++◌, length, refl, sym, ap, ◌∙◌, subst, append_assoc, append-nil, arith, Option}
use Rattle.std.proofs.Common.{Some, Result, Ok, Err}
use Rattle.std.specs.List.{AllByRecursion}
use mathlib.Core.List.{IsPrefix}
use Rattle.nt_turn.specs.Pass.{TurnState}
use Rattle.nt_machine.specs.declared.entry.Entry.{Entry}
use Rattle.nt_book.specs.declared.meta.ClusterMeta.{ClusterMeta}
use Rattle.nt_commit.specs.declared.locked.Birth.{Birth}
use Rattle.nt_commit.specs.Holds.{IsFirstOf, LeavesAfter}
use Rattle.nt_contexts.specs.declared.error.ContextError.{ContextError}
use Rattle.nt_contexts.specs.declared.seats.Seat.{Seat}
use Rattle.nt_contexts.specs.Seats.{DiskPass}
use Rattle.nt_contexts.specs.declared.error.RunError.{RunError}
use Rattle.nt_contexts.specs.Answers.{answer_of, with_rest, answer_from}
use Rattle.nt_contexts.specs.Seating.{all_kept, kept_by, seat_sources, HasBeenSeen, CanLeave, JoinsSeat, LeaveAll, TurnsBack}
use Rattle.nt_contexts.proofs.Lists.{All-snoc, All-weaker, prefix-trans}

with_rest-joined : (clusters input : ℕ) (answer : Result Unit RunError) (ended : Result Unit ContextError) (rest : Result Unit RunError)
    → with_rest (with_rest answer (answer_of clusters input ended (Ok tt))) rest ≡ with_rest answer (answer_of clusters input ended rest)
with_rest-joined clusters input (Ok done) (Ok fine) rest = refl
with_rest-joined clusters input (Ok done) (Err error) rest = refl
with_rest-joined clusters input (Err error) ended rest = refl

with_rest-none : (answer : Result Unit RunError) → with_rest answer (Ok tt) ≡ answer
with_rest-none (Ok done) = refl
with_rest-none (Err error) = refl

module _ {D S P : Type 0} (committer : TurnState (Birth D)) (clusters : ℕ) (all : List (Seat S (DiskPass D) P)) (start : DiskPass D)
    (none_back : List S) where
  abbrev Seats : Type 0
  Seats = List (Seat S (DiskPass D) P)

  -- some contexts have left, and these are still in their seats
  pub record StillLeaves (seats : List (Seat S (DiskPass D) P)) (first : DiskPass D) (back : List S) (input : ℕ) (answer : Result Unit
      RunError) : Type 0 where
    pub done : List (Seat S (DiskPass D) P)
    pub whole : all ≡ done ++ seats
    pub of : IsFirstOf committer first
    pub can : AllByRecursion (CanLeave committer) seats
    pub now : first ≡ record start { seen = first.seen; kept = first.kept }
    pub kept : first.kept ++ all_kept seats ≡ start.kept ++ all_kept all
    pub told : AllByRecursion (HasBeenSeen first.seen) done
    pub sources : back ++ seat_sources seats ≡ none_back ++ seat_sources all
    pub answered : with_rest answer (answer_from clusters input seats) ≡ answer_from clusters 0 all

  pub leaving-begins : IsFirstOf committer start → AllByRecursion (CanLeave committer) all → StillLeaves all start none_back 0 (Ok tt)
  leaving-begins of can = record {
    done = [];
    whole = refl;
    of = of;
    can = can;
    now = refl;
    kept = refl;
    told = tt;
    sources = refl;
    answered = refl;
  }

  -- the context in the first seat leaves
  leaves : (seat : Seat S (DiskPass D) P) (rest : Seats) (first next : DiskPass D) (back : List S) (input : ℕ) (answer : Result Unit
      RunError)
      → StillLeaves (seat ∷ rest) first back input answer → JoinsSeat committer seat first next
      → StillLeaves rest next (back ++ seat.lines.source ∷ []) (input + 1) (with_rest answer (answer_of clusters input seat.ended (Ok tt)))
  leaves seat rest first next back input answer h joins =
      let kept_now : next.kept ≡ first.kept ++ kept_by seat.pass ∷ [] = ap (λ (f : DiskPass D). f.kept) joins.now in
      record {
        done = h.done ++ seat ∷ [];
        whole = h.whole ∙ sym (append_assoc h.done (seat ∷ []) rest);
        of = joins.of;
        can = h.can.1;
        now = joins.now
            ∙ (ap (λ (f : DiskPass D). record f { seen = next.seen; kept = first.kept ++ kept_by seat.pass ∷ [] }) h.now
            ∙ ap (λ (l : List (ℕ × List (Entry ClusterMeta))). record start { seen = next.seen; kept = l }) (sym kept_now));
        kept = ap (λ (l : List (ℕ × List (Entry ClusterMeta))). l ++ all_kept rest) kept_now
            ∙ (append_assoc first.kept (kept_by seat.pass ∷ []) (all_kept rest) ∙ h.kept);
        told = All-snoc (HasBeenSeen next.seen) h.done seat
            (All-weaker (HasBeenSeen first.seen) (HasBeenSeen next.seen) (λ x seen pass there. prefix-trans pass.seen first.seen next.seen
            (seen pass there) joins.seen) h.done h.told)
            joins.told;
        sources = append_assoc back (seat.lines.source ∷ []) (seat_sources rest) ∙ h.sources;
        answered = with_rest-joined clusters input answer seat.ended (answer_from clusters (input + 1) rest) ∙ h.answered;
      }

  pub leaving-goes-on : (seats rest : List (Seat S (DiskPass D) P)) (seat : Seat S (DiskPass D) P) (first next : DiskPass D) (back :
      List S) (source : S) (input : ℕ)
      (answer : Result Unit RunError) (ended : Result Unit ContextError) → seats ≡ seat ∷ rest → StillLeaves seats first back input answer
      → JoinsSeat committer seat first next → source ≡ seat.lines.source → ended ≡ seat.ended
      → StillLeaves rest next (back ++ source ∷ []) (input + 1) (with_rest answer (answer_of clusters input ended (Ok tt)))
  leaving-goes-on seats rest seat first next back source input answer ended is h joins from end =
      let here = subst (λ (l : Seats). StillLeaves l first back input answer) is h in
      subst (λ (x : S). StillLeaves rest next (back ++ x ∷ []) (input + 1) (with_rest answer (answer_of clusters input ended (Ok tt))))
      (sym from)
      (subst (λ (e : Result Unit ContextError). StillLeaves rest next (back ++ seat.lines.source ∷ []) (input + 1) (with_rest answer
      (answer_of clusters input e (Ok tt)))) (sym end)
      (leaves seat rest first next back input answer here joins))

  -- the first of those that are left may leave
  pub first-can-leave : (seats rest : List (Seat S (DiskPass D) P)) (seat : Seat S (DiskPass D) P) (first : DiskPass D) (back : List S)
      (input : ℕ)
      (answer : Result Unit RunError) → seats ≡ seat ∷ rest → StillLeaves seats first back input answer → CanLeave committer seat
  first-can-leave seats rest seat first back input answer is h = (subst (λ (l : Seats). AllByRecursion (CanLeave committer) l) is h.can).0

  all-left : (first : DiskPass D) (back : List S) (input : ℕ) (answer : Result Unit RunError) → StillLeaves [] first back input answer
      → LeaveAll committer clusters all start first none_back back answer
  all-left first back input answer h = record {
    of = h.of;
    now = h.now ∙ ap (λ (l : List (ℕ × List (Entry ClusterMeta))). record start { seen = first.seen; kept = l }) (sym (append-nil
        first.kept) ∙ h.kept);
    told = subst (λ (l : Seats). AllByRecursion (HasBeenSeen first.seen) l) (sym (h.whole ∙ append-nil h.done)) h.told;
    sources = sym (append-nil back) ∙ h.sources;
    answer = sym (with_rest-none answer) ∙ h.answered;
  }

  pub leaving-ends : (seats : List (Seat S (DiskPass D) P)) (first : DiskPass D) (back : List S) (input : ℕ) (answer : Result Unit RunError)
      → length seats ≡ 0 → StillLeaves seats first back input answer → LeaveAll committer clusters all start first none_back back answer
  leaving-ends [] first back input answer none h = all-left first back input answer h
  leaving-ends (seat ∷ seats) first back input answer none h = absurd (omega arith)

module _ {D S P : Type 0} (committer : TurnState (Birth D)) where
  -- a pass that was joined was that of the seat
  pub joins-seat : (seat : Seat S (DiskPass D) P) (old new pass : DiskPass D) → IsFirstOf committer old → seat.pass ≡ Some pass
      → LeavesAfter old pass new
      → JoinsSeat committer seat old new
  joins-seat seat old new pass of is left =
      let kept : (pass.number, pass.own) ≡ kept_by seat.pass = sym (ap (λ (o : Option (DiskPass D)). kept_by o) is) in
      let now : new ≡ record old { seen = new.seen; kept = old.kept ++ kept_by seat.pass ∷ [] } =
      left.now ∙ ap (λ (k : ℕ × List (Entry ClusterMeta)). record old { seen = new.seen; kept = old.kept ++ k ∷ [] }) kept in
      let same : IsFirstOf committer (record old { seen = new.seen; kept = old.kept ++ kept_by seat.pass ∷ [] }) = record {
        of = record { turn = of.of.turn; free = of.of.free; birth = of.of.birth; number = of.of.number; seats = of.of.seats };
        first = of.first;
      } in
      record {
        of = subst (λ (f : DiskPass D). IsFirstOf committer f) (sym now) same;
        now = now;
        seen = left.seen;
        told = λ mine there.
            let one : pass ≡ mine = cc in
            subst (λ (f : DiskPass D). IsPrefix f.seen new.seen) one left.told;
      }

  -- contexts left, and the sources without a seat stand behind theirs
  pub turned : (clusters : ℕ) (seats : List (Seat S (DiskPass D) P)) (old new : DiskPass D) (back back' sources last : List S) (answer :
      Result Unit RunError)
      → LeaveAll committer clusters seats old new back back' answer → back ≡ [] → last ≡ back' ++ sources
      → TurnsBack committer seats old new sources last
  turned clusters seats old new back back' sources last answer left none is = record {
    of = left.of;
    now = left.now;
    sources = is ∙ ap (λ (l : List S). l ++ sources) (left.sources ∙ ap (λ (l : List S). l ++ seat_sources seats) none);
  }
