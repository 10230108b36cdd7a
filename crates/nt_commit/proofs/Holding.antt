-- One hold of the turn, as its pass knows it.
use Rattle.std.proofs.Common.{◌≡◌, ◌∙◌, ap, sym, refl, ℕ, ◌≤◌, Bool, false, List, [], ◌∷◌, ◌++◌, Option, Some, arith, subst, append-nil}
use Rattle.std.specs.Prelude.{Result, Ok, Err}
use Rattle.std.specs.List.{AllByRecursion}
use mathlib.Core.List.{IsPrefix}
use Rattle.nt_turn.specs.Pass.{TurnState, PassState, IsFree, IsHolder, Took, Adds, after_taking, after_giving, after_joining}
use Rattle.nt_turn.specs.History.{entries_of, longer}
use Rattle.nt_turn.proofs.Prefixes.{prefix_more}
use Rattle.nt_turn.proofs.Entries.{entries_of-own}
use Rattle.nt_outside.specs.Range.{ExtState}
use Rattle.nt_outside.specs.Held.{Held}
use Rattle.nt_outside.specs.Disk.{DiskState}
use Rattle.nt_outside.specs.declared.fault.Refused.{Refused}
use Rattle.nt_outside.specs.declared.fault.Refused.TheVariants as refused
use Rattle.nt_machine.specs.declared.entry.Entry.{Entry}
use Rattle.nt_machine.specs.History.{ranges_of}
use Rattle.nt_book.specs.declared.meta.ClusterMeta.{ClusterMeta}
use Rattle.nt_book.specs.Entries.{spoiled_entry}
use Rattle.nt_commit.specs.declared.claim.Claim.{Claim}
use Rattle.nt_commit.specs.declared.error.CommitError.{CommitError}
use Rattle.nt_commit.specs.declared.error.CommitError.TheVariants.{RangeTooLarge, FileTooLarge, TooManyClusters, Memory, Fault}
use Rattle.nt_commit.specs.declared.locked.Birth.{Birth}
use Rattle.nt_commit.specs.Claims.{IsClaimOf, CommitAdds, PenAdds, settled_with}
use Rattle.nt_commit.specs.Holds.{IsPassOf, IsCommittable, IsLater, Commits, HistoryGrows, OpensPen, SettlesRange, Spoils, IsHold}
use Rattle.nt_commit.specs.Holds.{AddsInHold, OpensInHold}
use Rattle.nt_commit.specs.Holds.{RefusesPen, LeavesAfter}
use Rattle.nt_commit.specs.Locked.{LockedState, birth_of, context_of, history_of_locked}
use Rattle.nt_logged.specs.Steps.{bytes_where_told}
use Rattle.nt_commit.proofs.Claimed.{claim_in}

-- the entries of an answer are of the context
pub own_commit : {X : Type 0} (staged : Bool) (tell : X → ExtState) (held : Option Held) (was is n start : ℕ) (meta : ClusterMeta)
    (result : Result (Claim X) CommitError) (added : List (Entry ClusterMeta))
    → CommitAdds staged tell held was is n start meta result added
    → AllByRecursion (λ (e : Entry ClusterMeta). e.context ≡ meta.context) added
own_commit staged tell held was is n start meta (Ok claim) added adds = rw adds.1 (refl, tt)
own_commit staged tell held was is n start meta (Err (RangeTooLarge len most)) added adds = rw adds tt
own_commit staged tell held was is n start meta (Err (FileTooLarge end most)) added adds = rw adds tt
own_commit staged tell held was is n start meta (Err TooManyClusters) added adds = rw adds tt
own_commit staged tell held was is n start meta (Err Memory) added adds = rw adds tt
own_commit staged tell held was is n start meta (Err Fault) added adds = rw adds.1 (refl, tt)

pub own_pen : {P : Type 0} (was is context : ℕ) (result : Result P Refused) (added : List (Entry ClusterMeta))
    → PenAdds was is context result added → AllByRecursion (λ (e : Entry ClusterMeta). e.context ≡ context) added
own_pen was is context (Ok pen) added adds = rw adds tt
own_pen was is context (Err refused.Memory) added adds = rw adds tt
own_pen was is context (Err refused.Failed) added adds = rw adds.1 (refl, tt)

module _ {D : Type 0} (state : D → DiskState) (committer : TurnState (Birth D)) (old held : PassState (Entry ClusterMeta) (Birth D))
    (taken : LockedState D)
    (of : IsPassOf committer old) (held_is : held ≡ after_taking old (history_of_locked state taken))
    (took : Took (history_of_locked state) birth_of context_of old taken) where
  -- the pass doesn't hold the turn
  pub free : IsFree committer old
  free = record { turn_is = of.turn; free = of.free }

  -- what was taken has the committer's birth
  pub birth_is : taken.birth ≡ committer.birth
  birth_is = some_same (sym took.birth ∙ of.birth)
    where
      some_same : {A : Type 0} {x y : A} → Some x ≡ Some y → x ≡ y
      some_same is = cc is

  -- it holds it now
  pub holder : IsHolder committer held
  holder = record {
    turn_is = ap (λ (p : PassState (Entry ClusterMeta) (Birth D)). p.turn) held_is ∙ of.turn;
    held = ap (λ (p : PassState (Entry ClusterMeta) (Birth D)). p.holds) held_is;
  }

  -- its context is one of so many
  pub context_fits : (context : ℕ) → context ≡ old.number → context ≤ taken.birth.contexts
  context_fits context is = omega (arith, is, of.number, ap (λ (b : Birth D). b.contexts) birth_is)

  -- a cluster may be committed by what never changes
  pub committable : (meta : ClusterMeta) → IsCommittable committer.birth meta → IsCommittable taken.birth meta
  committable meta is = subst (λ (b : Birth D). IsCommittable b meta) (sym birth_is) is

  -- what was committed is so by the committer
  pub commits_by : {X : Type 0} (tell : X → ExtState) (meta : ClusterMeta) (given : LockedState D) (result : Result (Claim X) CommitError)
      → Commits state taken.birth.staged tell meta taken given result → Commits state committer.birth.staged tell meta taken given result
  commits_by tell meta given result commits = subst (λ (b : Birth D). Commits state b.staged tell meta taken given result) birth_is commits

  -- an own claim is one of what was taken
  pub claim_taken : {X : Type 0} (tell : X → ExtState) (claim : Claim X)
      → IsClaimOf tell (state committer.birth.begun).held (ranges_of old.own) old.number claim
      → IsClaimOf tell (state taken.birth.begun).held (ranges_of (history_of_locked state taken)) old.number claim
  claim_taken tell claim own =
      let held = (state taken.birth.begun).held in
      claim_in tell held old.own (history_of_locked state taken) old.number claim took.own
      (subst (λ (b : Birth D). IsClaimOf tell (state b.begun).held (ranges_of old.own) old.number claim) (sym birth_is) own)

  -- the entry of a settled range, by the pass and the committer
  pub settles_by : (given : LockedState D) (context n : ℕ) (ext : ExtState) → context ≡ old.number
      → SettlesRange state context n ext taken given
      → HistoryGrows state taken given (settled_with old.number n (bytes_where_told (state committer.birth.begun).held ext.content) ∷ [])
  settles_by given context n ext is settles =
      settles.grows ∙ (ap (λ (i : ℕ). history_of_locked state taken
      ++ settled_with i n (bytes_where_told (state taken.birth.begun).held ext.content) ∷ []) is
      ∙ ap (λ (b : Birth D). history_of_locked state taken
      ++ settled_with old.number n (bytes_where_told (state b.begun).held ext.content) ∷ []) birth_is)

  -- the entry of a spoiled range
  pub spoils_by : (given : LockedState D) (context n : ℕ) → context ≡ old.number → Spoils state context n taken given
      → HistoryGrows state taken given (spoiled_entry old.number n (state given.disk).faults ∷ [])
  spoils_by given context n is spoils = spoils.grows
      ∙ ap (λ (i : ℕ). history_of_locked state taken ++ spoiled_entry i n (state given.disk).faults ∷ []) is

  -- a pen of the pass
  pub opens_by : {P : Type 0} (given : LockedState D) (context : ℕ) (result : Result P Refused) → context ≡ old.number
      → OpensPen state context taken given result
      → OpensPen state old.number taken given result
  opens_by given context result is opens = subst (λ (i : ℕ). OpensPen state i taken given result) is opens

  module _ (given : LockedState D) (added : List (Entry ClusterMeta)) (step : IsLater state taken given)
      (grows : HistoryGrows state taken given added)
      (ours : AllByRecursion (λ (e : Entry ClusterMeta). e.context ≡ old.number) added) where
    -- what is given may be given
    pub adds : Adds context_of held (history_of_locked state given)
    adds = record {
      more = added;
      whole = grows ∙ ap (λ (l : List (Entry ClusterMeta)). l ++ added)
          (sym (ap (λ (p : PassState (Entry ClusterMeta) (Birth D)). p.seen) held_is));
      ours = subst (λ (n : ℕ). AllByRecursion (λ (e : Entry ClusterMeta). e.context ≡ n) added)
          (sym (ap (λ (p : PassState (Entry ClusterMeta) (Birth D)). p.number) held_is)) ours;
    }

    pub given_birth : held.birth ≡ Some given.birth
    given_birth = ap (λ (p : PassState (Entry ClusterMeta) (Birth D)). p.birth) held_is ∙ (took.birth ∙ ap Some (sym step.birth))

    -- the hold, once it was given
    pub hold : (new : PassState (Entry ClusterMeta) (Birth D)) → new ≡ after_giving context_of held (history_of_locked state given)
        → IsHold state committer taken given added old new
    hold new gave =
        let log = history_of_locked state given in
        let own : entries_of context_of log old.number ≡ old.own ++ added =
        ap (λ (l : List (Entry ClusterMeta)). entries_of context_of l old.number) grows
        ∙ (entries_of-own context_of old.number (history_of_locked state taken) added ours
        ∙ ap (λ (l : List (Entry ClusterMeta)). l ++ added) (sym took.own)) in
        record {
          birth = birth_is;
          step = step;
          grows = grows;
          begins = took.seen;
          now = gave ∙ (ap (λ (p : PassState (Entry ClusterMeta) (Birth D)). after_giving context_of p log) held_is
              ∙ (ap (λ (l : List (Entry ClusterMeta)). record old { holds = false; seen = log; own = l }) own
              ∙ ap (λ (b : Bool). record old { holds = b; seen = log; own = old.own ++ added }) (sym of.free)));
        }

no_pen : (P : Type 0) (was is context : ℕ) (e : Refused) (added : List (Entry ClusterMeta)) → PenAdds {P =
    P} was is context (Err e) added → PenAdds {P = Unit {0}} was is context (Err e) added
no_pen P was is context refused.Memory added is_none = is_none
no_pen P was is context refused.Failed added is_one = is_one

prefix_on : (xs ys zs : List (Entry ClusterMeta)) → IsPrefix xs ys → IsPrefix ys zs → IsPrefix xs zs
prefix_on xs ys zs p q = subst (λ (l : List (Entry ClusterMeta)). IsPrefix xs l) q.1 (prefix_more xs ys q.0 p)

-- a pass has seen more, and nothing else of it changed
abbrev pub KeptBy : {D : Type 0} → PassState (Entry ClusterMeta) (Birth D) → PassState (Entry ClusterMeta) (Birth D) → Type 0
KeptBy old new = (new ≡ record old { seen = new.seen }) × IsPrefix old.seen new.seen

pub still : {D : Type 0} (old : PassState (Entry ClusterMeta) (Birth D)) → KeptBy old old
still old = (refl, ([], append-nil old.seen))

pub kept_from : {D : Type 0} (old new is : PassState (Entry ClusterMeta) (Birth D)) → is ≡ new → KeptBy old new → KeptBy old is
kept_from {D = D} old new is same kept = subst (λ (p : PassState (Entry ClusterMeta) (Birth D)). KeptBy old p) (sym same) kept

module _ {D : Type 0} (state : D → DiskState) (committer : TurnState (Birth D)) where
  -- a pen was made, so nothing was added
  pub opened : {P : Type 0} (old new : PassState (Entry ClusterMeta) (Birth D)) (pen : P)
      → OpensInHold state committer old new (Ok pen) → AddsInHold state committer [] old new
  opened old new pen o =
      record {
        taken = o.taken;
        given = o.given;
        hold = subst (λ (l : List (Entry ClusterMeta)). IsHold state committer o.taken
            o.given l old new) o.opens.adds o.hold;
      }

  -- no pen was to be had
  pub unopened : (P : Type 0) (old new : PassState (Entry ClusterMeta) (Birth D)) (e : Refused) → OpensInHold state {P =
      P} committer old new (Err e) → RefusesPen state committer old new e
  unopened P old new e o =
      record {
        taken = o.taken;
        given = o.given;
        opens = record {
          added = o.opens.added;
          grows = o.opens.grows;
          adds = no_pen P (state o.taken.disk).faults (state o.given.disk).faults old.number e o.opens.added o.opens.adds;
        };
        hold = o.hold;
      }

  -- what the first pass has seen after a hold that added nothing
  pub kept_by : (old new : PassState (Entry ClusterMeta) (Birth D)) → AddsInHold state committer [] old new
      → (new ≡ record old { seen = new.seen }) × IsPrefix old.seen new.seen
  kept_by old new a =
      let h = a.hold in
      let seen : new.seen ≡ history_of_locked state a.given = ap (λ (p : PassState (Entry ClusterMeta) (Birth D)). p.seen) h.now in
      let more : history_of_locked state a.given ≡ history_of_locked state a.taken =
      h.grows ∙ append-nil (history_of_locked state a.taken) in (
        h.now ∙ (ap (λ (l : List (Entry ClusterMeta)). record old { seen = history_of_locked state a.given; own = l }) (append-nil old.own)
            ∙ ap (λ (l : List (Entry ClusterMeta)). record old { seen = l }) (sym seen)),
        subst (λ (l : List (Entry ClusterMeta)). IsPrefix old.seen l) (sym (seen ∙ more)) h.begins,
      )

module _ {D : Type 0} where
  -- the pass of a context was joined
  pub left_by : (old first pass new : PassState (Entry ClusterMeta) (Birth D)) → first ≡ record old { seen = first.seen }
      → IsPrefix old.seen first.seen → new ≡ after_joining first pass
      → IsPrefix first.seen new.seen → IsPrefix pass.seen new.seen → LeavesAfter old pass new
  left_by old first pass new kept seen joined both told =
      let all = longer first.seen pass.seen in
      let is : new.seen ≡ all = ap (λ (p : PassState (Entry ClusterMeta) (Birth D)). p.seen) joined in
      record {
        seen = prefix_on old.seen first.seen new.seen seen both;
        told = told;
        now = joined ∙ (ap (λ (p : PassState (Entry ClusterMeta) (Birth D)). record p {
          seen = all;
          kept = p.kept ++ (pass.number, pass.own) ∷ [];
        }) kept
            ∙ ap (λ (l : List (Entry ClusterMeta)). record old { seen = l; kept = old.kept ++ (pass.number, pass.own) ∷ [] }) (sym is));
      }
