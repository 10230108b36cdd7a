-- A turn and its passes as their users see them, and what each call does to them.
use Rattle.std.specs.Prelude.{◌≡◌, ◌≢◌, ℕ, ◌+◌, ◌<◌, ◌≤◌, Bool, true, false, List, [], ◌∷◌, ◌++◌}
use Rattle.std.specs.List.{AllByRecursion}
use mathlib.Core.List.{IsPrefix}
use Rattle.std.specs.declared.option.Option.{Option}
use Rattle.std.specs.declared.option.Option.TheVariants.{Some, None}
use Rattle.atomic_table.specs.Table.{Me}
use Rattle.atomic_table.specs.Seated.{TableId}
use Rattle.nt_turn.specs.declared.view.Stage.{Stage}
use Rattle.nt_turn.specs.declared.view.Stage.TheVariants.{Idle, Waiting, Holding}
use Rattle.nt_turn.specs.declared.view.View.{View}
use Rattle.nt_turn.specs.History.{entries_of, longer, HasNone}

-- which turn it is, how many passes may be split off its first, whose number that is, and the birth of its value
pub record TurnState (B : Type 0) : Type 0 where
  pub id : TableId
  pub seats : ℕ
  pub birth : B

-- a pass: its turn and number, whether it holds the turn, the birth, what it has seen of the history, its own entries,
-- how many passes were split off it, and the number and entries of each that was joined to it
pub record PassState (E B : Type 0) : Type 0 where
  pub turn : TableId
  pub number : ℕ
  pub holds : Bool
  pub birth : Option B
  pub seen : List E
  pub own : List E
  pub splits : ℕ
  pub kept : List (ℕ × List E)

-- the pass of this stage holds the turn
abbrev pub holds_turn : Stage → Bool
holds_turn Idle = false
holds_turn (Waiting ticket) = false
holds_turn (Holding ticket) = true

-- the pass with this view
abbrev pub pass_state : {E B : Type 0} → TableId → View E B → PassState E B
pass_state turn v =
    record {
      turn = turn;
      number = v.number;
      holds = holds_turn v.stage;
      birth = v.birth;
      seen = v.seen;
      own = v.own;
      splits = v.splits;
      kept = v.kept;
    }

-- between two calls a pass doesn't wait, and the value is with its user where it holds the turn
abbrev pub IsSettled : {V : Type 0} → Stage → List (ℕ × Option V) → Type 0
IsSettled Idle out = out ≡ []
IsSettled (Waiting ticket) out = ⊥
IsSettled (Holding ticket) out = out ≡ (0, None) ∷ []

-- a pass that was not joined, with its numbers
pub record IsPass {V E B : Type 0} (number splits : ℕ) (me : Me (Option V) (View E B)) : Type 0 where
  pub number_is : number ≡ me.0.number
  pub splits_is : splits ≡ me.0.splits
  pub live : me.0.live ≡ true
  pub settled : IsSettled me.0.stage me.1

-- the first pass of a turn
abbrev pub first_pass : {E B : Type 0} → TurnState B → PassState E B
first_pass turn =
    record { turn = turn.id; number = turn.seats; holds = false; birth = Some turn.birth; seen = []; own = []; splits = 0; kept = [] }

-- the pass that is split off this one: it has the next number, has seen the same, and has no entries
abbrev pub next_pass : {E B : Type 0} → PassState E B → PassState E B
next_pass first =
    record {
      turn = first.turn;
      number = first.splits;
      holds = false;
      birth = first.birth;
      seen = first.seen;
      own = [];
      splits = 0;
      kept = [];
    }

-- the pass after it took a value with this history
abbrev pub after_taking : {E B : Type 0} → PassState E B → List E → PassState E B
after_taking pass log = record pass { holds = true; seen = log }

-- the pass after it gave a value with this history
abbrev pub after_giving : {E B : Type 0} → (E → ℕ) → PassState E B → List E → PassState E B
after_giving context pass log = record pass { holds = false; seen = log; own = entries_of context log pass.number }

-- the first pass after another was joined to it
abbrev pub after_joining : {E B : Type 0} → PassState E B → PassState E B → PassState E B
after_joining first other =
    record first { seen = longer first.seen other.seen; kept = first.kept ++ (other.number, other.own) ∷ [] }

-- the pass is of this turn, and doesn't hold it
pub record IsFree {E B : Type 0} (turn : TurnState B) (pass : PassState E B) : Type 0 where
  pub turn_is : pass.turn ≡ turn.id
  pub free : pass.holds ≡ false

-- the first pass of this turn, which doesn't hold it
pub record IsFirst {E B : Type 0} (turn : TurnState B) (pass : PassState E B) : Type 0 where
  pub turn_is : pass.turn ≡ turn.id
  pub free : pass.holds ≡ false
  pub number : pass.number ≡ turn.seats

-- the pass is of this turn, and holds it
pub record IsHolder {E B : Type 0} (turn : TurnState B) (pass : PassState E B) : Type 0 where
  pub turn_is : pass.turn ≡ turn.id
  pub held : pass.holds ≡ true

-- the history begins with what the pass had seen, and has just its entries of its number; the birth is the pass's
pub record Took {V E B : Type 0} (history : V → List E) (born : V → B) (context : E → ℕ) (pass : PassState E B) (x : V) : Type 0 where
  pub seen : IsPrefix pass.seen (history x)
  pub own : pass.own ≡ entries_of context (history x) pass.number
  pub birth : pass.birth ≡ Some (born x)

-- the history is that which the pass has seen, and then entries of its number
pub record Adds {E B : Type 0} (context : E → ℕ) (pass : PassState E B) (log : List E) : Type 0 where
  pub more : List E
  pub whole : log ≡ pass.seen ++ more
  pub ours : AllByRecursion (λ e. context e ≡ pass.number) more

-- each pass that was split off was joined
abbrev pub AllJoined : {E B : Type 0} → PassState E B → Type 0
AllJoined first = (n : ℕ) → n < first.splits → HasNone first.kept n → ⊥

-- of the passes that the first has now split off, each was joined to it since, or was split off and not joined before
pub record JoinsSince {E B : Type 0} (old new : PassState E B) : Type 0 where
  pub each : (n : ℕ) → n < new.splits → HasNone new.kept n → (n < old.splits) × HasNone old.kept n

-- so many passes more may be split off the first pass of this turn, which doesn't hold it
pub record MaySplit {E B : Type 0} (turn : TurnState B) (more : ℕ) (pass : PassState E B) : Type 0 where
  pub first : IsFirst turn pass
  pub room : pass.splits + more ≤ turn.seats

-- so many passes more were split off the first pass, and all that were are joined to it
pub record SplitAndJoined {E B : Type 0} (turn : TurnState B) (more : ℕ) (old new : PassState E B) : Type 0 where
  pub first : IsFirst turn new
  pub splits : new.splits ≡ old.splits + more
  pub joined : JoinsSince old new

-- the history begins with what the first pass has seen, and has just its entries and those that it keeps; the birth is its own
pub record Closes {V E B : Type 0} (history : V → List E) (born : V → B) (context : E → ℕ) (first : PassState E B) (x : V) : Type 0 where
  pub seen : IsPrefix first.seen (history x)
  pub own : first.own ≡ entries_of context (history x) first.number
  pub kept : AllByRecursion (λ (k : ℕ × List E). k.1 ≡ entries_of context (history x) k.0) first.kept
  pub others : (n : ℕ) → n ≢ first.number → HasNone first.kept n → entries_of context (history x) n ≡ []
  pub birth : first.birth ≡ Some (born x)
