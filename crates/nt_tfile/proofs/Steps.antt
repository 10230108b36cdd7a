-- Keys that are read one behind the other.
use Rattle.std.proofs.Common.{◌≡◌, ℕ, suc, ◌+◌, ◌-◌, ◌<◌, ◌≤◌, List, Option, Result, Ok, Err, sym, ap, ◌∙◌, arith}
use Rattle.nt_num.specs.Place.{At}
use Rattle.nt_num.specs.declared.fault.ReadError.{ReadError}
use Rattle.nt_lists.specs.Chaining.{◌>>=◌, refused_as}
use Rattle.nt_container.specs.declared.parts.Key.{Key}
use Rattle.nt_num.specs.Codes.{bad_key_list}
use Rattle.nt_num.specs.Faults.{fault}
use Rattle.nt_container.specs.Keys.{key_at, first_anchor, keys_on}

one_less : (n i : ℕ) → i < n → n - i ≡ suc (n - (i + 1))
one_less n i lt = omega arith

none_left : (n i : ℕ) → n ≤ i → n - i ≡ 0
none_left n i le = omega arith

pub keys-next : (list n i : ℕ) (first more : Option Key) (here after : At) (key : Key) (class : List ℕ)
    (all : Result (Option Key) ReadError) → i < n
    → key_at here ≡ Ok ((key, class), after) → more ≡ first_anchor first key class → keys_on list (n - i) first here
    ≡ all → keys_on list (n - (i + 1)) more after ≡ all
keys-next list n i first more here after key class all lt e new h =
    let step = ap (λ (k : ℕ). keys_on list k first here) (one_less n i lt)
    ∙ ap (λ (r : Result ((Key × List ℕ) × At) ℕ). refused_as (fault bad_key_list (list + here.place)) r >>= λ key. keys_on list
    (n - (i + 1)) (first_anchor first key.0.0 key.0.1) key.1) e in
    ap (λ (o : Option Key). keys_on list (n - (i + 1)) o after) new ∙ sym step ∙ h

pub keys-fail : (list n i at : ℕ) (first : Option Key) (here : At) (all : Result (Option Key) ReadError) → i < n
    → key_at here ≡ Err at → keys_on list (n - i) first here ≡ all → all ≡ Err (fault bad_key_list (list + here.place))
keys-fail list n i at first here all lt e h =
    sym h ∙ ap (λ (k : ℕ). keys_on list k first here) (one_less n i lt)
    ∙ ap (λ (r : Result ((Key × List ℕ) × At) ℕ). refused_as (fault bad_key_list (list + here.place)) r >>= λ key. keys_on list
    (n - (i + 1)) (first_anchor first key.0.0 key.0.1) key.1) e

pub keys-done : (list n i : ℕ) (first : Option Key) (here : At) (all : Result (Option Key) ReadError) → n ≤ i
    → keys_on list (n - i) first here ≡ all → all ≡ Ok first
keys-done list n i first here all le h = sym h ∙ ap (λ (k : ℕ). keys_on list k first here) (none_left n i le)

pub ruleset key_steps = (keys-next, keys-fail, keys-done)
