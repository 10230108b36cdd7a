-- Which calls fail by their number over several objects.
use Rattle.std.specs.Prelude.{ℕ, ◌+◌, ◌-◌, ◌^◌, min, Option, Some, None}

-- the calls from one number to another, counted from 1
pub record Hits : Type 0 where
  pub from : ℕ
  pub to : ℕ

-- those from one number to another, where there is a word in which objects count; else none
abbrev pub hits_of : {W : Type 0} → Option W → ℕ → ℕ → Option Hits
hits_of None from to = None
hits_of (Some word) from to = Some (record { from = from; to = to })

-- the call of this number alone
abbrev pub hits_one : ℕ → Option Hits
hits_one number = Some (record { from = number; to = number })

-- all calls behind the first so many
abbrev pub hits_behind : ℕ → Option Hits
hits_behind count = Some (record { from = min (count + 1) (2 ^ 64 - 1); to = 2 ^ 64 - 1 })
