-- Calls that fail where their numbers are listed. A call's number counts from 1 over the object's calls that can fail.
use Rattle.std.specs.Prelude.{◌≡◌, ◌⊎◌, ℕ, ◌+◌, ◌-◌, ◌^◌, min, Option, None, List, Contains, Result, OnOk, OnErr, IsErr, IsErrOf}
use Rattle.nt_outside.specs.declared.fault.Failed.{Failed}
use Rattle.nt_outside.specs.declared.fault.Refused.{Refused}
use Rattle.nt_outside.specs.declared.fault.Refused.TheVariants as refused
use Rattle.nt_memory.specs.declared.tally.Tally.{Tally}
use Rattle.nt_memory.specs.Hits.{Hits}

-- no call was made; some may fail by their number over several objects, or none
abbrev pub new_tally : List ℕ → Option Hits → Tally
new_tally listed trip = record { listed = listed; made = 0; faults = 0; trip = trip }

-- one more, up to the last number of the type
abbrev pub one_more : ℕ → ℕ
one_more count = min (count + 1) (2 ^ 64 - 1)

-- the number of the next call is in the list
abbrev pub IsListed : Tally → Type 0
IsListed t = Contains t.listed (one_more t.made)

-- a call was made
abbrev pub call_counted : Tally → Tally
call_counted t = record t { made = one_more t.made }

-- a fault was counted
abbrev pub faulted : Tally → Tally
faulted t = record t { faults = one_more t.faults }

-- a call was made and failed
abbrev pub failed : Tally → Tally
failed t = record t { made = one_more t.made; faults = one_more t.faults }

-- the faults of another object are counted too
abbrev pub takes_in : ℕ → Tally → Tally
takes_in faults t = record t { faults = min (t.faults + faults) (2 ^ 64 - 1) }

-- the call failed where its number is listed, nowhere else unless it counts with other objects, and was counted
pub record FailsWhereListed {T : Type 0} (old new : Tally) (result : Result T Failed) : Type 0 where
  pub listed : IsListed old → IsErr result
  pub only : old.trip ≡ None → IsErr result → IsListed old
  pub ok : OnOk result (new ≡ call_counted old)
  pub err : OnErr result (new ≡ failed old)

-- the call was counted, and, apart from want of memory, failed where its number is listed or what it needs is missing, nowhere else
-- unless it counts with other objects; one that ran out of memory counts for nothing
pub record FailsWhereListedOr {T : Type 0} (Missing : Type 0) (old new : Tally) (result : Result T Refused) : Type 0 where
  pub listed : IsListed old → IsErr result
  pub missing : Missing → IsErr result
  pub only : old.trip ≡ None → IsErrOf result refused.Failed → IsListed old ⊎ Missing
  pub ok : OnOk result (new ≡ call_counted old)
  pub outside : IsErrOf result refused.Failed → new ≡ failed old
  pub memory : IsErrOf result refused.Memory → new ≡ old
