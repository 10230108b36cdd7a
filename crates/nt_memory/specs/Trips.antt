-- Calls that fail by their number over several objects, and reads that give few bytes.
use Rattle.std.specs.Prelude.{◌≡◌, ℕ, Bool, true, false, Option, None, List, [], ◌∷◌}
use Rattle.nt_memory.specs.declared.plan.Plan.{Plan}
use Rattle.nt_memory.specs.declared.plan.Object.{Object}
use Rattle.nt_memory.specs.declared.host.MemHost.{MemHost}
use Rattle.nt_memory.specs.Hits.{Hits, hits_one, hits_behind}
use Rattle.nt_memory.specs.Host.{state_of, tally_of, plan_of, room_of_host, listed_of}

-- how many texts and files were opened, and below which number all pens stand whose calls are to fail
abbrev pub opened_of : Plan → List ℕ
opened_of p = p.texts ∷ p.files ∷ p.pens ∷ []

-- which calls of texts and files, and which of disks and pens, fail by their number over several objects, and whether a failing append
-- is torn
abbrev pub counts_of : Plan → Option Hits × Option Hits × Bool
counts_of p = (p.trip, p.disk_trip, p.torn)

-- which calls fail by their number over several objects may have changed, and nothing else
pub record Trips (old new : MemHost) : Type 0 where
  pub state : state_of new ≡ state_of old
  pub listed : (o : Object) → listed_of new o ≡ listed_of old o
  pub made : (tally_of new).made ≡ (tally_of old).made
  pub opened : opened_of (plan_of new) ≡ opened_of (plan_of old)
  pub most : (plan_of new).most ≡ (plan_of old).most
  pub room : room_of_host new ≡ room_of_host old

-- the call of this number over the host and all that it opens from then on is to fail
pub record FailsCall (number : ℕ) (new : MemHost) : Type 0 where
  pub own : (tally_of new).trip ≡ hits_one number
  pub counts : counts_of (plan_of new) ≡ (hits_one number, hits_one number, false)

-- each call of disks and pens behind the first so many is to fail, and a failing append is torn
pub record StopsAfter (count : ℕ) (new : MemHost) : Type 0 where
  pub own : (tally_of new).trip ≡ None
  pub counts : counts_of (plan_of new) ≡ (None, hits_behind count, true)

-- a read of a text gives at most so many bytes, and nothing else changed
pub record Steps (most : ℕ) (old new : MemHost) : Type 0 where
  pub state : state_of new ≡ state_of old
  pub tally : tally_of new ≡ tally_of old
  pub listed : (o : Object) → listed_of new o ≡ listed_of old o
  pub opened : opened_of (plan_of new) ≡ opened_of (plan_of old)
  pub counts : counts_of (plan_of new) ≡ counts_of (plan_of old)
  pub most_is : (plan_of new).most ≡ most
  pub room : room_of_host new ≡ room_of_host old
