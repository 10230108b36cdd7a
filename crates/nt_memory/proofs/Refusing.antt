-- A call that was refused.
use Rattle.std.proofs.Common.{◌≡◌, ◌⊎◌, inl, inr, ap, subst, refl, false}
use Rattle.std.specs.Prelude.{Result, Err, Some, None, IsSome}
use Rattle.nt_outside.specs.declared.fault.Refused.{Refused}
use Rattle.nt_outside.specs.declared.fault.Refused.TheVariants as refused
use Rattle.nt_memory.specs.declared.tally.Tally.{Tally}
use Rattle.nt_outside.specs.World.{World, HostState}
use Rattle.nt_memory.specs.declared.host.MemHost.{MemHost}
use Rattle.nt_memory.specs.Host.{state_of, world_of}
use Rattle.nt_memory.specs.Tally.{IsListed, failed, FailsWhereListedOr}

or_missing : (Listed NoName Missing : Type 0) → (NoName → Missing) → Listed ⊎ NoName → Listed ⊎ Missing
or_missing Listed NoName Missing why (inl listed) = inl listed
or_missing Listed NoName Missing why (inr none) = inr (why none)

-- a call that is refused was listed or lacks its name
pub refused_where : {T : Type 0} (Missing NoName : Type 0) (old ready new : Tally) → ready ≡ old → new ≡ failed ready
    → (ready.trip ≡ None → IsListed ready ⊎ NoName) → (NoName → Missing) → FailsWhereListedOr {T = T} Missing old new (Err refused.Failed)
refused_where {T} Missing NoName old ready new same new-is only why =
    subst (λ (t : Tally). FailsWhereListedOr {T = T} Missing t new (Err refused.Failed)) same (record {
      listed = λ listed. refl;
      missing = λ missing. refl;
      only = λ untripped is. or_missing (IsListed ready) NoName Missing why (only untripped);
      ok = tt;
      outside = λ is. new-is;
      memory = λ is. absurd (cc);
    })

world_is : (x y : World) → Some x ≡ Some y → x ≡ y
world_is x y e = cc

-- a disk that is out was out before
pub still_out : (old new : MemHost) → state_of new ≡ state_of old → IsSome (world_of new).creating → IsSome (world_of old).creating
still_out old new same out =
    subst (λ (w : World). IsSome w.creating)
    (world_is (world_of new) (world_of old) (ap (λ (s : HostState). s.world) same)) out
