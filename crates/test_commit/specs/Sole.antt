-- A context of which one range is out.
use Rattle.std.specs.Prelude.{◌≡◌, ℕ, true, false, List, [], ◌∷◌, ◌++◌, Option, Result, Ok, Err}
use Rattle.std.specs.List.{AllByRecursion}
use Rattle.nt_outside.specs.Held.{Held, WhereHeld}
use Rattle.nt_outside.specs.Range.{ExtState}
use Rattle.nt_machine.specs.declared.entry.Entry.{Entry}
use Rattle.nt_machine.specs.History.{Cluster, Out, is_out, ranges_of}
use Rattle.nt_book.specs.declared.meta.ClusterMeta.{ClusterMeta}
use Rattle.nt_commit.specs.declared.claim.Claim.{Claim}
use Rattle.nt_commit.specs.declared.error.CommitError.{CommitError}
use Rattle.nt_commit.specs.Holds.{HasNoneOut}
use Rattle.nt_commit.specs.Locked.{place_of}

-- the claim is of the last range of a context's entries, so many bytes long and told where this is, and no other range of theirs is out
pub record IsSoleClaim {X : Type 0} (tell : X → ExtState) (held : Option Held) (entries : List (Entry ClusterMeta)) (context len : ℕ)
    (claim : Claim X) : Type 0 where
  pub before : List (Cluster ClusterMeta)
  pub last : Cluster ClusterMeta
  pub are : ranges_of entries ≡ before ++ last ∷ []
  pub back : AllByRecursion (λ (c : Cluster ClusterMeta). is_out c.state ≡ false) before
  pub own : last.context ≡ context
  pub number : last.number ≡ claim.cluster
  pub out : last.state ≡ Out
  pub range : place_of last ≡ (tell claim.ext).range
  pub unfilled : (tell claim.ext).filled ≡ false
  pub len_is : (tell claim.ext).range.len ≡ len
  pub tells : WhereHeld held (λ h. (tell claim.ext).tells ≡ true)

-- what an answer to a commit leaves out of a context's ranges: that of the claim alone, or none
abbrev pub LeavesAtMostOne : {X : Type 0} → (X → ExtState) → Option Held → List (Entry ClusterMeta) → ℕ → ℕ
    → Result (Claim X) CommitError → Type 0
LeavesAtMostOne tell held entries context len (Ok claim) = IsSoleClaim tell held entries context len claim
LeavesAtMostOne tell held entries context len (Err e) = HasNoneOut entries
