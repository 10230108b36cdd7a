-- What a commit answers, and what a claim is.
use Rattle.std.specs.Prelude.{◌≡◌, ◌≢◌, ◌⊎◌, ℕ, Bool, false, true, List, [], ◌∷◌, Option, Some, None, Result, Ok, Err, slice_get}
use Rattle.nt_outside.specs.Faults.{Rose}
use Rattle.nt_outside.specs.Held.{Held, WhereHeld}
use Rattle.nt_outside.specs.Range.{ExtState}
use Rattle.nt_outside.specs.declared.fault.Refused.{Refused}
use Rattle.nt_outside.specs.declared.fault.Refused.TheVariants as refused
use Rattle.nt_machine.specs.declared.entry.Entry.{Entry}
use Rattle.nt_machine.specs.declared.entry.EntryKind.TheVariants as entry
use Rattle.nt_machine.specs.History.{Cluster, Out, reserving}
use Rattle.nt_book.specs.declared.limits.LimitError.{LimitError}
use Rattle.nt_book.specs.declared.limits.LimitError.TheVariants as limit
use Rattle.nt_book.specs.declared.meta.ClusterMeta.{ClusterMeta}
use Rattle.nt_book.specs.Entries.{faulted_entry}
use Rattle.nt_commit.specs.declared.claim.Claim.{Claim}
use Rattle.nt_commit.specs.declared.error.CommitError.{CommitError}
use Rattle.nt_commit.specs.declared.error.CommitError.TheVariants.{RangeTooLarge, FileTooLarge, TooManyClusters, Memory, Fault}
use Rattle.nt_commit.specs.Locked.{place_of}

-- the limit that an error names
abbrev pub limit_in : CommitError → Option LimitError
limit_in (RangeTooLarge len most) = Some (limit.RangeTooLarge len most)
limit_in (FileTooLarge end most) = Some (limit.FileTooLarge end most)
limit_in TooManyClusters = Some limit.TooManyClusters
limit_in Memory = None
limit_in Fault = None

-- the limit that an answer names
abbrev pub limit_answered : {A : Type 0} → Result A CommitError → Option LimitError
limit_answered (Ok x) = None
limit_answered (Err e) = limit_in e

-- the limits were looked at: there are no page lists to make first, or there was memory for one
abbrev pub HasLooked : {A : Type 0} → Option (ℕ × ℕ) → Result A CommitError → Type 0
HasLooked group result = (group ≡ None) ⊎ (result ≢ Err Memory)

-- a claim of this range and its number, which holds no bytes yet and will tell them where the disk does
pub record IsNewClaim {X : Type 0} (tell : X → ExtState) (held : Option Held) (n start len : ℕ) (claim : Claim X) : Type 0 where
  pub number : claim.cluster ≡ n
  pub range : (tell claim.ext).range ≡ record { start = start; len = len }
  pub unfilled : (tell claim.ext).filled ≡ false
  pub empty : (tell claim.ext).content ≡ None
  pub tells : WhereHeld held (λ h. (tell claim.ext).tells ≡ true)

-- what a refusal of a context adds to the history: after a fault its count, which rose; else nothing
abbrev pub RefusalAdds : ℕ → ℕ → ℕ → CommitError → List (Entry ClusterMeta) → Type 0
RefusalAdds was is context (RangeTooLarge len most) added = added ≡ []
RefusalAdds was is context (FileTooLarge end most) added = added ≡ []
RefusalAdds was is context TooManyClusters added = added ≡ []
RefusalAdds was is context Memory added = added ≡ []
RefusalAdds was is context Fault added = Rose was is × (added ≡ faulted_entry context is ∷ [])

-- the context of a cluster reserved a range for it at a place: as a staged one, or as the next cluster
abbrev pub reserving_entry : Bool → ℕ → ℕ → ClusterMeta → Entry ClusterMeta
reserving_entry staged n start meta = record { context = meta.context; kind = reserving staged n start meta.len meta }

-- what an answer adds: the one range, of which the claim is, or what the refusal does
abbrev pub CommitAdds : {X : Type 0} → Bool → (X → ExtState) → Option Held → ℕ → ℕ → ℕ → ℕ → ClusterMeta → Result (Claim X) CommitError
    → List (Entry ClusterMeta) → Type 0
CommitAdds staged tell held was is n start meta (Ok claim) added =
    IsNewClaim tell held n start meta.len claim × (added ≡ reserving_entry staged n start meta ∷ [])
CommitAdds staged tell held was is n start meta (Err e) added = RefusalAdds was is meta.context e added

-- what the making of a pen adds: after a fault its count, which rose; else nothing
abbrev pub PenAdds : {P : Type 0} → ℕ → ℕ → ℕ → Result P Refused → List (Entry ClusterMeta) → Type 0
PenAdds was is context (Ok pen) added = added ≡ []
PenAdds was is context (Err refused.Memory) added = added ≡ []
PenAdds was is context (Err refused.Failed) added = Rose was is × (added ≡ faulted_entry context is ∷ [])

-- the claim is of one of these ranges, which is out with this context, and tells its bytes where the disk told what it held
pub record IsClaimOf {M X : Type 0} (tell : X → ExtState) (held : Option Held) (ranges : List (Cluster M)) (context : ℕ)
    (claim : Claim X) : Type 0 where
  pub place : ℕ
  pub cluster : Cluster M
  pub at : slice_get ranges place ≡ Some cluster
  pub own : cluster.context ≡ context
  pub number : cluster.number ≡ claim.cluster
  pub out : cluster.state ≡ Out
  pub range : place_of cluster ≡ (tell claim.ext).range
  pub tells : WhereHeld held (λ h. (tell claim.ext).tells ≡ true)

-- a range was settled with these bytes
abbrev pub settled_with : ℕ → ℕ → Option (List ℕ) → Entry ClusterMeta
settled_with context n bytes = record { context = context; kind = entry.Settled n bytes }
