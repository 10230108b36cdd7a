-- The cluster of a claim, in the own list of a pass and in the whole history.
use Rattle.std.proofs.Common.{◌≡◌, ◌∙◌, ap, sym, ℕ, zero, suc, ◌+◌, ◌==◌, Bool, true, false, cond, List, [], ◌∷◌, Option, Some, arith}
use Rattle.std.specs.Prelude.{filter, slice_get}
use Rattle.std.specs.List.{fold}
use Rattle.nt_outside.specs.Held.{Held}
use Rattle.nt_outside.specs.Range.{ExtState}
use Rattle.nt_machine.specs.declared.entry.Entry.{Entry}
use Rattle.nt_machine.specs.History.{Cluster, after_entry, ranges_of, mine_of}
use Rattle.nt_machine.specs.Legal.{IsLegalAfter, IsLegal, IsOut}
use Rattle.nt_machine.proofs.Histories.{own-fold}
use Rattle.nt_machine.proofs.Legality.{IsNumbered, IsNumbered-after_entry, IsNumbered-at}
use Rattle.nt_commit.specs.declared.claim.Claim.{Claim}
use Rattle.nt_commit.specs.Claims.{IsClaimOf}
use Rattle.nt_commit.specs.Locked.{place_of}

-- what stands in a part of a list stands in the list
in_filter : {A : Type 0} (p : A → Bool) (xs : List A) (k : ℕ) (x : A) → slice_get (filter p xs) k ≡ Some x
    → (j : ℕ) × (slice_get xs j ≡ Some x)
in_filter p [] k x at = cc
in_filter {A = A} p (y ∷ ys) k x at = here (p y) k at (λ m found. in_filter p ys m x found)
  where
    here : (b : Bool) (k : ℕ) → slice_get (cond b (y ∷ filter p ys) (filter p ys)) k ≡ Some x
        → ((m : ℕ) → slice_get (filter p ys) m ≡ Some x → (j : ℕ) × (slice_get ys j ≡ Some x))
        → (j : ℕ) × (slice_get (y ∷ ys) j ≡ Some x)
    here false k at later = let r = later k at in (suc r.0, r.1)
    here true zero at later = (0, at)
    here true (suc k) at later = let r = later k at in (suc r.0, r.1)

module _ {M X : Type 0} (tell : X → ExtState) (held : Option Held) where
  -- a claim of a pass's own list is one of the whole history
  pub claim_in : (own all : List (Entry M)) (i : ℕ) (claim : Claim X) → own ≡ mine_of all i → IsClaimOf tell held (ranges_of own) i claim
      → IsClaimOf tell held (ranges_of all) i claim
  claim_in own all i claim is c =
      let same : ranges_of own ≡ filter (λ (c : Cluster M). c.context == i) (ranges_of all) =
      ap (λ (l : List (Entry M)). ranges_of l) is ∙ sym (own-fold [] all i) in
      let found = in_filter (λ (c : Cluster M). c.context == i) (ranges_of all) c.place c.cluster
      (ap (λ (l : List (Cluster M)). slice_get l c.place) (sym same) ∙ c.at) in
      record {
        place = found.0;
        cluster = c.cluster;
        at = found.1;
        own = c.own;
        number = c.number;
        out = c.out;
        range = c.range;
        tells = c.tells;
      }

  numbered : (place : ℕ) (cs : List (Cluster M)) (history : List (Entry M)) → IsLegalAfter place cs history → IsNumbered 0 cs
      → IsNumbered 0 (fold after_entry cs history)
  numbered place cs [] ok h = h
  numbered place cs (e ∷ es) ok h = numbered place (after_entry cs e) es ok.1 (IsNumbered-after_entry place cs e.context e.kind ok.0 h)

  -- a claim's range is out
  pub claim_out : (place : ℕ) (history : List (Entry M)) (i : ℕ) (claim : Claim X) → IsLegal place history
      → (c : IsClaimOf tell held (ranges_of history) i claim)
      → (is : IsOut (ranges_of history) i claim.cluster) × (place_of is.cluster ≡ (tell claim.ext).range)
  claim_out place history i claim ok c =
      let stands : c.cluster.number ≡ 0 + c.place = IsNumbered-at 0 (ranges_of history) c.place c.cluster
      (numbered place [] history ok tt) c.at in
      let same : claim.cluster ≡ c.place = sym c.number ∙ (stands ∙ omega arith) in
      (record { cluster = c.cluster; at = ap (λ (n : ℕ). slice_get (ranges_of history) n) same ∙ c.at; own = c.own; out = c.out }, c.range)
