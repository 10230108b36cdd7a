-- A disk and its book with a range handed back.
use Rattle.std.proofs.Common.{◌≡◌, ◌∙◌, ap, sym, refl, ℕ, ◌^◌, ◌<◌, ◌≤◌, List, [], ◌∷◌, ◌++◌, Option, Some, None, arith, subst}
use Rattle.std.specs.Prelude.{false, true, IsSome}
use Rattle.nt_outside.specs.Log.{Step, Settle}
use Rattle.nt_outside.specs.Held.{Held, BecomesSome, WhereHeld, IsRangeSettled}
use Rattle.nt_outside.specs.declared.range.Range.{Range}
use Rattle.nt_outside.specs.Range.{ExtState, IsSized, without}
use Rattle.nt_outside.specs.Disk.{DiskState, Settles, TakesPen}
use Rattle.nt_outside.specs.Faults.{Rose}
use Rattle.nt_machine.specs.declared.entry.Entry.{Entry}
use Rattle.nt_machine.specs.declared.entry.EntryKind.TheVariants as entry
use Rattle.nt_machine.specs.History.{Settled, Spoiled, ranges_of}
use Rattle.nt_machine.specs.Legal.{AreAsLong, IsOut}
use Rattle.nt_book.specs.declared.meta.ClusterMeta.{ClusterMeta}
use Rattle.nt_book.specs.Books.{BookData}
use Rattle.nt_book.specs.Kept.{IsBookKept}
use Rattle.nt_book.specs.Entries.{settled_entry, spoiled_entry}
use Rattle.nt_commit.specs.declared.claim.Claim.{Claim}
use Rattle.nt_commit.specs.Claims.{IsClaimOf, settled_with}
use Rattle.nt_commit.specs.Holds.{IsLater, SettlesRange, Spoils}
use Rattle.nt_commit.specs.Locked.{LockedState, place_of, IsInStep, history_of_locked}
use Rattle.nt_logged.specs.Steps.{bytes_where_told}
use Rattle.nt_logged.proofs.Growing.{log-settle, log-spoil}
use Rattle.nt_commit.proofs.Following.{risen, IsDiskAfter-back}
use Rattle.nt_commit.proofs.Telling.{told_entry}
use Rattle.nt_commit.proofs.Standing.{locked_of, claimed}
use Rattle.nt_commit.proofs.Stepping.{grows_to}

-- only a settled entry gains bytes
told-spoiled : (held : Option Held) (i n faults : ℕ) (steps : List Step) → told_entry held (spoiled_entry i n faults) steps
    ≡ spoiled_entry i n faults
told-spoiled None i n faults steps = refl
told-spoiled (Some h) i n faults steps = refl

told-settled : (held : Option Held) (i n start len : ℕ) (bytes : Option (List ℕ))
    → told_entry held (settled_entry i n) (Settle start len bytes ∷ []) ≡ settled_with i n (bytes_where_told held bytes)
told-settled None i n start len bytes = refl
told-settled (Some h) i n start len bytes = refl

-- the bytes of an extent are as many as it is long
pub long_content : (x : ExtState) (content : Option (List ℕ)) → x.content ≡ content
    → ((bytes : List ℕ) → x.content ≡ Some bytes → IsSized x bytes) → AreAsLong content x.range.len
long_content x None is sized = tt
long_content x (Some bytes) is sized = (sized bytes is).whole

-- an extent that wasn't filled has none
pub no_content : (x : ExtState) (content : Option (List ℕ)) → x.content ≡ content
    → ((bytes : List ℕ) → x.content ≡ Some bytes → IsSized x bytes) → x.filled ≡ false → content ≡ None
no_content x None is sized unfilled = refl
no_content x (Some bytes) is sized unfilled = let filled = (sized bytes is).filled in absurd (cc)

module _ {D : Type 0} (state : D → DiskState) (begun d : D) (contexts : ℕ) (b : BookData)
    (was : IsInStep state (locked_of begun d contexts b)) (kept : IsBookKept b) where
  abbrev old : LockedState D
  old = locked_of begun d contexts b

  abbrev history : List (Entry ClusterMeta)
  history = history_of_locked state old

  module _ (d' : D) (b' : BookData) where
    abbrev new : LockedState D
    new = locked_of begun d' contexts b'

    -- the book has this history, and nothing else of it changed but the room
    abbrev HasHistory : List (Entry ClusterMeta) → ℕ → Type 0
    HasHistory entries spare = b' ≡ record b { history = entries; spare = spare }

    -- a range was settled
    pub settled : (i n spare : ℕ) (ext : ExtState) → HasHistory (b.history ++ settled_entry i n ∷ []) spare
        → (is : IsOut (ranges_of history) i n) → place_of is.cluster ≡ ext.range
        → i ≤ contexts → AreAsLong ext.content ext.range.len → WhereHeld (state begun).held (λ h. IsSome ext.content)
        → BecomesSome (state d).held (state d').held (IsRangeSettled ext)
        → (state d').end ≡ (state d).end
        → (state d').out ≡ without ext.range (state d).out → (state d').faults ≡ (state d).faults
        → IsLater state old new × (history_of_locked state new ≡ history
        ++ settled_with i n (bytes_where_told (state begun).held ext.content) ∷ [])
    settled i n spare ext is out range context long has log end gone faults =
        let bytes = bytes_where_told (state begun).held ext.content in
        let start : ext.range.start ≡ out.cluster.start = ap (λ (r : Range). r.start) (sym range) in
        let len : ext.range.len ≡ out.cluster.len = ap (λ (r : Range). r.len) (sym range) in
        let step = Settle ext.range.start ext.range.len ext.content in
        let whole = subst (λ (m : ℕ). AreAsLong bytes m) len (long_where (state begun).held ext.content long) in
        grows_to state begun d contexts b was d' b' kept (settled_entry i n) (settled_with i n bytes) spare (step ∷ []) is
        (λ h was. let next = log h was in (next.0, next.1, next.2.log))
        (told-settled (state begun).held i n ext.range.start ext.range.len ext.content) (omega (arith, end))
        (IsDiskAfter-back (state begun) (state d) (state d') contexts history was.lists was.torn was.follows i n (Settled bytes)
        (entry.Settled n bytes)
        bytes out refl (λ h told. subst (λ (o : Option Held). IsSome (bytes_where_told o ext.content)) (sym told) (has h told)) refl
        (λ steps w. log-settle (state begun).end (state d).end history was.lists was.torn steps w i n bytes out whole)
        (out, whole) context
        (λ begins told h was.
        let next = log h was in
        let same : ext.content ≡ bytes = sym (ap (λ (o : Option Held). bytes_where_told o ext.content) told) in (
          next.0,
          next.1,
          next.2.log ∙ (ap (λ (m : ℕ). h.log ++ Settle m ext.range.len ext.content ∷ []) start
              ∙ (ap (λ (m : ℕ). h.log ++ Settle out.cluster.start m ext.content ∷ []) len
              ∙ ap (λ (o : Option (List ℕ)). h.log ++ Settle out.cluster.start out.cluster.len o ∷ []) same)),
        ))
        end (gone ∙ ap (λ (r : Range). without r (state d).out) (sym range)) (λ h. absurd h) (omega (arith, faults))) tt
      where
        long_where : (held : Option Held) (content : Option (List ℕ)) → AreAsLong content ext.range.len
            → AreAsLong (bytes_where_told held content) ext.range.len
        long_where None content long = tt
        long_where (Some h) content long = long

    -- a range was spoiled
    pub spoiled : (i n faults spare : ℕ) (ext : ExtState) → HasHistory (b.history ++ spoiled_entry i n faults ∷ []) spare
        → (is : IsOut (ranges_of history) i n) → place_of is.cluster ≡ ext.range
        → i ≤ contexts → ext.content ≡ None → BecomesSome (state d).held (state d').held (λ h h'. h'.log ≡ h.log
        ++ Settle ext.range.start ext.range.len ext.content ∷ [])
        → (state d').end ≡ (state d).end → (state d').out ≡ without ext.range (state d).out
        → (state d).faults ≤ (state d').faults → Rose (state d).faults (state d').faults → faults ≡ (state d').faults → faults < 2 ^ 64
        → IsLater state old new × (history_of_locked state new ≡ history ++ spoiled_entry i n (state d').faults ∷ [])
    spoiled i n faults spare ext is out range context empty log end gone later rose count fits =
        let start : ext.range.start ≡ out.cluster.start = ap (λ (r : Range). r.start) (sym range) in
        let len : ext.range.len ≡ out.cluster.len = ap (λ (r : Range). r.len) (sym range) in
        let done = grows_to state begun d contexts b was d' b' kept (spoiled_entry i n faults) (spoiled_entry i n faults) spare
        (Settle ext.range.start ext.range.len ext.content ∷ []) is
        log (told-spoiled (state begun).held i n faults (Settle ext.range.start ext.range.len ext.content ∷ [])) (omega (arith, end))
        (IsDiskAfter-back (state begun) (state d) (state d') contexts history was.lists was.torn was.follows i n (Spoiled faults)
        (entry.Spoiled n faults)
        None out refl (λ h told. tt) refl
        (λ steps w. log-spoil (state begun).end (state d).end history was.lists was.torn steps w i n faults out) out context
        (λ begins told h was.
        let next = log h was in (
          next.0,
          next.1,
          next.2 ∙ (ap (λ (m : ℕ). h.log ++ Settle m ext.range.len ext.content ∷ []) start
              ∙ (ap (λ (m : ℕ). h.log ++ Settle out.cluster.start m ext.content ∷ []) len
              ∙ ap (λ (o : Option (List ℕ)). h.log ++ Settle out.cluster.start out.cluster.len o ∷ []) empty)),
        ))
        end (gone ∙ ap (λ (r : Range). without r (state d).out) (sym range))
        (λ h. risen (state d).faults faults (omega (arith, later, count))
        (subst (λ (n : ℕ). Rose (state d).faults n) (sym count) rose) fits) (omega (arith, count))) tt in
        (done.0, done.1 ∙ ap (λ (m : ℕ). history ++ spoiled_entry i n m ∷ []) count)

    module _ {X : Type 0} (tell : X → ExtState) (i : ℕ) (claim : Claim X)
        (own : IsClaimOf tell (state begun).held (ranges_of history) i claim)
        (context : i ≤ contexts)
        (sized : (bytes : List ℕ) → (tell claim.ext).content ≡ Some bytes → IsSized (tell claim.ext) bytes) where
      -- the range of a claim was settled
      pub claim_settled : HasHistory (b.history ++ settled_entry i claim.cluster ∷ []) b.spare
          → ((tell claim.ext).tells ≡ true → IsSome (tell claim.ext).content) → Settles (tell claim.ext) (state d) (state d')
          → IsLater state old new × SettlesRange state i claim.cluster (tell claim.ext) old new
      claim_settled is told done =
          let out = claimed state begun d contexts b was tell i claim own in
          let r = settled i claim.cluster b.spare (tell claim.ext) is out.0 out.1 context
          (long_content (tell claim.ext) (tell claim.ext).content refl sized) (λ h held. told (own.tells h held)) done.held done.end
          done.out done.faults in
          (r.0, record { grows = r.1 })

      -- the range of a claim was spoiled, and then a pen came back
      pub claim_spoiled : (faults : ℕ) (s : DiskState) (pen : ℕ)
          → HasHistory (b.history ++ spoiled_entry i claim.cluster faults ∷ []) b.spare
          → (tell claim.ext).filled ≡ false → 1 ≤ pen → Settles (tell claim.ext) (state d) s → TakesPen pen s (state d') → faults
          ≡ (state d').faults → faults < 2 ^ 64
          → IsLater state old new × Spoils state i claim.cluster old new
      claim_spoiled faults s pen is unfilled failed done back count fits =
          let out = claimed state begun d contexts b was tell i claim own in
          let x = tell claim.ext in
          let rose : Rose (state d).faults (state d').faults = omega (arith, done.faults, back.faults_taken.sum, failed) in
          let r = spoiled i claim.cluster faults b.spare x is out.0 out.1 context (no_content x x.content refl sized unfilled)
          (λ h was. let next = done.held h was in (next.0, back.place.held ∙ next.1, next.2.log)) (back.place.end ∙ done.end)
          (back.place.out ∙ done.out)
          (omega (arith, done.faults, back.faults_taken.later)) rose count fits in
          (r.0, record { rose = rose; grows = r.1 })
