-- What a pass knows after its holds of the turn.
use Rattle.std.proofs.Common.{◌≡◌, ◌∙◌, ap, sym, refl, ℕ, ◌+◌, ◌-◌, ◌≤◌, Bool, true, List, [], ◌∷◌, ◌++◌, length, drop, Option}
use Rattle.std.proofs.Common.{Some, None, subst}
use Rattle.std.proofs.Common.{append-nil, arith, inl, inr}
use Rattle.std.proofs.lemmas.Bool.{false≢true}
use Rattle.std.proofs.lemmas.List.{length-append, length-drop}
use Rattle.std.specs.Prelude.{◌≢◌, Result, Ok, Err, OnOk, is_ok, slice_get}
use mathlib.Core.List.{IsPrefix}
use Rattle.nt_lists.proofs.Variants.{some_is}
use Rattle.nt_turn.specs.Pass.{TurnState}
use Rattle.nt_turn.proofs.Prefixes.{prefix_more}
use Rattle.nt_outside.specs.Range.{ExtState, PenState}
use Rattle.nt_outside.specs.declared.range.Range.{Range}
use Rattle.nt_outside.specs.Held.{Held, WhereHeld}
use Rattle.nt_outside.specs.Disk.{DiskState}
use Rattle.nt_container.specs.Spelling.{blob_key}
use Rattle.nt_container.proofs.Lengths.{blob_key-len}
use Rattle.nt_machine.specs.declared.entry.Entry.{Entry}
use Rattle.nt_machine.specs.History.{Cluster, ranges_of}
use Rattle.nt_book.specs.declared.meta.ClusterMeta.{ClusterMeta}
use Rattle.nt_book.specs.Entries.{spoiled_entry, faulted_entry}
use Rattle.nt_book.specs.declared.limits.LimitError.{LimitError}
use Rattle.nt_pages.specs.declared.image.ClusterImage.{ClusterImage}
use Rattle.nt_pages.specs.Image.{key_room}
use Rattle.nt_logged.specs.Steps.{bytes_where_told}
use Rattle.nt_commit.specs.declared.locked.Birth.{Birth}
use Rattle.nt_commit.specs.declared.claim.Claim.{Claim}
use Rattle.nt_commit.specs.declared.error.CommitError.{CommitError}
use Rattle.nt_commit.specs.declared.error.CommitError.TheVariants.{RangeTooLarge, FileTooLarge, TooManyClusters, Memory, Fault}
use Rattle.nt_commit.specs.Claims.{HasLooked, IsClaimOf, RefusalAdds, CommitAdds, limit_answered, settled_with}
use Rattle.nt_commit.specs.Holds.{IsPassOf, IsHold, AddsInHold, CommitsInHold, SpoilsInHold}
use Rattle.nt_commit.specs.Lists.{NextPlace, limit_at}
use Rattle.nt_commit.specs.Locked.{LockedState, book_of_birth, history_of_locked}
use Rattle.nt_fill.specs.Passes.{KeepsCount, Gains, MeetsFault, SpoilsRange, NamesLimit, WritesImage}
use Rattle.nt_fill.proofs.Ranges.{last_got, new_entry, new_range, ranges-reserved}
use Rattle.nt_fill.proofs.Gains.{Pass, gains_twice, number_after, own_after, prefix_then}

-- the bytes that an extent tells, where the disk told what it held
pub told_bytes : (held : Option Held) (content : Option (List ℕ)) (bytes : List ℕ) → WhereHeld held (λ h. content ≡ Some bytes)
    → bytes_where_told held content ≡ bytes_where_told held (Some bytes)
told_bytes None content bytes told = refl
told_bytes (Some h) content bytes told = told h refl

-- what holds of an answer that is Ok
pub when_ok : {T E : Type 0} {P : Type 0} (r : Result T E) → is_ok r ≡ true → OnOk r P → P
when_ok (Ok x) is h = h
when_ok (Err e) is h = absurd (false≢true is)

-- a key takes the place of the room for it
pub keyed_length : (bytes : List ℕ) (place : ℕ) → key_room ≤ length bytes
    → length (blob_key (length bytes - key_room) place ++ drop key_room bytes) ≡ length bytes
keyed_length bytes place room =
    length-append (blob_key (length bytes - key_room) place) (drop key_room bytes)
    ∙ omega (arith, blob_key-len (length bytes - key_room) place, length-drop key_room bytes, room)

-- a refusal but a fault adds nothing to a history
refused_nothing : (was is context : ℕ) (e : CommitError) (added : List (Entry ClusterMeta)) → RefusalAdds was is context e added
    → e ≢ Fault → added ≡ []
refused_nothing was is context (RangeTooLarge len most) added adds apart = adds
refused_nothing was is context (FileTooLarge end most) added adds apart = adds
refused_nothing was is context TooManyClusters added adds apart = adds
refused_nothing was is context Memory added adds apart = adds
refused_nothing was is context Fault added adds apart = absurd (apart refl)

-- a pen whose fill didn't fail
pub keeps_count : {P : Type 0} (pen_state : P → PenState) (pen pen' : P) (was : Option P) → was ≡ Some pen
    → (pen_state pen').faults ≡ (pen_state pen).faults → KeepsCount pen_state was (Some pen')
keeps_count {P = P} pen_state pen pen' was is kept = λ old new before after.
    let one : pen ≡ old = some_is pen old (sym is ∙ before) in
    let two : pen' ≡ new = some_is pen' new after in
    ap (λ (p : P). (pen_state p).faults) (sym two) ∙ (kept ∙ ap (λ (p : P). (pen_state p).faults) one)

-- a refusal for a limit adds nothing
limit_nothing : {X : Type 0} (staged : Bool) (tell : X → ExtState) (held : Option Held) (was is n start : ℕ) (meta : ClusterMeta)
    (result : Result (Claim X) CommitError) (l : LimitError) → limit_answered result ≡ Some l
    → (added : List (Entry ClusterMeta)) → CommitAdds staged tell held was is n start meta result added → added ≡ []
limit_nothing staged tell held was is n start meta (Ok claim) l named added adds = absurd (cc named)
limit_nothing staged tell held was is n start meta (Err (RangeTooLarge len most)) l named added adds = adds
limit_nothing staged tell held was is n start meta (Err (FileTooLarge end most)) l named added adds = adds
limit_nothing staged tell held was is n start meta (Err TooManyClusters) l named added adds = adds
limit_nothing staged tell held was is n start meta (Err Memory) l named added adds = absurd (cc named)
limit_nothing staged tell held was is n start meta (Err Fault) l named added adds = absurd (cc named)

module _ {D : Type 0} (state : D → DiskState) (committer : TurnState (Birth D)) where
  pub gains_by : (taken given : LockedState D) (added : List (Entry ClusterMeta)) (old new : Pass D)
      → IsHold state committer taken given added old new → Gains added old new
  gains_by taken given added old new h =
      let seen : new.seen ≡ history_of_locked state given = ap (λ (p : Pass D). p.seen) h.now in
      record {
        seen = subst (λ (l : List (Entry ClusterMeta)). IsPrefix old.seen l) (sym (seen ∙ h.grows))
            (prefix_more old.seen (history_of_locked state taken) added h.begins);
        now = h.now ∙ ap (λ (l : List (Entry ClusterMeta)). record old { seen = l; own = old.own ++ added }) (sym seen);
      }

  pub pass_after : (added : List (Entry ClusterMeta)) (old new : Pass D) → Gains added old new → IsPassOf committer old
      → IsPassOf committer new
  pass_after added old new g of =
      subst (λ (p : Pass D). IsPassOf committer p) (sym g.now) (record {
        turn = of.turn;
        free = of.free;
        birth = of.birth;
        number = of.number;
        seats = of.seats;
      })

  module _ {X : Type 0} (staged : Bool) (tell : X → ExtState) (meta : ClusterMeta) (old mid : Pass D) where
    -- the limit of a commit, by what never changes
    pub names : (answer : Result (Claim X) CommitError) (c : CommitsInHold state staged tell committer meta old mid answer)
        (result : Result Unit CommitError) → limit_answered answer ≡ limit_answered result → (answer ≡ Err Memory → result ≡ Err Memory)
        → (new : Pass D) → IsPrefix mid.seen new.seen → ((l : LimitError) → limit_answered result ≡ Some l → mid.seen ≡ new.seen)
        → NamesLimit state committer meta.len old new result
    names answer c result same without new on last =
        let history = history_of_locked state c.taken in
        let seen : mid.seen ≡ history ++ c.commits.added = ap (λ (p : Pass D). p.seen) c.hold.now ∙ c.hold.grows in
        let limits : (place : NextPlace (book_of_birth state committer.birth history))
        × (HasLooked committer.birth.group result → limit_at (book_of_birth state committer.birth history) place meta.len
        ≡ limit_answered result) =
        subst (λ (b : Birth D). (place : NextPlace (book_of_birth state b history))
        × (HasLooked b.group result → limit_at (book_of_birth state b history) place meta.len ≡ limit_answered result)) c.hold.birth (
          c.commits.place,
          λ looked. c.commits.limits (elim looked [ inl none ↦ inl none | inr apart ↦ inr (λ is. apart (without is)) ])
              ∙ same,
        ) in
        record {
          history = history;
          later = c.hold.begins;
          seen = prefix_then history mid.seen new.seen (c.commits.added, sym seen) on;
          place = limits.0;
          limits = limits.1;
          last = λ l named.
              sym (append-nil history)
              ∙ (ap (λ (a : List (Entry ClusterMeta)). history ++ a)
              (sym (limit_nothing staged tell _ _ _ _ _ meta answer l (same ∙ named) c.commits.added c.commits.adds)) ∙ (sym seen ∙
              last l named));
        }

    -- a refusal but a fault
    pub kept_by : (e : CommitError) → CommitsInHold state staged tell committer meta old mid (Err e) → e ≢ Fault → Gains [] old mid
    kept_by e c apart =
        subst (λ (l : List (Entry ClusterMeta)). Gains l old mid) (refused_nothing _ _ meta.context e c.commits.added c.commits.adds apart)
        (gains_by c.taken c.given c.commits.added old mid c.hold)

    -- the disk failed
    pub fault_by : CommitsInHold state staged tell committer meta old mid (Err Fault) → meta.context ≡ old.number → MeetsFault old mid
    fault_by c is = record {
      faults = (state c.given.disk).faults;
      gains = subst (λ (l : List (Entry ClusterMeta)). Gains l old mid) (c.commits.adds.1
          ∙ ap (λ (i : ℕ). faulted_entry i (state c.given.disk).faults ∷ []) is)
          (gains_by c.taken c.given c.commits.added old mid c.hold);
    }

    module _ (claim : Claim X) (c : CommitsInHold state staged tell committer meta old mid (Ok claim)) (is : meta.context ≡
        old.number) where
      abbrev pub start : ℕ
      start = c.commits.place.before + c.commits.place.due

      -- the pass gained the claim's cluster
      commits_one : Gains (new_entry staged old.number claim.cluster start meta.len meta ∷ []) old mid
      commits_one =
          subst (λ (l : List (Entry ClusterMeta)). Gains l old mid)
          (c.commits.adds.1 ∙ (ap (λ (n : ℕ). new_entry staged meta.context n start meta.len meta ∷ []) (sym c.commits.adds.0.number)
          ∙ ap (λ (i : ℕ). new_entry staged i claim.cluster start meta.len meta ∷ []) is))
          (gains_by c.taken c.given c.commits.added old mid c.hold)

      pub claim_is : IsClaimOf tell (state committer.birth.begun).held (ranges_of mid.own) mid.number claim
      claim_is =
          let range = new_range old.number claim.cluster start meta.len meta in
          let ranges : ranges_of mid.own ≡ ranges_of old.own ++ range ∷ [] =
          ap (λ (l : List (Entry ClusterMeta)). ranges_of l) (own_after _ old mid commits_one)
          ∙ ranges-reserved staged old.own old.number claim.cluster start meta.len meta in
          record {
            place = length (ranges_of old.own);
            cluster = range;
            at = ap (λ (l : List (Cluster ClusterMeta)). slice_get l (length (ranges_of old.own))) ranges
                ∙ last_got (ranges_of old.own) range;
            own = sym (number_after _ old mid commits_one);
            number = refl;
            out = refl;
            range = sym c.commits.adds.0.range;
            tells = subst (λ (b : Birth D). WhereHeld (state b.begun).held (λ h. (tell claim.ext).tells ≡ true)) c.hold.birth
                c.commits.adds.0.tells;
          }

      -- it was filled and settled
      pub writes : (image : ClusterImage) (bytes : List ℕ) (new : Pass D) → image.meta ≡ meta
          → bytes ≡ blob_key (length image.bytes - key_room) (tell claim.ext).range.start ++ drop key_room image.bytes
          → AddsInHold state committer (settled_with mid.number claim.cluster
          (bytes_where_told (state committer.birth.begun).held (Some bytes)) ∷ []) mid new → WritesImage state committer staged
          image old new
      writes image bytes new same are a =
          let told = bytes_where_told (state committer.birth.begun).held (Some bytes) in
          let settled = subst (λ (i : ℕ). Gains (settled_with i claim.cluster told ∷ []) mid new)
          (number_after _ old mid commits_one) (gains_by a.taken a.given _ mid new a.hold) in
          let place : (tell claim.ext).range.start ≡ start = ap (λ (r : Range). r.start) c.commits.adds.0.range in
          record {
            written = record { number = claim.cluster; start = start; len = meta.len; meta = meta; bytes = told };
            meta = sym same;
            len = ap (λ (m : ClusterMeta). m.len) (sym same);
            bytes = ap (λ (l : List ℕ). bytes_where_told (state committer.birth.begun).held (Some l))
                (are ∙ ap (λ (n : ℕ). blob_key (length image.bytes - key_room) n ++ drop key_room image.bytes) place);
            gains = gains_twice _ _ old mid new commits_one settled;
          }

      -- it was spoiled
      pub spoils : (new : Pass D) → SpoilsInHold state committer claim.cluster mid new → SpoilsRange staged meta old new
      spoils new s =
          let faults = (state s.given.disk).faults in
          let spoiled = subst (λ (i : ℕ). Gains (spoiled_entry i claim.cluster faults ∷ []) mid new)
          (number_after _ old mid commits_one) (gains_by s.taken s.given _ mid new s.hold) in
          record { cluster = claim.cluster; start = start; faults = faults; gains = gains_twice _ _ old mid new commits_one spoiled }

  pub adds_seen : (added : List (Entry ClusterMeta)) (old new : Pass D) → AddsInHold state committer added old new
      → IsPrefix old.seen new.seen
  adds_seen added old new a = (gains_by a.taken a.given added old new a.hold).seen

  pub spoils_seen : (n : ℕ) (old new : Pass D) → SpoilsInHold state committer n old new → IsPrefix old.seen new.seen
  spoils_seen n old new s = (gains_by s.taken s.given _ old new s.hold).seen
