-- How a context gets its one range, and hands it back.
use Rattle.std.proofs.Common.{◌≡◌, ◌∙◌, refl, ap, sym, subst, ℕ, zero, suc, ◌==◌, ◌&&◌, Bool, true, false, cond, List, [], ◌∷◌, ◌++◌, ◌+◌}
use Rattle.std.proofs.Common.{◌-◌, ◌≤◌, map, length, drop, append-nil, length-append, length-drop, arith, Some, Option, Result, Ok, Err}
use Rattle.std.specs.Prelude.{slice_get}
use Rattle.std.specs.List.{AllByRecursion, fold}
use Rattle.std.proofs.lemmas.List.Sums.{fold-append}
use Rattle.std.proofs.lemmas.Bool.{eq-eqb}
use Rattle.nt_turn.specs.Pass.{TurnState, PassState}
use Rattle.nt_outside.specs.Held.{Held, WhereHeld}
use Rattle.nt_outside.specs.Range.{ExtState}
use Rattle.nt_outside.specs.declared.range.Range.{Range}
use Rattle.nt_outside.specs.Disk.{DiskState}
use Rattle.nt_machine.specs.declared.entry.Entry.{Entry}
use Rattle.nt_machine.specs.History.{Cluster, Fate, Out, Settled, Spoiled, is_out, handed_back, after_entry, ranges_of}
use Rattle.nt_book.specs.declared.meta.ClusterMeta.{ClusterMeta}
use Rattle.nt_commit.specs.declared.claim.Claim.{Claim}
use Rattle.nt_commit.specs.declared.error.CommitError.{CommitError}
use Rattle.nt_commit.specs.declared.error.CommitError.TheVariants.{RangeTooLarge, FileTooLarge, TooManyClusters, Memory, Fault}
use Rattle.nt_commit.specs.declared.locked.Birth.{Birth}
use Rattle.nt_commit.specs.Claims.{IsClaimOf, RefusalAdds, settled_with}
use Rattle.nt_commit.specs.Locked.{place_of}
use Rattle.nt_pages.specs.declared.image.ClusterImage.{ClusterImage}
use Rattle.nt_pages.specs.Image.{key_room}
use Rattle.nt_container.specs.Spelling.{blob_key}
use Rattle.nt_container.proofs.Lengths.{blob_key-len}
use Rattle.nt_commit.specs.Images.{image_after}
use Rattle.nt_book.specs.Entries.{faulted_entry, spoiled_entry}
use Rattle.nt_commit.specs.Holds.{HasNoneOut, CommitsInHold, AddsInHold, SpoilsInHold, locked_count}
use Rattle.test_commit.specs.Sole.{IsSoleClaim, LeavesAtMostOne}

abbrev Entries : Type 0
Entries = List (Entry ClusterMeta)

abbrev Back : Cluster ClusterMeta → Type 0
Back c = is_out c.state ≡ false

-- the ranges after one entry more
ranges-snoc : (es : Entries) (e : Entry ClusterMeta) → ranges_of (es ++ e ∷ []) ≡ after_entry (ranges_of es) e
ranges-snoc es e = fold-append after_entry [] es (e ∷ [])

-- who is in is not handed back again
handed-kept : (i n : ℕ) (state : Fate) (c : Cluster ClusterMeta) → Back c → handed_back i n state c ≡ c
handed-kept i n state c back = at (c.context == i) (c.number == n) (is_out c.state) back
  where
    at : (a b o : Bool) → o ≡ false → cond (a && b && o) (record c { state = state }) c ≡ c
    at true true o is = ap (λ (o : Bool). cond o (record c { state = state }) c) is
    at true false o is = refl
    at false b o is = refl

kept-all : (i n : ℕ) (state : Fate) (cs : List (Cluster ClusterMeta)) → AllByRecursion Back cs
    → AllByRecursion Back (map (handed_back i n state) cs)
kept-all i n state [] back = tt
kept-all i n state (c ∷ cs) back = (subst Back (sym (handed-kept i n state c back.0)) back.0, kept-all i n state cs back.1)

-- the last range, handed back
handed-last : (i n : ℕ) (state : Fate) (c : Cluster ClusterMeta) → is_out state ≡ false → c.context ≡ i → c.number ≡ n
    → c.state ≡ Out → Back (handed_back i n state c)
handed-last i n state c is own number out =
    subst (λ (b : Bool). Back (cond b (record c { state = state }) c))
    (sym (both (c.context == i) (c.number == n) (is_out c.state) (eq-eqb c.context i own) (eq-eqb c.number n number)
    (ap is_out out))) is
  where
    both : (a b o : Bool) → a ≡ true → b ≡ true → o ≡ true → (a && b && o) ≡ true
    both a b o p q r = ap (λ (a : Bool). a && b && o) p ∙ ap (λ (b : Bool). b && o) q ∙ r

all-handed : (i n : ℕ) (state : Fate) (before : List (Cluster ClusterMeta)) (c : Cluster ClusterMeta) → is_out state ≡ false
    → AllByRecursion Back before
    → c.context ≡ i → c.number ≡ n → c.state ≡ Out → AllByRecursion Back (map (handed_back i n state) (before ++ c ∷ []))
all-handed i n state [] c is back own number out = (handed-last i n state c is own number out, tt)
all-handed i n state (b ∷ bs) c is back own number out =
    (subst Back (sym (handed-kept i n state b back.0)) back.0, all-handed i n state bs c is back.1 own number out)

at_end : (before : List (Cluster ClusterMeta)) (c : Cluster ClusterMeta) → slice_get (before ++ c ∷ []) (length before) ≡ Some c
at_end [] c = refl
at_end (b ∷ bs) c = at_end bs c

module _ {X : Type 0} (tell : X → ExtState) (held : Option Held) where
  -- none is out once it is given up
  pub none_spoiled : (entries : Entries) (context len n faults : ℕ) (claim : Claim X) → IsSoleClaim tell held entries context len claim
      → n ≡ claim.cluster
      → HasNoneOut (entries ++ spoiled_entry context n faults ∷ [])
  none_spoiled entries context len n faults claim s number =
      subst (AllByRecursion Back) (sym (ranges-snoc entries (spoiled_entry context n faults)
      ∙ ap (map (handed_back context n (Spoiled faults))) s.are))
      (all-handed context n (Spoiled faults) s.before s.last refl s.back s.own (s.number ∙ sym number) s.out)

  -- the one range is a claim's
  pub is_claim : (entries : Entries) (context len : ℕ) (claim : Claim X) → IsSoleClaim tell held entries context len claim
      → IsClaimOf tell held (ranges_of entries) context claim
  is_claim entries context len claim s = record {
    place = length s.before;
    cluster = s.last;
    at = ap (λ (l : List (Cluster ClusterMeta)). slice_get l (length s.before)) s.are ∙ at_end s.before s.last;
    own = s.own;
    number = s.number;
    out = s.out;
    range = s.range;
    tells = s.tells;
  }

  -- a claim whose extent was filled, or couldn't be, is of the same range
  pub is_claim_after : (entries : Entries) (context len : ℕ) (claim now : Claim X) → IsSoleClaim tell held entries context len claim
      → now.cluster ≡ claim.cluster → (tell now.ext).range ≡ (tell claim.ext).range → (tell now.ext).tells ≡ (tell claim.ext).tells
      → IsClaimOf tell held (ranges_of entries) context now
  is_claim_after entries context len claim now s number range tells =
      let c = is_claim entries context len claim s in
      record {
        place = c.place;
        cluster = c.cluster;
        at = c.at;
        own = c.own;
        number = c.number ∙ sym number;
        out = c.out;
        range = c.range ∙ sym range;
        tells = λ h is. tells ∙ c.tells h is;
      }

  -- none is out once it is handed back
  pub none_settled : (entries : Entries) (context len n : ℕ) (claim : Claim X) (bytes : Option (List ℕ))
      → IsSoleClaim tell held entries context len claim → n ≡ claim.cluster
      → HasNoneOut (entries ++ settled_with context n bytes ∷ [])
  none_settled entries context len n claim bytes s number =
      subst (AllByRecursion Back) (sym (ranges-snoc entries (settled_with context n bytes)
      ∙ ap (map (handed_back context n (Settled bytes))) s.are))
      (all-handed context n (Settled bytes) s.before s.last refl s.back s.own (s.number ∙ sym number) s.out)

module _ {D X : Type 0} (state : D → DiskState) (tell : X → ExtState) (committer : TurnState (Birth D)) where
  abbrev Hold : ClusterMeta → PassState (Entry ClusterMeta) (Birth D) → PassState (Entry ClusterMeta) (Birth D)
      → Result (Claim X) CommitError → Type 0
  Hold meta old new result = CommitsInHold {D = D} state {X = X} false tell committer meta old new result

  own-grows : (meta : ClusterMeta) (old new : PassState (Entry ClusterMeta) (Birth D)) (result : Result (Claim X) CommitError)
      (h : Hold meta old new result) → new.own ≡ old.own ++ h.commits.added
  own-grows meta old new result h = ap (λ (p : PassState (Entry ClusterMeta) (Birth D)). p.own) h.hold.now

  -- the claim of a cluster that was committed while no range was out
  pub sole-commit : (meta : ClusterMeta) (old new : PassState (Entry ClusterMeta) (Birth D)) (claim : Claim X) → HasNoneOut old.own
      → meta.context ≡ old.number
      → Hold meta old new (Ok claim) → IsSoleClaim tell (state committer.birth.begun).held new.own old.number meta.len claim
  sole-commit meta old new claim back context h =
      let adds = h.commits.adds in
      let last : Cluster ClusterMeta = record {
        context = meta.context;
        number = locked_count state h.taken;
        start = h.commits.place.before + h.commits.place.due;
        len = meta.len;
        meta = meta;
        state = Out;
      } in
      record {
        before = ranges_of old.own;
        last = last;
        are = ap (λ (l : Entries). ranges_of l) (own-grows meta old new (Ok claim) h ∙ ap (λ (l : Entries). old.own ++ l) adds.1)
            ∙ ranges-snoc old.own _;
        back = back;
        own = context;
        number = sym adds.0.number;
        out = refl;
        range = sym adds.0.range;
        unfilled = adds.0.unfilled;
        len_is = ap (λ (r : Range). r.len) adds.0.range;
        tells = subst (λ (b : Birth D). WhereHeld (state b.begun).held (λ k. (tell claim.ext).tells ≡ true)) h.hold.birth adds.0.tells;
      }

  pub stays : (old new added : Entries) → HasNoneOut old → new ≡ old ++ added → added ≡ [] → HasNoneOut new
  stays old new added back is none = subst HasNoneOut (sym (is ∙ (ap (λ (l : Entries). old ++ l) none ∙ append-nil old))) back

  pub stays-faulted : (old new added : Entries) (context faults : ℕ) → HasNoneOut old → new ≡ old ++ added
      → added ≡ faulted_entry context faults ∷ [] → HasNoneOut new
  stays-faulted old new added context faults back is one =
      subst (AllByRecursion Back) (sym (ap (λ (l : Entries). ranges_of l) (is ∙ ap (λ (l : Entries). old ++ l) one)
      ∙ ranges-snoc old (faulted_entry context faults))) back

  -- a refusal leaves none out
  pub none-refused : (meta : ClusterMeta) (old new : PassState (Entry ClusterMeta) (Birth D)) (e : CommitError) → HasNoneOut old.own
      → Hold meta old new (Err e) → HasNoneOut new.own
  none-refused meta old new (RangeTooLarge len most) back h = stays old.own new.own _ back (own-grows meta old new _ h) h.commits.adds
  none-refused meta old new (FileTooLarge end most) back h = stays old.own new.own _ back (own-grows meta old new _ h) h.commits.adds
  none-refused meta old new TooManyClusters back h = stays old.own new.own _ back (own-grows meta old new _ h) h.commits.adds
  none-refused meta old new Memory back h = stays old.own new.own _ back (own-grows meta old new _ h) h.commits.adds
  none-refused meta old new Fault back h = stays-faulted old.own new.own _ _ _ back (own-grows meta old new _ h) h.commits.adds.1

  -- what an answer leaves: the claim of the one range that is out, or none
  pub left-by-answer : (meta : ClusterMeta) (old new : PassState (Entry ClusterMeta) (Birth D)) (len : ℕ)
      (result : Result (Claim X) CommitError) → HasNoneOut old.own
      → meta.context ≡ old.number → meta.len ≡ len → Hold meta old new result
      → LeavesAtMostOne tell (state committer.birth.begun).held new.own old.number len result
  left-by-answer meta old new len (Ok claim) back context is h =
      subst (λ (n : ℕ). IsSoleClaim tell (state committer.birth.begun).held new.own old.number n claim) is
      (sole-commit meta old new claim back context h)
  left-by-answer meta old new len (Err e) back context is h = none-refused meta old new e back h

module _ {X : Type 0} (tell : X → ExtState) where
  -- an image keeps its length
  pub same-length : (image : ClusterImage) (result : Result (Claim X) CommitError) → key_room ≤ length image.bytes
      → length (image_after tell image result).bytes ≡ length image.bytes
  same-length image (Ok claim) room =
      let key : ℕ = (tell claim.ext).range.start in
      length-append (blob_key (length image.bytes - key_room) key) (drop key_room image.bytes)
      ∙ (ap (λ (n : ℕ). n + length (drop key_room image.bytes)) (blob_key-len (length image.bytes - key_room) key)
      ∙ (ap (λ (n : ℕ). 42 + n) (length-drop key_room image.bytes) ∙ omega arith))
  same-length image (Err e) room = refl
