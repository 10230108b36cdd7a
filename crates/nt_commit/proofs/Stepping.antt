-- A disk and its book with one entry more.
use Rattle.std.proofs.Common.{◌≡◌, ◌∙◌, ap, sym, refl, ℕ, ◌+◌, ◌≤◌, List, [], ◌∷◌, ◌++◌, length, Option, Some, None, arith, subst}
use Rattle.std.proofs.Common.{append-nil, Bool, true, false}
use Rattle.std.specs.List.{AllByRecursion}
use Rattle.nt_lists.specs.Parts.{Part}
use Rattle.nt_outside.specs.Log.{Step}
use Rattle.nt_outside.specs.Held.{Held, BecomesSome}
use Rattle.nt_outside.specs.Disk.{DiskState, KeepsPlace}
use Rattle.nt_machine.specs.declared.entry.Entry.{Entry}
use Rattle.nt_machine.specs.declared.entry.EntryKind.TheVariants as entry
use Rattle.nt_machine.specs.History.{ranges_of}
use Rattle.nt_machine.specs.Legal.{end_after}
use Rattle.nt_book.specs.declared.limits.Limits.{Limits}
use Rattle.nt_book.specs.declared.meta.ClusterMeta.{ClusterMeta}
use Rattle.nt_book.specs.declared.list.NotedList.{NotedList}
use Rattle.nt_book.specs.declared.list.Tear.{Tear}
use Rattle.nt_book.specs.Books.{BookData, book_end}
use Rattle.nt_book.specs.Kept.{IsBookKept}
use Rattle.nt_book.specs.Listing.{HasNoLists, lists_bytes, torn_bytes}
use Rattle.nt_book.specs.Entries.{faulted_entry}
use Rattle.nt_commit.specs.Claims.{reserving_entry}
use Rattle.nt_commit.specs.Holds.{IsLater}
use Rattle.nt_commit.specs.Lists.{HasListsOf, HasNoFault}
use Rattle.nt_commit.specs.Locked.{LockedState, EndWithin, IsDiskAfter, IsInStep, history_of_locked}
use Rattle.nt_logged.specs.Tails.{range_steps}
use Rattle.nt_logged.specs.Steps.{told_history}
use Rattle.nt_commit.proofs.Handed.{reserved_len, end_after-entry}
use Rattle.nt_commit.proofs.Listed.{listed-room, listed-snoc}
use Rattle.nt_commit.proofs.Short.{IsShort, ReservesWithin, reserves-short, short-snoc, within-snoc}
use Rattle.nt_commit.proofs.Following.{IsDiskAfter-same}
use Rattle.nt_commit.proofs.Telling.{told_entry, steps_count, GainsSo, told_history-snoc, steps_are_counted}
use Rattle.nt_commit.proofs.Standing.{locked_of}

-- the book has this history, and nothing else of it changed but the room
abbrev pub HasHistory : BookData → BookData → List (Entry ClusterMeta) → ℕ → Option ℕ → Type 0
HasHistory b b' entries spare ready = b' ≡ record b { history = entries; spare = spare; ready = ready }

-- no range of these entries is longer than the limits let it be
abbrev pub AreShort : Limits → List (Entry ClusterMeta) → Type 0
AreShort limits entries = AllByRecursion (IsShort limits.range) (ranges_of entries)

-- they end where they may
abbrev pub AreWithin : Limits → ℕ → List (Entry ClusterMeta) → Type 0
AreWithin limits begin entries = EndWithin limits begin (ranges_of entries)

-- only a settled entry gains bytes
pub told-reserving : (staged : Bool) (held : Option Held) (n start : ℕ) (meta : ClusterMeta) (steps : List Step)
    → told_entry held (reserving_entry staged n start meta) steps ≡ reserving_entry staged n start meta
told-reserving staged None n start meta steps = refl
told-reserving false (Some h) n start meta steps = refl
told-reserving true (Some h) n start meta steps = refl

pub told-published : (held : Option Held) (i : ℕ) (ns : List ℕ) (steps : List Step)
    → told_entry {M = ClusterMeta} held (record { context = i; kind = entry.Published ns }) steps ≡ record {
      context = i;
      kind = entry.Published ns;
    }
told-published None i ns steps = refl
told-published (Some h) i ns steps = refl

pub told-faulted : (held : Option Held) (i faults : ℕ) (steps : List Step) → told_entry held (faulted_entry i faults) steps
    ≡ faulted_entry i faults
told-faulted None i faults steps = refl
told-faulted (Some h) i faults steps = refl

-- a history without faults has none at its beginning
fewer-sound : (one two : List (Entry ClusterMeta)) → HasNoFault (one ++ two) → HasNoFault one
fewer-sound [] two sound = tt
fewer-sound (e ∷ one) two sound = (sound.0, fewer-sound one two sound.1)

module _ {D : Type 0} (state : D → DiskState) (begun d : D) (contexts : ℕ) (b : BookData)
    (was : IsInStep state (locked_of begun d contexts b)) where
  abbrev old : LockedState D
  old = locked_of begun d contexts b

  abbrev history : List (Entry ClusterMeta)
  history = history_of_locked state old

  module _ (d' : D) (b' : BookData) where
    abbrev new : LockedState D
    new = locked_of begun d' contexts b'

    -- the book has this history, these page lists and tears
    abbrev HasAll : List (Entry ClusterMeta) → ℕ → Option ℕ → List NotedList → Option Tear → Type 0
    HasAll entries spare ready ls t = b' ≡ record b { history = entries; spare = spare; lists = ls; torn = t; ready = ready }

    pub new_step : (entries : List (Entry ClusterMeta)) (spare : ℕ) {ready : Option ℕ} (ls : List NotedList) (t : Option Tear)
        → HasAll entries spare ready ls t
        → (state d').end ≡ end_after b.begin (ranges_of entries) + (lists_bytes ls + torn_bytes t)
        → (lists : List Part) (torn : List ℕ)
        → IsDiskAfter (state begun) (state d') contexts (history_of_locked state new) lists torn
        → HasListsOf (record b { history = entries; spare = spare; lists = ls; torn = t }) lists torn
        → (b.group ≡ None → HasNoLists ls t) → (HasNoFault (history_of_locked state new) → t ≡ None)
        → AreShort b.limits (history_of_locked state new) → AreWithin b.limits (state begun).end (history_of_locked state new)
        → IsLater state old new
    new_step entries spare {ready} ls t is end lists torn follows listed ungrouped whole short within =
        record {
          birth = ap (λ (x : BookData). (locked_of begun d' contexts x).birth) is;
          before = was;
          after = record {
            begin = ap (λ (x : BookData). x.begin) is ∙ was.begin;
            limits = refl;
            columns = refl;
            firsts = refl;
            group = refl;
            staged = refl;
            end = end ∙ sym (ap (λ (x : BookData). book_end x) is);
            lists = lists;
            torn = torn;
            follows = follows;
            listed = subst (λ (x : BookData). HasListsOf x lists torn) (sym is)
                (listed-room (record b { history = entries; spare = spare; lists = ls; torn = t }) lists torn listed spare ready);
            ungrouped = subst (λ (x : BookData). x.group ≡ None → HasNoLists x.lists x.torn) (sym is) ungrouped;
            whole = λ sound. ap (λ (x : BookData). x.torn) is ∙ whole sound;
            short = subst (λ (l : Limits). AllByRecursion (IsShort l.range) (ranges_of (history_of_locked state new)))
                (sym (ap (λ (x : BookData). x.limits) is)) short;
            within = subst (λ (l : Limits). EndWithin l (state begun).end (ranges_of (history_of_locked state new)))
                (sym (ap (λ (x : BookData). x.limits) is)) within;
          };
        }

    -- the disk has as many steps as the book's history
    pub counted : BecomesSome (state begun).held (state d).held (GainsSo (steps_count b.history))
    counted h told =
        let first = was.follows.log h told in (
          first.0,
          first.1,
          record {
            steps = first.2.steps;
            log = first.2.log;
            counted = ap (λ (l : List Step). length l) first.2.is_log.ranges
                ∙ steps_are_counted (state begun).end (state begun).held (state d).held b.history was.follows.legal;
          },
        )

    -- a history that grows by an entry of the book, and its steps
    pub grown : (e : Entry ClusterMeta) (steps : List Step) → b'.history ≡ b.history ++ e ∷ []
        → BecomesSome (state d).held (state d').held (λ h h'. h'.log ≡ h.log ++ steps)
        → history_of_locked state new ≡ history ++ told_entry (state begun).held e (range_steps steps) ∷ []
    grown e steps is log =
        ap (λ (l : List (Entry ClusterMeta)). told_history (state begun).held (state d').held l) is
        ∙ told_history-snoc (state begun).held (state d).held (state d').held b.history e steps counted log

    pub grows_to : IsBookKept b → (e e' : Entry ClusterMeta) (spare : ℕ) {ready : Option ℕ} (steps : List Step)
        → HasHistory b b' (b.history ++ e ∷ []) spare ready
        → BecomesSome (state d).held (state d').held (λ h h'. h'.log ≡ h.log ++ steps)
        → told_entry (state begun).held e (range_steps steps) ≡ e'
        → (state d').end ≡ (state d).end + reserved_len e.kind
        → IsDiskAfter (state begun) (state d') contexts (history ++ e' ∷ []) was.lists was.torn
        → ReservesWithin b.limits (state begun).end (ranges_of history) e'.kind
        → IsLater state old new × (history_of_locked state new ≡ history ++ e' ∷ [])
    grows_to kept e e' spare {ready} steps is log told end follows low =
        let all = grown e steps (ap (λ (x : BookData). x.history) is) log
        ∙ ap (λ (x : Entry ClusterMeta). history ++ x ∷ []) told in (
          new_step (b.history ++ e ∷ []) spare b.lists b.torn is (omega (arith, end, was.end, end_after-entry b.begin b.history e))
              was.lists was.torn
              (subst (λ (l : List (Entry ClusterMeta)). IsDiskAfter (state begun) (state d') contexts l was.lists was.torn)
              (sym all) follows)
              (listed-snoc b was.lists was.torn was.listed kept e spare) was.ungrouped
              (λ sound. was.whole (fewer-sound history (e' ∷ []) (subst HasNoFault all sound)))
              (subst (AreShort b.limits) (sym all) (short-snoc b.limits.range history e'
              (reserves-short b.limits (state begun).end (ranges_of history) e'.kind low) was.short))
              (subst (AreWithin b.limits (state begun).end) (sym all) (within-snoc b.limits (state begun).end history e' low was.within)),
          all,
        )

    -- nothing was entered
    pub same_history : (spare : ℕ) {ready : Option ℕ} → HasHistory b b' b.history spare ready → KeepsPlace (state d) (state d')
        → (state d).faults ≤ (state d').faults
        → IsLater state old new × (history_of_locked state new ≡ history ++ [])
    same_history spare {ready} is place later =
        let all : history_of_locked state new ≡ history =
        ap (λ (x : BookData). told_history (state begun).held (state d').held x.history) is
        ∙ ap (λ (o : Option Held). told_history (state begun).held o b.history) place.held in (
          new_step b.history spare b.lists b.torn is (place.end ∙ was.end) was.lists was.torn
              (subst (λ (l : List (Entry ClusterMeta)). IsDiskAfter (state begun) (state d') contexts l was.lists was.torn) (sym all)
              (IsDiskAfter-same (state begun) (state d) (state d') contexts history was.lists was.torn was.follows place.held place.end
              place.out later))
              (listed-room b was.lists was.torn was.listed spare b.ready) was.ungrouped (λ sound. was.whole (subst HasNoFault all sound))
              (subst (AreShort b.limits) (sym all) was.short) (subst (AreWithin b.limits (state begun).end) (sym all) was.within),
          all ∙ sym (append-nil history),
        )
