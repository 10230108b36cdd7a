-- The page list that is due is appended and noted, or fails.
use Rattle.std.proofs.Common.{◌≡◌, ◌∙◌, ap, sym, refl, ℕ, ◌+◌, ◌^◌, ◌<◌, ◌≤◌, List, [], ◌∷◌, ◌++◌, length, Option, Some, arith, subst}
use Rattle.std.proofs.Common.{◌-◌, append-nil, true}
use Rattle.std.proofs.lemmas.List.{length-append}
use Rattle.std.proofs.lemmas.List.Sums.{sum_by_push}
use Rattle.nt_outside.specs.Log.{Step, Append, FailedAppend}
use Rattle.nt_outside.specs.Reads.{Reads}
use Rattle.nt_outside.specs.Held.{Held, appended, Becomes, BecomesSome, IsTornAppend}
use Rattle.nt_outside.specs.Disk.{DiskState}
use Rattle.nt_outside.specs.Faults.{Rose}
use Rattle.nt_machine.specs.declared.entry.Entry.{Entry}
use Rattle.nt_machine.specs.History.{IsFaulted}
use Rattle.nt_book.specs.declared.meta.ClusterMeta.{ClusterMeta}
use Rattle.nt_book.specs.declared.list.NotedList.{NotedList}
use Rattle.nt_book.specs.declared.list.Tear.{Tear}
use Rattle.nt_book.specs.Books.{BookData, book_clusters, book_end, is_due}
use Rattle.nt_book.specs.Kept.{IsBookKept}
use Rattle.nt_book.specs.Listing.{clusters_listed, group_size, torn_bytes}
use Rattle.nt_book.specs.Entries.{faulted_entry}
use Rattle.nt_pagelists.specs.Blobs.{blob}
use Rattle.nt_pagelists.specs.Due.{due_len, due_object}
use Rattle.nt_meta.proofs.DueFacts.{due-full, due-none}
use Rattle.nt_commit.specs.Holds.{IsLater}
use Rattle.nt_commit.specs.Lists.{HasNoFault, noted_list}
use Rattle.nt_commit.specs.Locked.{LockedState, IsDiskAfter, IsInStep, history_of_locked}
use Rattle.nt_logged.specs.Steps.{told_history}
use Rattle.nt_commit.proofs.Behind.{due-ends}
use Rattle.nt_commit.proofs.Handed.{end_after-entry}
use Rattle.nt_commit.proofs.Listed.{due-whole, due-group, listed-snoc, listed-more, listed-torn, full-next, due-next-len}
use Rattle.nt_commit.proofs.Short.{short-snoc, within-snoc}
use Rattle.nt_commit.proofs.Following.{risen, IsDiskAfter-list, IsDiskAfter-tear, IsDiskAfter-fault}
use Rattle.nt_commit.proofs.Telling.{told_history-same}
use Rattle.nt_commit.proofs.Unstaged.{count-plain, group-plain}
use Rattle.nt_commit.proofs.Standing.{locked_of}
use Rattle.nt_commit.proofs.Stepping.{AreShort, AreWithin, told-faulted, new_step, counted, grown}

last-sound : (one : List (Entry ClusterMeta)) (e : Entry ClusterMeta) → HasNoFault (one ++ e ∷ []) → IsFaulted e.kind → ⊥
last-sound [] e sound = sound.0
last-sound (d ∷ one) e sound = last-sound one e sound.1

module _ {D : Type 0} (state : D → DiskState) (begun d : D) (contexts : ℕ) (b : BookData)
    (was : IsInStep state (locked_of begun d contexts b)) where
  abbrev old : LockedState D
  old = locked_of begun d contexts b

  abbrev history : List (Entry ClusterMeta)
  history = history_of_locked state old

  module _ (d' : D) (b' : BookData) where
    abbrev new : LockedState D
    new = locked_of begun d' contexts b'

    -- the page list that was due was appended, and noted
    pub noted : IsBookKept b → (l : NotedList) → b' ≡ record b { lists = b.lists ++ l ∷ [] } → is_due b ≡ true
        → l ≡ noted_list (state d).end (due_object b)
        → l.len ≤ b.limits.range → Becomes (state d).held (state d').held (appended (blob (state d).end (due_object b)))
        → (state d').end ≡ (state d).end + l.len → (state d').end ≡ (state d).end + length (blob (state d).end (due_object b))
        → (state d').out ≡ (state d).out → (state d).faults ≤ (state d').faults
        → IsLater state old new × (history_of_locked state new ≡ history ++ [])
    noted kept l is due listed fits log end grew out later =
        let group = due-group b due in
        let plain = group-plain b group.0 kept group.1 in
        let ends = due-ends b group.0 kept group.1 (due-whole b due)
        (sym (count-plain b plain) ∙ due-full b group.0 due group.1) in
        let bytes = blob (state d).end (due_object b) in
        let all : history_of_locked state new ≡ history =
        ap (λ (x : BookData). told_history (state begun).held (state d').held x.history) is
        ∙ told_history-same (state begun).held (state d).held (state d').held b.history (Append bytes ∷ [])
        (counted state begun d contexts b was d' b')
        (λ h was. (appended bytes h, log h was, refl)) refl in (
          new_step state begun d contexts b was d' b' b.history b.spare (b.lists ++ l ∷ []) b.torn is
              (omega (arith, end, was.end, sum_by_push (λ (k : NotedList). k.len) b.lists l))
              (was.lists ++ record { place = (state d).end; bytes = bytes } ∷ []) was.torn
              (subst (λ (h : List (Entry ClusterMeta)). IsDiskAfter (state begun) (state d') contexts h
              (was.lists ++ record { place = (state d).end; bytes = bytes } ∷ []) was.torn) (sym all)
              (IsDiskAfter-list (state begun) (state d) (state d') contexts history was.lists was.torn was.follows bytes log grew out
              later))
              (listed-more b was.lists was.torn was.listed (state d).end l listed due kept.listed
              (was.end ∙ ends) fits)
              (λ none. absurd (due-none b due none)) (λ sound. was.whole (subst HasNoFault all sound))
              (subst (AreShort b.limits) (sym all) was.short) (subst (AreWithin b.limits (state begun).end) (sym all) was.within),
          all ∙ sym (append-nil history),
        )

    -- the page list that was due failed: what is left of it, and the fault, were entered
    pub torn_off : ((x : D) (h : Held) → (state x).held ≡ Some h → ((state x).end ≡ length h.image) × Reads h.log h.image)
        → IsBookKept b → (i faults spare : ℕ) (t : Tear)
        → b' ≡ record b { history = b.history ++ faulted_entry i faults ∷ []; spare = spare; torn = Some t }
        → is_due b ≡ true → t.len ≡ (state d').end - book_end b
        → BecomesSome (state d).held (state d').held (IsTornAppend (due_len b))
        → (state d).end ≤ (state d').end → (state d').end ≤ (state d).end + due_len b
        → (state d').out ≡ (state d).out → i ≤ contexts
        → (state d).faults ≤ (state d').faults → Rose (state d).faults (state d').faults → faults ≡ (state d').faults → faults < 2 ^ 64
        → IsLater state old new × (history_of_locked state new ≡ history ++ faulted_entry i (state d').faults ∷ [])
    torn_off tells kept i faults spare t is due len log least most out context later rose count fits =
        let e = faulted_entry i faults in
        let steps : List Step = FailedAppend t.len ∷ [] in
        let mid : DiskState = record (state d') { faults = (state d).faults } in
        let grew : (state d').end ≡ (state d).end + t.len = omega (arith, len, was.end, least) in
        let gains : BecomesSome (state d).held (state d').held (λ h h'. h'.log ≡ h.log ++ steps) =
        (λ h told.
        let next = log h told in
        let long : length next.2.junk ≡ t.len =
        omega (
          arith,
          grew,
          (tells d h told).0,
          (tells d' next.0 next.1).0,
          ap (λ (l : List ℕ). length l) next.2.image,
          length-append h.image next.2.junk,
        ) in
        (next.0, next.1, next.2.log ∙ ap (λ (n : ℕ). h.log ++ FailedAppend n ∷ []) long)) in
        let all : history_of_locked state new ≡ history ++ e ∷ [] =
        grown state begun d contexts b was d' b' e steps (ap (λ (x : BookData). x.history) is) gains
        ∙ ap (λ (x : Entry ClusterMeta). history ++ x ∷ []) (told-faulted (state begun).held i faults []) in
        let group = due-group b due in
        let plain = group-plain b group.0 kept group.1 in
        let full = due-full b group.0 due group.1 in
        let filled : clusters_listed (group_size b.group) b.lists + group_size b.group ≤ length (book_clusters b) =
        subst (λ (o : Option (ℕ × ℕ)). clusters_listed (group_size o) b.lists + group_size o ≤ length (book_clusters b)) (sym group.1)
        (omega (arith, full)) in
        let after : BookData = record b { history = b.history ++ e ∷ []; spare = spare } in (
          new_step state begun d contexts b was d' b' (b.history ++ e ∷ []) spare b.lists (Some t) is
              (omega (arith, grew, was.end, end_after-entry b.begin b.history e, ap torn_bytes (due-whole b due))) was.lists
              (was.torn ++ t.len ∷ [])
              (subst (λ (h : List (Entry ClusterMeta)). IsDiskAfter (state begun) (state d') contexts h was.lists (was.torn ++ t.len ∷ []))
              (sym all)
              (IsDiskAfter-fault (state begun) mid (state d') contexts history was.lists (was.torn ++ t.len ∷ [])
              (IsDiskAfter-tear (state begun) (state d) mid contexts history was.lists was.torn was.follows t.len gains grew out
              (omega arith))
              i faults context refl refl refl
              (risen (state d).faults faults (omega (arith, later, count)) (subst (λ (n : ℕ). Rose (state d).faults n) (sym count) rose)
              fits) (omega (arith, count))))
              (listed-torn after was.lists was.torn (listed-snoc b was.lists was.torn was.listed kept e spare) t (due-whole b due)
              (full-next b was.lists was.torn was.listed kept e spare plain filled)
              (omega (arith, grew, most, due-next-len b was.lists was.torn was.listed kept e spare plain filled)))
              (λ none. absurd (due-none b due none))
              (λ sound. absurd (last-sound history e (subst HasNoFault all sound) tt))
              (subst (AreShort b.limits) (sym all) (short-snoc b.limits.range history e tt was.short))
              (subst (AreWithin b.limits (state begun).end) (sym all) (within-snoc b.limits (state begun).end history e tt was.within)),
          all ∙ ap (λ (n : ℕ). history ++ faulted_entry i n ∷ []) count,
        )
