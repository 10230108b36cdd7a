-- Disk and book of a committer that ended, by what its first pass keeps.
use Rattle.std.proofs.Common.{◌≡◌, ◌⊎◌, inl, inr, ℕ, zero, suc, ◌-◌, ◌^◌, ◌<◌, ◌≤◌, List, [], ◌∷◌, length, map, Option, Some, None}
use Rattle.std.proofs.Common.{Bool, true, false, cond, ◌==◌, refl}
use Rattle.std.proofs.Common.{sym, ap, ◌∙◌, subst, arith}
use Rattle.std.specs.Prelude.{slice_get, slice_index_or}
use Rattle.std.specs.List.{AllByRecursion}
use Rattle.std.proofs.lemmas.Bool.{eq-eqb}
use Rattle.nt_types.specs.TreeData.{TreesData}
use Rattle.nt_grammar.specs.Table.{Table}
use Rattle.nt_outside.specs.Held.{Held}
use Rattle.nt_outside.specs.Disk.{DiskState}
use Rattle.nt_outside.specs.Faults.{Rose}
use Rattle.nt_turn.specs.Pass.{Closes}
use Rattle.nt_machine.specs.declared.entry.Entry.{Entry}
use Rattle.nt_machine.specs.declared.entry.EntryKind.{EntryKind}
use Rattle.nt_machine.specs.declared.entry.EntryKind.TheVariants as entry
use Rattle.nt_machine.specs.Faults.{HasRisen, HasFaults, faults_after, FaultsRise}
use Rattle.nt_machine.specs.History.{Fate, Out, Settled, Spoiled, Cluster, WrittenChunk, mine_of, own_of, ranges_of, written_cluster}
use Rattle.nt_machine.specs.Untold.{untold, untold_fate}
use Rattle.nt_machine.proofs.Contexts.{below-fold, contexts_idle}
use Rattle.nt_machine.proofs.Histories.{own-ranges_of}
use Rattle.nt_machine.proofs.Rising.{rose}
use Rattle.nt_machine.proofs.Untelling.{same}
use Rattle.nt_book.specs.declared.limits.Limits.{Limits}
use Rattle.nt_book.specs.declared.list.NotedList.{NotedList}
use Rattle.nt_book.specs.declared.meta.ClusterMeta.{ClusterMeta}
use Rattle.nt_book.specs.declared.params.Params.{Params}
use Rattle.nt_book.specs.Books.{BookData, book_clusters, book_ranges, book_end, no_cluster, noted_at}
use Rattle.nt_book.specs.Kept.{AreNamed, IsBookKept}
use Rattle.nt_logged.specs.Steps.{told_history}
use Rattle.nt_commit.specs.declared.locked.Birth.{Birth}
use Rattle.nt_commit.specs.Locked.{IsInStep, birth_of, context_of, history_of_locked, locked_by}
use Rattle.nt_layout.specs.Headers.{header_sum}
use Rattle.nt_layout.specs.Arranged.{HasLists, group_for}
use Rattle.nt_layout.specs.Beside.{full_span}
use Rattle.nt_close.specs.Damage.{IsUndamaged}
use Rattle.nt_close.specs.Filled.{AreListsNoted, IsNotedOf}
use Rattle.nt_close.specs.Spoiled.{IsUnspoiled, NoneSpoiled}
use Rattle.nt_close.proofs.Unpublished.{none-left}
use Rattle.nt_dealing.specs.Begun.{IsBornFor}
use Rattle.nt_dealing.specs.Dealt.{IsDealtOut}
use Rattle.nt_dealing.specs.Written.{HaveWritten}
use Rattle.nt_dealing.proofs.Noted.{each-noted}
use Rattle.nt_dealing.proofs.Written.{each_wrote_all, others_idle}
use Rattle.nt_contexts.specs.Filling.{HaveFaults}
use Rattle.nt_contexts.specs.Seats.{DiskPass}
use Rattle.nt_contexts.specs.Working.{KeepsFaults}
use Rattle.nt_contexts.specs.Working.KeepsFaults.{of_first, of_kept}
use Rattle.nt_contexts.proofs.Lists.{All-at}

faults_after-le : (least : ℕ) (k : EntryKind ClusterMeta) → (HasFaults k → HasRisen least (faults_after least k))
    → least ≤ faults_after least k
faults_after-le least (entry.Committed n start len meta) h = omega arith
faults_after-le least (entry.Reserved n start len meta) h = omega arith
faults_after-le least (entry.Published ns) h = omega arith
faults_after-le least (entry.Settled n bytes) h = omega arith
faults_after-le least (entry.Spoiled n faults) h = (h tt).0
faults_after-le least (entry.Faulted faults) h = (h tt).0

FaultsRise-le : (least : ℕ) (history : List (Entry ClusterMeta)) (count : ℕ) → FaultsRise least history count → least ≤ count
FaultsRise-le least [] count h = h
FaultsRise-le least (e ∷ es) count h =
    let first = faults_after-le least e.kind h.0 in
    let rest = FaultsRise-le (faults_after least e.kind) es count h.1 in
    omega arith

-- a count that has risen rose
rose-of : (old new : ℕ) → HasRisen old new → Rose old new
rose-of old new h = at h.1
  where
    at : (old < new) ⊎ (new ≡ 2 ^ 64 - 1) → Rose old new
    at (inl less) = omega arith
    at (inr top) = omega arith

-- a cluster that has a state but for its bytes
untold-unspoiled : (state : Fate) (bytes : Option (List ℕ)) → untold_fate state ≡ untold_fate (Settled bytes) → IsUnspoiled state
untold-unspoiled Out bytes is = tt
untold-unspoiled (Settled told) bytes is = tt
untold-unspoiled (Spoiled faults) bytes is = cc

-- the range is settled
abbrev IsSettled : Cluster ClusterMeta → Type 0
IsSettled c = (bytes : Option (List ℕ)) × (c.state ≡ Settled bytes)

none-spoiled : (cs ds : List (Cluster ClusterMeta)) → AllByRecursion IsSettled cs → map untold cs ≡ map untold ds → (k : ℕ)
    → k < length ds → IsUnspoiled (slice_index_or ds k no_cluster).state
none-spoiled cs [] h is k less = absurd (omega arith)
none-spoiled [] (d ∷ ds) h is k less = cc
none-spoiled (c ∷ cs) (d ∷ ds) h is zero less =
    let one : untold c ≡ untold d = cc in
    untold-unspoiled d.state h.0.0 (sym (ap (λ (e : Cluster ClusterMeta). e.state) one) ∙ ap untold_fate h.0.1)
none-spoiled (c ∷ cs) (d ∷ ds) h is (suc k) less =
    let rest : map untold cs ≡ map untold ds = cc in
    none-spoiled cs ds h.1 rest k (omega arith)

-- what a context wrote is settled
written-settled : (i : ℕ) (ws : List (WrittenChunk ClusterMeta)) → AllByRecursion IsSettled (map (written_cluster i) ws)
written-settled i [] = tt
written-settled i (w ∷ ws) = ((w.bytes, refl), written-settled i ws)

-- what holds of the ranges of each context holds of all
all-own : (P : Cluster ClusterMeta → Type 0) (count : ℕ) (cs : List (Cluster ClusterMeta))
    → AllByRecursion (λ (c : Cluster ClusterMeta). c.context < count) cs
    → ((i : ℕ) → i < count → AllByRecursion P (own_of cs i)) → AllByRecursion P cs
all-own P count [] below each = tt
all-own P count (c ∷ cs) below each = (
  (subst (λ (l : List (Cluster ClusterMeta)). AllByRecursion P l) here (each c.context below.0)).0,
  all-own P count cs below.1 (λ i less. rest i (c.context == i) (each i less)),
)
  where
    here : own_of (c ∷ cs) c.context ≡ c ∷ own_of cs c.context
    here = ap (λ (b : Bool). cond b (c ∷ own_of cs c.context) (own_of cs c.context)) (eq-eqb c.context c.context refl)

    rest : (i : ℕ) (b : Bool) → AllByRecursion P (cond b (c ∷ own_of cs i) (own_of cs i)) → AllByRecursion P (own_of cs i)
    rest i true h = h.1
    rest i false h = h

-- no page list failed of a book that has its page lists so
untorn-of : (staged : Bool) (t : Table) (most : ℕ) (book : BookData) → HasLists staged t most book → book.torn ≡ None
untorn-of true t most book has = has.1.between.none_torn
untorn-of false t most book has = has.untorn

-- clusters that are the same but for their bytes are as long
short-untold : (most : ℕ) (cs ds : List (Cluster ClusterMeta)) → map untold cs ≡ map untold ds
    → AllByRecursion (λ (c : Cluster ClusterMeta). c.len ≤ most) cs → AllByRecursion (λ (c : Cluster ClusterMeta). c.len ≤ most) ds
short-untold most cs [] is short = tt
short-untold most [] (d ∷ ds) is short = cc
short-untold most (c ∷ cs) (d ∷ ds) is short =
    let one : untold c ≡ untold d = cc in
    let rest : map untold cs ≡ map untold ds = cc in
    let same : c.len ≡ d.len = ap (λ (e : Cluster ClusterMeta). e.len) one in
    (omega (arith, same, short.0), short-untold most cs ds rest short.1)

-- so are clusters that are named by them
short-named : (most : ℕ) (rs cs : List (Cluster ClusterMeta)) → AreNamed rs cs
    → AllByRecursion (λ (c : Cluster ClusterMeta). c.len ≤ most) rs → AllByRecursion (λ (c : Cluster ClusterMeta). c.len ≤ most) cs
short-named most rs [] named short = tt
short-named most rs (c ∷ cs) named short = (
  All-at (λ (d : Cluster ClusterMeta). d.len ≤ most) rs c.number c short named.0,
  short-named most rs cs named.1 short,
)

same-ranges : (begun now : Option Held) (history : List (Entry ClusterMeta))
    → map untold (ranges_of (told_history begun now history)) ≡ map untold (ranges_of history)
same-ranges None now history = refl
same-ranges (Some h) None history = refl
same-ranges (Some h) (Some h') history = same history _

module _ {D : Type 0} (state : D → DiskState) (birth : Birth D) (disk : D) (book : BookData) (first : DiskPass D)
    (closes : Closes (history_of_locked state) birth_of context_of first (locked_by birth disk book)) (step : IsInStep state (locked_by
    birth disk book)) where
  abbrev history : List (Entry ClusterMeta)
  history = history_of_locked state (locked_by birth disk book)

  pub faults-later : (state birth.begun).faults ≤ (state disk).faults
  faults-later = FaultsRise-le (state birth.begun).faults history (state disk).faults step.follows.rise

  own-rose : (state disk).faults < 2 ^ 64 → (i : ℕ) (own : List (Entry ClusterMeta)) → own ≡ mine_of history i → HaveFaults own
      → Rose (state birth.begun).faults (state disk).faults
  own-rose last i own is f =
      rose-of (state birth.begun).faults (state disk).faults
      (rose (state birth.begun).faults history (state disk).faults step.follows.rise last i f.place f.entry
      (sym (ap (λ (l : List (Entry ClusterMeta)). slice_get l f.place) is) ∙ f.at) f.faults)

  pub faults-rose : (state disk).faults < 2 ^ 64 → KeepsFaults first → Rose (state birth.begun).faults (state disk).faults
  faults-rose last (of_first f) = own-rose last first.number first.own closes.own f
  faults-rose last (of_kept place k at f) =
      own-rose last k.0 k.1 (All-at (λ (k : ℕ × List (Entry ClusterMeta)). k.1 ≡ mine_of history k.0) first.kept place k closes.kept at) f

  pub end-is : (state disk).end ≡ book_end book
  end-is = step.end

  -- each page list is noted as that of its group; where clusters are staged, none is
  noted-list : IsBookKept book → (t : Table) (p : Params) (staged : Bool) → book.group ≡ group_for staged p.group (header_sum t) → (k : ℕ)
      → k < length book.lists → IsNotedOf (header_sum t) book (full_span p.group k) (noted_at book k)
  noted-list kept t p true group k less =
      absurd (omega (arith, less, ap (λ (l : List NotedList). length l) (step.ungrouped group).none_noted))
  noted-list kept t p false group k less =
      let is = each-noted t p.group book kept group step.lists step.torn step.listed k less in
      record { size = ap (λ (l : NotedList). l.at.size) is; len = ap (λ (l : NotedList). l.len) is }

  pub noted-lists : IsBookKept book → (t : Table) (p : Params) → IsBornFor state birth t p → AreListsNoted t p book
  noted-lists kept t p born =
      let group : book.group ≡ group_for p.staged p.group (header_sum t) = step.group ∙ born.group in
      let limits : book.limits ≡ p.limits = step.limits ∙ born.limits in
      record {
        staged = step.staged ∙ born.staged;
        group = group;
        noted = noted-list kept t p p.staged group;
        short = subst (λ (l : Limits). AllByRecursion (λ (n : NotedList). n.len ≤ l.range) book.lists) limits step.listed.short;
      }

  pub short-is : IsBookKept book → AllByRecursion (λ (c : Cluster ClusterMeta). c.len ≤ birth.limits.range) (book_clusters book)
  short-is kept =
      short-named birth.limits.range (book_ranges book) (book_clusters book) kept.named
      (short-untold birth.limits.range (ranges_of history) (book_ranges book)
      (same-ranges (state birth.begun).held (state disk).held book.history) step.short)

  unspoiled : (t : Table) (page : ℕ) (staged : Bool) (chunks : List (List (List TreesData)))
      → HaveWritten (state birth.begun).held t page staged chunks first.number first.own first.kept → NoneSpoiled book
  unspoiled t page staged chunks have =
      let begun = (state birth.begun).held in
      let idle = others_idle begun t page staged history chunks first.number first.own first.kept have closes.own closes.others in
      let below = below-fold (length chunks) [] history (contexts_idle (length chunks) history idle) tt in
      let each : (i : ℕ) → i < length chunks → AllByRecursion IsSettled (own_of (ranges_of history) i) = λ i less.
      let w = each_wrote_all begun t page staged history chunks first.number first.own first.kept have closes.kept i less in
      subst (λ (l : List (Cluster ClusterMeta)). AllByRecursion IsSettled l)
      (sym (own-ranges_of staged history i w.writes w.are)) (written-settled i w.writes) in
      none-spoiled (ranges_of history) (ranges_of book.history)
      (all-own IsSettled (length chunks) (ranges_of history) below each) (same-ranges begun (state disk).held book.history)

  -- where each wrote its chunks, nothing keeps the file from being closed
  pub ended-undamaged : IsBookKept book → (t : Table) (p : Params) (chunks : List (List (List TreesData)))
      → HaveWritten (state birth.begun).held t p.page p.staged chunks first.number first.own first.kept
      → IsDealtOut t p chunks book (state birth.begun).held (state disk).held → IsUndamaged book
  ended-undamaged kept t p chunks have dealt = record {
    unspoiled = unspoiled t p.page p.staged chunks have;
    untorn = untorn-of p.staged t p.group book dealt.lists;
    published = λ staged. none-left book kept dealt.are.all;
  }
