-- What each call keeps of how clusters are staged.
use Rattle.std.proofs.Common.{◌≡◌, ℕ, zero, suc, ◌<◌, ◌≤◌, ◌==◌, Bool, true, false, cond, List, [], ◌∷◌, ◌++◌, length, map, refl, sym, ap}
use Rattle.std.proofs.Common.{subst}
use Rattle.std.proofs.Common.{◌∙◌, append-nil, arith}
use Rattle.std.specs.Prelude.{Option, Some, None}
use Rattle.std.specs.List.{AllByRecursion, sum_by, flat_map}
use Rattle.std.proofs.lemmas.List.{length-map}
use Rattle.std.proofs.lemmas.List.Sums.{sum_by-cons}
use Rattle.nt_machine.specs.declared.entry.Entry.{Entry}
use Rattle.nt_machine.specs.Deal.{times}
use Rattle.nt_machine.specs.History.{publisher, publishers_of}
use Rattle.nt_machine.specs.Staging.{IsStagedAfter, IsStagedNext, KeepsStaging}
use Rattle.nt_machine.proofs.Publishers.{publishers-snoc, staged-snoc}
use Rattle.nt_book.specs.declared.meta.ClusterMeta.{ClusterMeta}
use Rattle.nt_book.specs.declared.event.Event.{Event}
use Rattle.nt_book.specs.declared.state.RangeState.{RangeState}
use Rattle.nt_book.specs.declared.row.ClusterRow.{ClusterRow}
use Rattle.nt_book.specs.declared.row.PublishedRow.{PublishedRow}
use Rattle.nt_book.specs.declared.event.EventKind.{EventKind}
use Rattle.nt_book.specs.declared.event.EventKind.TheVariants.{Committed, Reserved, Published, Settled, Spoiled, Faulted}
use Rattle.nt_book.specs.Entries.{history_of, entry_of_kind}
use Rattle.nt_book.specs.Keeping.{KeepsStagedOrder, HasRoomToPublish, AreOffsets, order_numbers, own_numbers}
use Rattle.nt_book.specs.Keeping.{IsKindOf, listed_rows, placed_row, with_state}
use Rattle.nt_book.proofs.Own.{own_numbers-with_state, flat-agree, flat-append}
use Rattle.nt_book.proofs.Unstaged.{unstaged-publishers}
use Rattle.nt_book.proofs.Clusters.{placed-with_state, published-inside}
use Rattle.nt_book.proofs.OffsetRows.{AreOffsets-with_state}
use Rattle.nt_book.proofs.OneMore.{each-append}

lists-with_state : (columns : ℕ) (rows : List ClusterRow) (n : ℕ) (s : RangeState)
    → AllByRecursion (λ (row : ClusterRow). length row.meta.pages ≡ columns) rows
    → AllByRecursion (λ (row : ClusterRow). length row.meta.pages ≡ columns) (with_state rows n s)
lists-with_state columns [] n s h = tt
lists-with_state columns (row ∷ rows) zero s h = (h.0, h.1)
lists-with_state columns (row ∷ rows) (suc n) s h = (h.0, lists-with_state columns rows n s h.1)

module _ (staged : Bool) (group : Option (ℕ × ℕ)) (columns : ℕ) (order : List PublishedRow) (rows : List ClusterRow) (events : List Event)
    (k : KeepsStagedOrder staged group columns order rows events) where
  abbrev before : List (Entry ClusterMeta)
  before = history_of rows events

  -- an entry more, where nobody publishes
  module _ (e : Entry ClusterMeta) (next : IsStagedNext staged (publishers_of before) e) (nobody : publisher e.context e.kind ≡ []) where
    publishers_stay : (history : List (Entry ClusterMeta)) → history ≡ before ++ e ∷ [] → publishers_of history ≡ publishers_of before
    publishers_stay history is =
        ap (λ (l : List (Entry ClusterMeta)). publishers_of l) is
        ∙ (publishers-snoc before e ∙ (ap (λ (l : List ℕ). publishers_of before ++ l) nobody ∙ append-nil (publishers_of before)))

    staging_too : (history : List (Entry ClusterMeta)) → history ≡ before ++ e ∷ [] → KeepsStaging staged history
    staging_too history is = subst (KeepsStaging staged) (sym is) (staged-snoc staged [] before e k.staging next)

    pub KeepsStagedOrder-beside : (more : List Event) → history_of rows more ≡ before ++ e ∷ []
        → KeepsStagedOrder staged group columns order rows more
    KeepsStagedOrder-beside more is = record {
      staging = staging_too (history_of rows more) is;
      numbers = k.numbers ∙ ap (λ (ps : List ℕ). flat_map (own_numbers 0 rows) ps) (sym (publishers_stay (history_of rows more) is));
      lists_all = k.lists_all;
      no_groups = k.no_groups;
    }

    pub KeepsStagedOrder-back : (n : ℕ) (s : RangeState) (more : List Event) → history_of (with_state rows n s) more ≡ before ++ e ∷ []
        → KeepsStagedOrder staged group columns order (with_state rows n s) more
    KeepsStagedOrder-back n s more is = record {
      staging = staging_too (history_of (with_state rows n s) more) is;
      numbers =
          k.numbers
          ∙ (sym (flat-agree (own_numbers 0 (with_state rows n s)) (own_numbers 0 rows) (own_numbers-with_state 0 rows n s)
          (publishers_of before))
          ∙ ap (λ (ps : List ℕ). flat_map (own_numbers 0 (with_state rows n s)) ps)
          (sym (publishers_stay (history_of (with_state rows n s) more) is)));
      lists_all = λ yes. lists-with_state columns rows n s (k.lists_all yes);
      no_groups = k.no_groups;
    }

    pub KeepsStagedOrder-reserved : (row : ClusterRow) → times row.meta.context (publishers_of before) ≡ 0
        → (staged ≡ true → length row.meta.pages ≡ columns) → (more : List Event)
        → history_of (rows ++ row ∷ []) more ≡ before ++ e ∷ [] → KeepsStagedOrder staged group columns order (rows ++ row ∷ []) more
    KeepsStagedOrder-reserved row none lists more is = record {
      staging = staging_too (history_of (rows ++ row ∷ []) more) is;
      numbers =
          k.numbers
          ∙ (sym (flat-append rows row (publishers_of before) none)
          ∙ ap (λ (ps : List ℕ). flat_map (own_numbers 0 (rows ++ row ∷ [])) ps)
          (sym (publishers_stay (history_of (rows ++ row ∷ []) more) is)));
      lists_all = λ yes.
          each-append rows row (λ (r : ClusterRow). length r.meta.pages ≡ columns) rows (k.lists_all yes) (lists yes);
      no_groups = k.no_groups;
    }

  -- nobody published a range of a book that isn't staged
  pub none-published : staged ≡ false → (i : ℕ) → times i (publishers_of before) ≡ 0
  none-published is i =
      ap (λ (ps : List ℕ). times i ps) (unstaged-publishers before (subst (λ (b : Bool). KeepsStaging b before) is k.staging))

  pub order-inside : AllByRecursion (λ (n : ℕ). n < length rows) (order_numbers order)
  order-inside = subst (AllByRecursion (λ (n : ℕ). n < length rows)) (sym k.numbers) (published-inside rows (publishers_of before))

-- the rows of clusters keep their offsets whatever becomes of ranges
pub listed-with_state : (entries : ℕ) (firsts : List ℕ) (staged : Bool) (order : List PublishedRow) (rows : List ClusterRow)
    (offsets : List ℕ) (n : ℕ) (s : RangeState) → AreOffsets entries firsts (listed_rows staged order rows) offsets
    → AreOffsets entries firsts (listed_rows staged order (with_state rows n s)) offsets
listed-with_state entries firsts false order rows offsets n s h = AreOffsets-with_state entries firsts rows offsets n s h
listed-with_state entries firsts true order rows offsets n s h =
    subst (λ (l : List ClusterRow). AreOffsets entries firsts l offsets) (sym (placed-with_state rows n s order)) h

-- a state more or less of a context's rows
count-with_state : (w i : ℕ) (rows : List ClusterRow) (n : ℕ) (s : RangeState)
    → sum_by (λ (row : ClusterRow). cond (row.meta.context == i) w 0) (with_state rows n s)
    ≡ sum_by (λ (row : ClusterRow). cond (row.meta.context == i) w 0) rows
count-with_state w i [] n s = refl
count-with_state w i (row ∷ rows) zero s =
    sum_by-cons (λ (r : ClusterRow). cond (r.meta.context == i) w 0) (record row { state = s }) rows
    ∙ sym (sum_by-cons (λ (r : ClusterRow). cond (r.meta.context == i) w 0) row rows)
count-with_state w i (row ∷ rows) (suc n) s =
    omega (
      arith,
      sum_by-cons (λ (r : ClusterRow). cond (r.meta.context == i) w 0) row (with_state rows n s),
      sum_by-cons (λ (r : ClusterRow). cond (r.meta.context == i) w 0) row rows,
      count-with_state w i rows n s,
    )

pub HasRoomToPublish-with_state : (staged : Bool) (ready : Option ℕ) (columns : ℕ) (rows : List ClusterRow) (n : ℕ) (s : RangeState)
    (order room_order offsets room_offsets : ℕ) → HasRoomToPublish staged ready columns rows order room_order offsets room_offsets
    → HasRoomToPublish staged ready columns (with_state rows n s) order room_order offsets room_offsets
HasRoomToPublish-with_state staged None columns rows n s order room_order offsets room_offsets h = tt
HasRoomToPublish-with_state staged (Some i) columns rows n s order room_order offsets room_offsets h =
    let for_order = h.for_order in
    let for_offsets = h.for_offsets in
    record {
      is_staged = h.is_staged;
      for_order = omega (arith, for_order, count-with_state 1 i rows n s);
      for_offsets = omega (arith, for_offsets, count-with_state columns i rows n s);
    }

-- only a staged book is ready to publish
pub unstaged-ready : (staged : Bool) (ready : Option ℕ) (columns : ℕ) (rows : List ClusterRow)
    (order room_order offsets room_offsets : ℕ) → HasRoomToPublish staged ready columns rows order room_order offsets room_offsets
    → staged ≡ false → ready ≡ None
unstaged-ready staged None columns rows order room_order offsets room_offsets h is = refl
unstaged-ready staged (Some i) columns rows order room_order offsets room_offsets h is = absurd (cc (sym is ∙ h.is_staged))

-- more room is no matter
pub HasRoomToPublish-roomier : (staged : Bool) (ready : Option ℕ) (columns : ℕ) (rows : List ClusterRow)
    (order room_order offsets room_offsets more_order more_offsets : ℕ) → room_order ≤ more_order → room_offsets ≤ more_offsets
    → HasRoomToPublish staged ready columns rows order room_order offsets room_offsets
    → HasRoomToPublish staged ready columns rows order more_order offsets more_offsets
HasRoomToPublish-roomier staged None columns rows order room_order offsets room_offsets more_order more_offsets le le' h = tt
HasRoomToPublish-roomier staged (Some i) columns rows order room_order offsets room_offsets more_order more_offsets le le' h =
    let for_order = h.for_order in
    let for_offsets = h.for_offsets in
    record { is_staged = h.is_staged; for_order = omega (arith, for_order, le); for_offsets = omega (arith, for_offsets, le') }

-- a book without ranges may stage its clusters, whatever it was before
module _ (group : Option (ℕ × ℕ)) (columns : ℕ) (order : List PublishedRow) (events : List Event) (staged : Bool)
    (k : KeepsStagedOrder staged group columns order [] events)
    (named : AllByRecursion (λ (e : Event). IsKindOf 0 e.cluster e.kind) events) where
  none-yet-published : (ps : List ℕ) → flat_map (own_numbers 0 []) ps ≡ []
  none-yet-published [] = refl
  none-yet-published (p ∷ ps) = none-yet-published ps

  staged-next : (ps : List ℕ) (e : Event) → IsKindOf 0 e.cluster e.kind
      → IsStagedNext staged ps (entry_of_kind [] e.context e.cluster e.kind)
      → IsStagedNext true ps (entry_of_kind [] e.context e.cluster e.kind)
  staged-next ps e known next = at e.kind known next
    where
      at : (kind : EventKind) → IsKindOf 0 e.cluster kind → IsStagedNext staged ps (entry_of_kind [] e.context e.cluster kind)
          → IsStagedNext true ps (entry_of_kind [] e.context e.cluster kind)
      at Committed low is = absurd (omega (arith, low))
      at Reserved low is = absurd (omega (arith, low))
      at Published low is = (refl, is.1)
      at Settled low is = (tt, tt)
      at (Spoiled faults) low is = (tt, tt)
      at (Faulted faults) low is = (tt, tt)

  staged-after : (ps : List ℕ) (es : List Event) → AllByRecursion (λ (e : Event). IsKindOf 0 e.cluster e.kind) es
      → IsStagedAfter staged ps (history_of [] es) → IsStagedAfter true ps (history_of [] es)
  staged-after ps [] known h = tt
  staged-after ps (e ∷ es) known h =
      let x = entry_of_kind [] e.context e.cluster e.kind in
      (staged-next ps e known.0 h.0, staged-after (ps ++ publisher x.context x.kind) es known.1 h.1)

  pub KeepsStagedOrder-staged : group ≡ None → KeepsStagedOrder true group columns order [] events
  KeepsStagedOrder-staged none = record {
    staging = staged-after [] events named k.staging;
    numbers = k.numbers;
    lists_all = λ yes. tt;
    no_groups = λ yes. none;
  }

  pub no-order : length order ≡ 0
  no-order =
      omega (
        arith,
        ap length (k.numbers ∙ none-yet-published (publishers_of (history_of [] events))),
        length-map {B = ℕ} order (λ (p : PublishedRow). p.range),
      )

pub HasRoomToPublish-staged : (staged : Bool) (ready : Option ℕ) (columns : ℕ) (rows : List ClusterRow)
    (order room_order offsets room_offsets : ℕ) → HasRoomToPublish staged ready columns rows order room_order offsets room_offsets
    → HasRoomToPublish true ready columns rows order room_order offsets room_offsets
HasRoomToPublish-staged staged None columns rows order room_order offsets room_offsets h = tt
HasRoomToPublish-staged staged (Some i) columns rows order room_order offsets room_offsets h =
    record { is_staged = refl; for_order = h.for_order; for_offsets = h.for_offsets }

pub nothing-listed : (staged : Bool) (order : List PublishedRow) (rows : List ClusterRow) → order ≡ [] → rows ≡ []
    → listed_rows staged order rows ≡ []
nothing-listed false order rows unordered bare = bare
nothing-listed true order rows unordered bare = ap (λ (l : List PublishedRow). map (placed_row rows) l) unordered
