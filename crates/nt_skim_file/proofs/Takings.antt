-- What a writer has taken after an entry that is put, or why not.
use Rattle.std.proofs.Common.{◌≡◌, ◌≢◌, ◌∙◌, ap, sym, refl, subst, ◌<◌, ◌≤◌, true, List, [], ◌∷◌, ◌+◌, length, false, Result, Ok}
use Rattle.std.proofs.Common.{Err, arith, length-append}
use Rattle.std.specs.Prelude.{OnOk}
use Rattle.nt_types.specs.TreeData.{TreesData}
use Rattle.nt_outside.specs.Disk.{DiskState}
use Rattle.nt_book.specs.declared.params.Params.{Params}
use Rattle.nt_book.specs.Kept.{IsBookKept}
use Rattle.nt_commit.specs.declared.error.CommitError.{CommitError}
use Rattle.nt_commit.specs.declared.error.CommitError.TheVariants as commit
use Rattle.nt_seq.specs.Standing.{IsWriting}
use Rattle.nt_seq.specs.Writer.{SeqState, gathered_by, GathersEntry}
use Rattle.nt_seq.specs.Changing.{FlushesNext}
use Rattle.nt_script.specs.Taking.{HasTakenLines, MakesWhole, IsFlushed}
use Rattle.nt_script.specs.Running.{error_of_commit}
use Rattle.nt_script.proofs.Flushed.{gathered_written, gathered_flushed, gathered_refused, given_flushed}
use Rattle.nt_script.proofs.Taken.{halts_as, whole_written, entry_taken}
use Rattle.nt_skim_file.specs.Taking.{StaysWriter, MakesEntryRoom, TakesPut}

module _ {D : Type 0} (state : D → DiskState) where
  -- the disk that was given, the schema, the parameters and what is gathered are the same
  record IsSameBut (old new : SeqState D) : Type 0 where
    given : new.given ≡ old.given
    table : new.table ≡ old.table
    params : new.params ≡ old.params
    gathered : gathered_by new ≡ gathered_by old

  same_but : (old new mid : SeqState D) → new ≡ mid → IsSameBut old mid → IsSameBut old new
  same_but old new mid is same = subst (IsSameBut old) (sym is) same

  -- a refused flush changes neither
  refused_same : (old new : SeqState D) (e : CommitError) → FlushesNext state old new (Err e) → IsSameBut old new
  refused_same old new e flushes = at e flushes
    where
      stays : (f : CommitError) → f ≢ commit.Fault → FlushesNext state old new (Err f) → IsSameBut old new
      stays f apart h =
          let kept = h.refused.kept f refl apart in
          same_but old new (record old { disk = new.disk; book = new.book }) kept.now
          (record { given = refl; table = refl; params = refl; gathered = refl })

      at : (f : CommitError) → FlushesNext state old new (Err f) → IsSameBut old new
      at (commit.RangeTooLarge len most) h = stays (commit.RangeTooLarge len most) (λ same. cc same) h
      at (commit.FileTooLarge end most) h = stays (commit.FileTooLarge end most) (λ same. cc same) h
      at commit.TooManyClusters h = stays commit.TooManyClusters (λ same. cc same) h
      at commit.Memory h = stays commit.Memory (λ same. cc same) h
      at commit.Fault h =
          let cut = h.refused.fault refl in
          same_but old new (record old { disk = new.disk; book = new.book; alive = false }) cut.now
          (record { given = refl; table = refl; params = refl; gathered = refl })

  -- what is gathered is at most one cluster, as it was
  few_still : (old new : SeqState D) → IsSameBut old new → length (gathered_by old) ≤ old.params.cluster
      → length (gathered_by new) ≤ new.params.cluster
  few_still old new same few =
      subst (λ (l : List TreesData). length l ≤ new.params.cluster) (sym same.gathered)
      (subst (λ (p : Params). length (gathered_by old) ≤ p.cluster) (sym same.params) few)

  module _ (old new : SeqState D) (some : 0 < old.params.cluster) (alive : old.alive ≡ true) where
    -- a whole cluster was written, or why not
    pub room_made : (es : List TreesData) (r : Result Unit CommitError) → length (gathered_by old) ≡ old.params.cluster
        → IsBookKept old.book → IsWriting state old → FlushesNext state old new r → HasTakenLines state [] es old
        → MakesEntryRoom state es old new r
    room_made es (Ok done) whole kept is flushes taken =
        (whole_written state [] es old new (Ok tt) some whole taken
        (gathered_written state [] es old new some (omega (arith, whole)) alive taken (λ none. (flushes.nothing none).1) flushes.ok)).0
    room_made es (Err e) whole kept is flushes taken =
        halts_as state (λ next. next ≡ gathered_by old) (MakesWhole old.params) old.table old.params [] es new (error_of_commit e)
        (λ next same. ap (λ (l : List TreesData). length l) same ∙ whole)
        (gathered_refused state [] es old new e (omega (arith, whole)) kept is taken flushes.nothing flushes.limits flushes.refused.fault)

    flushed : FlushesNext state old new (Ok tt) → IsFlushed old new
    flushed flushes = gathered_flushed state old new alive (λ none. (flushes.nothing none).1) flushes.ok

    none_left : FlushesNext state old new (Ok tt) → length (gathered_by new) < new.params.cluster
    none_left flushes =
        let done = flushed flushes in
        subst (λ (l : List TreesData). length l < new.params.cluster) (sym done.none)
        (subst (λ (p : Params). 0 < p.cluster) (sym done.same.params) some)

    -- then there is room
    pub room_less : (r : Result Unit CommitError) → FlushesNext state old new r → OnOk r (length (gathered_by new) < new.params.cluster)
    room_less (Ok done) flushes = none_left flushes
    room_less (Err e) flushes = tt

    -- and all else of the writer stays
    pub room_stays : (r : Result Unit CommitError) → length (gathered_by old) ≤ old.params.cluster → FlushesNext state old new r
        → StaysWriter state old new r
    room_stays (Ok done) few flushes =
        let done = flushed flushes in
        record {
          given = given_flushed state old new (λ none. (flushes.nothing none).1) flushes.ok;
          table = done.same.table;
          params = done.same.params;
          few = let less = none_left flushes in omega (arith, less);
          alive = done.same.alive;
          failed = λ bad. absurd (cc bad);
        }
    room_stays (Err e) few flushes =
        let same = refused_same old new e flushes in
        record {
          given = same.given;
          table = same.table;
          params = same.params;
          few = few_still old new same few;
          alive = tt;
          failed = λ bad. let cut = flushes.refused.fault bad in omega (arith, cut.fails.rose);
        }

  -- nothing was written, since there is room
  pub room_there : (w : SeqState D) → w.alive ≡ true → length (gathered_by w) ≤ w.params.cluster → StaysWriter state w w (Ok tt)
  room_there w alive few = record {
    given = refl;
    table = refl;
    params = refl;
    few = few;
    alive = alive;
    failed = λ bad. absurd (cc bad);
  }

  -- ---- an entry

  -- of a gathered entry all else stays
  gathers_but : (entry : TreesData) (old new : SeqState D) → GathersEntry entry old new
      → (new.given ≡ old.given) × (new.table ≡ old.table) × (new.params ≡ old.params) × (new.alive ≡ old.alive)
  gathers_but entry old new h = (
    ap (λ (w : SeqState D). w.given) h.now,
    ap (λ (w : SeqState D). w.table) h.now,
    ap (λ (w : SeqState D). w.params) h.now,
    ap (λ (w : SeqState D). w.alive) h.now,
  )

  gathered_more : (entry : TreesData) (old new : SeqState D) → GathersEntry entry old new
      → length (gathered_by new) ≡ length (gathered_by old) + 1
  gathered_more entry old new h =
      ap (λ (l : List TreesData). length l) h.entries ∙ length-append (gathered_by old) (entry ∷ [])

  module _ (entry : TreesData) (old mid new : SeqState D) where
    -- it was taken behind those that make room for it
    pub takes_done : GathersEntry entry mid new → (es : List TreesData) → MakesEntryRoom state es old mid (Ok tt)
        → TakesPut state es entry old new (Ok tt)
    takes_done gathers es room = entry_taken state [] es entry mid new room gathers

    pub stays_done : StaysWriter state old mid (Ok tt) → length (gathered_by mid) < mid.params.cluster → GathersEntry entry mid new
        → StaysWriter state old new (Ok tt)
    stays_done stays less gathers =
        let but = gathers_but entry mid new gathers in
        record {
          given = but.0 ∙ stays.given;
          table = but.1 ∙ stays.table;
          params = but.2 ∙ stays.params;
          few = let one = gathered_more entry mid new gathers in
              omega (arith, one, less, ap (λ (p : Params). p.cluster) but.2);
          alive = but.3 ∙ stays.alive;
          failed = λ bad. absurd (cc bad);
        }

    -- memory was wanting for it
    pub stays_wanting : StaysWriter state old mid (Ok tt) → new ≡ mid → StaysWriter state old new (Err commit.Memory)
    stays_wanting stays is = subst (λ (w : SeqState D). StaysWriter state old w (Err commit.Memory)) (sym is) (record {
      given = stays.given;
      table = stays.table;
      params = stays.params;
      few = stays.few;
      alive = tt;
      failed = λ bad. absurd (cc bad);
    })
