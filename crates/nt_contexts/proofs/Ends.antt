-- What a seat has once its context ran.
use Rattle.std.proofs.Common.{◌≡◌, ◌⊎◌, ℕ, ◌<◌, ◌≤◌, Bool, List, [], Option, Some, None, Result, Ok, Err, refl, sym, ap, ◌∙◌, subst}
use Rattle.std.proofs.Common.{append-nil, length, take, arith}
use Rattle.std.proofs.lemmas.List.{take_all}
use Rattle.nt_lists.specs.Chunks.{chunks}
use Rattle.nt_types.specs.ShapeData.{MemberData, MembersData, parts_of}
use Rattle.nt_types.specs.TreeData.{TreesData}
use Rattle.nt_types.specs.Rules.{AreFields}
use Rattle.nt_grammar.specs.Rows.{Rows}
use Rattle.nt_grammar.specs.Table.{Table}
use Rattle.nt_column.specs.Column.{Column}
use Rattle.nt_outside.specs.Disk.{DiskState}
use Rattle.nt_outside.specs.Faults.{Rose}
use Rattle.nt_outside.specs.Source.{SourceState}
use Rattle.nt_turn.specs.Pass.{TurnState}
use Rattle.nt_machine.specs.declared.entry.Entry.{Entry}
use Rattle.nt_machine.specs.Deal.{times}
use Rattle.nt_machine.specs.History.{publishers_of, ranges_of}
use Rattle.nt_book.specs.declared.meta.ClusterMeta.{ClusterMeta}
use Rattle.nt_book.specs.declared.params.Params.{Params}
use Rattle.nt_commit.specs.declared.locked.Birth.{Birth}
use Rattle.nt_commit.specs.Locked.{book_of_birth}
use Rattle.nt_commit.specs.Holds.{IsPassOf, HasNoneOut}
use Rattle.nt_event.specs.Lines.{LinesState}
use Rattle.nt_fill.specs.Context.{gathered}
use Rattle.nt_fill.specs.Passes.{IsUnpublished}
use Rattle.nt_fill.specs.Flushes.{DiskContext}
use Rattle.nt_dealing.specs.EventText.{BadLine, EventText, read_events}
use Rattle.nt_dealing.specs.Texts.{text_chunks}
use Rattle.nt_dealing.specs.Limits.{NextPasses}
use Rattle.nt_dealing.specs.Failing.{whole_chunks}
use Rattle.nt_dealing.specs.Written.{WroteAllChunks, CommittedFirst}
use Rattle.nt_contexts.specs.declared.error.ContextError.{ContextError}
use Rattle.nt_contexts.specs.declared.error.ContextError.TheVariants.{Text, Limit, Outside, Memory}
use Rattle.nt_contexts.specs.declared.seats.Seat.{Seat}
use Rattle.nt_contexts.specs.Reading.{left_of, GivesJust}
use Rattle.nt_contexts.specs.Filling.{HaveFaults, IsFor, IsOpen, IsAtStart, IsSameContext}
use Rattle.nt_contexts.specs.Running.{Ended}
use Rattle.nt_contexts.specs.Seats.{DiskPass, EndsTold, Ran}
use Rattle.nt_contexts.proofs.Committing.{committed-first, committed-none, length-committed}

-- a text that is told gives what was read
read_as : (F : MembersData) (left : Option (List ℕ)) (text : List ℕ) (entries : List TreesData) (bad : Option BadLine) → left ≡ Some text
    → GivesJust F left entries bad
    → read_events F text ≡ record { entries = entries; bad = bad }
read_as F left text entries bad is read = subst (λ (o : Option (List ℕ)). GivesJust F o entries bad) is read

-- schema, page and chunks under other names
renamed : (R : Table → ℕ → List (List TreesData) → Type 0) (t t' : Table) (page page' : ℕ) (cs cs' : List (List TreesData)) → t ≡ t'
    → page ≡ page' → cs ≡ cs' → R t page cs → R t' page' cs'
renamed R t t' page page' cs cs' e f g h =
    subst (λ (l : List (List TreesData)). R t' page' l) g (subst (λ (n : ℕ). R t' n cs) f (subst (λ (s : Table). R s page cs) e h))

module _ {D P : Type 0} (state : D → DiskState) (fields : List MemberData) (t : Table) (p : Params) (committer : TurnState (Birth D))
    (start c : DiskContext D P)
    (is_committer : start.committer ≡ committer) (is_table : start.table ≡ t) (is_cluster : start.cluster ≡ p.cluster)
    (is_page : start.page ≡ p.page) (is_staged : start.staged ≡ p.staged) where
  -- a context that ended is the one that began
  ended_same : (left : Option (List ℕ)) (was is : LinesState) (result : Result Unit ContextError)
      → Ended state (parts_of fields) left start was is c result → IsSameContext start c
  ended_same left was is (Ok done) h = h.same
  ended_same left was is (Err error) h = h.same

  -- the chunks of its text
  chunks_are : (text : List ℕ) (entries : List TreesData) (bad : Option BadLine) → IsSameContext start c
      → read_events (parts_of fields) text ≡ record { entries = entries; bad = bad }
      → chunks c.cluster entries ≡ text_chunks p.cluster fields text
  chunks_are text entries bad same is =
      ap (λ (n : ℕ). chunks n entries) (same.cluster ∙ is_cluster) ∙ ap (λ (e : EventText). chunks p.cluster e.entries) (sym is)

  -- the chunks that it wrote, under the names of those that began it
  wrote_as : (all some : List (List TreesData)) → all ≡ some → IsSameContext start c
      → WroteAllChunks (state c.committer.birth.begun).held c.table c.page c.staged c.pass.number all c.pass.own
      → WroteAllChunks (state committer.birth.begun).held t p.page p.staged c.pass.number some c.pass.own
  wrote_as all some are same wrote =
      subst (λ (b : TurnState (Birth D)). WroteAllChunks (state b.birth.begun).held t p.page p.staged c.pass.number some c.pass.own)
      (same.committer ∙ is_committer)
      (subst (λ (b : Bool). WroteAllChunks (state c.committer.birth.begun).held t p.page b c.pass.number some c.pass.own)
      (same.staged ∙ is_staged)
      (renamed (λ (s : Table) (n : ℕ) (l : List (List TreesData)). WroteAllChunks (state c.committer.birth.begun).held s n c.staged
      c.pass.number l c.pass.own) c.table t c.page p.page all some (same.table ∙ is_table) (same.page ∙ is_page) are wrote))

  ended_committed : (left : Option (List ℕ)) (was is : LinesState) (result : Result Unit ContextError)
      → Ended state (parts_of fields) left start was is c result
      → (text : List ℕ) → left ≡ Some text → CommittedFirst t p.page (text_chunks p.cluster fields text) c.pass.own
  ended_committed left was is (Ok done) h text told =
      let read = read_as (parts_of fields) left text h.entries None told h.read in
      renamed (λ (s : Table) (n : ℕ) (l : List (List TreesData)). CommittedFirst s n l c.pass.own) c.table t c.page p.page
      (chunks c.cluster h.entries) (text_chunks p.cluster fields text)
      (h.same.table ∙ is_table) (h.same.page ∙ is_page) (chunks_are text h.entries None h.same read)
      (subst (λ (l : List (List TreesData)). CommittedFirst c.table c.page l c.pass.own) (append-nil (chunks c.cluster h.entries))
      (committed-first c.table c.page (chunks c.cluster h.entries) c.pass.own h.written.committed []))
  ended_committed left was is (Err error) h text told =
      let read = read_as (parts_of fields) left text h.entries h.bad told h.read in
      renamed (λ (s : Table) (n : ℕ) (l : List (List TreesData)). CommittedFirst s n l c.pass.own) c.table t c.page p.page
      (chunks c.cluster h.entries) (text_chunks p.cluster fields text)
      (h.same.table ∙ is_table) (h.same.page ∙ is_page) (chunks_are text h.entries h.bad h.same read) h.committed

  ended_told : (left : Option (List ℕ)) (was is : LinesState) (result : Result Unit ContextError)
      → Ended state (parts_of fields) left start was is c result
      → (text : List ℕ) → left ≡ Some text → EndsTold state fields t p committer c.pass text result
  ended_told left was is (Ok done) h text told =
      let read = read_as (parts_of fields) left text h.entries None told h.read in (
        ap (λ (e : EventText). e.bad) read,
        wrote_as (chunks c.cluster h.entries) (text_chunks p.cluster fields text) (chunks_are text h.entries None h.same read) h.same
            h.written.wrote,
        subst (λ (l : List (List TreesData)). take (length (ranges_of c.pass.own)) l ≡ l) (chunks_are text h.entries None h.same read)
            (take_all (length (ranges_of c.pass.own)) (chunks c.cluster h.entries) (omega (
              arith,
              length-committed c.table c.page
                  (chunks c.cluster h.entries) c.pass.own h.written.committed,
            ))),
      )
  ended_told left was is (Err (Text line kind)) h text told =
      let read = read_as (parts_of fields) left text h.entries h.bad told h.read in (
        ap (λ (e : EventText). e.bad) read ∙ h.cause.0,
        renamed (λ (s : Table) (n : ℕ) (l : List (List TreesData)). take (length (ranges_of c.pass.own)) l ≡ whole_chunks n l)
            c.table t c.cluster p.cluster (chunks c.cluster h.entries) (text_chunks p.cluster fields text) (h.same.table ∙ is_table)
            (h.same.cluster ∙ is_cluster) (chunks_are text h.entries h.bad h.same read) h.cause.1,
      )
  ended_told left was is (Err (Limit error)) h text told =
      let read = read_as (parts_of fields) left text h.entries h.bad told h.read in
      let of : c.committer ≡ committer = h.same.committer ∙ is_committer in
      let size : c.cluster ≡ p.cluster = h.same.cluster ∙ is_cluster in
      let bad : (read_events (parts_of fields) text).bad ≡ h.bad = ap (λ (e : EventText). e.bad) read in
      subst (λ (b : TurnState (Birth D)). (next : NextPasses (book_of_birth state b.birth []) t p.page
      (text_chunks p.cluster fields text) c.pass.own c.pass.seen error) × ((length next.chunk ≡ p.cluster)
      ⊎ ((read_events (parts_of fields) text).bad ≡ None))) of
      (subst (λ (n : ℕ). (next : NextPasses (book_of_birth state c.committer.birth []) t p.page
      (text_chunks p.cluster fields text) c.pass.own c.pass.seen error) × ((length next.chunk ≡ n)
      ⊎ ((read_events (parts_of fields) text).bad ≡ None))) size
      (subst (λ (b : Option BadLine). (next : NextPasses (book_of_birth state c.committer.birth []) t p.page
      (text_chunks p.cluster fields text) c.pass.own c.pass.seen error) × ((length next.chunk ≡ c.cluster) ⊎ (b ≡ None))) (sym bad)
      (renamed (λ (s : Table) (n : ℕ) (l : List (List TreesData)). (next : NextPasses
      (book_of_birth state c.committer.birth []) s n l c.pass.own c.pass.seen error) × ((length next.chunk ≡ c.cluster) ⊎ (h.bad ≡ None)))
      c.table t c.page p.page (chunks c.cluster h.entries) (text_chunks p.cluster fields text) (h.same.table ∙ is_table) (h.same.page
      ∙ is_page) (chunks_are text h.entries h.bad h.same read) h.cause)))
  ended_told left was is (Err Outside) h text told = tt
  ended_told left was is (Err Memory) h text told = tt

  ended_wrote : (left : Option (List ℕ)) (was is : LinesState) (result : Result Unit ContextError)
      → Ended state (parts_of fields) left start was is c result → result ≡ Ok tt
      → (full : List (List TreesData))
      × WroteAllChunks (state committer.birth.begun).held t p.page p.staged c.pass.number full c.pass.own
  ended_wrote left was is (Ok done) h well =
      let all = chunks c.cluster h.entries in (all, wrote_as all all refl h.same h.written.wrote)
  ended_wrote left was is (Err error) h well = cc

  ended_blamed : (left : Option (List ℕ)) (was is : LinesState) (result : Result Unit ContextError)
      → Ended state (parts_of fields) left start was is c result → result ≡ Err Outside
      → Rose was.faults is.faults ⊎ HaveFaults c.pass.own
  ended_blamed left was is (Ok done) h failed = cc
  ended_blamed left was is (Err (Text line kind)) h failed = cc
  ended_blamed left was is (Err (Limit error)) h failed = cc
  ended_blamed left was is (Err Outside) h failed = h.cause
  ended_blamed left was is (Err Memory) h failed = cc

  -- a seat whose context ended so
  pub ended_ran : {S : Type 0} (source : S → SourceState) (old new : Seat S (DiskPass D) P) → old.pass ≡ Some start.pass
      → new.pass ≡ Some c.pass
      → IsPassOf c.committer c.pass → HasNoneOut c.pass.own → (left_of source old.lines).faults ≤ (left_of source new.lines).faults
      → Ended state (parts_of fields) (left_of source old.lines).left start (left_of source old.lines)
      (left_of source new.lines) c new.ended
      → Ran state source fields t p committer old new
  ended_ran source old new was_there there of none_out later ended =
      let left = (left_of source old.lines).left in
      let was = left_of source old.lines in
      let is = left_of source new.lines in
      let same = ended_same left was is new.ended ended in
      record {
        was = start.pass;
        was_there = was_there;
        pass = c.pass;
        there = there;
        of = subst (λ (b : TurnState (Birth D)). IsPassOf b c.pass) (same.committer ∙ is_committer) of;
        number = same.number;
        none_out = none_out;
        later = later;
        blamed = ended_blamed left was is new.ended ended;
        wrote = ended_wrote left was is new.ended ended;
        committed = ended_committed left was is new.ended ended;
        told = ended_told left was is new.ended ended;
      }

-- a context that could not begin
pub unbegun : {D S P : Type 0} (state : D → DiskState) (source : S
    → SourceState) (fields : List MemberData) (t : Table) (p : Params) (committer : TurnState (Birth D))
    (old new : Seat S (DiskPass D) P) (pass : DiskPass D) → old.pass ≡ Some pass → new.pass ≡ Some pass → new.lines ≡ old.lines
    → new.ended ≡ Err Memory → IsPassOf committer pass
    → pass.own ≡ [] → Ran state source fields t p committer old new
unbegun {D = D} {P = P} state source fields t p committer old new pass was_there there same ended of unused = record {
  was = pass;
  was_there = was_there;
  pass = pass;
  there = there;
  of = of;
  number = refl;
  none_out = subst (λ (l : List (Entry ClusterMeta)). HasNoneOut l) (sym unused) tt;
  later = omega (arith, ap (λ l. (left_of source l).faults) same);
  blamed = λ failed. cc;
  wrote = λ well. cc;
  committed = λ text told.
      subst (λ (l : List (Entry ClusterMeta)). CommittedFirst t p.page (text_chunks p.cluster fields text) l) (sym unused)
      (committed-first t p.page [] [] (committed-none t p.page) (text_chunks p.cluster fields text));
  told = λ text told. subst (λ (r : Result Unit ContextError). EndsTold state fields t p committer pass text r) (sym ended) tt;
}

-- a context that has gathered nothing
abbrev pub new_context : {D P : Type 0} → TurnState (Birth D) → Table → ℕ → ℕ → Bool → DiskPass D → P → List Column → DiskContext D P
new_context committer t cluster page staged pass pen columns =
    record {
      committer = committer;
      table = t;
      cluster = cluster;
      page = page;
      staged = staged;
      pass = pass;
      pen = Some pen;
      columns = columns;
      entries = 0;
    }

module _ {D P : Type 0} (committer : TurnState (Birth D)) (t : Table) (cluster page : ℕ) (staged : Bool) (pass : DiskPass D) (pen : P)
    (c : DiskContext D P) (is : c ≡ new_context committer t cluster page staged pass pen c.columns) where
  new_open : 0 < cluster → pass.own ≡ [] → IsOpen c
  new_open some unused =
      let before : IsUnpublished staged pass = λ yes. ap (λ (l : List (Entry ClusterMeta)). times pass.number (publishers_of l)) unused in
      let there : IsOpen (new_context committer t cluster page staged pass pen c.columns) =
      record { alive = refl; unpublished = before; room = some } in
      subst (λ (d : DiskContext D P). IsOpen d) (sym is) there

  pub new_for : (fields : List MemberData) (plain : Bool) → AreFields fields → Rows fields plain t → IsFor fields c
  new_for fields plain rules rows = record {
    rules = rules;
    plain = plain;
    rows = subst (λ (s : Table). Rows fields plain s) (sym (ap (λ (d : DiskContext D P). d.table) is)) rows;
  }

  pub new_start : (lines : LinesState) → 0 < cluster → pass.own ≡ [] → lines.number ≡ 0 → IsAtStart lines c
  new_start lines some unused first = record {
    is_open = new_open some unused;
    unused = ap (λ (d : DiskContext D P). d.pass.own) is ∙ unused;
    empty = ap (λ (d : DiskContext D P). gathered d) is;
    first = first;
  }
