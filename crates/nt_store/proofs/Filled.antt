-- What the filling of a file leaves on its disk, by what its parts say.
use Rattle.std.proofs.Common.{◌≡◌, ◌⊎◌, ◌∙◌, inl, inr, sym, subst, refl, ℕ, ◌<◌, List, [], ◌∷◌, Option, Some, None, Result, Ok, Err}
use Rattle.std.proofs.Common.{◌≤◌, Bool, true, false, arith}
use Rattle.std.specs.List.{AllByRecursion}
use Rattle.nt_types.specs.ShapeData.{MemberData}
use Rattle.nt_types.specs.Rules.{AreFields}
use Rattle.nt_outside.specs.Faults.{Rose}
use Rattle.nt_outside.specs.Held.{Held, BecomesSome, nothing_held}
use Rattle.nt_outside.specs.Disk.{DiskState}
use Rattle.nt_outside.specs.Order.{FirstByteLast}
use Rattle.nt_outside.specs.Source.{SourceState}
use Rattle.nt_grammar.specs.Table.{Table}
use Rattle.nt_grammar.specs.Rows.{Rows}
use Rattle.nt_machine.specs.History.{Cluster}
use Rattle.nt_book.specs.declared.meta.ClusterMeta.{ClusterMeta}
use Rattle.nt_book.specs.declared.params.Params.{Params}
use Rattle.nt_book.specs.declared.limits.LimitError.TheVariants as limit
use Rattle.nt_book.specs.Books.{BookData, book_clusters}
use Rattle.nt_book.specs.Kept.{IsBookKept}
use Rattle.nt_machine.specs.Legal.{IsLegal}
use Rattle.nt_logged.specs.Logs.{IsLogOf}
use Rattle.nt_layout.specs.Headers.{header_blob, clusters_place}
use Rattle.nt_layout.specs.Arranged.{HasLists}
use Rattle.nt_cuts.specs.Cuts.{LeavesUnfinished}
use Rattle.nt_crash.specs.Fillings.{IsFilled}
use Rattle.nt_close.specs.declared.error.BeginError.{BeginError}
use Rattle.nt_close.specs.declared.error.BeginError.TheVariants as begin
use Rattle.nt_close.specs.Beginning.{new_book, IsNotBegun}
use Rattle.nt_close.specs.Filled.{AreListsNoted, filled_file}
use Rattle.nt_close.specs.Passing.{passed_by_begin}
use Rattle.nt_close.specs.Steps.{begun_partly, begun_whole}
use Rattle.nt_close.specs.Laws.{IsShut}
use Rattle.nt_close.proofs.FirstByte.{begins_shut, begins_in_order}
use Rattle.nt_dealing.specs.Dealt.{IsDealtOut, FillsBehind}
use Rattle.nt_dealing.specs.Texts.{AreSound, chunks_of, all_chunks}
use Rattle.nt_dealing.specs.Failing.{CommitsFit}
use Rattle.nt_contexts.specs.declared.error.RunError.{RunError}
use Rattle.nt_contexts.specs.declared.error.RunError.TheVariants as run
use Rattle.nt_contexts.specs.Contexts.{IsBookOn, SomeRose, ContextsTold}
use Rattle.nt_store.specs.declared.error.StoreError.TheVariants.{Outside}
use Rattle.nt_store.specs.Errors.{error_of_begin, error_of_run}
use Rattle.nt_store.specs.Worlds.{SomeFailed}
use Rattle.nt_store.specs.Writing.{as_begun, IsInOrderFrom, by_header, by_chunk}
use Rattle.nt_store.specs.Laws.{CrashesLeave}
use Rattle.nt_store.specs.Filling.{IsFilledFile, WhyUnfilled, FillLeaves}
use Rattle.nt_store.proofs.Begun.{begun_known, begun_some, shut_open, filled_shut, filled_order}
use Rattle.nt_store.proofs.Crashing.{run_crash}
use Rattle.nt_store.proofs.Passing.{WholeAreLongest, begun_over}

-- what the contexts left on the disk of a file that was begun: its first byte is 0
pub record IsFilledShut (t : Table) (held : Option Held) : Type 0 where
  pub h : Held
  pub is : held ≡ Some h
  pub shut : IsShut h.image
  pub order : FirstByteLast h.log
  pub unfinished : LeavesUnfinished h.log

begun_order : (t : Table) → FirstByteLast (as_begun t).log
begun_order t = begins_in_order (header_blob t) (as_begun t) (begun_whole refl)

pub filled_from : CrashesLeave → (t : Table) (begin : ℕ) (old new : Option Held) → begin ≡ clusters_place t → 0 < begin
    → old ≡ Some (as_begun t) → BecomesSome old new (FillsBehind begin) → IsFilledShut t new
filled_from leave t begin old new place some is fills =
    let left = fills (as_begun t) is in
    record {
      h = left.0;
      is = left.1;
      shut = filled_shut t begin left.0 left.2;
      order = filled_order begin (as_begun t) left.0 some (begun_some t) left.2 (begun_order t);
      unfinished = run_crash leave t begin left.0 place left.2;
    }

-- why contexts end early
why_told : (T : Type 0) (e : RunError) (t : Table) (fields : List MemberData) (p : Params) (texts : List (List ℕ)) (disk disk' : DiskState)
    (book : BookData) → Rows fields p.plain t → ContextsTold t fields p texts disk disk' book (Err e)
    → WhyUnfilled {T = T} fields p texts (Err (error_of_run e))
why_told T run.Outside t fields p texts disk disk' book rows told = tt
why_told T run.Memory t fields p texts disk disk' book rows told = tt
why_told T (run.Line input line kind) t fields p texts disk disk' book rows told = record { table = t; rows = rows; fails = told }
why_told T (run.Limit reached most) t fields p texts disk disk' book rows told =
    record { table = t; rows = rows; over = told.over; by = by_chunk told }

-- the same of an answer that is one of these
pub run_why : (T : Type 0) (r : Result Unit RunError) (e : RunError) (t : Table) (fields : List MemberData) (p : Params)
    (texts : List (List ℕ)) (disk disk' : DiskState) (book : BookData) → r ≡ Err e → Rows fields p.plain t
    → ContextsTold t fields p texts disk disk' book r → WhyUnfilled {T = T} fields p texts (Err (error_of_run e))
run_why T r e t fields p texts disk disk' book is rows told =
    why_told T e t fields p texts disk disk' book rows
    (subst (λ (o : Result Unit RunError). ContextsTold t fields p texts disk disk' book o) is told)

-- what they leave then
pub run_leaves : (e : RunError) (t : Table) (fields : List MemberData) (p : Params) (texts : List (List ℕ)) (held : Option Held)
    → IsFilledShut t held → FillLeaves fields p texts held (Err (error_of_run e))
run_leaves run.Outside t fields p texts held filled = (filled.h, filled.is, inl (shut_open filled.h.image filled.shut))
run_leaves run.Memory t fields p texts held filled = (filled.h, filled.is, shut_open filled.h.image filled.shut)
run_leaves (run.Line input line kind) t fields p texts held filled = (filled.h, filled.is, shut_open filled.h.image filled.shut)
run_leaves (run.Limit reached most) t fields p texts held filled = (filled.h, filled.is, shut_open filled.h.image filled.shut)

pub run_ok : (r : Result Unit RunError) (t : Table) (fields : List MemberData) (p : Params) (texts : List (List ℕ)) (disk disk' :
    DiskState) (book : BookData) → r ≡ Ok tt
    → ContextsTold t fields p texts disk disk' book r
    → AreSound fields texts × IsDealtOut t p (chunks_of p.cluster fields texts) book disk.held disk'.held
    × CommitsFit t p (all_chunks p.cluster fields texts)
run_ok r t fields p texts disk disk' book is told = subst (λ (o : Result Unit RunError). ContextsTold t fields p texts disk disk' book o)
    is told

-- an early end of contexts is a failure only where one of them failed
run_outside : (e : RunError) → error_of_run e ≡ Outside → ◌≡◌ {A = Result Unit RunError} (Err e) (Err run.Outside)
run_outside run.Outside is = refl
run_outside run.Memory is = absurd (cc is)
run_outside (run.Line input line kind) is = absurd (cc is)
run_outside (run.Limit reached most) is = absurd (cc is)

pub rose_failed : (old new : List SourceState) → SomeRose old new → SomeFailed new
rose_failed [] [] rose = absurd rose
rose_failed [] (s ∷ new) rose = absurd rose
rose_failed (s ∷ old) [] rose = absurd rose
rose_failed (s ∷ old) (s' ∷ new) (inl rose) = inl (omega (arith, rose))
rose_failed (s ∷ old) (s' ∷ new) (inr rose) = inr (rose_failed old new rose)

-- no page list failed of a book that has them where they are to be
none_torn : (staged : Bool) (t : Table) (most : ℕ) (book : BookData) → HasLists staged t most book → book.torn ≡ None
none_torn true t most book lists = lists.1.between.none_torn
none_torn false t most book lists = lists.untorn

-- once all ended well, the file is filled
pub dealt_from : (fields : List MemberData) (p : Params) (texts : List (List ℕ)) (t : Table) (given book : BookData) (old new : Option Held)
    (h : Held) → AreFields fields → Rows fields p.plain t → passed_by_begin p.limits t ≡ None → given ≡ new_book t p
    → IsBookKept book → AreListsNoted t p book → IsBookOn given book
    → AllByRecursion (λ (c : Cluster ClusterMeta). c.len ≤ given.limits.range) (book_clusters book) → AreSound fields texts
    → IsDealtOut t p (chunks_of p.cluster fields texts) book old new → CommitsFit t p (all_chunks p.cluster fields texts)
    → old ≡ Some (as_begun t) → new ≡ Some h → IsShut h.image
    → LeavesUnfinished h.log → IsFilledFile fields p texts t book h
dealt_from fields p texts t given book old new h rules rows within given_is kept noted on short sound dealt fit begun is shut unfinished =
    let book_on : IsBookOn (new_book t p) book = subst (λ (b : BookData). IsBookOn b book) given_is on in
    let left = dealt.stand (as_begun t) begun in
    let same : left.0 ≡ h = held_is left.0 h (sym left.1 ∙ is) in
    record {
      ranges = dealt.ranges;
      holds = record {
        rules = rules;
        rows = rows;
        within = within;
        kept = kept;
        noted = noted;
        untorn = none_torn p.staged t p.group book dealt.lists;
        book_on = book_on;
        short = subst (λ (b : BookData). AllByRecursion (λ (c : Cluster ClusterMeta). c.len ≤ b.limits.range) (book_clusters book)) given_is
            short;
        sound = sound;
        are = dealt.are;
        fit = fit;
      };
      image = subst (λ (k : Held). k.image ≡ filled_file p.staged t book p.group dealt.ranges) same (left.2.stand (begun_known t));
      filled = subst (λ (k : Held). IsFilled p.staged t p.group book dealt.ranges k.log) same (record {
        filling = record {
          history = left.2.fills.history;
          legal = subst (λ (n : ℕ). IsLegal n left.2.fills.history) book_on.begin left.2.fills.legal;
          end = left.2.fills.end;
          lists = left.2.fills.lists;
          torn = left.2.fills.torn;
          steps = left.2.fills.gains.steps;
          is = left.2.fills.gains.log;
          is_log = subst (λ (n : ℕ). IsLogOf n left.2.fills.end left.2.fills.history left.2.fills.lists left.2.fills.torn
              left.2.fills.gains.steps) book_on.begin left.2.fills.gains.is_log;
        };
        fills = left.2.fills_book;
      });
      shut = shut;
      unfinished = unfinished;
    }
  where
    held_is : (a b : Held) → ◌≡◌ {A = Option Held} (Some a) (Some b) → a ≡ b
    held_is a b e = cc

-- why a file isn't begun
pub begin_why : WholeAreLongest → (T : Type 0) (e : BeginError) (fields : List MemberData) (p : Params) (texts : List (List ℕ))
    (old new : DiskState)
    → IsNotBegun fields p old new e → WhyUnfilled {T = T} fields p texts (Err (error_of_begin e))
begin_why longest T begin.Memory fields p texts old new left = tt
begin_why longest T (begin.RangeTooLarge len most) fields p texts old new left =
    let over = begun_over longest fields left.table p left.rows (all_chunks p.cluster fields texts) (limit.RangeTooLarge len most) len most
    left.passed_is (inl refl) in
    record { table = left.table; rows = left.rows; over = over.0; by = by_header over.1 }
begin_why longest T (begin.FileTooLarge end most) fields p texts old new left =
    let over = begun_over longest fields left.table p left.rows (all_chunks p.cluster fields texts) (limit.FileTooLarge end most) end most
    left.passed_is (inr refl) in
    record { table = left.table; rows = left.rows; over = over.0; by = by_header over.1 }
begin_why longest T begin.Fault fields p texts old new left = tt

-- what is left of it then
pub begin_leaves : (e : BeginError) (fields : List MemberData) (p : Params) (texts : List (List ℕ)) (old new : DiskState)
    → IsNotBegun fields p old new e → old.held ≡ Some nothing_held → FillLeaves fields p texts new.held (Err (error_of_begin e))
begin_leaves begin.Memory fields p texts old new left is = (nothing_held, left.place.held ∙ is, tt)
begin_leaves (begin.RangeTooLarge len most) fields p texts old new left is = (nothing_held, left.untouched.place.held ∙ is, tt)
begin_leaves (begin.FileTooLarge end most) fields p texts old new left is = (nothing_held, left.untouched.place.held ∙ is, tt)
begin_leaves begin.Fault fields p texts old new left is =
    let some = left.held nothing_held is in (
      some.0,
      some.1,
      elim (begins_shut (header_blob left.table) some.0 (begun_partly some.2)) [
        | inl shut ↦ inl (shut_open some.0.image shut)
        | inr torn ↦ inr torn
      ],
    )

pub begin_order : (e : BeginError) (fields : List MemberData) (p : Params) (old new : DiskState) → IsNotBegun fields p old new e
    → IsInOrderFrom nothing_held old.held new.held
begin_order begin.Memory fields p old new left is = (nothing_held, left.place.held ∙ is, tt)
begin_order (begin.RangeTooLarge len most) fields p old new left is = (nothing_held, left.untouched.place.held ∙ is, tt)
begin_order (begin.FileTooLarge end most) fields p old new left is = (nothing_held, left.untouched.place.held ∙ is, tt)
begin_order begin.Fault fields p old new left is =
    let some = left.held nothing_held is in
    (some.0, some.1, begins_in_order (header_blob left.table) some.0 (begun_partly some.2))

pub begin_fails : (e : BeginError) (fields : List MemberData) (p : Params) (old new : DiskState) → IsNotBegun fields p old new e
    → error_of_begin e ≡ Outside → 0 < new.faults
begin_fails begin.Memory fields p old new left is = absurd (cc is)
begin_fails (begin.RangeTooLarge len most) fields p old new left is = absurd (cc is)
begin_fails (begin.FileTooLarge end most) fields p old new left is = absurd (cc is)
begin_fails begin.Fault fields p old new left is = omega (arith, left.rose)

-- where contexts failed the disk or a source has failed
pub run_fails : (r : Result Unit RunError) (e : RunError) (disk disk' : ℕ) (sources sources' : List SourceState) → r ≡ Err e
    → (r ≡ Err run.Outside → Rose disk disk' ⊎ SomeRose sources sources') → error_of_run e ≡ Outside → (0 < disk') ⊎ SomeFailed sources'
run_fails r e disk disk' sources sources' is failed outside = elim (failed (is ∙ run_outside e outside)) [
  | inl rose ↦ inl (omega (arith, rose))
  | inr some ↦ inr (rose_failed sources sources' some)
]
