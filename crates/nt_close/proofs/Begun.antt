-- What the steps of the beginning leave, with the header of the schema.
use Rattle.std.proofs.Common.{◌≡◌, ◌∙◌, ◌+◌, ◌≤◌, ℕ, Bool, List, length, replicate, Some, None, Result, ap, sym, subst, arith}
use Rattle.std.specs.declared.alloc.AllocError.{AllocError}
use Rattle.nt_types.specs.ShapeData.{MemberData}
use Rattle.nt_outside.specs.Faults.{Rose}
use Rattle.nt_outside.specs.Held.{Held, Becomes, BecomesSome, WhereHeld, nothing_held}
use Rattle.nt_outside.specs.Disk.{DiskState, TakesRoom}
use Rattle.nt_container.specs.Spelling.{begun}
use Rattle.nt_container.proofs.Gate.{begin-len}
use Rattle.nt_grammar.specs.Table.{Table}
use Rattle.nt_grammar.specs.Rows.{Rows}
use Rattle.nt_book.specs.Books.{BookData}
use Rattle.nt_book.specs.declared.params.Params.{Params}
use Rattle.nt_layout.specs.Headers.{header_blob, header_sum, clusters_place}
use Rattle.nt_layout.specs.Arranged.{group_for}
use Rattle.nt_close.specs.Steps.{begun_on, IsBegunPartly, IsBegunWith}
use Rattle.nt_close.specs.Passing.{passed_by_begin}
use Rattle.nt_close.specs.Beginning.{new_book, IsHeaderBlob, IsBegun, IsBegunFor, IsBeginCutFor, IsNotBegun, IsNotBegunFor}
use Rattle.nt_close.specs.declared.error.BeginError.{BeginError}
use Rattle.nt_close.specs.declared.error.BeginError.TheVariants.{Memory, RangeTooLarge, FileTooLarge, Fault}
use Rattle.nt_close.proofs.Crashes.{begun-crash, cut-crash}

module _ (p : Params) (t : Table) (within : passed_by_begin p.limits t ≡ None) where
  -- the new book
  book_is : (len columns sum : ℕ) (book : BookData)
      → book ≡ record (new_book t p) { begin = 226 + len; firsts = replicate columns 0; group = group_for p.staged p.group sum }
      → 226 + len ≡ clusters_place t → columns ≡ length t.columns → sum ≡ header_sum t → book ≡ new_book t p
  book_is len columns sum book is begins long sums =
      is
      ∙ (ap (λ (k : ℕ). record (new_book t p) { begin = k; firsts = replicate columns 0; group = group_for p.staged p.group sum }) begins
      ∙ (ap (λ (k : ℕ). record (new_book t p) { firsts = replicate k 0; group = group_for p.staged p.group sum }) long
      ∙ ap (λ (k : ℕ). record (new_book t p) { group = group_for p.staged p.group k }) sums))

  -- whether it is staged is known
  pub book_of : (len columns sum : ℕ) (book : BookData) (b : Bool) → p.staged ≡ b
      → book ≡ record (new_book t p) { begin = 226 + len; firsts = replicate columns 0; group = group_for b p.group sum; staged = b }
      → book ≡ record (new_book t p) { begin = 226 + len; firsts = replicate columns 0; group = group_for p.staged p.group sum }
  book_of len columns sum book b staged is =
      is
      ∙ ap
      (λ (s : Bool).
      record (new_book t p) { begin = 226 + len; firsts = replicate columns 0; group = group_for s p.group sum; staged = s })
      (sym staged)

  -- all steps were taken on a disk for which there was room
  pub begun-is : (bytes blob : List ℕ) (sum len columns steps more : ℕ) (book : BookData) (old mid new : DiskState)
      (room : Result (Unit {0}) AllocError)
      → book ≡ record (new_book t p) { begin = 226 + len; firsts = replicate columns 0; group = group_for p.staged p.group sum }
      → len ≡ length bytes → columns ≡ length t.columns → blob ≡ bytes → IsHeaderBlob t bytes sum
      → TakesRoom steps more old mid room → WhereHeld old.held (λ (h : Held). h ≡ nothing_held) → old.end ≡ 0
      → IsBegunWith (begun 0 0 0) blob mid new → new.out ≡ mid.out → mid.faults ≤ new.faults
      → IsBegunFor t p old new book
  begun-is bytes blob sum len columns steps more book old mid new room is len-is long same header takes nothing empty ok out later =
      let becomes : Becomes old.held new.held (begun_on (begun 0 0 0) (header_blob t)) =
      λ h was. ok.held h (takes.held ∙ was) ∙ ap (λ (l : List ℕ). Some (begun_on (begun 0 0 0) l h)) (same ∙ header.bytes_are) in
      record {
        book_is = book_is len columns sum book is (omega (arith, len-is, header.place)) long header.sum_is;
        within = within;
        held = becomes;
        crash = begun-crash t old.held new.held nothing becomes;
        end = ok.end ∙ omega (arith, takes.end, empty, header.place, ap length same, begin-len 0 0 0);
        out = out ∙ takes.out;
        later = subst (λ (n : ℕ). n ≤ new.faults) takes.faults later;
      }

  -- a step failed
  pub begin-cut : (bytes blob : List ℕ) (sum steps more : ℕ) (old mid new : DiskState) (room : Result (Unit {0}) AllocError)
      → blob ≡ bytes → IsHeaderBlob t bytes sum → TakesRoom steps more old mid room → WhereHeld old.held (λ (h : Held). h ≡ nothing_held)
      → BecomesSome mid.held new.held (IsBegunPartly (begun 0 0 0) blob) → new.out ≡ mid.out → Rose mid.faults new.faults
      → IsBeginCutFor t p old new
  begin-cut bytes blob sum steps more old mid new room same header takes nothing left out rose =
      let so_far : BecomesSome old.held new.held (IsBegunPartly (begun 0 0 0) (header_blob t)) =
      λ h was.
      let stands = left h (takes.held ∙ was) in
      (stands.0, stands.1, subst (λ (l : List ℕ). IsBegunPartly (begun 0 0 0) l h stands.0) (same ∙ header.bytes_are) stands.2) in
      record {
        within = within;
        held = so_far;
        crash = cut-crash t old.held new.held nothing so_far;
        out = out ∙ takes.out;
        rose = subst (λ (n : ℕ). Rose n new.faults) takes.faults rose;
      }

-- ---- that of fields

pub begun_rows : (ps : List MemberData) (p : Params) (old new : DiskState) (book : BookData) (t : Table) → Rows ps p.plain t
    → IsBegunFor t p old new book → IsBegun ps p old new book t
begun_rows ps p old new book t rows is = record {
  rows = rows;
  book_is = is.book_is;
  within = is.within;
  held = is.held;
  crash = is.crash;
  end = is.end;
  out = is.out;
  later = is.later;
}

pub not_begun_rows : (ps : List MemberData) (p : Params) (old new : DiskState) (t : Table) (e : BeginError) → Rows ps p.plain t
    → IsNotBegunFor t p old new e → IsNotBegun ps p old new e
not_begun_rows ps p old new t Memory rows is = is
not_begun_rows ps p old new t (RangeTooLarge len most) rows is =
    record { table = t; rows = rows; passed_is = is.0; untouched = is.1 }
not_begun_rows ps p old new t (FileTooLarge end most) rows is =
    record { table = t; rows = rows; passed_is = is.0; untouched = is.1 }
not_begun_rows ps p old new t Fault rows is = record {
  table = t;
  rows = rows;
  within = is.within;
  held = is.held;
  crash = is.crash;
  out = is.out;
  rose = is.rose;
}
