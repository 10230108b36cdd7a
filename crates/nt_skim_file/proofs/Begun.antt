-- What is left of the disk of a selection whose file isn't begun, and how its writing joins the parts.
use Rattle.std.proofs.Common.{◌≡◌, ◌∙◌, inl, inr, ap, sym, subst, refl, ℕ, zero, suc, ◌<◌, List, [], ◌∷◌, ◌++◌, take, Some, Result}
use Rattle.std.proofs.Common.{Err}
use Rattle.std.proofs.Common.{Bool, arith, length, map}
use Rattle.nt_num.specs.declared.fault.ReadError.{ReadError}
use Rattle.nt_types.specs.ShapeData.{MemberData}
use Rattle.nt_types.specs.TreeData.{TreesData}
use Rattle.nt_types.specs.Rules.{AreFields}
use Rattle.nt_outside.specs.Disk.{DiskState}
use Rattle.nt_outside.specs.File.{FileState}
use Rattle.nt_outside.specs.Held.{nothing_held}
use Rattle.nt_outside.specs.Log.{Step, Sync}
use Rattle.nt_grammar.specs.Rows.{Rows}
use Rattle.nt_grammar.specs.Table.{Table}
use Rattle.nt_machine.specs.History.{Cluster}
use Rattle.nt_book.specs.Books.{book_clusters}
use Rattle.nt_book.specs.declared.meta.ClusterMeta.{ClusterMeta}
use Rattle.nt_book.specs.declared.limits.LimitError.TheVariants as limit
use Rattle.nt_book.specs.declared.params.Params.{Params}
use Rattle.nt_layout.specs.Headers.{header_blob}
use Rattle.nt_close.specs.declared.error.BeginError.{BeginError}
use Rattle.nt_close.specs.declared.error.BeginError.TheVariants as begin
use Rattle.nt_close.specs.Beginning.{IsNotBegun}
use Rattle.nt_close.specs.Steps.{begun_partly}
use Rattle.nt_close.proofs.FirstByte.{begins_shut}
use Rattle.nt_cuts.specs.Cuts.{HasSync, LeavesUnfinished}
use Rattle.nt_file_meaning.specs.Outlines.{Outline}
use Rattle.nt_seq.proofs.Blobs.{late-length}
use Rattle.nt_seq.specs.Changing.{BeginsFile}
use Rattle.nt_seq.specs.Writer.{SeqState}
use Rattle.nt_store.proofs.Begun.{shut_open}
use Rattle.nt_store.proofs.Filled.{begin_order}
use Rattle.nt_script.specs.declared.storing.Counts.{Counts}
use Rattle.nt_script.specs.Passing.{passes_begun}
use Rattle.nt_script.specs.Taking.{HasJustFields}
use Rattle.nt_skim.specs.Select.{Selection, cluster_readings}
use Rattle.nt_skim_file.specs.declared.error.SkimStoreError.{SkimStoreError}
use Rattle.nt_skim_file.specs.declared.error.SkimStoreError.TheVariants.{Outside}
use Rattle.nt_skim_file.specs.Errors.{skim_of_begin}
use Rattle.nt_skim_file.specs.Filing.{LeavesSelection, IsNewWriterOf, EndsSelection, WritesSelection}

-- no step is a sync
no_sync : (k : ℕ) → HasSync (take k []) → ⊥
no_sync k has = at k has.before has.is
  where
    at : (k : ℕ) (before : List Step) → take k [] ≡ before ++ Sync ∷ has.after → ⊥
    at zero [] is = cc
    at zero (s ∷ before) is = cc
    at (suc k) [] is = cc
    at (suc k) (s ∷ before) is = cc

nothing_leaves : LeavesUnfinished []
nothing_leaves k bytes has may = absurd (no_sync k has)

begin_left : (e : BeginError) (p : Params) (s : Selection) (rs : List (Result (List TreesData) ReadError)) (old new : DiskState)
    → IsNotBegun s.fields p old new e → old.held ≡ Some nothing_held → LeavesSelection p s rs new (Err (skim_of_begin e))
begin_left begin.Memory p s rs old new left is = record {
  told = (nothing_held, left.place.held ∙ is, tt);
  crash = (nothing_held, left.place.held ∙ is, nothing_leaves);
}
begin_left (begin.RangeTooLarge len most) p s rs old new left is = record {
  told = (
    passes_begun left.table (limit.RangeTooLarge len most) left.rows left.passed_is (refl, refl),
    (nothing_held, left.untouched.place.held ∙ is, tt),
  );
  crash = (nothing_held, left.untouched.place.held ∙ is, nothing_leaves);
}
begin_left (begin.FileTooLarge end most) p s rs old new left is = record {
  told = (
    passes_begun left.table (limit.FileTooLarge end most) left.rows left.passed_is (refl, refl),
    (nothing_held, left.untouched.place.held ∙ is, tt),
  );
  crash = (nothing_held, left.untouched.place.held ∙ is, nothing_leaves);
}
begin_left begin.Fault p s rs old new left is =
    let some = left.held nothing_held is in
    let crash = left.crash nothing_held is in
    record {
      told = inl (
        some.0,
        some.1,
        elim (begins_shut (header_blob left.table) some.0 (begun_partly some.2)) [
          | inl shut ↦ inl (shut_open some.0.image shut)
          | inr torn ↦ inr torn
        ],
      );
      crash = (crash.0, crash.1, λ k bytes has may. inl (crash.2 k bytes has may));
    }

begin_failed : (e : BeginError) (F : List MemberData) (p : Params) (old new : DiskState) → IsNotBegun F p old new e
    → skim_of_begin e ≡ Outside → 0 < new.faults
begin_failed begin.Memory F p old new left is = absurd (cc is)
begin_failed (begin.RangeTooLarge len most) F p old new left is = absurd (cc is)
begin_failed (begin.FileTooLarge end most) F p old new left is = absurd (cc is)
begin_failed begin.Fault F p old new left is = omega (arith, left.rose)

-- the file isn't begun
pub not_begun : (p : Params) (s : Selection) (o : Outline) (file : FileState) (old new : DiskState) (e : BeginError)
    → IsNotBegun s.fields p old new e → WritesSelection p s o file file old new (Err (skim_of_begin e))
not_begun p s o file old new e left = record {
  left = λ bytes is held. begin_left e p s (cluster_readings bytes o) old new left held;
  order = λ held. begin_order e s.fields p old new left held;
  kept = record { same = refl; later = omega arith };
  failed = λ bad. inl (begin_failed e s.fields p old new left (cc bad));
}

-- it is, and what is selected was written, or not
pub then_written : {D : Type 0} (state : D → DiskState) (p : Params) (s : Selection) (o : Outline) (file file' : FileState) (disk disk' : D)
    (w : SeqState D) (result : Result Counts SkimStoreError) → BeginsFile state s.fields p disk w
    → EndsSelection state w s o file file' disk' result
    → WritesSelection p s o file file' (state disk) (state disk') result
then_written {D} state p s o file file' disk disk' w result begins ends = record {
  left = λ bytes is held.
      subst (λ (q : Params). LeavesSelection q s (cluster_readings bytes o) (state disk') result) begins.params
      (ends.left bytes is (empty held));
  order = λ held. ends.order (empty held);
  kept = ends.kept;
  failed = ends.failed;
}
  where
    empty : (state disk).held ≡ Some nothing_held → (state w.given).held ≡ Some nothing_held
    empty held = ap (λ (d : D). (state d).held) begins.given ∙ held

-- of no cluster nothing is kept
none_kept : (cs : List (Cluster ClusterMeta)) → length cs ≡ 0 → map (λ (c : Cluster ClusterMeta). c.meta) cs ≡ []
none_kept [] none = refl
none_kept (c ∷ cs) none = absurd (omega (arith, none))

-- its writer is at the beginning
pub first_of : {D : Type 0} (state : D → DiskState) (F : List MemberData) (p : Params) (disk : D) (w : SeqState D)
    → ((fields : List MemberData) (plain : Bool) (t : Table) → AreFields fields → Rows fields plain t → HasJustFields fields t)
    → AreFields F → BeginsFile state F p disk w → IsNewWriterOf state F w
first_of state F p disk w just rules begins =
    let rows : Rows F w.params.plain w.table = subst (λ (q : Params). Rows F q.plain w.table) (sym begins.params) begins.begun.rows in
    let fields = just F p.plain w.table rules begins.begun.rows in
    record {
      rows = rows;
      just = fields;
      taken = record {
        full = [];
        written = begins.written;
        sizes = tt;
        whole = sym begins.none;
        keeps = record {
          own = [];
          kept = tt;
          metas = none_kept (book_clusters w.book)
              (late-length w.table w.params.page 0 [] begins.written.ranges (book_clusters w.book) begins.written.late);
        };
      };
      none = begins.none;
      alive = begins.alive;
    }
