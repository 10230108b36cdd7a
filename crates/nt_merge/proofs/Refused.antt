-- A merge that is refused.
use Rattle.std.proofs.Common.{◌≡◌, ◌∙◌, ap, sym, refl, subst, ◌⊎◌, inl, inr, ℕ, zero, suc}
use Rattle.std.proofs.Common.{List, [], ◌∷◌, ◌++◌, take, Some, Err}
use Rattle.nt_outside.specs.Log.{Step, Sync, FailedAppend}
use Rattle.nt_outside.specs.Held.{Held, BecomesSome, WhereHeld, nothing_held}
use Rattle.nt_outside.specs.Disk.{DiskState}
use Rattle.nt_outside.specs.Order.{FirstByteLast}
use Rattle.nt_container.specs.Spelling.{begun}
use Rattle.nt_grammar.specs.Table.{Table}
use Rattle.nt_book.specs.declared.limits.LimitError.{LimitError}
use Rattle.nt_book.specs.declared.limits.LimitError.TheVariants as limit
use Rattle.nt_book.specs.declared.meta.ClusterMeta.{ClusterMeta}
use Rattle.nt_book.specs.declared.params.Params.{Params}
use Rattle.nt_book.specs.Books.{BookData}
use Rattle.nt_layout.specs.Headers.{header_blob}
use Rattle.nt_cuts.specs.Cuts.{LeavesUnfinished}
use Rattle.nt_close.specs.Beginning.{IsBeginCutFor}
use Rattle.nt_close.specs.Laws.{IsShut}
use Rattle.nt_close.specs.Passing.{passed_by_begin}
use Rattle.nt_close.specs.Steps.{IsBegunPartly, begun_partly}
use Rattle.nt_close.proofs.FirstByte.{begins_shut, begins_in_order}
use Rattle.nt_merge_limits.specs.Limits.{MergeOverBy}
use Rattle.nt_merge.specs.declared.error.MergeError.{MergeError}
use Rattle.nt_merge.specs.declared.error.MergeError.TheVariants.{Defect, Schema, RangeTooLarge, FileTooLarge, TooManyClusters, ReadFault}
use Rattle.nt_merge.specs.declared.error.MergeError.TheVariants.{DiskFault, Memory}
use Rattle.nt_merge.specs.Joining.{RefusesTarget, ToldOfAll}
use Rattle.nt_merge.specs.Merging.{Numbered, sound_numbered, copied_metas, IsFirstMergeLimit, IsCutAt, IsCutFile, IsLeftUnfinished}
use Rattle.nt_merge.specs.Merging.{MergesTold, nothing_written, shut, cut_unclosed, torn_at_once}
use Rattle.nt_merge.proofs.First.{header-first}

-- what a file passes where it is begun, a file of any clusters passes
abbrev pub BegunPass : Table → Params → Type 0
BegunPass t p =
    (metas : List ClusterMeta) (error : LimitError) → passed_by_begin p.limits t ≡ Some error → MergeOverBy t p metas error

begin-over : (t : Table) (p : Params) (ns : List Numbered) → BegunPass t p → (passed : LimitError)
    → passed_by_begin p.limits t ≡ Some passed → IsFirstMergeLimit t p ns passed
begin-over t p ns pass passed is =
    record { over = pass (copied_metas (sound_numbered ns)) passed is; first = header-first t p ns passed is }

no-sync : (before after : List Step) → [] ≡ before ++ Sync ∷ after → ⊥
no-sync [] after is = cc is
no-sync (s ∷ before) after is = cc is

take-none : (k : ℕ) → ◌≡◌ {A = List Step} (take k []) []
take-none zero = refl
take-none (suc k) = refl

none-leaves : (log : List Step) → log ≡ [] → LeavesUnfinished log
none-leaves log is k bytes has may =
    absurd (no-sync has.before has.after (sym (ap (λ (l : List Step). take k l) is ∙ take-none k) ∙ has.is))

module _ (old new : DiskState) (empty : WhereHeld old.held (λ (h : Held). h ≡ nothing_held)) where
  -- nothing was written
  pub untouched-unfinished : new.held ≡ old.held → IsLeftUnfinished old new
  untouched-unfinished same h told = (
    h,
    same ∙ told,
    record {
      unclosed = nothing_written refl;
      order = subst FirstByteLast (sym (ap (λ (k : Held). k.log) (empty h told))) tt;
      crash = none-leaves h.log (ap (λ (k : Held). k.log) (empty h told));
    },
  )

  -- the beginning was cut off
  cut-begin : (t : Table) (p : Params) (ns : List Numbered) → IsBeginCutFor t p old new → BecomesSome old.held new.held (IsCutFile t p ns)
  cut-begin t p ns cut h told =
      let left = cut.held h told in
      let crash = cut.crash h told in
      let same : crash.0 ≡ left.0 = cc (crash.1, left.1) in
      let partly : IsBegunPartly (begun 0 0 0) (header_blob t) nothing_held left.0 =
      subst (λ (k : Held). IsBegunPartly (begun 0 0 0) (header_blob t) k left.0) (empty h told) left.2 in
      let leaves : LeavesUnfinished left.0.log = subst (λ (k : Held). LeavesUnfinished k.log) same crash.2 in (
        left.0,
        left.1,
        record {
          how = opened (begins_shut (header_blob t) left.0 (begun_partly partly));
          order = begins_in_order (header_blob t) left.0 (begun_partly partly);
          crash = λ k bytes has may. inl (leaves k bytes has may);
        },
      )
    where
      opened : {h left : Held} → IsShut left.image ⊎ ((n : ℕ) × (left.log ≡ FailedAppend n ∷ [])) → IsCutAt t p ns h left
      opened (inl is) = cut_unclosed (shut is)
      opened (inr (n, is)) = torn_at_once n is

  -- the file wasn't begun
  pub begin-refused : (t : Table) (p : Params) (ns : List Numbered) → BegunPass t p → (e : MergeError) → RefusesTarget t p old new e
      → MergesTold t p ns old new (Err e)
  begin-refused t p ns pass (Defect file e) never = absurd never
  begin-refused t p ns pass (Schema place) never = absurd never
  begin-refused t p ns pass (RangeTooLarge len most) is = record {
    first = begin-over t p ns pass (limit.RangeTooLarge len most) is.0;
    left = untouched-unfinished is.1.place.held;
  }
  begin-refused t p ns pass (FileTooLarge end most) is = record {
    first = begin-over t p ns pass (limit.FileTooLarge end most) is.0;
    left = untouched-unfinished is.1.place.held;
  }
  begin-refused t p ns pass TooManyClusters never = absurd never
  begin-refused t p ns pass ReadFault never = absurd never
  begin-refused t p ns pass DiskFault is = cut-begin t p ns is
  begin-refused t p ns pass Memory is = untouched-unfinished is.place.held

-- the clusters weren't all copied
unfinished-cut : (t : Table) (p : Params) (ns : List Numbered) (old new : DiskState) → IsLeftUnfinished old new
    → BecomesSome old.held new.held (IsCutFile t p ns)
unfinished-cut t p ns old new left h told =
    let is = left h told in
    let cut : IsCutFile t p ns h is.0 =
    record { how = cut_unclosed is.2.unclosed; order = is.2.order; crash = λ k bytes has may. inl (is.2.crash k bytes has may) } in
    (is.0, is.1, cut)

pub copies-refused : (t : Table) (p : Params) (given new : DiskState) (book : BookData) (ns : List Numbered) (e : MergeError)
    → IsLeftUnfinished given new → ToldOfAll t p given new book ns (Err e) → MergesTold t p ns given new (Err e)
copies-refused t p given new book ns (Defect file e) left told = (told, left)
copies-refused t p given new book ns (Schema place) left told = absurd told
copies-refused t p given new book ns (RangeTooLarge len most) left told = record { first = told; left = left }
copies-refused t p given new book ns (FileTooLarge end most) left told = record { first = told; left = left }
copies-refused t p given new book ns TooManyClusters left told = record { first = told; left = left }
copies-refused t p given new book ns ReadFault left told = left
copies-refused t p given new book ns DiskFault left told = unfinished-cut t p ns given new left
copies-refused t p given new book ns Memory left told = left
