-- The schema that files are merged under.
use Rattle.std.proofs.Common.{◌≡◌, ◌∙◌, ap, sym, subst, List, [], ◌∷◌, length, Some, None, arith}
use Rattle.std.specs.Prelude.{slice_get}
use Rattle.std.specs.List.{AllByRecursion}
use Rattle.std.proofs.lemmas.List.{length-map}
use Rattle.nt_lists.proofs.Variants.{some_is}
use Rattle.nt_outside.specs.Faults.{Rose}
use Rattle.nt_outside.specs.Disk.{DiskState}
use Rattle.nt_grammar.specs.Table.{Table}
use Rattle.nt_schema.specs.Whole.{AreWhole}
use Rattle.nt_book.specs.declared.params.Params.{Params}
use Rattle.nt_file_meaning.specs.Outlines.{Outline}
use Rattle.nt_copied.specs.Alike.{Alike, AllOpen, bare, plain_column}
use Rattle.nt_copied.specs.Copies.{ReadAlike, NoneDeferred}
use Rattle.nt_merge.specs.declared.error.MergeError.{MergeError}
use Rattle.nt_merge.specs.declared.error.MergeError.TheVariants.{Defect, Schema, RangeTooLarge, FileTooLarge, TooManyClusters, ReadFault}
use Rattle.nt_merge.specs.declared.error.MergeError.TheVariants.{DiskFault, Memory}
use Rattle.nt_merge.specs.Comparing.{schema_error}
use Rattle.nt_merge.specs.Copying.{IsJoinable}
use Rattle.nt_merge.specs.Joining.{IsMergeSchema, RefusesTarget}
use Rattle.nt_merge.specs.Mergeable.{AreMergeable}
use Rattle.nt_merge.specs.Planning.{IsPlan, tables_of}

abbrev pub ReadSame : Type 0
ReadSame = (s t : Table) → AllOpen s → AllOpen t → Alike s t → ReadAlike (bare s) t

abbrev pub Mergeable : Type 0
Mergeable = (t : Table) (ts : List Table) → schema_error (t ∷ ts) ≡ None → AreMergeable t (t ∷ ts)

as-many : (s t : Table) → Alike s t → length t.columns ≡ length s.columns
as-many s t alike =
    let left = length-map s.columns plain_column in
    let right = length-map t.columns plain_column in
    let both = ap length alike.columns in
    omega (arith, left, right, both)

all-copyable : (law : ReadSame) (s : Table) → AllOpen s → (os : List Outline) → AllByRecursion AllOpen (tables_of os)
    → AllByRecursion (λ (u : Table). NoneDeferred u.columns) (tables_of os) → AllByRecursion (λ (u : Table). Alike s u) (tables_of os)
    → AllByRecursion (λ (o : Outline). IsJoinable (bare s) o.table) os
all-copyable law s first [] opens none alike = tt
all-copyable law s first (o ∷ os) opens none alike = (
  record { alike = law s o.table first opens.0 alike.0; none_deferred = none.0; as_many = as-many s o.table alike.0 },
  all-copyable law s first os opens.1 none.1 alike.1,
)

pub merge-schema : ReadSame → Mergeable → (os : List Outline) → IsPlan os → (o : Outline) → slice_get os 0 ≡ Some o → (t : Table)
    → t ≡ bare o.table → AreWhole t → IsMergeSchema t os
merge-schema law mergeable [] plan o first t is whole = absurd (omega (arith, plan.some))
merge-schema law mergeable (x ∷ os) plan o first t is whole =
    let same : x ≡ o = some_is x o first in
    let t-is : t ≡ bare x.table = is ∙ ap (λ (u : Outline). bare u.table) (sym same) in
    let all = mergeable x.table (tables_of os) plan.alike in
    record {
      is = t-is;
      whole = whole;
      none_deferred = subst (λ (u : Table). NoneDeferred u.columns) (sym t-is) all.none_deferred.0;
      copyable = subst (λ (u : Table). AllByRecursion (λ (v : Outline). IsJoinable u v.table) (x ∷ os)) (sym t-is)
          (all-copyable law x.table all.are_open.0 (x ∷ os) all.are_open all.none_deferred all.alike);
    }

-- a disk is blamed only where its count rose, and no file is
pub begin-rose : (t : Table) (p : Params) (old new : DiskState) (e : MergeError) → RefusesTarget t p old new e → e ≡ DiskFault
    → Rose old.faults new.faults
begin-rose t p old new (Defect file e) never is = absurd never
begin-rose t p old new (Schema place) never is = absurd never
begin-rose t p old new (RangeTooLarge len most) never is = absurd (cc is)
begin-rose t p old new (FileTooLarge end most) never is = absurd (cc is)
begin-rose t p old new TooManyClusters never is = absurd never
begin-rose t p old new ReadFault never is = absurd never
begin-rose t p old new DiskFault cut is = cut.rose
begin-rose t p old new Memory never is = absurd (cc is)

pub begin-reads : (t : Table) (p : Params) (old new : DiskState) (e : MergeError) → RefusesTarget t p old new e → e ≡ ReadFault → ⊥
begin-reads t p old new (Defect file e) never is = never
begin-reads t p old new (Schema place) never is = never
begin-reads t p old new (RangeTooLarge len most) never is = cc is
begin-reads t p old new (FileTooLarge end most) never is = cc is
begin-reads t p old new TooManyClusters never is = never
begin-reads t p old new ReadFault never is = never
begin-reads t p old new DiskFault cut is = cc is
begin-reads t p old new Memory never is = cc is
