-- A writer that gathered an entry.
use Rattle.std.proofs.Common.{◌≡◌, ◌∙◌, ap, sym, refl, subst, ℕ, ◌+◌, ◌<◌, ◌≤◌, suc, true, List, [], ◌∷◌, ◌++◌, append-nil, Some, arith}
use Rattle.nt_types.specs.TreeData.{TreesData, trees_of}
use Rattle.nt_types.specs.declared.column_type.ColumnType.{ColumnType}
use Rattle.nt_outside.specs.Disk.{DiskState}
use Rattle.nt_column.specs.Elements.{AreElementsOf}
use Rattle.nt_column.specs.Column.{Column, Buffer, columns_of, elements_at, kind_at}
use Rattle.nt_grammar.specs.Open.{open_shapes}
use Rattle.nt_grammar.specs.Table.{Table}
use Rattle.nt_plans.specs.Place.{open_plans}
use Rattle.nt_plans.specs.Types.{AllHaveTypes}
use Rattle.nt_trees.specs.Described.{IsSetOf}
use Rattle.nt_trees.specs.Fits.{fits_entry}
use Rattle.nt_trees.specs.Nones.{HaveZeroNones}
use Rattle.nt_trees.specs.Put.{put_trees}
use Rattle.nt_trees.specs.Sound.{AllSound}
use Rattle.nt_trees.specs.Views.{cols_of}
use Rattle.nt_trees.proofs.FitPlans.{fit-open}
use Rattle.nt_shred.specs.Frame.{set_frame}
use Rattle.nt_shred.specs.Lines.{PutsEntry}
use Rattle.nt_shred.specs.Steps.{IsLast}
use Rattle.nt_shred.proofs.Typed.{all-typed-take}
use Rattle.nt_layout.specs.Laid.{Gives}
use Rattle.nt_fill.specs.Context.{entries_given}
use Rattle.nt_fill.proofs.Bytes.{all_bytes, small_of}
use Rattle.nt_fill.proofs.Entries.{entries_more, entries_count, nones_more, gives_of}
use Rattle.nt_seq.specs.Standing.{IsWriting}
use Rattle.nt_seq.specs.Writer.{SeqState}

-- what holds of a writer holds of it with other columns, if they give entries of a cluster
pub writing-filled : {D : Type 0} (state : D → DiskState) (w : SeqState D) (columns : List Column) (entries : ℕ) → IsWriting state w
    → Gives w.table columns (entries_given w.table columns entries) → entries ≤ w.params.cluster
    → IsWriting state (record w { columns = columns; entries = entries })
writing-filled state w columns entries is gives full = record {
  blobs = is.blobs;
  held = is.held;
  header = is.header;
  closable = is.closable;
  not_staged = is.not_staged;
  untorn = is.untorn;
  within = is.within;
  limits = is.limits;
  firsts = is.firsts;
  begun = is.begun;
  settled = is.settled;
  short = is.short;
  ends = is.ends;
  count = is.count;
  described = is.described;
  few = is.few;
  some = is.some;
  gives = gives;
  full = full;
}

-- an entry was added to columns that had so many
pub record IsAdded (t : Table) (ts : TreesData) (old new : List Buffer) : Type 0 where
  pub set : IsSetOf t.columns (columns_of new)
  pub in_range : (k : ℕ) (kind : ColumnType) → kind_at (columns_of new) k ≡ Some kind → AreElementsOf kind (elements_at (columns_of new) k)
  pub typed : AllHaveTypes t.columns (open_plans t)
  pub fits : fits_entry t ts ≡ true
  pub added : cols_of new ≡ put_trees (open_plans t) ts (cols_of old)
  pub last : (n : ℕ) → AllSound (open_plans t) (cols_of old) n → IsLast (open_plans t) ts n (cols_of new)

-- so was that of a line
pub added-line : (t : Table) (line : List ℕ) (old new : List Buffer)
    → ((k : ℕ) (kind : ColumnType) → kind_at (columns_of new) k ≡ Some kind → AreElementsOf kind (elements_at (columns_of new) k))
    → AllHaveTypes t.columns (open_plans t) → (taken : PutsEntry t line old new) → IsAdded t (trees_of taken.found) old new
added-line t line old new in_range typed taken = record {
  set = taken.set;
  in_range = in_range;
  typed = typed;
  fits = taken.fitting;
  added = taken.added;
  last = taken.last;
}

module _ (t : Table) (ts : TreesData) (old new : List Buffer) (n : ℕ) (is : IsAdded t ts old new)
    (gives : Gives t (columns_of old) (entries_given t (columns_of old) n)) where
  -- they were sound for these
  sound_before : AllSound (open_plans t) (cols_of old) n
  sound_before = subst (λ (m : ℕ). AllSound (open_plans t) (cols_of old) m) (entries_count t (columns_of old) n) gives.sound

  -- they give one entry more
  pub entries-added : entries_given t (columns_of new) (n + 1) ≡ entries_given t (columns_of old) n ++ ts ∷ []
  entries-added =
      let bytes = all_bytes (set_frame new) (cols_of new) (small_of new is.in_range) (open_plans t) ts (cols_of old)
      (all-typed-take new t.columns is.set.described is.set.stored (open_plans t) is.typed)
      (fit-open t.fields t.columns 0 (open_shapes t.fields t.columns 0 t.fields) ts ∙ is.fits)
      (λ j. ([], ap (λ cols. cols j) is.added ∙ sym (append-nil _))) in
      entries_more t ts old new n is.added sound_before (is.last n sound_before) bytes

  -- which are entries of a cluster
  pub gives-added : Gives t (columns_of new) (entries_given t (columns_of new) (n + 1))
  gives-added =
      let more : suc n ≡ n + 1 = omega arith in
      gives_of t (columns_of new) (n + 1) is.set is.in_range
      (subst (λ (m : ℕ). AllSound (open_plans t) (cols_of new) m) more (is.last n sound_before).sound)
      (nones_more t ts old new is.added is.fits gives.nones)
