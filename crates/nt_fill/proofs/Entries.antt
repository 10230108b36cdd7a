-- The entries that columns give.
use Rattle.std.proofs.Common.{◌≡◌, ◌∙◌, ap, ap₂, sym, refl, subst, ℕ, zero, suc, ◌+◌, ◌<◌, true, List, [], ◌∷◌, ◌++◌, length, map, Some}
use Rattle.std.proofs.Common.{arith}
use Rattle.std.proofs.lemmas.List.FromFn.{length-map-range_with_len, map-range_with_len_more}
use Rattle.std.specs.List.{range_with_len}
use Rattle.nt_types.specs.TreeData.{TreesData}
use Rattle.nt_types.specs.TreeBytes.{AllHaveBytes}
use Rattle.nt_types.specs.declared.column_type.ColumnType.{ColumnType}
use Rattle.nt_grammar.specs.Table.{Table}
use Rattle.nt_column.specs.Elements.{AreElementsOf}
use Rattle.nt_column.specs.Column.{Column, Buffer, columns_of, elements_at, kind_at}
use Rattle.nt_grammar.specs.Open.{open_shapes}
use Rattle.nt_plans.specs.Place.{open_plans}
use Rattle.nt_plans.proofs.Tops.{plans-differ}
use Rattle.nt_trees.specs.Described.{IsSetOf}
use Rattle.nt_trees.specs.Sound.{AllSound}
use Rattle.nt_trees.specs.Put.{put_trees}
use Rattle.nt_trees.specs.TreeAt.{each_at}
use Rattle.nt_trees.specs.Fits.{fits_entry}
use Rattle.nt_trees.specs.Nones.{HaveZeroNones}
use Rattle.nt_trees.specs.Views.{cols_of}
use Rattle.nt_trees.proofs.FitPlans.{fit-open}
use Rattle.nt_trees.proofs.Nones.{trees-nones}
use Rattle.nt_trees.proofs.Stable.{each_at-stays, put_trees-extends}
use Rattle.nt_shred.specs.Steps.{IsLast}
use Rattle.nt_layout.specs.Laid.{Gives}
use Rattle.nt_fill.specs.Context.{FillState, gathered, entries_given}

-- maps over the first numbers agree where the functions do
map_same : {A : Type 0} (f g : ℕ → A) (n : ℕ) → ((i : ℕ) → i < n → f i ≡ g i) → map f (range_with_len 0 n) ≡ map g (range_with_len 0 n)
map_same f g zero same = refl
map_same f g (suc n) same =
    let up : suc n ≡ n + 1 = omega arith in
    ap (λ m. map f (range_with_len 0 m)) up
    ∙ (map-range_with_len_more f 0 n n (omega arith)
    ∙ (ap₂ (λ xs x. xs ++ x ∷ []) (map_same f g n (λ i h. same i (omega (arith, h)))) (same n (omega arith))
    ∙ (sym (map-range_with_len_more g 0 n n (omega arith)) ∙ ap (λ m. map g (range_with_len 0 m)) (sym up))))

-- columns have so many entries
pub entries_count : (t : Table) (columns : List Column) (n : ℕ) → length (entries_given t columns n) ≡ n
entries_count t columns n = length-map-range_with_len (each_at (open_plans t) (elements_at columns)) 0 n

module _ {E B P : Type 0} where
  -- a context has gathered so many entries
  pub gathered_length : (c : FillState E B P) → length (gathered c) ≡ c.entries
  gathered_length c = entries_count c.table c.columns c.entries

-- an entry was added to columns
module _ (t : Table) (ts : TreesData) (old new : List Buffer) (n : ℕ) (added : cols_of new
    ≡ put_trees (open_plans t) ts (cols_of old)) (sound : AllSound (open_plans t) (cols_of old) n)
    (last : IsLast (open_plans t) ts n (cols_of new)) (bytes : AllHaveBytes ts) where
  pub entries_more : entries_given t (columns_of new) (n + 1) ≡ entries_given t (columns_of old) n ++ ts ∷ []
  entries_more =
      map-range_with_len_more (each_at (open_plans t) (cols_of new)) 0 n n (omega arith)
      ∙ ap₂ (λ xs x. xs ++ x ∷ []) (map_same (each_at (open_plans t) (cols_of new)) (each_at (open_plans t) (cols_of old)) n
      (λ i h. ap (λ cols. each_at (open_plans t) cols i) added ∙ each_at-stays (open_plans t) (cols_of old)
      (put_trees (open_plans t) ts (cols_of old)) n i (put_trees-extends (open_plans t) ts (cols_of old)) sound h)) (last.entry bytes)

-- choices without a value have index 0 also after an entry is added
pub nones_more : (t : Table) (ts : TreesData) (old new : List Buffer) → cols_of new ≡ put_trees (open_plans t) ts (cols_of old)
    → fits_entry t ts ≡ true → HaveZeroNones (open_plans t) (cols_of old) → HaveZeroNones (open_plans t) (cols_of new)
nones_more t ts old new added fits nones =
    subst (HaveZeroNones (open_plans t)) (sym added) (trees-nones (open_plans t) ts (cols_of old) (plans-differ t) nones
    (fit-open t.fields t.columns 0 (open_shapes t.fields t.columns 0 t.fields) ts ∙ fits))

-- sound columns give their entries
pub gives_of : (t : Table) (columns : List Column) (n : ℕ) → IsSetOf t.columns columns
    → ((k : ℕ) (kind : ColumnType) → kind_at columns k ≡ Some kind → AreElementsOf kind (elements_at columns k))
    → AllSound (open_plans t) (elements_at columns) n → HaveZeroNones (open_plans t) (elements_at columns)
    → Gives t columns (entries_given t columns n)
gives_of t columns n set in_range sound nones =
    let count = entries_count t columns n in
    record {
      set = set;
      in_range = in_range;
      sound = subst (λ m. AllSound (open_plans t) (elements_at columns) m) (sym count) sound;
      nones = nones;
      trees = ap (λ m. map (each_at (open_plans t) (elements_at columns)) (range_with_len 0 m)) (sym count);
    }
