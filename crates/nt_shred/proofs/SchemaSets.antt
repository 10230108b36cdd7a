-- Sets of the columns of a schema.
use Rattle.std.proofs.Common.{◌≡◌, ℕ, ◌==◌, ◌&&◌, List, [], ◌∷◌, length, map, refl, sym, ◌∙◌, ap}
use Rattle.std.specs.List.{list_all}
use Rattle.std.proofs.lemmas.List.{length-map}
use Rattle.nt_types.specs.ColumnTable.{code_of}
use Rattle.nt_types.specs.TreeData.{TreesData}
use Rattle.nt_types.specs.declared.column_type.ColumnType.{ColumnType}
use Rattle.nt_column.specs.Column.{Column, Buffer, columns_of}
use Rattle.nt_grammar.specs.declared.rows.ColumnRow.{ColumnRow}
use Rattle.nt_grammar.specs.Table.{Table}
use Rattle.nt_grammar.specs.Open.{open_shapes}
use Rattle.nt_plans.specs.Plan.{AllDiffer}
use Rattle.nt_plans.specs.Place.{open_plans}
use Rattle.nt_plans.specs.Types.{AllHaveTypes}
use Rattle.nt_trees.specs.Described.{are_stored, IsSetOf}
use Rattle.nt_trees.proofs.FitPlans.{fit-open}
use Rattle.nt_shred.specs.Frame.{set_frame}
use Rattle.nt_shred.specs.Steps.{IsEntry, IsEntryOf}
use Rattle.nt_shred.proofs.Typed.{all-typed-take}

codes-framed : (bs : List Buffer) → map (λ (c : Column). code_of c.kind) (columns_of bs)
    ≡ map (λ (f : ColumnType × ℕ). code_of f.0) (set_frame bs)
codes-framed [] = refl
codes-framed (b ∷ bs) = ap (λ l. code_of b.column.kind ∷ l) (codes-framed bs)

stored-framed : (bs : List Buffer) → are_stored (columns_of bs) ≡ list_all (λ (f : ColumnType × ℕ). f.1 == 0) (set_frame bs)
stored-framed [] = refl
stored-framed (b ∷ bs) = ap (λ x. (b.column.zeros == 0) && x) (stored-framed bs)

-- the columns of a set stay those of the rows, where their types stay
pub set-kept : (rows : List ColumnRow) (old new : List Buffer) → set_frame new ≡ set_frame old → IsSetOf rows (columns_of old)
    → IsSetOf rows (columns_of new)
set-kept rows old new same s = record {
  described = codes-framed new ∙ ap (map (λ (f : ColumnType × ℕ). code_of f.0)) same ∙ sym (codes-framed old) ∙ s.described;
  stored = stored-framed new ∙ ap (list_all (λ (f : ColumnType × ℕ). f.1 == 0)) same ∙ sym (stored-framed old) ∙ s.stored;
}

pub set-count : (rows : List ColumnRow) (bs : List Buffer) → IsSetOf rows (columns_of bs) → length bs ≡ length rows
set-count rows bs s =
    sym (length-map bs (λ (b : Buffer). b.column)) ∙ sym (length-map (columns_of bs) (λ (c : Column). code_of c.kind))
    ∙ ap length s.described ∙ length-map rows (λ (r : ColumnRow). r.code)

pub entry-of : (t : Table) (ts : TreesData) (bs : List Buffer) → AllDiffer (open_plans t) → AllHaveTypes t.columns (open_plans t)
    → IsEntryOf t ts bs → IsEntry (open_plans t) ts bs
entry-of t ts bs differ types e = record {
  size = e.size;
  sound = e.sound;
  differ = differ;
  fitting = fit-open t.fields t.columns 0 (open_shapes t.fields t.columns 0 t.fields) ts ∙ e.fitting;
  takes = all-typed-take bs t.columns e.set.described e.set.stored (open_plans t) types;
}
