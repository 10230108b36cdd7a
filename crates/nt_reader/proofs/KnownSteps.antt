-- What a schema tells of its columns, one by one.
use Rattle.std.proofs.Common.{◌≡◌, ℕ, suc, ◌+◌, ◌<◌, List, [], ◌∷◌, ◌++◌, length, drop, slice_get, Some, refl, sym, ap, ◌∙◌}
use Rattle.std.proofs.lemmas.Option.{slice_get-get_or}
use Rattle.std.proofs.lemmas.List.{append_assoc, drop_more}
use Rattle.nt_grammar.specs.Table.{Table}
use Rattle.nt_grammar.specs.declared.rows.ColumnRow.{ColumnRow}
use Rattle.nt_plans.specs.Needs.{need_of}
use Rattle.nt_pagelists.specs.declared.column.KnownColumn.{KnownColumn}
use Rattle.nt_pagelists.specs.declared.group.Group.{Group}
use Rattle.nt_file_meaning.specs.Outlines.{known_column, known_columns_from, known_columns, no_progress, groups_clusters}

no_row : ColumnRow
no_row = record { code = 0; bits = 0; field = 0; flags = 0; representation = 0; first = 0 }

-- one column more is known
pub known-more : (t : Table) (id : ℕ) (so_far more all : List KnownColumn) (known : KnownColumn) → id < length t.columns
    → ((row : ColumnRow) → slice_get t.columns id ≡ Some row → known ≡ known_column (need_of t id) row) → more ≡ so_far ++ known ∷ []
    → so_far ++ known_columns_from t id (drop id t.columns) ≡ all → more ++ known_columns_from t (id + 1) (drop (id + 1) t.columns) ≡ all
known-more t id so_far more all known lt is new h =
    let next = drop_more t.columns id no_row lt in
    ap (λ (l : List KnownColumn). l ++ known_columns_from t (id + 1) (drop (id + 1) t.columns)) new
    ∙ append_assoc so_far (known ∷ []) (known_columns_from t (id + 1) (drop (id + 1) t.columns))
    ∙ ap (λ (k : KnownColumn). so_far ++ k ∷ known_columns_from t (id + 1) (drop (id + 1) t.columns))
    (is _ (slice_get-get_or t.columns id no_row lt))
    ∙ ap (λ (l : List ColumnRow). so_far ++ known_columns_from t id l) (sym next) ∙ h

known-length : (t : Table) (id : ℕ) (rows : List ColumnRow) → length (known_columns_from t id rows) ≡ length rows
known-length t id [] = refl
known-length t id (r ∷ rows) = ap suc (known-length t (id + 1) rows)

-- the clusters of groups, by columns that are those of the schema
pub known-clusters : (told : List ℕ) (sum : ℕ) (t : Table) (columns : List KnownColumn) (groups given : List Group)
    → columns ≡ known_columns t → given ≡ groups
    → groups_clusters told sum (known_columns t) groups (no_progress (length t.columns)) ≡ groups_clusters told sum columns given
    (no_progress (length columns))
known-clusters told sum t columns groups given is same =
    ap (λ (n : ℕ). groups_clusters told sum (known_columns t) groups (no_progress n)) (sym (known-length t 0 t.columns))
    ∙ ap (λ (cs : List KnownColumn). groups_clusters told sum cs groups (no_progress (length cs))) (sym is)
    ∙ ap (λ (gs : List Group). groups_clusters told sum columns gs (no_progress (length columns))) (sym same)
