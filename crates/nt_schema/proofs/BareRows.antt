-- Fields without their flags.
use Rattle.std.proofs.Common.{ℕ, ◌≡◌, List, [], ◌∷◌, map, length, refl, ap, ◌∙◌, arith}
use Rattle.std.specs.Prelude.{◌&&◌}
use Rattle.std.specs.List.{list_all}
use Rattle.std.proofs.lemmas.List.{length-map}
use Rattle.nt_grammar.specs.declared.rows.FieldRow.{FieldRow}
use Rattle.nt_grammar.specs.declared.rows.ColumnRow.{ColumnRow}
use Rattle.nt_grammar.specs.Table.{Table, table_of, is_short}
use Rattle.nt_schema.specs.Schema.{IsTable}

abbrev cleared : FieldRow → FieldRow
cleared r = record r { flags = 0 }

short-cleared : (rs : List FieldRow) → list_all is_short (map cleared rs) ≡ list_all is_short rs
short-cleared [] = refl
short-cleared (r ∷ rs) = ap (λ b. is_short r && b) (short-cleared rs)

-- with all rows in the header they are a table
pub bare-table : (t : Table) (fields : List FieldRow) (columns : List ColumnRow) (in_header columns_in_header : ℕ) → IsTable t
    → fields ≡ map (λ (r : FieldRow). record r { flags = 0 }) t.fields → columns ≡ t.columns → in_header ≡ length t.fields
    → columns_in_header ≡ length t.columns → IsTable (table_of fields columns in_header columns_in_header)
bare-table t fields columns in_header columns_in_header is fields-are columns-are all all_columns =
    let long : length fields ≡ length t.fields = ap length fields-are ∙ length-map t.fields cleared in
    let columns_long : length columns ≡ length t.columns = ap length columns-are in
    let few = is.few_fields in
    let few_columns = is.few_columns in
    record {
      few_fields = omega (arith, long, few);
      few_columns = omega (arith, columns_long, few_columns);
      header_fields = omega (arith, long, all);
      header_columns = omega (arith, columns_long, all_columns);
      short = ap (list_all is_short) fields-are ∙ (short-cleared t.fields ∙ is.short);
    }
