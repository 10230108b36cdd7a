-- The header of a table that grew by the fields of a script.
use Rattle.std.proofs.Common.{◌≡◌, ◌∙◌, ap, refl, ℕ, ◌+◌, ◌≤◌, Bool, List, [], ◌∷◌, length, map, arith}
use Rattle.std.specs.Prelude.{take}
use Rattle.std.proofs.lemmas.List.{length-append, take-append-le}
use Rattle.nt_types.specs.ShapeData.{MemberData}
use Rattle.nt_grammar.specs.Added.{nodes_of, added_rows, Added}
use Rattle.nt_grammar.specs.Rows.{Rows, field_row}
use Rattle.nt_grammar.specs.Table.{Table}
use Rattle.nt_file_meaning.specs.Headers.{header_text}
use Rattle.nt_container.specs.Lengths.{begun_len}
use Rattle.nt_pagelists.specs.Blobs.{blob_len}
use Rattle.nt_book.specs.declared.limits.Limits.{Limits}
use Rattle.nt_layout.specs.Headers.{header_object, clusters_place}
use Rattle.nt_close.specs.Passing.{first_passed, passed_by_begin}
use Rattle.nt_script.specs.Script.{Script, last_entries, and_field}
use Rattle.nt_script.specs.Clusters.{GrowsByScript}

-- the rows of the header are among those of the table
pub record HasHeader (t : Table) : Type 0 where
  pub fields : t.header_fields ≤ length t.fields
  pub columns : t.header_columns ≤ length t.columns

pub header-described : (fields : List MemberData) (plain : Bool) (t : Table) → Rows fields plain t → HasHeader t
header-described fields plain t rows = record {
  fields = omega (arith, rows.fields_in_header);
  columns = omega (arith, rows.columns_in_header);
}

module _ (t : Table) (field : MemberData) (plain : Bool) (entries : ℕ) (new : Table) (a : Added t field plain entries new)
    (has : HasHeader t) where
  header-added : HasHeader new
  header-added = record {
    fields = omega (arith, has.fields, a.header_fields, ap length a.field_rows, length-append t.fields (map field_row (nodes_of a.marks)));
    columns = omega (
      arith,
      has.columns,
      a.header_columns,
      ap length a.columns_by_field,
      length-append t.columns (added_rows plain entries (length t.fields) a.marks),
    );
  }

  text-stays : header_text new ≡ header_text t
  unfolding header_text
  text-stays =
      let fields : take new.header_fields new.fields ≡ take t.header_fields t.fields =
      ap (λ (n : ℕ). take n new.fields) a.header_fields
      ∙ (ap (take t.header_fields) a.field_rows ∙ take-append-le t.header_fields t.fields _ has.fields) in
      let columns : take new.header_columns new.columns ≡ take t.header_columns t.columns =
      ap (λ (n : ℕ). take n new.columns) a.header_columns
      ∙ (ap (take t.header_columns) a.columns_by_field ∙ take-append-le t.header_columns t.columns _ has.columns) in
      rw (fields, columns) refl

  object-stays : header_object new ≡ header_object t
  unfolding header_object
  object-stays = rw text-stays refl

  place-stays : clusters_place new ≡ clusters_place t
  place-stays = ap (λ (object : List ℕ). begun_len + blob_len (length object)) object-stays

  passed-stays : (limits : Limits) → passed_by_begin limits new ≡ passed_by_begin limits t
  passed-stays limits =
      ap (λ (object : List ℕ). first_passed limits (blob_len (length object) ∷ []) (begun_len + blob_len (length object))) object-stays

-- where the clusters begin
pub place-grown : (plain : Bool) (t : Table) (before : ℕ) (s : Script) (new : Table) → HasHeader t → GrowsByScript plain t before s new
    → clusters_place new ≡ clusters_place t
place-grown plain t before (last_entries es bad) new has grows = ap clusters_place grows
place-grown plain t before (and_field es m rest) new has grows =
    let u = grows.0 in
    let n = before + length es in
    place-grown plain u n rest new (header-added t m plain n u grows.1 has) grows.2
    ∙ place-stays t m plain n u grows.1 has

-- the limit that it passes where its file is begun
pub passed-grown : (limits : Limits) (plain : Bool) (t : Table) (before : ℕ) (s : Script) (new : Table) → HasHeader t
    → GrowsByScript plain t before s new → passed_by_begin limits new ≡ passed_by_begin limits t
passed-grown limits plain t before (last_entries es bad) new has grows = ap (passed_by_begin limits) grows
passed-grown limits plain t before (and_field es m rest) new has grows =
    let u = grows.0 in
    let n = before + length es in
    passed-grown limits plain u n rest new (header-added t m plain n u grows.1 has) grows.2
    ∙ passed-stays t m plain n u grows.1 has limits
