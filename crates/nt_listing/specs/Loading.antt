-- The columns of a cluster as they were loaded (RNTuple Binary Format Specification 1.0.0.0, sections Column Description and Page List
-- Envelope).
use Rattle.std.specs.Prelude.{ℕ, ◌≡◌, List, slice_get, Option, Some, None, Ok}
use Rattle.nt_types.specs.declared.column_type.ColumnType.{ColumnType}
use Rattle.nt_grammar.specs.declared.rows.ColumnRow.{ColumnRow}
use Rattle.nt_grammar.specs.Table.{Table}
use Rattle.nt_view.specs.Loaded.{Loaded, loaded_kind}
use Rattle.nt_view.specs.Loads.{load_of}
use Rattle.nt_pagelists.specs.declared.cluster.ClusterList.{ClusterList}
use Rattle.nt_file_meaning.specs.Clusters.{kind_of_code}
use Rattle.nt_listing.specs.Listings.{columns_listed}

-- a loaded column with pages is of the type of its row
abbrev pub AreOfRowTypes : List ColumnRow → Loaded → Type 0
AreOfRowTypes rows l =
    (k : ℕ) (row : ColumnRow) (kind : ColumnType) → slice_get rows k ≡ Some row → loaded_kind l k ≡ Some kind → kind_of_code row.code
    ≡ Some kind

-- the pages of a cluster are all those of its open columns, by column, and none has a wrong size; with those of a file that tells its bytes
pub record IsLoadedFrom (file : Option (List ℕ)) (number : ℕ) (k : ClusterList) (t : Table) (l : Loaded) : Type 0 where
  pub pages : l.pages ≡ (columns_listed number k t 0 t.columns).pages
  pub zeros : l.zeros ≡ (columns_listed number k t 0 t.columns).zeros
  pub whole : (columns_listed number k t 0 t.columns).wrong ≡ None
  pub bytes : (told : List ℕ) → file ≡ Some told → load_of told l.pages l.zeros ≡ Ok l
