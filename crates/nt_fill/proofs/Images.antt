-- The image of the cluster of all gathered entries.
use Rattle.std.proofs.Common.{◌≡◌, ◌∙◌, ap, sym, refl, subst, ℕ, ◌-◌, ◌*◌, ◌≤◌, true, List, ◌++◌, length, drop, replicate, arith}
use Rattle.std.proofs.lemmas.Bool.{false≢true}
use Rattle.std.proofs.lemmas.List.{length-append, length-map}
use Rattle.nt_types.specs.TreeData.{TreesData}
use Rattle.nt_types.specs.ColumnTable.{code_of}
use Rattle.nt_grammar.specs.declared.rows.ColumnRow.{ColumnRow}
use Rattle.nt_grammar.specs.Table.{Table}
use Rattle.nt_container.specs.Spelling.{blob_key}
use Rattle.nt_book.specs.declared.meta.ClusterMeta.{ClusterMeta}
use Rattle.nt_book.specs.Ranges.{IsFromTo, max_page}
use Rattle.nt_column.specs.Column.{Column, elements_at}
use Rattle.nt_pages.specs.declared.image.ClusterImage.{ClusterImage}
use Rattle.nt_pages.specs.Image.{image, payload, key_room}
use Rattle.nt_pages.specs.Metas.{cluster_meta}
use Rattle.nt_pages.proofs.Paged.{cluster-paged, length-column_metas, image-bits}
use Rattle.nt_plans.specs.Plan.{PlanData, PlansData, bool, number, text, list, maybe, record_of, choice, no_plans, plan}
use Rattle.nt_plans.specs.Place.{open_plans}
use Rattle.nt_plans.specs.Types.{HasTypes, AllHaveTypes, are_some}
use Rattle.nt_trees.specs.Columns.{Cols}
use Rattle.nt_trees.specs.Described.{AreDescribed}
use Rattle.nt_trees.specs.Sound.{Sound, AllSound}
use Rattle.nt_commit.specs.Images.{IsImageFor}
use Rattle.nt_layout.specs.Laid.{Gives, IsBlobOfEntries}

-- a column that has so many elements
abbrev HasColumn : Cols → ℕ → Type 0
HasColumn cols n = (k : ℕ) × (length (cols k) ≡ n)

-- a principal column has an element an entry
mutual
  principal_of : (rows : List ColumnRow) (p : PlanData) (cols : Cols) (n : ℕ) → HasTypes rows p → Sound p cols n → HasColumn cols n
  principal_of rows (bool k) cols n types s = (k, s)
  principal_of rows (number k bits signed) cols n types s = (k, s)
  principal_of rows (text e c) cols n types s = (e, s.0)
  principal_of rows (list e p) cols n types s = (e, s.0)
  principal_of rows (maybe e p) cols n types s = (e, s.0)
  principal_of rows (record_of ps) cols n types s = principal_of_first rows ps cols n types.0 types.1 s
  principal_of rows (choice k ps) cols n types s = (k, s.0)

  principal_of_first : (rows : List ColumnRow) (ps : PlansData) (cols : Cols) (n : ℕ) → are_some ps ≡ true → AllHaveTypes rows ps
      → AllSound ps cols n → HasColumn cols n
  principal_of_first rows no_plans cols n some types s = absurd (false≢true some)
  principal_of_first rows (plan p ps) cols n some types s = principal_of rows p cols n types.0 s.0

count_described : (columns : List Column) (rows : List ColumnRow) → AreDescribed columns rows → length columns ≡ length rows
count_described columns rows described = sym (length-map columns (λ (c : Column). code_of c.kind))
    ∙ (ap length described ∙ length-map rows (λ (r : ColumnRow). r.code))

module _ (t : Table) (columns : List Column) (entries : List TreesData) (gives : Gives t columns entries) (page context : ℕ) where
  pub image_for : (count : ℕ) → AllHaveTypes t.columns (open_plans t) → are_some (open_plans t) ≡ true → length t.columns ≡ count
      → IsFromTo 1 max_page page → (i : ClusterImage) → i.bytes ≡ image page columns
      → i.meta ≡ cluster_meta page context (length entries) columns → IsImageFor count context i
  image_for count types some counted pages i bytes meta =
      let column = principal_of_first t.columns (open_plans t) (elements_at columns) (length entries) some types gives.sound in
      let bits : length entries ≤ 8 * length (image page columns) =
      omega (arith, image-bits page column.0 columns (omega (arith, pages.0)), column.1) in
      let lists = length-column_metas page 0 columns ∙ (count_described columns t.columns gives.set.described ∙ counted) in
      let meant : IsImageFor count context (record {
        bytes = image page columns;
        meta = cluster_meta page context (length entries) columns;
      }) =
      record {
        context_is = refl;
        whole = refl;
        room = omega (arith, length-append (replicate 42 0) (payload page columns));
        lists = lists;
        paged = cluster-paged page context (length entries) columns pages.1 bits;
      } in
      subst (λ (j : ClusterImage). IsImageFor count context j) (λ n. record { bytes = sym bytes n; meta = sym meta n }) meant

  -- with its key it is their blob
  pub blob_of : (place : ℕ) (i : ClusterImage) (meta : ClusterMeta) → i.bytes ≡ image page columns
      → i.meta ≡ cluster_meta page context (length entries) columns → meta ≡ i.meta
      → IsBlobOfEntries t page entries place (blob_key (length i.bytes - key_room) place ++ drop key_room i.bytes) meta
  blob_of place i meta bytes is same = record {
    columns = columns;
    gives = gives;
    bytes_are = ap (λ (l : List ℕ). blob_key (length l - key_room) place ++ drop key_room l) bytes
        ∙ ap (λ (n : ℕ). blob_key n place ++ payload page columns) (omega (arith, length-append (replicate 42 0) (payload page columns)));
    meta_is = (same ∙ is) ∙ ap (λ (c : ℕ). cluster_meta page c (length entries) columns)
        (sym (ap (λ (m : ClusterMeta). m.context) (same ∙ is)));
  }
