-- A cluster that is a copy of another holds the same entries, and a reader takes it.
use Rattle.std.proofs.Common.{◌≡◌, ℕ, zero, suc, ◌+◌, ◌<◌, true, List, [], ◌∷◌, map, length, sym, ap, subst, ◌∙◌, arith}
use Rattle.std.specs.Prelude.{slice_index_or}
use Rattle.std.specs.List.{AllByRecursion, range_with_len}
use Rattle.std.proofs.lemmas.List.{length-map}
use Rattle.nt_types.specs.TreeData.{TreesData}
use Rattle.nt_encode.specs.Elements.{Element}
use Rattle.nt_grammar.specs.declared.rows.ColumnRow.{ColumnRow}
use Rattle.nt_grammar.specs.Table.{Table}
use Rattle.nt_plans.specs.Plan.{PlansData}
use Rattle.nt_plans.specs.Place.{open_plans}
use Rattle.nt_plans.specs.Needs as needs
use Rattle.nt_plans.specs.Needs.{need_in_any, need_of, is_entries}
use Rattle.nt_trees.specs.Sound.{AllSound}
use Rattle.nt_trees.specs.TreeAt.{each_at}
use Rattle.nt_machine.specs.History.{Cluster}
use Rattle.nt_book.specs.declared.meta.PageMeta.{PageMeta}
use Rattle.nt_book.specs.declared.meta.ClusterMeta.{ClusterMeta}
use Rattle.nt_book.specs.Pages.{element_count}
use Rattle.nt_pagelists.specs.declared.column.KnownColumn.{KnownColumn}
use Rattle.nt_pagelists.specs.declared.cluster.ClusterList.{ClusterList}
use Rattle.nt_pagelists.specs.Columns.{unknown_column}
use Rattle.nt_pagelists.specs.Books.{payload_place, page_item}
use Rattle.nt_pagelists.specs.SoundBooks.{IsSoundList}
use Rattle.nt_file_meaning.specs.Outlines.{known_column, known_columns}
use Rattle.nt_file_meaning.specs.Clusters.{pages_listed, columns_by_id, entries_of_columns}
use Rattle.nt_file_meaning.specs.Holds.{HoldsCluster}
use Rattle.nt_finished.specs.Listed.{IsListOf}
use Rattle.nt_finished.proofs.Needs.{any-entries, known-at}
use Rattle.nt_finished.proofs.Standing.{StandsThere, object_stands, length-blob}
use Rattle.nt_copied.specs.Stored.{stored_payload, stored_metas}
use Rattle.nt_copied.specs.Copies.{Source, stored_columns, NoneDeferred, IsCopyOf}
use Rattle.nt_copied.proofs.CopiedColumns.{columns_read, IsCounted, counted_at, length-metas}

no_row : ColumnRow
no_row = record { code = 0; bits = 0; field = 0; flags = 0; representation = 0; first = 0 }

first-none : (rows : List ColumnRow) (j : ℕ) → NoneDeferred rows → j < length rows → (slice_index_or rows j no_row).first ≡ 0
first-none [] j all less = absurd (omega (arith, less))
first-none (r ∷ rows) zero all less = all.0
first-none (r ∷ rows) (suc j) all less = first-none rows j all.1 (omega (arith, less))

module _ (t : Table) (s : Source) (entries : List TreesData) (c : Cluster ClusterMeta) (range : List ℕ)
    (is : IsCopyOf t s entries c range) (begin : NoneDeferred t.columns) where
  pub need-same : (j : ℕ) → need_of t j ≡ need_of s.table j
  need-same j = ap (λ (ps : PlansData). need_in_any needs.entries ps j) is.alike.plans

  pub pages-kept : c.meta.pages ≡ stored_metas 0 (stored_columns s)
  pages-kept = ap (λ (m : ClusterMeta). m.pages) is.meta_is

  pub entries-kept : c.meta.entries ≡ s.list.entries
  entries-kept = ap (λ (m : ClusterMeta). m.entries) is.meta_is

  pub pages-long : length c.meta.pages ≡ length s.table.columns
  pages-long = ap length pages-kept ∙ length-metas s.file s.list s.table 0 0 s.table.columns

  columns-long : length t.columns ≡ length s.table.columns
  columns-long =
      sym (length-map t.columns (λ (r : ColumnRow). r.code))
      ∙ (ap length is.alike.codes ∙ length-map s.table.columns (λ (r : ColumnRow). r.code))

  -- the range is as long as what is kept of it says
  pub copy-long : length range ≡ c.meta.len
  copy-long =
      ap length is.bytes_are ∙ (length-blob c.start (stored_payload (stored_columns s))
      ∙ sym (ap (λ (m : ClusterMeta). m.len) is.meta_is))

  -- a principal column has an element for each entry
  pub each-long : (j : ℕ) → is_entries (need_of s.table j) ≡ true → length (columns_by_id is.holds.columns j) ≡ s.list.entries
  each-long j p = any-entries (open_plans s.table) (columns_by_id is.holds.columns) s.list.entries j is.holds.sound p

  -- the copy holds the entries of its source
  pub copy_held : (to : List ℕ) (first : ℕ) (l : ClusterList) → IsListOf first c l → StandsThere to c.start range
      → HoldsCluster to t l entries
  copy_held to first l listed there =
      let held = is.holds in
      let number : l.entries ≡ s.list.entries = listed.entries ∙ entries-kept in
      let object : StandsThere to (payload_place c) (stored_payload (stored_columns s)) =
      object_stands to (stored_payload (stored_columns s)) c.start (subst (λ (b : List ℕ). StandsThere to c.start b) is.bytes_are there) in
      let place : payload_place c ≡ payload_place c + 0 = omega arith in
      let cols : List (List Element) = held.columns in
      record {
        columns = held.columns;
        holds = columns_read s.file to s.list l s.table t need-same (payload_place c) 0 0 s.table.columns t.columns held.columns held.holds
            is.alike.codes is.none_deferred begin
            (λ j less.
            let same : 0 + j ≡ j = omega arith in
            ap (λ (k : ℕ). pages_listed l k) same
            ∙ (listed.pages j (omega (arith, less, pages-long))
            ∙ ap (λ (ps : List (List PageMeta)). map (page_item (payload_place c)) (slice_index_or ps j [])) pages-kept))
            (λ j p.
            let same : 0 + j ≡ j = omega arith in
            each-long j (ap (λ (k : ℕ). is_entries (need_of s.table k)) (sym same) ∙ p) ∙ sym number)
            (subst (λ (n : ℕ). StandsThere to n (stored_payload (stored_columns s))) place object);
        sound = subst (λ (n : ℕ). AllSound (open_plans t) (columns_by_id held.columns) n) (sym number)
            (subst (λ (ps : PlansData). AllSound ps (columns_by_id held.columns) s.list.entries) (sym is.alike.plans) held.sound);
        give = held.give
            ∙ (ap (λ (ps : PlansData). map (λ i. each_at ps (columns_by_id held.columns) i) (range_with_len 0 s.list.entries))
            (sym is.alike.plans)
            ∙ ap (λ (n : ℕ). entries_of_columns t held.columns n) (sym number));
      }

  -- a reader takes it, whatever entry it begins with
  pub copy_sound : (first j : ℕ) → j < length t.columns
      → IsSoundList c.meta.entries first (slice_index_or (known_columns t) j unknown_column) (slice_index_or c.meta.pages j [])
  copy_sound first j less =
      let counted : IsCounted (slice_index_or (stored_metas 0 (stored_columns s)) j []) (columns_by_id is.holds.columns j) =
      counted_at s.file s.list s.table 0 0 s.table.columns is.holds.columns is.holds.holds is.none_deferred j
      (omega (arith, less, columns-long)) in
      let pages : slice_index_or c.meta.pages j [] ≡ slice_index_or (stored_metas 0 (stored_columns s)) j [] =
      ap (λ (l : List (List PageMeta)). slice_index_or l j []) pages-kept in
      let same : 0 + j ≡ j = omega arith in
      let known : slice_index_or (known_columns t) j unknown_column ≡ known_column (need_of t j) (slice_index_or t.columns j no_row) =
      known-at t 0 t.columns j no_row less ∙ ap (λ (i : ℕ). known_column (need_of t i) (slice_index_or t.columns j no_row)) same in
      let begins : (slice_index_or (known_columns t) j unknown_column).first ≡ (slice_index_or t.columns j no_row).first =
      ap (λ (x : KnownColumn). x.first) known in
      record {
        filled = subst (λ (l : List PageMeta). AllByRecursion (λ (p : PageMeta). 0 < p.count) l) (sym pages) counted.filled;
        begun = λ p. omega (arith, begins, first-none t.columns j begin less);
        each = λ p.
            let principal : is_entries (need_of t j) ≡ true = sym (ap (λ (x : KnownColumn). x.is_principal) known) ∙ p in
            let long : length (columns_by_id is.holds.columns j) ≡ s.list.entries =
            each-long j (sym (ap is_entries (need-same j)) ∙ principal) in
            ap element_count pages ∙ (counted.counted ∙ (long ∙ sym entries-kept));
      }
