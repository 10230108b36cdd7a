-- The pages that a copy lists are, byte for byte, the stored pages of its source.
use Rattle.std.proofs.Common.{◌≡◌, ℕ, suc, ◌+◌, ◌<◌, eqb, Bool, true, false, cond, leb, List, [], ◌∷◌, map, length}
use Rattle.std.proofs.Common.{Option, Some, None, refl, sym, ap, subst, ◌∙◌, arith}
use Rattle.std.specs.Prelude.{slice_index_or}
use Rattle.std.specs.List.{AllByRecursion}
use Rattle.std.proofs.lemmas.Bool.{ne_eqb}
use Rattle.std.proofs.lemmas.List.Sums.{sum_by-cons}
use Rattle.nt_types.specs.TreeData.{TreesData}
use Rattle.nt_types.specs.declared.column_type.ColumnType.{ColumnType}
use Rattle.nt_lists.proofs.Bools.{and_true}
use Rattle.nt_format.proofs.Pieces.{piece_window}
use Rattle.nt_xxh3.specs.Sum.{xxh3}
use Rattle.std.specs.Int.{w64, to_le_bytes}
use Rattle.nt_encode.specs.Elements.{Element}
use Rattle.nt_grammar.specs.declared.rows.ColumnRow.{ColumnRow}
use Rattle.nt_grammar.specs.Table.{Table}
use Rattle.nt_plans.specs.Needs.{need_of, is_entries}
use Rattle.nt_machine.specs.History.{Cluster}
use Rattle.nt_book.specs.declared.meta.PageMeta.{PageMeta}
use Rattle.nt_book.specs.declared.meta.ClusterMeta.{ClusterMeta}
use Rattle.nt_book.specs.Pages.{element_count}
use Rattle.nt_pagelists.specs.declared.column.KnownColumn.{KnownColumn}
use Rattle.nt_pagelists.specs.declared.page.PageItem.{PageItem}
use Rattle.nt_pagelists.specs.declared.cluster.ClusterList.{ClusterList}
use Rattle.nt_pagelists.specs.Books.{payload_place, page_item}
use Rattle.nt_file_meaning.specs.Outlines.{known_column}
use Rattle.nt_file_meaning.specs.Clusters.{kind_of_code, pages_listed, begins_behind, columns_by_id}
use Rattle.nt_file_meaning.specs.Holds.{HoldsColumns, no_column, and_column}
use Rattle.nt_finished.specs.Listed.{IsListOf}
use Rattle.nt_finished.proofs.Standing.{StandsThere, front_stands, back_stands, object_stands}
use Rattle.nt_copied.specs.Stored.{StoredPage, with_sum, stored_column, stored_payload, stored_page_metas, stored_metas}
use Rattle.nt_copied.specs.Copies.{read_pages, filled_pages, page_there, column_there, columns_there, NoneDeferred, Source}
use Rattle.nt_copied.specs.Copies.{stored_columns, IsCopyOf}
use Rattle.nt_copied.proofs.CopiedColumns.{read-behind, read-closed, read-open, behind-none, counted_at, IsCounted, head-is, known-is}
use Rattle.nt_copied.proofs.CopiedClusters.{need-same, pages-kept, entries-kept, pages-long, each-long}

some-count : (n : ℕ) → 0 < n → eqb n 0 ≡ false
some-count n h = ne_eqb n 0 (λ z. omega (arith, h, z))

-- ---- pages that stand where their items say

module _ (to : List ℕ) (base : ℕ) where
  page-again : (place : ℕ) (p : StoredPage) → StandsThere to (base + place) (with_sum p)
      → page_there to (page_item base (record { count = p.count; place = place; size = length p.bytes })) ≡ p
  page-again place p there =
      let own : StandsThere to (base + place) p.bytes =
      front_stands to p.bytes (to_le_bytes w64 (xxh3 p.bytes)) (base + place) there in
      ap (λ (b : List ℕ). record { count = p.count; bytes = b }) (piece_window to p.bytes (base + place) (length p.bytes) own)

  pages-again : (ps : List StoredPage) (place : ℕ) → AllByRecursion (λ (m : PageMeta). 0 < m.count) (stored_page_metas place ps)
      → StandsThere to (base + place) (stored_column ps)
      → map (page_there to) (filled_pages (map (page_item base) (stored_page_metas place ps))) ≡ ps
  pages-again [] place filled there = refl
  pages-again (p ∷ ps) place filled there =
      let own : List ℕ = with_sum p in
      let rest : List ℕ = stored_column ps in
      let item : PageItem = page_item base (record { count = p.count; place = place; size = length p.bytes }) in
      let tail : List PageItem = map (page_item base) (stored_page_metas (place + length own) ps) in
      let first : page_there to item ≡ p = page-again place p (front_stands to own rest (base + place) there) in
      let others : map (page_there to) (filled_pages tail) ≡ ps =
      pages-again ps (place + length own) filled.1
      (back_stands to own rest (base + place) (base + (place + length own)) (omega arith) there) in
      ap (λ (b : Bool). map (page_there to) (cond b (filled_pages tail) (item ∷ filled_pages tail))) (some-count p.count filled.0)
      ∙ (ap (λ (x : StoredPage). x ∷ map (page_there to) (filled_pages tail)) first ∙ ap (λ (l : List StoredPage). p ∷ l) others)

-- pages without any element are none
none-stored : (ps : List StoredPage) (place : ℕ) → AllByRecursion (λ (m : PageMeta). 0 < m.count) (stored_page_metas place ps)
    → element_count (stored_page_metas place ps) ≡ 0 → ps ≡ []
none-stored [] place filled none = refl
none-stored (p ∷ ps) place filled none =
    let m : PageMeta = record { count = p.count; place = place; size = length p.bytes } in
    absurd (omega (
      arith,
      filled.0,
      none,
      sum_by-cons (λ (q : PageMeta). q.count) m (stored_page_metas (place + length (with_sum p)) ps),
    ))

-- ---- a column

module _ (from to : List ℕ) (k l : ClusterList) (base place id : ℕ) (c : KnownColumn) (code : ℕ) (es : List Element) where
  abbrev stored : List StoredPage
  stored = column_there from k id c code

  column-again : c.first ≡ 0 → (c.is_principal ≡ true → length es ≡ l.entries) → IsCounted (stored_page_metas place stored) es
      → pages_listed l id ≡ map (page_item base) (stored_page_metas place stored)
      → StandsThere to (base + place) (stored_column stored) → column_there to l id c code ≡ stored
  column-again first long counted listed there = by (kind_of_code code) c.is_open (begins_behind l c) refl refl refl
    where
      none : begins_behind l c ≡ true → stored ≡ []
      none b =
          let both = and_true c.is_principal (leb (l.first + l.entries) c.first) b in
          none-stored stored place counted.filled (counted.counted ∙ (long both.0 ∙ behind-none l c first b))

      by : (o : Option ColumnType) (x b : Bool) → kind_of_code code ≡ o → c.is_open ≡ x → begins_behind l c ≡ b
          → map (page_there to) (read_pages l id c o) ≡ stored
      by None x b n shown e = sym (ap (λ (t : Option ColumnType). map (page_there from) (read_pages k id c t)) n)
      by (Some kind) false b n shown e =
          ap (λ (ps : List PageItem). map (page_there to) ps) (read-closed l id c (Some kind) shown)
          ∙ sym (ap (λ (ps : List PageItem). map (page_there from) ps) (read-closed k id c (kind_of_code code) shown))
      by (Some kind) true true n shown e =
          ap (λ (ps : List PageItem). map (page_there to) ps) (read-behind l id c (Some kind) e) ∙ sym (none e)
      by (Some kind) true false n shown e =
          ap (λ (ps : List PageItem). map (page_there to) ps) (read-open l id c kind shown e)
          ∙ (ap (λ (ps : List PageItem). map (page_there to) (filled_pages ps)) listed
          ∙ pages-again to base stored place counted.filled there)

-- ---- all columns

module _ (from to : List ℕ) (k l : ClusterList) (s t : Table) (same : (j : ℕ) → need_of t j ≡ need_of s j) (base : ℕ) where
  columns-again : (id place : ℕ) (rows others : List ColumnRow) (cols : List (List Element)) → HoldsColumns from k s id rows cols
      → map (λ (c : ColumnRow). c.code) others ≡ map (λ (c : ColumnRow). c.code) rows → NoneDeferred rows → NoneDeferred others
      → ((j : ℕ) → j < length rows
      → pages_listed l (id + j) ≡ map (page_item base) (slice_index_or (stored_metas place (columns_there from k s id rows)) j []))
      → ((j : ℕ) → is_entries (need_of s (id + j)) ≡ true → length (columns_by_id cols j) ≡ l.entries)
      → StandsThere to (base + place) (stored_payload (columns_there from k s id rows))
      → columns_there to l t id others ≡ columns_there from k s id rows
  columns-again id place [] [] cols no_column codes none begin listed long there = refl
  columns-again id place [] (q ∷ others) cols held codes none begin listed long there = absurd cc
  columns-again id place (r ∷ rows) [] cols held codes none begin listed long there = absurd cc
  columns-again id place (r ∷ rows) (q ∷ others) cols (and_column {es = es} {others = left} first more) codes none begin listed long
      there =
      let here : id + 0 ≡ id = omega arith in
      let c : KnownColumn = known_column (need_of s id) r in
      let own : List StoredPage = column_there from k id (known_column (need_of s id) r) r.code in
      let rest : List (List StoredPage) = columns_there from k s (id + 1) rows in
      let both = head-is q.code r.code _ _ codes in
      let pages : pages_listed l id ≡ map (page_item base) (stored_page_metas place own) =
      ap (λ (j : ℕ). pages_listed l j) (sym here) ∙ listed 0 (omega arith) in
      let counted : IsCounted (stored_page_metas place own) es =
      counted_at from k s id place (r ∷ rows) (es ∷ left) (and_column first more) none 0 (omega arith) in
      let column : column_there to l id c r.code ≡ own =
      column-again from to k l base place id c r.code es none.0
      (λ p. long 0 (ap (λ (j : ℕ). is_entries (need_of s j)) here ∙ p)) counted pages
      (front_stands to (stored_column own) (stored_payload rest) (base + place) there) in
      let others-are : columns_there to l t (id + 1) others ≡ rest =
      columns-again (id + 1) (place + length (stored_column own)) rows others left more both.1 none.1 begin.1
      (λ j less. let next : id + 1 + j ≡ id + suc j = omega arith in
      ap (λ (i : ℕ). pages_listed l i) next ∙ listed (suc j) (omega (arith, less)))
      (λ j p. let next : id + 1 + j ≡ id + suc j = omega arith in long (suc j) (ap (λ (i : ℕ). is_entries (need_of s i)) (sym next) ∙ p))
      (back_stands to (stored_column own) (stored_payload rest) (base + place) (base + (place + length (stored_column own)))
      (omega arith) there) in
      ap (λ (x : KnownColumn). column_there to l id x q.code ∷ columns_there to l t (id + 1) others)
      (known-is (need_of t id) (need_of s id) q r (same id) begin.0 none.0)
      ∙ (ap (λ (n : ℕ). column_there to l id c n ∷ columns_there to l t (id + 1) others) both.0
      ∙ (ap (λ (x : List StoredPage). x ∷ columns_there to l t (id + 1) others) column
      ∙ ap (λ (x : List (List StoredPage)). own ∷ x) others-are))

-- ---- a cluster

module _ (t : Table) (s : Source) (entries : List TreesData) (c : Cluster ClusterMeta) (range : List ℕ)
    (is : IsCopyOf t s entries c range) (begin : NoneDeferred t.columns) where
  -- the listed pages of the copy are the stored pages of its source
  pub copy_stored : (to : List ℕ) (first : ℕ) (l : ClusterList) → IsListOf first c l → StandsThere to c.start range
      → stored_columns (record { file = to; table = t; list = l }) ≡ stored_columns s
  copy_stored to first l listed there =
      let held = is.holds in
      let number : l.entries ≡ s.list.entries = listed.entries ∙ entries-kept t s entries c range is begin in
      let object : StandsThere to (payload_place c) (stored_payload (stored_columns s)) =
      object_stands to (stored_payload (stored_columns s)) c.start (subst (λ (b : List ℕ). StandsThere to c.start b) is.bytes_are there) in
      let place : payload_place c ≡ payload_place c + 0 = omega arith in
      columns-again s.file to s.list l s.table t (need-same t s entries c range is begin) (payload_place c) 0 0 s.table.columns t.columns
      held.columns held.holds is.alike.codes is.none_deferred begin
      (λ j less.
      let same : 0 + j ≡ j = omega arith in
      ap (λ (k : ℕ). pages_listed l k) same
      ∙ (listed.pages j (omega (arith, less, pages-long t s entries c range is begin))
      ∙ ap (λ (ps : List (List PageMeta)). map (page_item (payload_place c)) (slice_index_or ps j []))
      (pages-kept t s entries c range is begin)))
      (λ j p.
      let same : 0 + j ≡ j = omega arith in
      each-long t s entries c range is begin j (ap (λ (k : ℕ). is_entries (need_of s.table k)) (sym same) ∙ p) ∙ sym number)
      (subst (λ (n : ℕ). StandsThere to n (stored_payload (stored_columns s))) place object)
