-- What is kept of a copy is what a book asks.
use Rattle.std.proofs.Common.{◌≡◌, ℕ, zero, suc, ◌+◌, ◌*◌, ◌<◌, ◌≤◌, ◌^◌, eqb, Bool, true, false, cond, List, [], ◌∷◌, ◌++◌, map, length}
use Rattle.std.proofs.Common.{Option, refl, sym, ap, subst, ◌∙◌, arith}
use Rattle.std.specs.List.{AllByRecursion, sum_by}
use Rattle.std.proofs.lemmas.Bool.{eqb-true, false≢true}
use Rattle.std.proofs.lemmas.List.{length-append}
use Rattle.std.proofs.lemmas.List.Sums.{sum_by-cons}
use Rattle.nt_types.specs.TreeData.{TreesData}
use Rattle.nt_types.specs.declared.column_type.ColumnType.{ColumnType}
use Rattle.nt_types.specs.declared.column_type.ColumnType.TheVariants.{Bit, Switch}
use Rattle.nt_format.specs.Pieces.{window}
use Rattle.nt_encode.specs.Pages.{page_size}
use Rattle.nt_encode.specs.Elements.{Element}
use Rattle.nt_grammar.specs.declared.rows.ColumnRow.{ColumnRow}
use Rattle.nt_grammar.specs.Table.{Table}
use Rattle.nt_plans.specs.Place.{open_plans}
use Rattle.nt_plans.specs.Needs.{need_of}
use Rattle.nt_plans.specs.Plan.{PlanData, PlansData, bool, number, text, list, maybe, record_of, choice, no_plans, plan}
use Rattle.nt_plans.specs.Types.{are_some, HasTypes, AllHaveTypes}
use Rattle.nt_trees.specs.Columns.{Cols}
use Rattle.nt_trees.specs.Sound.{Sound, AllSound}
use Rattle.nt_book.specs.declared.meta.PageMeta.{PageMeta}
use Rattle.nt_book.specs.declared.meta.ClusterMeta.{ClusterMeta}
use Rattle.nt_book.specs.Pages.{stored_size, IsPageOf, IsPaged}
use Rattle.nt_pagelists.specs.declared.column.KnownColumn.{KnownColumn}
use Rattle.nt_pagelists.specs.declared.page.PageItem.{PageItem}
use Rattle.nt_pagelists.specs.declared.cluster.ClusterList.{ClusterList}
use Rattle.nt_file_meaning.specs.Outlines.{known_column}
use Rattle.nt_file_meaning.specs.Clusters.{kind_of_code, pages_listed, zero_elements, columns_by_id}
use Rattle.nt_file_meaning.specs.Holds.{HoldsPages, no_page, and_page, HoldsColumn, closed, not_begun, untyped, in_pages, HoldsColumns}
use Rattle.nt_file_meaning.specs.Holds.{no_column, and_column, HoldsCluster}
use Rattle.nt_copied.specs.Stored.{StoredPage, with_sum, stored_column, stored_payload, stored_page_metas, stored_metas, stored_meta}
use Rattle.nt_copied.specs.Stored.{AreSoundPages, AreSoundColumns}
use Rattle.nt_copied.specs.Copies.{Source, stored_columns, filled_pages, read_pages, page_there, column_there, columns_there}
use Rattle.nt_copied.specs.Copies.{NoneDeferred, HasFewElements}
use Rattle.nt_copied.proofs.CopiedPages.{length-with_sum, bytes-are, long-page}
use Rattle.nt_copied.proofs.CopiedColumns.{read-closed, read-behind, read-open, behind-none}

-- ---- pages with a bit for each element

pages-within : (meta : ClusterMeta) (ps : List StoredPage) (place : ℕ) → AreSoundPages ps → place + length (stored_column ps) ≤ meta.len
    → AllByRecursion (λ (p : PageMeta). IsPageOf meta p) (stored_page_metas place ps)
pages-within meta [] place sound within = tt
pages-within meta (p ∷ ps) place sound within =
    let size = length-with_sum p in
    let parts = length-append (with_sum p) (stored_column ps) in (
      record { count = sound.0.count; bits = sound.0.bits; place = omega (arith, within, size, parts) },
      pages-within meta ps (place + length (with_sum p)) sound.1 (omega (arith, within, parts)),
    )

columns-within : (meta : ClusterMeta) (cs : List (List StoredPage)) (place : ℕ) → AreSoundColumns cs
    → place + length (stored_payload cs) ≤ meta.len
    → AllByRecursion (λ (ps : List PageMeta). AllByRecursion (λ (p : PageMeta). IsPageOf meta p) ps) (stored_metas place cs)
columns-within meta [] place sound within = tt
columns-within meta (c ∷ cs) place sound within =
    let parts = length-append (stored_column c) (stored_payload cs) in (
      pages-within meta c place sound.0 (omega (arith, within, parts)),
      columns-within meta cs (place + length (stored_column c)) sound.1 (omega (arith, within, parts)),
    )

pub pages-size : (ps : List StoredPage) (place : ℕ) → stored_size (stored_page_metas place ps) ≡ length (stored_column ps)
pages-size [] place = refl
pages-size (p ∷ ps) place =
    omega (
      arith,
      sum_by-cons (λ (m : PageMeta). m.size + 8) (record { count = p.count; place = place; size = length p.bytes })
          (stored_page_metas (place + length (with_sum p)) ps),
      pages-size ps (place + length (with_sum p)),
      length-with_sum p,
      length-append (with_sum p) (stored_column ps),
    )

columns-size : (cs : List (List StoredPage)) (place : ℕ) → sum_by stored_size (stored_metas place cs) ≡ length (stored_payload cs)
columns-size [] place = refl
columns-size (c ∷ cs) place =
    omega (
      arith,
      sum_by-cons stored_size (stored_page_metas place c) (stored_metas (place + length (stored_column c)) cs),
      pages-size c place,
      columns-size cs (place + length (stored_column c)),
      length-append (stored_column c) (stored_payload cs),
    )

pub stored-paged : (context entries : ℕ) (cs : List (List StoredPage)) → AreSoundColumns cs → entries ≤ 8 * length (stored_payload cs)
    → IsPaged (stored_meta context entries cs)
stored-paged context entries cs sound bits = record {
  each = columns-within (stored_meta context entries cs) cs 0 sound (omega arith);
  sizes = omega (arith, columns-size cs 0);
  entries = omega (arith, bits);
}

-- ---- those of a source

bits-some : (kind : ColumnType) (n : ℕ) → n ≤ 8 * page_size kind n
bits-some Bit n = omega arith
bits-some Switch n = omega arith
bits-some kind n = omega arith

-- the pages that are copied are such, and have a bit for each element of the column
record IsSoundColumn (ps : List StoredPage) (es : List Element) : Type 0 where
  pages : AreSoundPages ps
  bits : length es ≤ 8 * length (stored_column ps)

none-sound : (ps : List StoredPage) (es : List Element) → ps ≡ [] → length es ≡ 0 → IsSoundColumn ps es
none-sound ps es none empty =
    subst (λ (x : List StoredPage). IsSoundColumn x es) (sym none) (record { pages = tt; bits = omega (arith, empty) })

module _ (from : List ℕ) where
  pages-sound : (kind : ColumnType) (ps : List PageItem) (es : List Element) → HoldsPages from kind ps es
      → AllByRecursion (λ (p : PageItem). p.count < 2 ^ 31) ps → IsSoundColumn (map (page_there from) (filled_pages ps)) es
  pages-sound kind [] es no_page few = record { pages = tt; bits = omega arith }
  pages-sound kind (p ∷ ps) es (and_page {es = one} {others = others} first more) few =
      by (pages-sound kind ps others more few.1) (long-page from [] kind p one first)
      ((bytes-are from [] kind p one first).1 ∙ first.size) (eqb p.count 0) refl
    where
      by : IsSoundColumn (map (page_there from) (filled_pages ps)) others → length one ≡ p.count
          → length (window p.size from p.place) ≡ page_size kind p.count → (b : Bool) → eqb p.count 0 ≡ b
          → IsSoundColumn (map (page_there from) (cond b (filled_pages ps) (p ∷ filled_pages ps))) (one ++ others)
      by rest long size true none = record {
        pages = rest.pages;
        bits = omega (arith, rest.bits, long, eqb-true p.count 0 none, length-append one others);
      }
      by rest long size false some = record {
        pages = (record { count = few.0; bits = omega (arith, size, bits-some kind p.count) }, rest.pages);
        bits = omega (
          arith,
          rest.bits,
          long,
          size,
          bits-some kind p.count,
          length-append one others,
          length-with_sum (page_there from p),
          length-append (with_sum (page_there from p)) (stored_column (map (page_there from) (filled_pages ps))),
        );
      }

  column-sound : (k : ClusterList) (id : ℕ) (c : KnownColumn) (code : ℕ) (es : List Element) → c.first ≡ 0 → HoldsColumn from k id c code es
      → AllByRecursion (λ (p : PageItem). p.count < 2 ^ 31) (pages_listed k id) → IsSoundColumn (column_there from k id c code) es
  column-sound k id c code es first (closed o) few =
      none-sound (column_there from k id c code) []
      (ap (λ (ps : List PageItem). map (page_there from) ps) (read-closed k id c (kind_of_code code) o)) refl
  column-sound k id c code es first (not_begun o b zeros) few =
      none-sound (column_there from k id c code) es
      (ap (λ (ps : List PageItem). map (page_there from) ps) (read-behind k id c (kind_of_code code) b))
      (ap length zeros ∙ ap (λ (n : ℕ). length (zero_elements n)) (behind-none k c first b))
  column-sound k id c code es first (untyped o b n) few =
      none-sound (column_there from k id c code) [] (ap (λ (t : Option ColumnType). map (page_there from) (read_pages k id c t)) n) refl
  column-sound k id c code es first (in_pages {kind = kind} o b n h) few =
      subst (λ (x : List StoredPage). IsSoundColumn x es)
      (sym (ap (λ (t : Option ColumnType). map (page_there from) (read_pages k id c t)) n
      ∙ ap (λ (ps : List PageItem). map (page_there from) ps) (read-open k id c kind o b)))
      (pages-sound kind (pages_listed k id) es h few)

  module _ (k : ClusterList) (s : Table) (few : HasFewElements k) where
    columns-sound : (id : ℕ) (rows : List ColumnRow) (cols : List (List Element)) → HoldsColumns from k s id rows cols → NoneDeferred rows
        → AreSoundColumns (columns_there from k s id rows)
        × ((j : ℕ) → length (columns_by_id cols j) ≤ 8 * length (stored_payload (columns_there from k s id rows)))
    columns-sound id [] cols no_column none = (tt, λ j. omega arith)
    columns-sound id (r ∷ rows) cols (and_column {es = es} {others = left} first more) none =
        let own = column-sound k id (known_column (need_of s id) r) r.code es none.0 first (few id) in
        let rest = columns-sound (id + 1) rows left more none.1 in
        let parts = length-append (stored_column (column_there from k id (known_column (need_of s id) r) r.code))
        (stored_payload (columns_there from k s (id + 1) rows)) in (
          (own.pages, rest.0),
          λ j. either j own.bits (rest.1) parts,
        )
      where
        either : (j : ℕ) → length es ≤ 8 * length (stored_column (column_there from k id (known_column (need_of s id) r) r.code))
            → ((i : ℕ) → length (columns_by_id left i) ≤ 8 * length (stored_payload (columns_there from k s (id + 1) rows)))
            → length (stored_payload (columns_there from k s id (r ∷ rows)))
            ≡ length (stored_column (column_there from k id (known_column (need_of s id) r) r.code))
            + length (stored_payload (columns_there from k s (id + 1) rows))
            → length (columns_by_id (es ∷ left) j) ≤ 8 * length (stored_payload (columns_there from k s id (r ∷ rows)))
        either zero bits more parts = omega (arith, bits, parts)
        either (suc i) bits more parts = omega (arith, more i, parts)

-- ---- an open field has a column with an element for each entry

abbrev HasColumn : Cols → ℕ → Type 0
HasColumn cols n = (k : ℕ) × (length (cols k) ≡ n)

mutual
  principal_of : (rows : List ColumnRow) (p : PlanData) (cols : Cols) (n : ℕ) → HasTypes rows p → Sound p cols n → HasColumn cols n
  principal_of rows (bool k) cols n types s = (k, s)
  principal_of rows (number k bits signed) cols n types s = (k, s)
  principal_of rows (text e c) cols n types s = (e, s.0)
  principal_of rows (list e p) cols n types s = (e, s.0)
  principal_of rows (maybe e p) cols n types s = (e, s.0)
  principal_of rows (record_of ps) cols n types s = principal_of_first rows ps cols n types.0 types.1 s
  principal_of rows (choice k ps) cols n types s = (k, s.0)

  principal_of_first : (rows : List ColumnRow) (ps : PlansData) (cols : Cols) (n : ℕ) → are_some ps ≡ true → AllHaveTypes rows ps
      → AllSound ps cols n → HasColumn cols n
  principal_of_first rows no_plans cols n some types s = absurd (false≢true some)
  principal_of_first rows (plan p ps) cols n some types s = principal_of rows p cols n types.0 s.0

-- the copy of a cluster is what a book asks, where some field is open
pub copy-paged : (s : Source) (entries : List TreesData) → HoldsCluster s.file s.table s.list entries → NoneDeferred s.table.columns
    → HasFewElements s.list → AllHaveTypes s.table.columns (open_plans s.table) → are_some (open_plans s.table) ≡ true → (context : ℕ)
    → IsPaged (stored_meta context s.list.entries (stored_columns s))
copy-paged s entries holds none few types some context =
    let both = columns-sound s.file s.list s.table few 0 s.table.columns holds.columns holds.holds none in
    let column = principal_of_first s.table.columns (open_plans s.table) (columns_by_id holds.columns) s.list.entries some types
    holds.sound in
    stored-paged context s.list.entries (stored_columns s) both.0 (omega (arith, column.1, both.1 column.0))
