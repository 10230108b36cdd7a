-- The columns of a cluster are read in a copy as in its source.
use Rattle.std.proofs.Common.{◌≡◌, ℕ, zero, suc, ◌+◌, ◌<◌, Bool, true, false, cond, not, ◌&&◌, leb, List, [], ◌∷◌, map, length}
use Rattle.std.proofs.Common.{Option, Some, None, refl, sym, ap, subst, ◌∙◌, arith}
use Rattle.std.specs.Prelude.{slice_index_or}
use Rattle.std.specs.List.{AllByRecursion}
use Rattle.std.proofs.lemmas.Bool.{leb-true}
use Rattle.std.proofs.lemmas.Option.{none-some}
use Rattle.std.proofs.lemmas.List.{nil_from_length}
use Rattle.nt_types.specs.declared.column_type.ColumnType.{ColumnType}
use Rattle.nt_lists.proofs.Bools.{and_true}
use Rattle.nt_lists.proofs.Variants.{some_is}
use Rattle.nt_encode.specs.Elements.{Element}
use Rattle.nt_grammar.specs.declared.rows.ColumnRow.{ColumnRow}
use Rattle.nt_grammar.specs.Table.{Table}
use Rattle.nt_plans.specs.Needs.{NeedData, need_of, is_entries}
use Rattle.nt_book.specs.declared.meta.PageMeta.{PageMeta}
use Rattle.nt_book.specs.Pages.{element_count}
use Rattle.nt_pagelists.specs.declared.column.KnownColumn.{KnownColumn}
use Rattle.nt_pagelists.specs.declared.page.PageItem.{PageItem}
use Rattle.nt_pagelists.specs.declared.cluster.ClusterList.{ClusterList}
use Rattle.nt_pagelists.specs.Books.{page_item}
use Rattle.nt_file_meaning.specs.Outlines.{is_needed, known_column}
use Rattle.nt_file_meaning.specs.Clusters.{kind_of_code, pages_listed, begins_behind, zero_elements, columns_by_id}
use Rattle.nt_file_meaning.specs.Holds.{HoldsPages, no_page, HoldsColumn, closed, not_begun, untyped, in_pages, HoldsColumns, no_column}
use Rattle.nt_file_meaning.specs.Holds.{and_column}
use Rattle.nt_finished.proofs.Standing.{StandsThere, front_stands, back_stands}
use Rattle.nt_copied.specs.Stored.{StoredPage, stored_column, stored_payload, stored_page_metas, stored_metas}
use Rattle.nt_copied.specs.Copies.{read_pages, filled_pages, page_there, column_there, columns_there, NoneDeferred}
use Rattle.nt_copied.proofs.CopiedPages.{pages_copied, pages_counted, pages_filled}

-- ---- which pages are read

pub read-behind : (k : ClusterList) (id : ℕ) (c : KnownColumn) (o : Option ColumnType) → begins_behind k c ≡ true → read_pages k id c o ≡ []
read-behind k id c None b = refl
read-behind k id c (Some kind) b = ap (λ (x : Bool). cond (c.is_open && not x) (filled_pages (pages_listed k id)) []) b ∙ by c.is_open
  where
    by : (x : Bool) → cond (x && not true) (filled_pages (pages_listed k id)) [] ≡ []
    by true = refl
    by false = refl

pub read-closed : (k : ClusterList) (id : ℕ) (c : KnownColumn) (o : Option ColumnType) → c.is_open ≡ false → read_pages k id c o ≡ []
read-closed k id c None b = refl
read-closed k id c (Some kind) b =
    ap (λ (x : Bool). cond (x && not (begins_behind k c)) (filled_pages (pages_listed k id)) []) b

pub read-open : (k : ClusterList) (id : ℕ) (c : KnownColumn) (kind : ColumnType) → c.is_open ≡ true → begins_behind k c ≡ false
    → read_pages k id c (Some kind) ≡ filled_pages (pages_listed k id)
read-open k id c kind o b = rw (o, b) refl

-- a column that begins with the first entry begins behind a cluster only where that has none
pub behind-none : (k : ClusterList) (c : KnownColumn) → c.first ≡ 0 → begins_behind k c ≡ true → k.entries ≡ 0
behind-none k c none b =
    let both = and_true c.is_principal (leb (k.first + k.entries) c.first) b in
    omega (arith, none, leb-true (k.first + k.entries) c.first both.1)

-- ---- an open column, whose stored pages stand elsewhere

record IsCopied (to : List ℕ) (base place code : ℕ) (stored : List StoredPage) (es : List Element) : Type 0 where
  held : (kind : ColumnType) → kind_of_code code ≡ Some kind → StandsThere to (base + place) (stored_column stored)
      → HoldsPages to kind (map (page_item base) (stored_page_metas place stored)) es
  none : kind_of_code code ≡ None → es ≡ []
  filled : AllByRecursion (λ (p : PageMeta). 0 < p.count) (stored_page_metas place stored)
  counted : element_count (stored_page_metas place stored) ≡ length es

none-copied : (to : List ℕ) (base place code : ℕ) (stored : List StoredPage) (es : List Element) → stored ≡ [] → es ≡ []
    → IsCopied to base place code stored es
none-copied to base place code stored es none empty =
    subst (λ (x : List StoredPage). IsCopied to base place code x es) (sym none)
    (subst (λ (x : List Element). IsCopied to base place code [] x) (sym empty)
    (record { held = λ kind is there. no_page; none = λ e. refl; filled = tt; counted = refl }))

column-copied : (from to : List ℕ) (k : ClusterList) (id base place : ℕ) (c : KnownColumn) (code : ℕ) (es : List Element)
    → c.first ≡ 0 → HoldsColumn from k id c code es → IsCopied to base place code (column_there from k id c code) es
column-copied from to k id base place c code es first (closed o) =
    none-copied to base place code (column_there from k id c code) []
    (ap (λ (ps : List PageItem). map (page_there from) ps) (read-closed k id c (kind_of_code code) o)) refl
column-copied from to k id base place c code es first (not_begun o b zeros) =
    none-copied to base place code (column_there from k id c code) es
    (ap (λ (ps : List PageItem). map (page_there from) ps) (read-behind k id c (kind_of_code code) b))
    (zeros ∙ ap (λ (n : ℕ). zero_elements n) (behind-none k c first b))
column-copied from to k id base place c code es first (untyped o b n) =
    none-copied to base place code (column_there from k id c code) []
    (ap (λ (t : Option ColumnType). map (page_there from) (read_pages k id c t)) n) refl
column-copied from to k id base place c code es first (in_pages {kind = kind} o b n h) =
    let pages : List PageItem = pages_listed k id in
    let same : column_there from k id c code ≡ map (page_there from) (filled_pages pages) =
    ap (λ (t : Option ColumnType). map (page_there from) (read_pages k id c t)) n
    ∙ ap (λ (ps : List PageItem). map (page_there from) ps) (read-open k id c kind o b) in
    subst (λ (x : List StoredPage). IsCopied to base place code x es) (sym same) (record {
      held = λ other is there.
          subst (λ (t : ColumnType). HoldsPages to t (map (page_item base)
          (stored_page_metas place (map (page_there from) (filled_pages pages)))) es)
          (some_is kind other (sym n ∙ is)) (pages_copied from to kind pages es base place h there);
      none = λ e. absurd (none-some kind (sym e ∙ n));
      filled = pages_filled from pages place;
      counted = pages_counted from to kind pages es place h;
    })

-- it is read there
module _ (from to : List ℕ) (k l : ClusterList) (base place id : ℕ) where
  open-read : (c : KnownColumn) (code : ℕ) (stored : List StoredPage) (es : List Element) → IsCopied to base place code stored es
      → c.is_open ≡ true → c.first ≡ 0
      → (c.is_principal ≡ true → length es ≡ l.entries)
      → pages_listed l id ≡ map (page_item base) (stored_page_metas place stored)
      → StandsThere to (base + place) (stored_column stored) → HoldsColumn to l id c code es
  open-read c code stored es copied o first long listed there = by (begins_behind l c) (kind_of_code code) refl refl
    where
      zeros : begins_behind l c ≡ true → es ≡ zero_elements l.entries
      zeros b =
          let both = and_true c.is_principal (leb (l.first + l.entries) c.first) b in
          let empty : l.entries ≡ 0 = behind-none l c first b in
          nil_from_length es (long both.0 ∙ empty) ∙ sym (ap (λ (n : ℕ). zero_elements n) empty)

      by : (b : Bool) (o' : Option ColumnType) → begins_behind l c ≡ b → kind_of_code code ≡ o' → HoldsColumn to l id c code es
      by true o' b n = not_begun o b (zeros b)
      by false None b n = subst (λ (x : List Element). HoldsColumn to l id c code x) (sym (copied.none n)) (untyped o b n)
      by false (Some kind) b n =
          in_pages o b n (subst (λ (ps : List PageItem). HoldsPages to kind ps es) (sym listed) (copied.held kind n there))

  pub column_read : (c : KnownColumn) (code : ℕ) (es : List Element) → HoldsColumn from k id c code es → c.first ≡ 0
      → (c.is_principal ≡ true → length es ≡ l.entries)
      → pages_listed l id ≡ map (page_item base) (stored_page_metas place (column_there from k id c code))
      → StandsThere to (base + place) (stored_column (column_there from k id c code)) → HoldsColumn to l id c code es
  column_read c code es (closed o) first long listed there = closed o
  column_read c code es (not_begun o b zeros) first long listed there =
      open-read c code (column_there from k id c code) es (column-copied from to k id base place c code es first (not_begun o b zeros))
      o first long listed there
  column_read c code es (untyped o b n) first long listed there =
      open-read c code (column_there from k id c code) [] (column-copied from to k id base place c code [] first (untyped o b n))
      o first long listed there
  column_read c code es (in_pages o b n h) first long listed there =
      open-read c code (column_there from k id c code) es (column-copied from to k id base place c code es first (in_pages o b n h))
      o first long listed there

-- ---- all columns

pub head-is : (x y : ℕ) (xs ys : List ℕ) → x ∷ xs ≡ y ∷ ys → (x ≡ y) × (xs ≡ ys)
head-is x y xs ys e = (cc, cc)

pub known-is : (need other : Option NeedData) (r q : ColumnRow) → need ≡ other → r.first ≡ 0 → q.first ≡ 0
    → known_column need r ≡ known_column other q
known-is need other r q same first begin =
    ap (λ (o : Option NeedData). known_column o r) same
    ∙ ap (λ (n : ℕ). record { is_open = is_needed other; is_principal = is_entries other; first = n }) (first ∙ sym begin)

module _ (from to : List ℕ) (k l : ClusterList) (s t : Table) (same : (j : ℕ) → need_of t j ≡ need_of s j) (base : ℕ) where
  pub columns_read : (id place : ℕ) (rows others : List ColumnRow) (cols : List (List Element)) → HoldsColumns from k s id rows cols
      → map (λ (c : ColumnRow). c.code) others ≡ map (λ (c : ColumnRow). c.code) rows → NoneDeferred rows → NoneDeferred others
      → ((j : ℕ) → j < length rows
      → pages_listed l (id + j) ≡ map (page_item base) (slice_index_or (stored_metas place (columns_there from k s id rows)) j []))
      → ((j : ℕ) → is_entries (need_of s (id + j)) ≡ true → length (columns_by_id cols j) ≡ l.entries)
      → StandsThere to (base + place) (stored_payload (columns_there from k s id rows)) → HoldsColumns to l t id others cols
  columns_read id place [] [] cols no_column codes none begin listed long there = no_column
  columns_read id place [] (q ∷ others) cols held codes none begin listed long there = absurd cc
  columns_read id place (r ∷ rows) [] cols held codes none begin listed long there = absurd cc
  columns_read id place (r ∷ rows) (q ∷ others) cols (and_column {es = es} {others = left} first more) codes none begin listed long there =
      let here : id + 0 ≡ id = omega arith in
      let c : KnownColumn = known_column (need_of s id) r in
      let own : List StoredPage = column_there from k id (known_column (need_of s id) r) r.code in
      let rest : List (List StoredPage) = columns_there from k s (id + 1) rows in
      let both = head-is q.code r.code _ _ codes in
      let pages : pages_listed l id ≡ map (page_item base) (stored_page_metas place own) =
      ap (λ (j : ℕ). pages_listed l j) (sym here) ∙ listed 0 (omega arith) in
      let read : HoldsColumn to l id (known_column (need_of s id) r) r.code es =
      column_read from to k l base place id (known_column (need_of s id) r) r.code es first none.0
      (λ p. long 0 (ap (λ (j : ℕ). is_entries (need_of s j)) here ∙ p)) pages
      (front_stands to (stored_column own) (stored_payload rest) (base + place) there) in
      and_column
      (subst (λ (x : ℕ). HoldsColumn to l id (known_column (need_of t id) q) x es) (sym both.0)
      (subst (λ (x : KnownColumn). HoldsColumn to l id x r.code es)
      (sym (known-is (need_of t id) (need_of s id) q r (same id) begin.0 none.0)) read))
      (columns_read (id + 1) (place + length (stored_column own)) rows others left more both.1 none.1 begin.1
      (λ j less. let next : id + 1 + j ≡ id + suc j = omega arith in
      ap (λ (i : ℕ). pages_listed l i) next ∙ listed (suc j) (omega (arith, less)))
      (λ j p. let next : id + 1 + j ≡ id + suc j = omega arith in long (suc j) (ap (λ (i : ℕ). is_entries (need_of s i)) (sym next) ∙ p))
      (back_stands to (stored_column own) (stored_payload rest) (base + place) (base + (place + length (stored_column own)))
      (omega arith) there))

-- ---- what is kept of them

-- no page is empty, and those of an open column have its elements
pub record IsCounted (pages : List PageMeta) (es : List Element) : Type 0 where
  pub filled : AllByRecursion (λ (p : PageMeta). 0 < p.count) pages
  pub counted : element_count pages ≡ length es

module _ (from : List ℕ) (k : ClusterList) (s : Table) where
  pub counted_at : (id place : ℕ) (rows : List ColumnRow) (cols : List (List Element)) → HoldsColumns from k s id rows cols
      → NoneDeferred rows → (j : ℕ) → j < length rows
      → IsCounted (slice_index_or (stored_metas place (columns_there from k s id rows)) j []) (columns_by_id cols j)
  counted_at id place [] cols no_column none j less = absurd (omega (arith, less))
  counted_at id place (r ∷ rows) cols (and_column {es = es} first more) none zero less =
      let copied = column-copied from [] k id 0 place (known_column (need_of s id) r) r.code es none.0 first in
      record { filled = copied.filled; counted = copied.counted }
  counted_at id place (r ∷ rows) cols (and_column {others = left} first more) none (suc j) less =
      counted_at (id + 1) (place + length (stored_column (column_there from k id (known_column (need_of s id) r) r.code))) rows left
      more none.1 j (omega (arith, less))

  pub length-metas : (id place : ℕ) (rows : List ColumnRow) → length (stored_metas place (columns_there from k s id rows)) ≡ length rows
  length-metas id place [] = refl
  length-metas id place (r ∷ rows) =
      ap (λ (n : ℕ). suc n)
      (length-metas (id + 1) (place + length (stored_column (column_there from k id (known_column (need_of s id) r) r.code))) rows)
