-- Columns of a cluster that are read one after the other.
use Rattle.std.proofs.Common.{◌≡◌, ℕ, ◌+◌, ◌<◌, ◌≤◌, Bool, true, false, cond, List, [], ◌∷◌, ◌++◌, take, drop, length, slice_get, Option}
use Rattle.std.proofs.Common.{Some, None, Result, Ok, Err, refl, sym, ap, ◌∙◌, arith}
use Rattle.std.proofs.lemmas.Option.{get_or_from_slice_get}
use Rattle.std.proofs.lemmas.List.{append_assoc, append-nil, drop_more, drop_all, take_all, length-map}
use Rattle.nt_num.specs.declared.fault.ReadError.{ReadError}
use Rattle.nt_lists.specs.Chaining.{◌>>=◌}
use Rattle.nt_lists.proofs.Variants.{ok_is, some_is}
use Rattle.nt_types.specs.declared.column_type.ColumnType.{ColumnType}
use Rattle.nt_encode.specs.Elements.{Element}
use Rattle.nt_column.specs.Column.{Column, Buffer, empty, with_more, columns_of}
use Rattle.nt_grammar.specs.Table.{Table}
use Rattle.nt_grammar.specs.declared.rows.ColumnRow.{ColumnRow}
use Rattle.nt_plans.specs.Needs.{need_of}
use Rattle.nt_pagelists.specs.declared.column.KnownColumn.{KnownColumn}
use Rattle.nt_pagelists.specs.declared.cluster.ClusterList.{ClusterList}
use Rattle.nt_pagelists.specs.declared.page.PageItem.{PageItem}
use Rattle.nt_file_meaning.specs.Outlines.{known_column}
use Rattle.nt_file_meaning.specs.Clusters.{kind_of_code, pages_of_column, pages_of_kind, pages_listed, begins_behind, zero_elements}
use Rattle.nt_file_meaning.specs.Clusters.{column_elements, columns_from}
use Rattle.nt_tfile.specs.declared.failure.ReadFailure.{ReadFailure}
use Rattle.nt_tfile.specs.declared.failure.ReadFailure.TheVariants.{Defect, Fault, Memory}
use Rattle.nt_tfile.specs.Calls.{IsReadOrFails}
use Rattle.nt_decoded.specs.Pages.{column_with_pages}
use Rattle.nt_decoded.specs.Columns.{kind_or_bit, kept_empty, held_column, elements_in, held_elements, AreReadTo}

-- columns behind those that were read
abbrev pub columns_behind : ℕ → ClusterList → Table → ℕ → List ColumnRow → List (List Element) → List ℕ
    → Result (List (List Element)) ReadError
columns_behind number k t id rows before file = columns_from file number k t id rows >>= λ others. Ok (before ++ others)

column-next : (told : List ℕ) (number : ℕ) (k : ClusterList) (t : Table) (id : ℕ) (row : ColumnRow) (rows : List ColumnRow)
    (before : List (List Element)) (es : List Element)
    → elements_in number k t id row told ≡ Ok es → columns_behind number k t id (row ∷ rows) before told ≡ columns_behind number k t
    (id + 1) rows (before ++ es ∷ []) told
column-next told number k t id row rows before es h =
    ap (λ (r : Result (List Element) ReadError). (r >>= λ first. columns_from told number k t (id + 1) rows >>= λ others. Ok
    (first ∷ others)) >>= λ others. Ok (before ++ others)) h
    ∙ one (columns_from told number k t (id + 1) rows)
  where
    one : (r : Result (List (List Element)) ReadError) → ((r >>= λ others. Ok (es ∷ others)) >>= λ others. Ok (before ++ others))
        ≡ (r >>= λ others. Ok ((before ++ es ∷ []) ++ others))
    one (Ok others) = ap (λ (l : List (List Element)). Ok l) (sym (append_assoc before (es ∷ []) others))
    one (Err e) = refl

pub columns-more : (told : List ℕ) (number : ℕ) (k : ClusterList) (t : Table) (id : ℕ) (row : ColumnRow)
    (before after : List (List Element)) (es : List Element) → id < length t.columns
    → slice_get t.columns id ≡ Some row → elements_in number k t id row told ≡ Ok es → after ≡ before ++ es ∷ []
    → columns_behind number k t id (drop id t.columns) before told ≡ columns_behind number k t (id + 1) (drop (id + 1) t.columns) after
    told
columns-more told number k t id row before after es lt there h is =
    ap (λ (l : List ColumnRow). columns_behind number k t id l before told)
    (drop_more t.columns id row lt ∙ ap (λ (x : ColumnRow). x ∷ drop (id + 1) t.columns)
    (get_or_from_slice_get t.columns id row row there))
    ∙ column-next told number k t id row (drop (id + 1) t.columns) before es h
    ∙ ap (λ (l : List (List Element)). columns_behind number k t (id + 1) (drop (id + 1) t.columns) l told) (sym is)

pub columns-fail : {U W : Type 0} (one : U → List Element) (all : W
    → List (List Element)) (told : List ℕ) (number : ℕ) (k : ClusterList) (t : Table) (id : ℕ) (row : ColumnRow)
    (before : List (List Element)) (e : ReadFailure)
    → id < length t.columns → slice_get t.columns id ≡ Some row → IsReadOrFails one (Err e) (elements_in number k t id row told)
    → IsReadOrFails all (Err e) (columns_behind number k t id (drop id t.columns) before told)
columns-fail one all told number k t id row before (Defect d) lt there h =
    ap (λ (l : List ColumnRow). columns_behind number k t id l before told)
    (drop_more t.columns id row lt ∙ ap (λ (x : ColumnRow). x ∷ drop (id + 1) t.columns)
    (get_or_from_slice_get t.columns id row row there))
    ∙ ap (λ (r : Result (List Element) ReadError). (r >>= λ first. columns_from told number k t (id + 1) (drop (id + 1) t.columns)
    >>= λ others. Ok (first ∷ others)) >>= λ others. Ok (before ++ others)) h
columns-fail one all told number k t id row before Fault lt there h = tt
columns-fail one all told number k t id row before Memory lt there h = tt

pub columns-done : (told : List ℕ) (number : ℕ) (k : ClusterList) (t : Table) (id : ℕ) (bs : List Buffer) → length t.columns ≤ id
    → AreReadTo t.columns id (columns_of bs)
    → columns_behind number k t id (drop id t.columns) (take id (held_elements bs)) told ≡ Ok (held_elements bs)
columns-done told number k t id bs le r =
    let elements : Column → List Element = λ x. x.elements in
    ap (λ (l : List ColumnRow). columns_behind number k t id l (take id (held_elements bs)) told) (drop_all id t.columns le)
    ∙ ap (λ (l : List (List Element)). Ok l) (append-nil (take id (held_elements bs))
    ∙ take_all id (held_elements bs) (omega (arith, length-map (columns_of bs) elements, r.all)))

-- how a column's elements are read
pub closed-read : (told : List ℕ) (number : ℕ) (k : ClusterList) (t : Table) (id : ℕ) (row : ColumnRow) (known : KnownColumn)
    → known ≡ known_column (need_of t id) row → known.is_open ≡ false
    → elements_in number k t id row told ≡ Ok []
closed-read told number k t id row known is closed =
    ap (λ (c : KnownColumn). column_elements told number k id c row.code) (sym is)
    ∙ ap (λ (b : Bool). cond b (cond (begins_behind k known) (Ok (zero_elements k.entries))
    (pages_of_kind told number id (kind_of_code row.code) (pages_listed k id))) (Ok [])) closed

pub zeros-read : (told : List ℕ) (number : ℕ) (k : ClusterList) (t : Table) (id : ℕ) (row : ColumnRow) (known : KnownColumn)
    → known ≡ known_column (need_of t id) row → known.is_open ≡ true
    → begins_behind k known ≡ true → elements_in number k t id row told ≡ Ok (zero_elements k.entries)
zeros-read told number k t id row known is begun behind =
    ap (λ (c : KnownColumn). column_elements told number k id c row.code) (sym is)
    ∙ ap (λ (b : Bool). cond b (cond (begins_behind k known) (Ok (zero_elements k.entries))
    (pages_of_kind told number id (kind_of_code row.code) (pages_listed k id))) (Ok [])) begun
    ∙ ap (λ (b : Bool). cond b (Ok (zero_elements k.entries)) (pages_of_kind told number id (kind_of_code row.code) (pages_listed k id)))
    behind

pub typed-read : (told : List ℕ) (number : ℕ) (k : ClusterList) (t : Table) (id : ℕ) (row : ColumnRow) (known : KnownColumn)
    (o : Option ColumnType) → known ≡ known_column (need_of t id) row
    → known.is_open ≡ true → begins_behind k known ≡ false → o ≡ kind_of_code row.code
    → elements_in number k t id row told ≡ pages_of_kind told number id o (pages_listed k id)
typed-read told number k t id row known o is begun behind kind =
    ap (λ (c : KnownColumn). column_elements told number k id c row.code) (sym is)
    ∙ ap (λ (b : Bool). cond b (cond (begins_behind k known) (Ok (zero_elements k.entries))
    (pages_of_kind told number id (kind_of_code row.code) (pages_listed k id))) (Ok [])) begun
    ∙ ap (λ (b : Bool). cond b (Ok (zero_elements k.entries)) (pages_of_kind told number id (kind_of_code row.code) (pages_listed k id)))
    behind
    ∙ ap (λ (x : Option ColumnType). pages_of_kind told number id x (pages_listed k id)) (sym kind)

-- an empty column with the elements of pages
empty-filled : (told : List ℕ) (number id : ℕ) (kind : ColumnType) (ps : List PageItem) (c d : Column) → c ≡ empty kind
    → column_with_pages number id ps c told ≡ Ok d → pages_of_column told number id kind ps ≡ Ok d.elements
empty-filled told number id kind ps c d is h = by (pages_of_column told number id kind ps)
    (ap (λ (x : Column). column_with_pages number id ps x told) (sym is) ∙ h)
  where
    by : (r : Result (List Element) ReadError) → (r >>= λ es. Ok (with_more (empty kind) es)) ≡ Ok d → r ≡ Ok d.elements
    by (Ok es) e = ap (λ (x : Column). Ok x.elements) (ok_is {E = ReadError} (with_more (empty kind) es) d e)
    by (Err x) e = absurd cc

empty-lost : (told : List ℕ) (number id : ℕ) (kind : ColumnType) (ps : List PageItem) (c : Column) (e : ReadError) → c ≡ empty kind
    → column_with_pages number id ps c told ≡ Err e → pages_of_column told number id kind ps ≡ Err e
empty-lost told number id kind ps c e is h = by (pages_of_column told number id kind ps)
    (ap (λ (x : Column). column_with_pages number id ps x told) (sym is) ∙ h)
  where
    by : (r : Result (List Element) ReadError) → (r >>= λ es. Ok (with_more (empty kind) es)) ≡ Err e → r ≡ Err e
    by (Ok es) h = absurd cc
    by (Err x) h = cc

pub filled-reads : {V : Type 0} (told : List ℕ) (number id : ℕ) (kind : ColumnType) (ps : List PageItem) (c d : Column)
    (es : List Element) (r : Result V ReadFailure) → c ≡ empty kind → es ≡ d.elements
    → IsReadOrFails {V = V} (λ u. d) r (column_with_pages number id ps c told)
    → IsReadOrFails {V = V} (λ u. es) r (pages_of_column told number id kind ps)
filled-reads told number id kind ps c d es (Ok v) is same h = empty-filled told number id kind ps c d is h
    ∙ ap (λ (l : List Element). Ok l) (sym same)
filled-reads told number id kind ps c d es (Err (Defect e)) is same h = empty-lost told number id kind ps c e is h
filled-reads told number id kind ps c d es (Err Fault) is same h = tt
filled-reads told number id kind ps c d es (Err Memory) is same h = tt

-- a column that is read from its pages
pub paged-read : (told : List ℕ) (number : ℕ) (k : ClusterList) (t : Table) (id : ℕ) (row found : ColumnRow) (known : KnownColumn)
    (kind : ColumnType) (o : Option ColumnType) (cs : List Column) (pages : List PageItem)
    → known ≡ known_column (need_of t id) row → known.is_open ≡ true → begins_behind k known ≡ false → slice_get t.columns id ≡ Some row
    → slice_get t.columns id ≡ Some found
    → o ≡ Some kind → o ≡ kind_of_code found.code → held_column cs id ≡ kept_empty row → pages ≡ pages_listed k id
    → elements_in number k t id row told ≡ pages_of_column told number id (held_column cs id).kind pages
paged-read told number k t id row found known kind o cs pages is begun behind there same some code empty listed =
    let rows : found ≡ row = some_is found row (sym same ∙ there) in
    let typed : o ≡ kind_of_code row.code = code ∙ ap (λ (r : ColumnRow). kind_of_code r.code) rows in
    let kept : (held_column cs id).kind ≡ kind = ap (λ (c : Column). c.kind) empty ∙ ap kind_or_bit (sym typed ∙ some) in
    typed-read told number k t id row known o is begun behind typed
    ∙ ap (λ (x : Option ColumnType). pages_of_kind told number id x (pages_listed k id)) some
    ∙ ap (λ (x : ColumnType). pages_of_column told number id x (pages_listed k id)) (sym kept)
    ∙ ap (λ (l : List PageItem). pages_of_column told number id (held_column cs id).kind l) (sym listed)

-- a column of no type
pub untyped-read : (told : List ℕ) (number : ℕ) (k : ClusterList) (t : Table) (id : ℕ) (row found : ColumnRow) (known : KnownColumn)
    (o : Option ColumnType)
    → known ≡ known_column (need_of t id) row → known.is_open ≡ true → begins_behind k known ≡ false → slice_get t.columns id ≡ Some row
    → slice_get t.columns id ≡ Some found
    → o ≡ None → o ≡ kind_of_code found.code → elements_in number k t id row told ≡ Ok []
untyped-read told number k t id row found known o is begun behind there same none code =
    let rows : found ≡ row = some_is found row (sym same ∙ there) in
    typed-read told number k t id row known o is begun behind (code ∙ ap (λ (r : ColumnRow). kind_of_code r.code) rows)
    ∙ ap (λ (x : Option ColumnType). pages_of_kind told number id x (pages_listed k id)) none
