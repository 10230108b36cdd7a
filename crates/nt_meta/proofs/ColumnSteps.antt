-- Columns that are read one behind the other.
use Rattle.std.proofs.Common.{◌≡◌, ℕ, ◌+◌, ◌-◌, ◌<◌, ◌≤◌, List, [], ◌∷◌, ◌++◌, length, Option, Result, Ok, refl, sym, ap, subst, ◌∙◌, arith}
use Rattle.std.specs.Prelude.{slice_index_or}
use Rattle.nt_num.specs.Place.{At}
use Rattle.nt_num.specs.declared.fault.ReadError.{ReadError}
use Rattle.nt_lists.specs.Chaining.{◌>>=◌}
use Rattle.nt_lists.specs.Answering.{Refuses}
use Rattle.nt_lists.proofs.Answering.{Refuses-bind}
use Rattle.nt_pagelists.specs.declared.column.KnownColumn.{KnownColumn}
use Rattle.nt_pagelists.specs.declared.cluster.ClusterSummary.{ClusterSummary}
use Rattle.nt_pagelists.specs.declared.cluster.ColumnList.{ColumnList}
use Rattle.nt_pagelists.specs.Columns.{unknown_column}
use Rattle.nt_pagelists.specs.Pages.{column_list_at, column_lists_on}
use Rattle.nt_meta.proofs.Steps.{one_less, none_left}
use Rattle.std.proofs.lemmas.List.{length-append}

-- the column with this id is the one that is read next
as_next : (k : ClusterSummary) (columns : List KnownColumn) (elements : List ℕ) (id before : ℕ) (c : KnownColumn)
    (lists : List ColumnList) (here : At) → id ≡ length lists
    → c ≡ slice_index_or columns id unknown_column → before ≡ slice_index_or elements id 0
    → column_list_at k (length lists) (slice_index_or columns (length lists) unknown_column)
    (slice_index_or elements (length lists) 0) here ≡ column_list_at k id c before here
as_next k columns elements id before c lists here is of was = rw (of, was, is) refl

pub columns-next : (k : ClusterSummary) (columns : List KnownColumn) (elements : List ℕ) (n i before : ℕ) (c : KnownColumn)
    (lists more : List ColumnList) (here after : At) (list : ColumnList) (all : Result (List ColumnList × At) ReadError) → i < n
    → i ≡ length lists → c ≡ slice_index_or columns i unknown_column → before ≡ slice_index_or elements i 0
    → column_list_at k i c before here ≡ Ok (list, after) → more ≡ lists ++ list ∷ [] → column_lists_on k columns elements (n - i)
    lists here ≡ all → column_lists_on k columns elements (n - (i + 1)) more after ≡ all
columns-next k columns elements n i before c lists more here after list all lt is of was e new h =
    let read = as_next k columns elements i before c lists here is of was ∙ e in
    let step = ap (λ (j : ℕ). column_lists_on k columns elements j lists here) (one_less n i lt)
    ∙ ap (λ (r : Result (ColumnList × At) ReadError). r >>= λ list. column_lists_on k columns elements (n - (i + 1))
    (lists ++ list.0 ∷ []) list.1) read in
    ap (λ (l : List ColumnList). column_lists_on k columns elements (n - (i + 1)) l after) new ∙ sym step ∙ h

pub columns-fail : (k : ClusterSummary) (columns : List KnownColumn) (elements : List ℕ) (n i before : ℕ) (c : KnownColumn)
    (lists : List ColumnList) (here : At) (e : Option ReadError) (all : Result (List ColumnList × At) ReadError) → i < n
    → i ≡ length lists → c ≡ slice_index_or columns i unknown_column → before ≡ slice_index_or elements i 0
    → Refuses e (column_list_at k i c before here) → column_lists_on k columns elements (n - i) lists here ≡ all → Refuses e all
columns-fail k columns elements n i before c lists here e all lt is of was f h =
    subst (Refuses e) (sym (ap (λ (j : ℕ). column_lists_on k columns elements j lists here) (one_less n i lt)) ∙ h)
    (Refuses-bind e _ (λ list. column_lists_on k columns elements (n - (i + 1)) (lists ++ list.0 ∷ []) list.1)
    (subst (Refuses e) (sym (as_next k columns elements i before c lists here is of was)) f))

pub columns-done : (k : ClusterSummary) (columns : List KnownColumn) (elements : List ℕ) (n i : ℕ) (lists : List ColumnList)
    (here : At) (all : Result (List ColumnList × At) ReadError) → n ≤ i → column_lists_on k columns elements (n - i) lists here
    ≡ all → all ≡ Ok (lists, here)
columns-done k columns elements n i lists here all le h =
    sym h ∙ ap (λ (j : ℕ). column_lists_on k columns elements j lists here) (none_left n i le)

pub one_longer : (i : ℕ) (lists more : List ColumnList) (list : ColumnList) → i ≡ length lists → more ≡ lists ++ list ∷ []
    → i + 1 ≡ length more
one_longer i lists more list is new = omega (arith, length-append lists (list ∷ []), ap length new)

pub ruleset column_steps = (columns-next, columns-fail, columns-done, one_longer)
