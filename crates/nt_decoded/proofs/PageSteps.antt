-- Pages of a column that are read one behind the other.
use Rattle.std.proofs.Common.{◌≡◌, ℕ, ◌+◌, ◌<◌, ◌≤◌, eqb, List, ◌∷◌, ◌++◌, take, drop, length, get_or, Result, Ok, Err, refl, sym, ap}
use Rattle.std.proofs.Common.{subst, ◌∙◌}
use Rattle.std.proofs.lemmas.List.{append_assoc, append-nil, drop_more, drop_all}
use Rattle.nt_num.specs.Codes.{compressed, out_of_file}
use Rattle.nt_num.specs.Faults.{fault, with_values}
use Rattle.nt_num.specs.declared.fault.ReadError.{ReadError}
use Rattle.nt_lists.specs.Chaining.{◌>>=◌}
use Rattle.nt_lists.proofs.Variants.{ok_is}
use Rattle.nt_format.specs.Demands.{demand}
use Rattle.nt_types.specs.declared.column_type.ColumnType.{ColumnType}
use Rattle.nt_encode.specs.Pages.{page_size}
use Rattle.nt_encode.specs.Elements.{Element, page_elements}
use Rattle.nt_column.specs.Column.{Column, with_more}
use Rattle.nt_pagelists.specs.Columns.{in_column}
use Rattle.nt_pagelists.specs.declared.page.PageItem.{PageItem}
use Rattle.nt_file_meaning.specs.Clusters.{is_checked, sum_fault, page_of_column, pages_of_column}
use Rattle.nt_tfile.specs.declared.failure.ReadFailure.{ReadFailure}
use Rattle.nt_tfile.specs.declared.failure.ReadFailure.TheVariants.{Defect, Fault, Memory}
use Rattle.nt_tfile.specs.Calls.{IsReadOrFails}
use Rattle.nt_decoded.specs.Windows.{found_page}
use Rattle.nt_decoded.specs.Pages.{column_with_bytes, column_with_page, column_with_pages}
use Rattle.nt_listing.proofs.Chains.{fails}

-- the size that a page of so many elements has to have
abbrev pub sized : ℕ → ℕ → ColumnType → PageItem → Result (Unit {0}) ReadError
sized number id kind p = demand (eqb p.size (page_size kind p.count))
    (in_column number id (with_values (page_size kind p.count) p.size (fault compressed p.place)))

-- a page of another size
pub size-fails : (told : List ℕ) (number id : ℕ) (p : PageItem) (c : Column) (kind : ColumnType) (e : ReadError) → kind ≡ c.kind
    → sized number id kind p ≡ Err e
    → column_with_page number id p c told ≡ Err e
unfolding page_of_column
size-fails told number id p c kind e same h = let plain : sized number id c.kind p ≡ Err e = subst
    (λ (k : ColumnType). sized number id k p ≡ Err e) same h in rw plain refl

behind-size : (told : List ℕ) (number id : ℕ) (p : PageItem) (c : Column) (u : Unit {0}) → sized number id c.kind p ≡ Ok u
    → column_with_page number id p c told
    ≡ ((found_page (in_column number id (fault out_of_file p.place)) p told >>= λ stored. demand (is_checked p stored)
    (in_column number id (sum_fault p stored)) >>= λ v.
    Ok (page_elements c.kind p.count (take p.size stored))) >>= λ es. Ok (with_more c es))
unfolding page_of_column
behind-size told number id p c u h = rw h refl

-- a page that isn't in the file
pub place-fails : (told : List ℕ) (number id : ℕ) (p : PageItem) (c : Column) (kind : ColumnType) (u : Unit {0}) (outside : ReadError)
    (e : ReadFailure)
    → kind ≡ c.kind → sized number id kind p ≡ Ok u → outside ≡ in_column number id (fault out_of_file p.place)
    → IsReadOrFails (λ (l : List ℕ). l) (Err e) (found_page outside p told)
    → IsReadOrFails (λ (d : Column). d) (Err e) (column_with_page number id p c told)
place-fails told number id p c kind u outside e same passed named h =
    let plain : sized number id c.kind p ≡ Ok u = subst (λ (k : ColumnType). sized number id k p ≡ Ok u) same passed in
    subst (λ (r : Result Column ReadError). IsReadOrFails (λ (d : Column). d) (Err e) r) (sym (behind-size told number id p c u plain))
    (fails {V = List Element} (λ (l : List Element). l) (λ (d : Column). d) e
    (found_page (in_column number id (fault out_of_file p.place)) p told >>= λ stored. demand (is_checked p stored)
    (in_column number id (sum_fault p stored)) >>= λ v.
    Ok (page_elements c.kind p.count (take p.size stored))) (λ es. Ok (with_more c es))
    (fails (λ (l : List ℕ). l) (λ (l : List Element). l) e (found_page (in_column number id (fault out_of_file p.place)) p told) _
    (subst (λ (x : ReadError). IsReadOrFails (λ (l : List ℕ). l) (Err e) (found_page x p told)) named h)))

-- a page whose bytes were found
pub stored-done : (told : List ℕ) (number id : ℕ) (p : PageItem) (c : Column) (kind : ColumnType) (u : Unit {0}) (outside : ReadError)
    (stored : List ℕ) → kind ≡ c.kind
    → sized number id kind p ≡ Ok u → outside ≡ in_column number id (fault out_of_file p.place) → found_page outside p told ≡ Ok stored
    → column_with_page number id p c told ≡ column_with_bytes number id p c stored
stored-done told number id p c kind u outside stored same passed named h =
    behind-size told number id p c u (subst (λ (k : ColumnType). sized number id k p ≡ Ok u) same passed)
    ∙ ap (λ (r : Result (List ℕ) ReadError). (r >>= λ stored. demand (is_checked p stored) (in_column number id (sum_fault p stored))
    >>= λ v.
    Ok (page_elements c.kind p.count (take p.size stored))) >>= λ es. Ok (with_more c es))
    (ap (λ (x : ReadError). found_page x p told) (sym named) ∙ h)
    ∙ one (demand (is_checked p stored) (in_column number id (sum_fault p stored)))
  where
    one : (r : Result (Unit {0}) ReadError) → ((r >>= λ v. Ok (page_elements c.kind p.count (take p.size stored))) >>= λ es. Ok
        (with_more c es))
        ≡ (r >>= λ u. Ok (with_more c (page_elements c.kind p.count (take p.size stored))))
    one (Ok v) = refl
    one (Err e) = refl

-- elements behind others, behind those of a column
more-joined : (c : Column) (r : Result (List Element) ReadError) (es : List Element)
    → ((r >>= λ others. Ok (es ++ others)) >>= λ o. Ok (with_more c o)) ≡ (r >>= λ o. Ok (with_more (with_more c es) o))
more-joined c (Ok o) es = ap (λ (l : List Element). Ok (record { kind = c.kind; elements = l; zeros = c.zeros }))
    (sym (append_assoc c.elements es o))
more-joined c (Err e) es = refl

page-next : (told : List ℕ) (number id : ℕ) (p : PageItem) (ps : List PageItem) (c d : Column)
    → column_with_page number id p c told ≡ Ok d
    → column_with_pages number id (p ∷ ps) c told ≡ column_with_pages number id ps d told
page-next told number id p ps c d h = by (page_of_column told number id c.kind p) h
  where
    by : (r : Result (List Element) ReadError) → (r >>= λ es. Ok (with_more c es)) ≡ Ok d
        → ((r >>= λ first. pages_of_column told number id c.kind ps >>= λ others. Ok (first ++ others)) >>= λ es. Ok (with_more c es))
        ≡ column_with_pages number id ps d told
    by (Ok es) e =
        more-joined c (pages_of_column told number id c.kind ps) es
        ∙ ap (λ (x : Column). column_with_pages number id ps x told) (ok_is {E = ReadError} (with_more c es) d e)
    by (Err e) h = absurd cc

pub pages-more : (told : List ℕ) (number id i : ℕ) (ps : List PageItem) (any : PageItem) (c d : Column) → i < length ps
    → column_with_page number id (get_or ps i any) c told ≡ Ok d
    → column_with_pages number id (drop i ps) c told ≡ column_with_pages number id (drop (i + 1) ps) d told
pages-more told number id i ps any c d lt h =
    ap (λ (l : List PageItem). column_with_pages number id l c told) (drop_more ps i any lt)
    ∙ page-next told number id (get_or ps i any) (drop (i + 1) ps) c d h

page-lost : (told : List ℕ) (number id : ℕ) (p : PageItem) (ps : List PageItem) (c : Column) (e : ReadError)
    → column_with_page number id p c told ≡ Err e
    → column_with_pages number id (p ∷ ps) c told ≡ Err e
page-lost told number id p ps c e h = by (page_of_column told number id c.kind p) h
  where
    by : (r : Result (List Element) ReadError) → (r >>= λ es. Ok (with_more c es)) ≡ Err e
        → ((r >>= λ first. pages_of_column told number id c.kind ps >>= λ others. Ok (first ++ others)) >>= λ es. Ok (with_more c es))
        ≡ Err e
    by (Ok es) e = absurd cc
    by (Err d) h = cc

pub pages-fail : (told : List ℕ) (number id i : ℕ) (ps : List PageItem) (any : PageItem) (c : Column) (e : ReadFailure) → i < length ps
    → IsReadOrFails (λ (d : Column). d) (Err e) (column_with_page number id (get_or ps i any) c told)
    → IsReadOrFails (λ (d : Column). d) (Err e) (column_with_pages number id (drop i ps) c told)
pages-fail told number id i ps any c (Defect d) lt h =
    ap (λ (l : List PageItem). column_with_pages number id l c told) (drop_more ps i any lt)
    ∙ page-lost told number id (get_or ps i any) (drop (i + 1) ps) c d h
pages-fail told number id i ps any c Fault lt h = tt
pages-fail told number id i ps any c Memory lt h = tt

-- no page more
pub pages-done : (told : List ℕ) (number id i : ℕ) (ps : List PageItem) (c : Column) → length ps ≤ i
    → column_with_pages number id (drop i ps) c told ≡ Ok c
pages-done told number id i ps c le =
    ap (λ (l : List PageItem). column_with_pages number id l c told) (drop_all i ps le)
    ∙ ap (λ (l : List Element). Ok (record { kind = c.kind; elements = l; zeros = c.zeros })) (append-nil c.elements)
