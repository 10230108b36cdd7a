-- The columns of a cluster, whose pages were loaded or not.
use Rattle.std.proofs.Common.{◌≡◌, ℕ, ◌+◌, List, length, Option, None, Some, Result, Ok, Err, refl, sym, ap, subst, ◌∙◌, arith}
use Rattle.nt_num.specs.declared.fault.ReadError.{ReadError}
use Rattle.nt_lists.specs.Chaining.{◌>>=◌}
use Rattle.nt_encode.specs.Elements.{Element}
use Rattle.nt_grammar.specs.Table.{Table}
use Rattle.nt_pagelists.specs.declared.cluster.ClusterList.{ClusterList}
use Rattle.nt_tfile.specs.declared.failure.ReadFailure.{ReadFailure}
use Rattle.nt_tfile.specs.Calls.{IsReadOrFails}
use Rattle.nt_view.specs.declared.page_place.PagePlace.{PagePlace}
use Rattle.nt_view.specs.declared.page_place.ZeroColumn.{ZeroColumn}
use Rattle.nt_view.specs.declared.fault.ViewFault.{ViewFault}
use Rattle.nt_view.specs.Loads.{load_of, IsLoadedAs}
use Rattle.nt_view.specs.Loaded.{Loaded, AreLoadable, loaded_with}
use Rattle.nt_file_meaning.specs.Clusters.{columns_from}
use Rattle.nt_listing.specs.Listings.{Listed, columns_listed, pages_kept, none_wrong, listed_bytes, columns_of_loaded, AreColumnsOf}
use Rattle.nt_listing.specs.Listed.{IsLoadFailure}
use Rattle.nt_listing.proofs.Chains.{fails, fails-as}
use Rattle.nt_listing.proofs.FoundPages.{loaded-stored, load-fails}
use Rattle.nt_listing.proofs.ListedColumns.{loaded_as}
use Rattle.nt_listing.proofs.ColumnsBehind.{IsAfter, columns-after, columns-listed, columns-are}

after : (number : ℕ) (k : ClusterList) (t : Table) (l : Listed) → l ≡ columns_listed number k t 0 t.columns → IsAfter 0 (length t.columns) l
after number k t l is =
    let all : 0 + length t.columns ≡ length t.columns = omega arith in
    rw is (rw all at (columns-after number k t 0 t.columns))

-- what is listed can be loaded
pub listed-loadable : (number : ℕ) (k : ClusterList) (t : Table) (l : Listed) (ps : List PagePlace) (zs : List ZeroColumn)
    → l ≡ columns_listed number k t 0 t.columns → ps ≡ l.pages → zs ≡ l.zeros → AreLoadable ps zs
listed-loadable number k t l ps zs is pages zeros = rw (pages, zeros) (after number k t l is).loadable

listed-first : (told : List ℕ) (number : ℕ) (k : ClusterList) (t : Table) (l : Listed) → l ≡ columns_listed number k t 0 t.columns
    → columns_from told number k t 0 t.columns
    ≡ (listed_bytes told number l >>= λ bs. Ok (columns_of_loaded 0 (length t.columns) (loaded_as l bs)))
listed-first told number k t l is = rw is (columns-listed told number k t 0 t.columns)

-- where a page has a fault
pub columns-failed : {V : Type 0} (view : V → List (List Element)) (told : List ℕ) (number : ℕ) (k : ClusterList) (t : Table) (l : Listed)
    (ps qs : List PagePlace) (zs : List ZeroColumn) (v : ViewFault) (failure : ReadFailure)
    → l ≡ columns_listed number k t 0 t.columns → ps ≡ l.pages → zs ≡ l.zeros → qs ≡ l.pages
    → IsLoadedAs {V = Loaded} (λ c. c) (Err v) (load_of told ps zs) → IsLoadFailure number qs v failure
    → IsReadOrFails view (Err failure) (columns_from told number k t 0 t.columns)
columns-failed view told number k t l ps qs zs v failure is pages zeros same loaded failed =
    let here : IsReadOrFails {V = List (List ℕ)} (λ x. x) (Err failure) (pages_kept told number l.pages) =
    load-fails told number l.pages l.zeros v failure (rw (pages, zeros) at loaded) (rw same at failed) in
    let bytes : IsReadOrFails {V = List (List ℕ)} (λ x. x) (Err failure) (listed_bytes told number l) =
    fails (λ (x : List (List ℕ)). x) (λ (x : List (List ℕ)). x) failure (pages_kept told number l.pages) _ here in
    fails-as view view failure (listed_bytes told number l >>= λ bs. Ok (columns_of_loaded 0 (length t.columns) (loaded_as l bs)))
    (columns_from told number k t 0 t.columns) (listed-first told number k t l is)
    (fails (λ (x : List (List ℕ)). x) view failure (listed_bytes told number l) _ bytes)

-- where all pages were loaded
loaded-first : (told : List ℕ) (number : ℕ) (k : ClusterList) (t : Table) (l : Listed) (ps : List PagePlace) (zs : List ZeroColumn)
    (c : Loaded)
    → l ≡ columns_listed number k t 0 t.columns → ps ≡ l.pages → zs ≡ l.zeros → load_of told ps zs ≡ Ok c
    → columns_from told number k t 0 t.columns ≡ (none_wrong l.wrong >>= λ u. Ok (columns_of_loaded 0 (length t.columns) c))
loaded-first told number k t l ps zs c is pages zeros loaded =
    let found = loaded-stored told number l.pages l.zeros c (rw (pages, zeros) at loaded) in
    listed-first told number k t l is
    ∙ ap (λ (r : Result (List (List ℕ)) ReadError). (r >>= λ stored. none_wrong l.wrong >>= λ u. Ok stored)
    >>= λ bs. Ok (columns_of_loaded 0 (length t.columns) (loaded_as l bs))) found.1
    ∙ joined found.0 (none_wrong l.wrong)
    ∙ ap (λ (x : Loaded). none_wrong l.wrong >>= λ u. Ok (columns_of_loaded 0 (length t.columns) x)) found.2
  where
    joined : (bs : List (List ℕ)) (w : Result (Unit {0}) ReadError)
        → ((w >>= λ u. Ok bs) >>= λ bs. Ok (columns_of_loaded 0 (length t.columns) (loaded_as l bs)))
        ≡ (w >>= λ u. Ok (columns_of_loaded 0 (length t.columns) (loaded_as l bs)))
    joined bs (Ok u) = refl
    joined bs (Err e) = refl

pub columns-wrong : (told : List ℕ) (number : ℕ) (k : ClusterList) (t : Table) (l : Listed) (ps : List PagePlace) (zs : List ZeroColumn)
    (c : Loaded) (e : ReadError) → l ≡ columns_listed number k t 0 t.columns → ps ≡ l.pages → zs ≡ l.zeros → load_of told ps zs ≡ Ok c
    → l.wrong ≡ Some e → columns_from told number k t 0 t.columns ≡ Err e
columns-wrong told number k t l ps zs c e is pages zeros loaded wrong =
    loaded-first told number k t l ps zs c is pages zeros loaded
    ∙ ap (λ (w : Option ReadError). none_wrong w >>= λ u. Ok (columns_of_loaded 0 (length t.columns) c)) wrong

pub columns-right : (told : List ℕ) (number : ℕ) (k : ClusterList) (t : Table) (l : Listed) (ps : List PagePlace) (zs : List ZeroColumn)
    (c : Loaded) → l ≡ columns_listed number k t 0 t.columns → ps ≡ l.pages → zs ≡ l.zeros → load_of told ps zs ≡ Ok c
    → l.wrong ≡ None → columns_from told number k t 0 t.columns ≡ Ok (columns_of_loaded 0 (length t.columns) c)
columns-right told number k t l ps zs c is pages zeros loaded right =
    loaded-first told number k t l ps zs c is pages zeros loaded
    ∙ ap (λ (w : Option ReadError). none_wrong w >>= λ u. Ok (columns_of_loaded 0 (length t.columns) c)) right

-- these are columns by their ids
pub columns-all : (number : ℕ) (k : ClusterList) (t : Table) (l : Listed) (c : Loaded) → l ≡ columns_listed number k t 0 t.columns
    → c.pages ≡ l.pages → c.zeros ≡ l.zeros → AreColumnsOf (length t.columns) c
columns-all number k t l c is pages zeros =
    let same : loaded_as l c.stored ≡ c =
    ap (λ (ps : List PagePlace). loaded_with ps c.stored l.zeros) (sym pages)
    ∙ ap (λ (zs : List ZeroColumn). loaded_with c.pages c.stored zs) (sym zeros) in
    subst (λ (x : Loaded). AreColumnsOf (length t.columns) x) same (columns-are (length t.columns) l c.stored (after number k t l is))
