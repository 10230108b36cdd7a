-- Clusters are read as the entries that they have.
use Rattle.std.proofs.Common.{◌≡◌, ℕ, ◌+◌, eqb, cond, Bool, true, false, List, [], ◌∷◌, ◌++◌, take, Option, Some, None, Ok, refl, sym}
use Rattle.std.proofs.Common.{subst, ◌∙◌}
use Rattle.std.proofs.lemmas.Bool.{eqb-true, eq-eqb, true≢false}
use Rattle.std.proofs.lemmas.Option.{none-some}
use Rattle.nt_lists.proofs.Variants.{some_is}
use Rattle.nt_format.specs.Pieces.{piece}
use Rattle.nt_format.specs.Relations.{Agrees, With, Is, Passes, IsThere}
use Rattle.nt_format.proofs.Relations.{bind, exactly, test, there, in_words}
use Rattle.nt_types.specs.TreeData.{TreesData}
use Rattle.nt_types.specs.declared.column_type.ColumnType.{ColumnType}
use Rattle.nt_encode.specs.Pages.{page_size}
use Rattle.nt_encode.specs.Elements.{Element, page_elements}
use Rattle.nt_grammar.specs.Table.{Table}
use Rattle.nt_grammar.specs.declared.rows.ColumnRow.{ColumnRow}
use Rattle.nt_plans.specs.Place.{open_plans}
use Rattle.nt_plans.specs.Needs.{need_of}
use Rattle.nt_trees.specs.Faults.{Spot, fault_in_any}
use Rattle.nt_trees.proofs.NoFault.{AllSound-no_fault}
use Rattle.nt_pagelists.specs.declared.column.KnownColumn.{KnownColumn}
use Rattle.nt_pagelists.specs.declared.page.PageItem.{PageItem}
use Rattle.nt_pagelists.specs.declared.cluster.ClusterList.{ClusterList}
use Rattle.nt_file_meaning.specs.Outlines.{known_column}
use Rattle.nt_file_meaning.specs.Clusters.{stored_len, is_checked, kind_of_code, page_of_column}
use Rattle.nt_file_meaning.specs.Clusters.{pages_of_column, pages_of_kind, pages_listed}
use Rattle.nt_file_meaning.specs.Clusters.{begins_behind, zero_elements, column_elements, columns_from, columns_by_id, no_value_fault}
use Rattle.nt_file_meaning.specs.Clusters.{entries_of_columns, cluster_of}
use Rattle.nt_file_meaning.specs.Holds.{HoldsPage, HoldsPages, no_page, and_page, HoldsColumn, closed}
use Rattle.nt_file_meaning.specs.Holds.{not_begun, untyped, in_pages, HoldsColumns}
use Rattle.nt_file_meaning.specs.Holds.{no_column, and_column, HoldsCluster}
use Rattle.nt_file_meaning.proofs.SoundBack.{fault_in_any-sound}

PageSteps : List ℕ → ColumnType → PageItem → List Element → Type 0
PageSteps file kind p =
    With (Passes (eqb p.size (page_size kind p.count))) λ u. With (IsThere (piece file p.place (stored_len p))) λ stored.
    With (Passes (is_checked p stored)) λ v. Is (page_elements kind p.count (take p.size stored))

page_steps : (file : List ℕ) (number id : ℕ) (kind : ColumnType) (p : PageItem)
    → Agrees (page_of_column file number id kind p) (PageSteps file kind p)
unfolding page_of_column PageSteps
page_steps file number id kind p = bind _ (test _ _) λ u t. bind _ (there _ _) λ stored s. bind _ (test _ _) λ v c. exactly _

pub page : (file : List ℕ) (number id : ℕ) (kind : ColumnType) (p : PageItem)
    → Agrees (page_of_column file number id kind p) (HoldsPage file kind p)
unfolding PageSteps
page file number id kind p = in_words
    (λ es w. record {
      stored = w.second.middle;
      size = eqb-true _ _ w.first;
      there = w.second.first;
      checked = w.second.second.first;
      gives = w.second.second.second;
    })
    (λ es h. record {
      middle = tt;
      first = eq-eqb _ _ h.size;
      second = record { middle = h.stored; first = h.there; second = record { middle = tt; first = h.checked; second = h.gives } };
    })
    (page_steps file number id kind p)

pages : (file : List ℕ) (number id : ℕ) (kind : ColumnType) (ps : List PageItem)
    → Agrees (pages_of_column file number id kind ps) (HoldsPages file kind ps)
pages file number id kind [] = in_words
    (λ es is. subst (λ (l : List Element). HoldsPages file kind [] l) (sym is) no_page)
    (λ es h. none es h)
    (exactly [])
  where
    none : (es : List Element) → HoldsPages file kind [] es → es ≡ []
    none es no_page = refl
pages file number id kind (p ∷ ps) = in_words
    (λ es w. subst (λ (l : List Element). HoldsPages file kind (p ∷ ps) l) (sym w.second.second) (and_page w.first w.second.first))
    (λ es h. some es h)
    (bind _ (page file number id kind p) λ first f. bind _ (pages file number id kind ps) λ others o. exactly (first ++ others))
  where
    some : (es : List Element) → HoldsPages file kind (p ∷ ps) es
        → With (HoldsPage file kind p) (λ first. With (HoldsPages file kind ps) (λ others. Is (first ++ others))) es
    some es (and_page {es = one} {others = others} first more) =
        record { middle = one; first = first; second = record { middle = others; first = more; second = refl } }

column_by : (file : List ℕ) (number : ℕ) (k : ClusterList) (id : ℕ) (c : KnownColumn) (code : ℕ) (is_open behind : Bool)
    (kind : Option ColumnType)
    → c.is_open ≡ is_open → begins_behind k c ≡ behind → kind_of_code code ≡ kind
    → Agrees (cond is_open (cond behind (Ok (zero_elements k.entries)) (pages_of_kind file number id kind (pages_listed k id)))
    (Ok [])) (HoldsColumn file k id c code)
column_by file number k id c code false behind kind o b n = in_words
    (λ es is. subst (λ (l : List Element). HoldsColumn file k id c code l) (sym is) (closed o))
    (λ es h. none es h)
    (exactly [])
  where
    none : (es : List Element) → HoldsColumn file k id c code es → es ≡ []
    none es (closed p) = refl
    none es (not_begun p q is) = absurd (true≢false (sym p ∙ o))
    none es (untyped p q r) = refl
    none es (in_pages p q r h) = absurd (true≢false (sym p ∙ o))
column_by file number k id c code true true kind o b n = in_words
    (λ es is. not_begun o b is)
    (λ es h. zeros es h)
    (exactly (zero_elements k.entries))
  where
    zeros : (es : List Element) → HoldsColumn file k id c code es → es ≡ zero_elements k.entries
    zeros es (closed p) = absurd (true≢false (sym o ∙ p))
    zeros es (not_begun p q is) = is
    zeros es (untyped p q r) = absurd (true≢false (sym b ∙ q))
    zeros es (in_pages p q r h) = absurd (true≢false (sym b ∙ q))
column_by file number k id c code true false None o b n = in_words
    (λ es is. subst (λ (l : List Element). HoldsColumn file k id c code l) (sym is) (untyped o b n))
    (λ es h. none es h)
    (exactly [])
  where
    none : (es : List Element) → HoldsColumn file k id c code es → es ≡ []
    none es (closed p) = refl
    none es (not_begun p q is) = absurd (true≢false (sym q ∙ b))
    none es (untyped p q r) = refl
    none es (in_pages {kind = kind} p q r h) = absurd (none-some kind (sym n ∙ r))
column_by file number k id c code true false (Some kind) o b n = in_words
    (λ es h. in_pages o b n h)
    (λ es h. stored es h)
    (pages file number id kind (pages_listed k id))
  where
    stored : (es : List Element) → HoldsColumn file k id c code es → HoldsPages file kind (pages_listed k id) es
    stored es (closed p) = absurd (true≢false (sym o ∙ p))
    stored es (not_begun p q is) = absurd (true≢false (sym q ∙ b))
    stored es (untyped p q r) = absurd (none-some kind (sym r ∙ n))
    stored es (in_pages {kind = other} p q r h) = subst (λ (t : ColumnType). HoldsPages file t (pages_listed k id) es)
        (some_is other kind (sym r ∙ n)) h

column : (file : List ℕ) (number : ℕ) (k : ClusterList) (id : ℕ) (c : KnownColumn) (code : ℕ)
    → Agrees (column_elements file number k id c code) (HoldsColumn file k id c code)
column file number k id c code = column_by file number k id c code c.is_open (begins_behind k c) (kind_of_code code) refl refl refl

columns : (file : List ℕ) (number : ℕ) (k : ClusterList) (t : Table) (id : ℕ) (cs : List ColumnRow)
    → Agrees (columns_from file number k t id cs) (HoldsColumns file k t id cs)
columns file number k t id [] = in_words
    (λ es is. subst (λ (l : List (List Element)). HoldsColumns file k t id [] l) (sym is) no_column)
    (λ es h. none es h)
    (exactly [])
  where
    none : (es : List (List Element)) → HoldsColumns file k t id [] es → es ≡ []
    none es no_column = refl
columns file number k t id (c ∷ cs) = in_words
    (λ es w. subst (λ (l : List (List Element)). HoldsColumns file k t id (c ∷ cs) l) (sym w.second.second)
    (and_column w.first w.second.first))
    (λ es h. some es h)
    (bind _ (column file number k id (known_column (need_of t id) c) c.code) λ first f. bind _ (columns file number k t (id + 1) cs)
    λ others o. exactly (first ∷ others))
  where
    some : (es : List (List Element)) → HoldsColumns file k t id (c ∷ cs) es
        → With (HoldsColumn file k id (known_column (need_of t id) c) c.code)
        (λ first. With (HoldsColumns file k t (id + 1) cs) (λ others. Is (first ∷ others))) es
    some es (and_column {es = one} {others = others} first more) =
        record { middle = one; first = first; second = record { middle = others; first = more; second = refl } }

no_fault : (number : ℕ) (k : ClusterList) (spot : Option Spot) → Agrees (no_value_fault number k spot) (λ u. spot ≡ None)
no_fault number k None = record { reads = λ u h. refl; finds = λ u e. refl }
no_fault number k (Some s) = record { reads = λ u h. absurd cc; finds = λ u e. absurd cc }

ClusterSteps : List ℕ → Table → ℕ → ClusterList → List TreesData → Type 0
ClusterSteps file t number k =
    With (HoldsColumns file k t 0 t.columns) λ columns. With (λ (u : Unit {0}). fault_in_any (open_plans t) (columns_by_id columns)
    k.entries ≡ None) λ u.
    Is (entries_of_columns t columns k.entries)

cluster_steps : (file : List ℕ) (t : Table) (number : ℕ) (k : ClusterList)
    → Agrees (cluster_of file t number k) (ClusterSteps file t number k)
unfolding cluster_of ClusterSteps
cluster_steps file t number k = bind _ (columns file number k t 0 t.columns) λ cs h. bind _ (no_fault number k _) λ u n. exactly _

pub cluster : (file : List ℕ) (t : Table) (number : ℕ) (k : ClusterList) → Agrees (cluster_of file t number k) (HoldsCluster file t k)
unfolding ClusterSteps
cluster file t number k = in_words
    (λ es w. record {
      columns = w.middle;
      holds = w.first;
      sound = AllSound-no_fault (open_plans t) (columns_by_id w.middle) k.entries w.second.first;
      give = w.second.second;
    })
    (λ es h. record {
      middle = h.columns;
      first = h.holds;
      second = record {
        middle = tt;
        first = fault_in_any-sound (open_plans t) (columns_by_id h.columns) k.entries h.sound;
        second = h.give;
      };
    })
    (cluster_steps file t number k)
