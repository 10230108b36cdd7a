-- The page lists of a book, as they are noted, and those of one whose memory changes.
use Rattle.std.proofs.Common.{◌≡◌, ◌∙◌, ap, sym, refl, subst, ℕ, ◌≤◌, Bool, false, List, length, Option}
use Rattle.std.specs.List.{AllByRecursion}
use Rattle.nt_grammar.specs.Table.{Table}
use Rattle.nt_machine.specs.History.{Cluster}
use Rattle.nt_book.specs.declared.limits.LimitError.{LimitError}
use Rattle.nt_book.specs.declared.list.NotedList.{NotedList}
use Rattle.nt_book.specs.declared.meta.ClusterMeta.{ClusterMeta}
use Rattle.nt_book.specs.declared.params.Params.{Params}
use Rattle.nt_book.specs.Books.{BookData, book_clusters, book_ranges, book_end}
use Rattle.nt_book.specs.Limiting.{limit_error_with}
use Rattle.nt_pagelists.proofs.Named.{clusters-unstaged}
use Rattle.nt_pagelists.specs.Objects.{list_object}
use Rattle.nt_layout.specs.Arranged.{group_for}
use Rattle.nt_layout.specs.Beside.{HasListsBeside, parts_so_far}
use Rattle.nt_layout.specs.Headers.{header_sum}
use Rattle.nt_close.specs.Filled.{AreListsNoted}
use Rattle.nt_append.specs.Appending.{AreSizesNoted}

-- each is noted with its size
pub lists-sizes : (t : Table) (p : Params) (book : BookData) → AreListsNoted t p book → AreSizesNoted t p.group book
lists-sizes t p book lists k less = (lists.noted k less).size

-- they are noted where they stand beside the clusters, none of which is staged, each with its size and no longer than a range may get
pub lists-noted : (t : Table) (p : Params) (book : BookData) → p.staged ≡ false → book.staged ≡ false
    → HasListsBeside t p.group book → AreSizesNoted t p.group book
    → AllByRecursion (λ (l : NotedList). l.len ≤ p.limits.range) book.lists → AreListsNoted t p book
lists-noted t p book flat none beside sizes short = record {
  staged = none ∙ sym flat;
  group = beside.group ∙ sym (ap (λ (b : Bool). group_for b p.group (header_sum t)) flat);
  noted = λ k less. record { size = sizes k less; len = beside.noted k less };
  short = short;
}

-- ---- memory

lists-room : (t : Table) (p : Params) (spare : ℕ) (book : BookData) → AreListsNoted t p book
    → AreListsNoted t p (record book { spare = spare })
unfolding list_object
lists-room t p spare book lists = record {
  staged = lists.staged;
  group = lists.group;
  noted = λ k less. record { size = (lists.noted k less).size; len = (lists.noted k less).len };
  short = lists.short;
}

parts-room : (t : Table) (most spare : ℕ) (book : BookData) (ranges : List (List ℕ))
    → parts_so_far t (record book { spare = spare }) most ranges ≡ parts_so_far t book most ranges
unfolding list_object
parts-room t most spare book ranges = refl

module _ (book room : BookData) (is : room ≡ record book { spare = room.spare }) where
  pub lists-kept : (t : Table) (p : Params) → AreListsNoted t p book → AreListsNoted t p room
  lists-kept t p lists = subst (AreListsNoted t p) (sym is) (lists-room t p room.spare book lists)

  pub parts-kept : (t : Table) (most : ℕ) (ranges : List (List ℕ)) → parts_so_far t room most ranges ≡ parts_so_far t book most ranges
  parts-kept t most ranges =
      ap (λ (b : BookData). parts_so_far t b most ranges) is ∙ parts-room t most room.spare book ranges

-- ---- limits

-- each range is a cluster, so the limits are those of the clusters
pub limits-unstaged : (book : BookData) (len list : ℕ) (error : Option LimitError) → book.staged ≡ false
    → limit_error_with book.limits (book_end book) (length (book_ranges book)) len list ≡ error
    → limit_error_with book.limits (book_end book) (length (book_clusters book)) len list ≡ error
limits-unstaged book len list error flat is =
    ap (λ (cs : List (Cluster ClusterMeta)). limit_error_with book.limits (book_end book) (length cs) len list)
    (clusters-unstaged book flat)
    ∙ is
