-- The steps of contexts that fill the file of a book.
use Rattle.std.specs.Prelude.{◌≡◌, ℕ, Bool, List, map, length, Some}
use Rattle.std.specs.List.{AllZip}
use Rattle.nt_lists.specs.Parts.{Part}
use Rattle.nt_grammar.specs.Table.{Table}
use Rattle.nt_machine.specs.declared.entry.Entry.{Entry}
use Rattle.nt_machine.specs.History.{Cluster, Settled, ranges_of}
use Rattle.nt_machine.specs.Legal.{spans_of}
use Rattle.nt_book.specs.declared.meta.ClusterMeta.{ClusterMeta}
use Rattle.nt_book.specs.Books.{BookData, book_end}
use Rattle.nt_book.specs.Kept.{IsBookKept}
use Rattle.nt_layout.specs.Headers.{header_sum, clusters_place}
use Rattle.nt_layout.specs.Groups.{list_parts}
use Rattle.nt_layout.specs.Arranged.{HasLists, lists_between}

-- the ranges of a kept book begin behind the header, it has its page lists behind all ranges or beside its clusters, and these ranges are
-- as long as it says
pub record IsArrangedBook (staged : Bool) (t : Table) (most : ℕ) (book : BookData) (ranges : List (List ℕ)) : Type 0 where
  pub kept : IsBookKept book
  pub lists : HasLists staged t most book
  pub begin : book.begin ≡ clusters_place t
  pub lens : map length ranges ≡ map (λ (c : Cluster ClusterMeta). c.len) (ranges_of book.history)

-- a history settled each range with its bytes, where a book has it; these page lists are those that the book notes; and the file ends
-- where the book does
pub record FillsBook (staged : Bool) (t : Table) (most : ℕ) (book : BookData) (ranges : List (List ℕ)) (history : List (Entry
    ClusterMeta)) (end : ℕ) (lists : List Part) : Type 0 where
  pub settled : AllZip (λ range (c : Cluster ClusterMeta). c.state ≡ Settled (Some range)) ranges (ranges_of history)
  pub same : spans_of (ranges_of history) ≡ spans_of (ranges_of book.history)
  pub noted : lists ≡ list_parts (header_sum t) book (lists_between staged t book most)
  pub ends : end ≡ book_end book
