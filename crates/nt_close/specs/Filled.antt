-- What stands of a file whose clusters are all written, and what is left to be written of it.
use Rattle.std.specs.Prelude.{◌≡◌, ℕ, ◌<◌, ◌≤◌, Bool, List, ◌++◌, length}
use Rattle.std.specs.List.{AllByRecursion, concat}
use Rattle.nt_lists.specs.Parts.{part_bytes}
use Rattle.nt_grammar.specs.Table.{Table}
use Rattle.nt_book.specs.declared.list.NotedList.{NotedList}
use Rattle.nt_book.specs.declared.params.Params.{Params}
use Rattle.nt_book.specs.Books.{BookData, noted_at}
use Rattle.nt_pagelists.specs.Objects.{ClusterSpan, list_object, list_len}
use Rattle.nt_layout.specs.Headers.{header_sum, file_begun}
use Rattle.nt_layout.specs.Finished.{list_places, list_blobs, ending, front}
use Rattle.nt_layout.specs.Beside.{full_span}
use Rattle.nt_layout.specs.Arranged.{group_for, lists_after, parts_filled}

-- this is noted of the page list of these clusters: how long it is, and its blob
pub record IsNotedOf (sum : ℕ) (book : BookData) (s : ClusterSpan) (l : NotedList) : Type 0 where
  pub size : l.at.size ≡ length (list_object sum book s)
  pub len : l.len ≡ list_len sum book s

-- the clusters of a book are staged where these parameters say so, or else page lists stand beside them, in groups of these parameters and
-- under the header of this schema: each that is noted is that of its group, and no longer than a range may get
pub record AreListsNoted (t : Table) (p : Params) (book : BookData) : Type 0 where
  pub staged : book.staged ≡ p.staged
  pub group : book.group ≡ group_for p.staged p.group (header_sum t)
  pub noted : (k : ℕ) → k < length book.lists → IsNotedOf (header_sum t) book (full_span p.group k) (noted_at book k)
  pub short : AllByRecursion (λ (l : NotedList). l.len ≤ p.limits.range) book.lists

-- a file that was begun, and holds the ranges of the clusters, with these bytes, and the page lists that are noted
abbrev pub filled_file : Bool → Table → BookData → ℕ → List (List ℕ) → List ℕ
filled_file staged t book most ranges = file_begun t ++ concat (part_bytes (parts_filled staged t book most ranges))

-- what closing writes behind it: the page lists that are left, and the ending
abbrev pub closing_tail : Bool → Table → BookData → ℕ → List ℕ
closing_tail staged t book most =
    concat (list_blobs t book (lists_after staged t book most)) ++ ending t book (list_places staged t book most)

-- what closing writes over its front, behind the first byte
abbrev pub closing_front : Bool → Table → BookData → ℕ → List ℕ
closing_front staged t book most = front t book (list_places staged t book most)
