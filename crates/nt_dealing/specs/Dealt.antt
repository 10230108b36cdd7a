-- The clusters of a file, dealt out: in the order of their commits, each context's chunks whole, once, and in their own order.
use Rattle.std.specs.Prelude.{◌≡◌, ℕ, Bool, List, ◌++◌, map, take, length, Option}
use Rattle.std.specs.List.{concat}
use Rattle.nt_lists.specs.Parts.{Part, part_bytes}
use Rattle.nt_types.specs.TreeData.{TreesData}
use Rattle.nt_grammar.specs.Table.{Table}
use Rattle.nt_outside.specs.Held.{Held, BecomesSome}
use Rattle.nt_outside.specs.Reads.{IsKnown}
use Rattle.nt_machine.specs.Deal.{UsesFor, IsDeal}
use Rattle.nt_machine.specs.declared.entry.Entry.{Entry}
use Rattle.nt_machine.specs.History.{Cluster, order_of}
use Rattle.nt_machine.specs.Legal.{IsLegal}
use Rattle.nt_book.specs.declared.meta.ClusterMeta.{ClusterMeta}
use Rattle.nt_book.specs.declared.params.Params.{Params}
use Rattle.nt_book.specs.Books.{BookData, book_ranges, book_clusters}
use Rattle.nt_commit.specs.Locked.{GainsLists}
use Rattle.nt_layout.specs.Arranged.{HasLists, parts_filled}
use Rattle.nt_layout.specs.Laid.{AreBlobsOf, range_of}
use Rattle.nt_finished.specs.Filled.{FillsBook}

-- the commit order of a book: the context of each cluster
abbrev pub commit_order : BookData → List ℕ
commit_order book = order_of (book_clusters book)

-- the clusters of a book are the chunks of its contexts, dealt out in the commit order, those of each context together where they are
-- staged; each of its ranges is a cluster; and these are its ranges, those of the clusters the blobs of their chunks
pub record AreChunksDealt (staged : Bool) (t : Table) (page : ℕ) (chunks : List (List (List TreesData))) (book : BookData)
    (ranges : List (List ℕ)) : Type 0 where
  pub uses : UsesFor staged (commit_order book) chunks
  pub dealt : List (List TreesData)
  pub is_deal : IsDeal chunks (commit_order book) dealt
  pub all : length (book_clusters book) ≡ length (book_ranges book)
  pub lens : map length ranges ≡ map (λ (c : Cluster ClusterMeta). c.len) (book_ranges book)
  pub blobs_are : AreBlobsOf t page dealt (map (range_of ranges) (book_clusters book)) (book_clusters book)

-- behind what a disk held at the beginning, where the first range begins there, come the steps of a history of ranges, page lists between
-- them, and what is left of one that failed; and what stood there stays where each byte of it was told
pub record FillsBehind (begin : ℕ) (old new : Held) : Type 0 where
  pub history : List (Entry ClusterMeta)
  pub legal : IsLegal begin history
  pub end : ℕ
  pub lists : List Part
  pub torn : List ℕ
  pub gains : GainsLists begin end history lists torn old new
  pub front : IsKnown old.log old.image → take (length old.image) new.image ≡ old.image

-- each range was settled with its bytes, the page lists are those that the book notes, and just these stand behind what stood there
pub record FillsWith (staged : Bool) (t : Table) (most : ℕ) (book : BookData) (ranges : List (List ℕ)) (old new : Held) : Type 0 where
  pub fills : FillsBehind book.begin old new
  pub fills_book : FillsBook staged t most book ranges fills.history fills.end fills.lists
  pub stand : IsKnown old.log old.image → new.image ≡ old.image ++ concat (part_bytes (parts_filled staged t book most ranges))

-- the chunks were dealt out, the page lists of their full groups stand beside them, unless they are staged, none of which failed, and the
-- disk holds all this
pub record IsDealtOut (t : Table) (p : Params) (chunks : List (List (List TreesData))) (book : BookData)
    (begun now : Option Held) : Type 0 where
  pub ranges : List (List ℕ)
  pub are : AreChunksDealt p.staged t p.page chunks book ranges
  pub lists : HasLists p.staged t p.group book
  pub stand : BecomesSome begun now (FillsWith p.staged t p.group book ranges)
