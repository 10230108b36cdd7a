-- How far a file is written.
use Rattle.std.specs.Prelude.{◌≡◌, ℕ, Bool, List, ◌++◌, map, length}
use Rattle.nt_lists.specs.Parts.{Part}
use Rattle.nt_outside.specs.Log.{Step}
use Rattle.nt_outside.specs.Held.{Held, nothing_held}
use Rattle.nt_container.specs.Spelling.{begun}
use Rattle.nt_types.specs.TreeData.{TreesData}
use Rattle.nt_grammar.specs.Table.{Table}
use Rattle.nt_machine.specs.declared.entry.Entry.{Entry}
use Rattle.nt_machine.specs.History.{Cluster, ranges_of}
use Rattle.nt_machine.specs.Legal.{IsLegal}
use Rattle.nt_logged.specs.Logs.{IsLogOf}
use Rattle.nt_book.specs.declared.meta.ClusterMeta.{ClusterMeta}
use Rattle.nt_book.specs.Books.{BookData, book_ranges, book_clusters}
use Rattle.nt_close.specs.Steps.{begun_on, IsBegunSoFar, IsClosedSoFar}
use Rattle.nt_close.specs.Filled.{closing_tail, closing_front}
use Rattle.nt_layout.specs.Headers.{header_blob, clusters_place}
use Rattle.nt_layout.specs.Arranged.{HasLists}
use Rattle.nt_layout.specs.Laid.{AreBlobsOf, Measures, IsWithin, IsBookOf, range_of}
use Rattle.nt_finished.specs.Filled.{FillsBook}

-- what is held of a file of this schema that is begun
abbrev pub begun_file : Table → Held
begun_file t = begun_on (begun 0 0 0) (header_blob t) nothing_held

-- the steps that began the file, and then those of a history whose ranges begin behind the header, with these page lists appended between
-- them, and appends that failed
pub record IsFilling (t : Table) (log : List Step) : Type 0 where
  pub history : List (Entry ClusterMeta)
  pub legal : IsLegal (clusters_place t) history
  pub end : ℕ
  pub lists : List Part
  pub torn : List ℕ
  pub steps : List Step
  pub is : log ≡ (begun_file t).log ++ steps
  pub is_log : IsLogOf (clusters_place t) end history lists torn steps

-- and each range of a book was settled with its bytes, and each page list that it notes was appended, in groups of so many clusters
pub record IsFilled (staged : Bool) (t : Table) (most : ℕ) (book : BookData) (ranges : List (List ℕ)) (log : List Step) : Type 0 where
  pub filling : IsFilling t log
  pub fills : FillsBook staged t most book ranges filling.history filling.end filling.lists

-- each range is a cluster, and these are the blobs of these entries, one by one; and the file of their book is one of this schema, with
-- page lists where its measures say, and within these
pub record IsFilledWith (t : Table) (clusters : List (List TreesData)) (m : Measures) (book : BookData) (log : List Step) : Type 0 where
  pub is_of : IsBookOf t book
  pub listed : HasLists m.staged t m.group book
  pub within : IsWithin t m book
  pub all : length (book_clusters book) ≡ length (book_ranges book)
  pub ranges : List (List ℕ)
  pub lens : map length ranges ≡ map (λ (c : Cluster ClusterMeta). c.len) (ranges_of book.history)
  pub blobs_are : AreBlobsOf t m.page clusters (map (range_of ranges) (book_clusters book)) (book_clusters book)
  pub filled : IsFilled m.staged t m.group book ranges log

-- how far the file of these entries is written, whichever step failed
pub data IsWrittenSoFar (t : Table) (clusters : List (List TreesData)) (m : Measures) (book : BookData) (left : Held) : Type 0 where
  -- it is begun, or so far
  in_beginning : IsBegunSoFar (begun 0 0 0) (header_blob t) nothing_held left → IsWrittenSoFar t clusters m book left
  -- and has ranges of its contexts
  in_filling : IsFilling t left.log → IsWrittenSoFar t clusters m book left
  -- and all ranges, and is closed, or so far
  in_closing : {h : Held} → IsFilledWith t clusters m book h.log
      → IsClosedSoFar (closing_tail m.staged t book m.group) (closing_front m.staged t book m.group) h left
      → IsWrittenSoFar t clusters m book left
