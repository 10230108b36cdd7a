-- What becomes of the parts of a file where its book gets a cluster, or columns.
use Rattle.std.specs.Prelude.{ℕ, ◌≡◌, List, [], ◌∷◌, ◌++◌, length}
use Rattle.nt_lists.specs.Parts.{part_bytes}
use Rattle.nt_outside.specs.Disk.{DiskState}
use Rattle.nt_grammar.specs.Table.{Table}
use Rattle.nt_book.specs.Books.{BookData, book_clusters}
use Rattle.nt_pages.specs.declared.image.ClusterImage.{ClusterImage}
use Rattle.nt_layout.specs.Headers.{header_sum}
use Rattle.nt_layout.specs.Beside.{HasListsBeside, parts_so_far}
use Rattle.nt_append.specs.Appending.{AppendsImage, AreSizesNoted, due_blobs, range_behind}

-- an image stands behind the clusters of a book and the page list that was due; page lists stand beside them, noted with their sizes, and
-- the parts of the file go on by just what was appended
pub record AppendsNext (image : ClusterImage) (old new : DiskState) (book book' : BookData) : Type 0 where
  pub appends : AppendsImage image old new book book'
  pub beside : (t : Table) (most : ℕ) → HasListsBeside t most book → HasListsBeside t most book'
  pub sizes : (t : Table) (most : ℕ) → HasListsBeside t most book → AreSizesNoted t most book → AreSizesNoted t most book'
  pub parts : (t : Table) (most : ℕ) (ranges : List (List ℕ)) → HasListsBeside t most book
      → length ranges ≡ length (book_clusters book)
      → part_bytes (parts_so_far t book' most (ranges ++ range_behind image book ∷ []))
      ≡ part_bytes (parts_so_far t book most ranges) ++ (due_blobs book ++ range_behind image book ∷ [])

-- no part of the file changes where its schema gets columns and keeps its header
pub record KeepsParts (new : Table) (book book' : BookData) : Type 0 where
  pub beside : (t : Table) (most : ℕ) → HasListsBeside t most book → header_sum new ≡ header_sum t → HasListsBeside new most book'
  pub sizes : (t : Table) (most : ℕ) → HasListsBeside t most book → header_sum new ≡ header_sum t → AreSizesNoted t most book
      → AreSizesNoted new most book'
  pub parts : (t : Table) (most : ℕ) (ranges : List (List ℕ)) → HasListsBeside t most book → header_sum new ≡ header_sum t
      → parts_so_far new book' most ranges ≡ parts_so_far t book most ranges
