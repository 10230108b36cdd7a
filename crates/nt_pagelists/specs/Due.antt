-- The page list that a book is due, of the first full group that has none.
use Rattle.std.specs.Prelude.{ℕ, List, length, Option, Some, None}
use Rattle.nt_book.specs.Books.{BookData}
use Rattle.nt_book.specs.Listing.{clusters_listed, group_size}
use Rattle.nt_pagelists.specs.Blobs.{blob_len}
use Rattle.nt_pagelists.specs.Objects.{ClusterSpan, list_object}

-- the checksum of the header that page lists name; without groups none is named
abbrev pub group_sum : Option (ℕ × ℕ) → ℕ
group_sum None = 0
group_sum (Some g) = g.1

-- its clusters
abbrev pub due_span : BookData → ClusterSpan
due_span book = record { from = clusters_listed (group_size book.group) book.lists; count = group_size book.group }

-- the page list
unfoldable pub due_object : BookData → List ℕ
due_object book = list_object (group_sum book.group) book (due_span book)

-- how many bytes its blob has
abbrev pub due_len : BookData → ℕ
due_len book = blob_len (length (due_object book))
