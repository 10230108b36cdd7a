use Rattle.nt_book.specs.Books.{book_clusters}
use Rattle.nt_seq.proofs.Blobs.{late-length, late-entries}
use Rattle.nt_seq.proofs.laws.written_clusters_are_counted.Goals as goal

pub returns : goal.returns
returns c = λ given disk t p book clusters has. (
  late-length t p.page 0 clusters has.ranges (book_clusters book) has.late,
  late-entries t p.page 0 clusters has.ranges (book_clusters book) has.late,
)
