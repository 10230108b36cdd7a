-- With which size the page lists of a book are noted once it has one cluster more, or columns more.
use Rattle.std.proofs.Common.{◌≡◌, refl, ℕ, List, ◌++◌, length}
use Rattle.nt_grammar.specs.Table.{Table}
use Rattle.nt_book.specs.declared.meta.ClusterMeta.{ClusterMeta}
use Rattle.nt_book.specs.Books.{BookData}
use Rattle.nt_book.specs.Kept.{IsBookKept}
use Rattle.nt_layout.specs.Headers.{header_sum}
use Rattle.nt_layout.specs.Beside.{HasListsBeside}
use Rattle.nt_append.specs.Appending.{AreSizesNoted, GainsCluster, with_due_list}
use Rattle.nt_append.proofs.Grown.{noted-grown}
use Rattle.nt_append.proofs.Widened.{noted-wide}

-- one cluster more
pub sizes-grown : (t : Table) (most : ℕ) (old new : BookData) (meta : ClusterMeta) → IsBookKept old → HasListsBeside t most old
    → GainsCluster meta (with_due_list old) new → AreSizesNoted t most old → AreSizesNoted t most new
sizes-grown t most old new meta kept beside gains were =
    noted-grown t most old new meta kept beside gains (λ object l. l.at.size ≡ length object) were refl

-- columns more
pub sizes-wide : (t u : Table) (most : ℕ) (old new : BookData) (more : List ℕ) → IsBookKept old → IsBookKept new
    → HasListsBeside t most old → header_sum u ≡ header_sum t → new ≡ record old { firsts = old.firsts ++ more }
    → AreSizesNoted t most old → AreSizesNoted u most new
sizes-wide t u most old new more kept kept' beside sum is were =
    noted-wide t u most old new more kept kept' beside sum is (λ object l. l.at.size ≡ length object) were
