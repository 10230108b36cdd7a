-- What is kept of a cluster, by its parts.
use Rattle.std.proofs.Common.{◌≡◌, ℕ, List, refl}
use Rattle.nt_book.specs.declared.meta.PageMeta.{PageMeta}
use Rattle.nt_book.specs.declared.meta.ClusterMeta.{ClusterMeta}

pub meta-same : (entries n m : ℕ) (ps qs : List (List PageMeta)) → n ≡ m → ps ≡ qs
    → ◌≡◌ {A = ClusterMeta} (record { context = 0; entries = entries; len = n; pages = ps })
    (record { context = 0; entries = entries; len = m; pages = qs })
meta-same entries n m ps qs len pages = rw (len, pages) refl
