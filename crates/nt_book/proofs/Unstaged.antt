-- Nobody publishes where clusters aren't staged.
use Rattle.std.proofs.Common.{◌≡◌, ℕ, false, List, [], ◌∷◌, ◌++◌, refl, ap, ◌∙◌}
use Rattle.nt_machine.specs.History.{publisher, publishers_of}
use Rattle.nt_machine.specs.Staging.{IsStagedAfter, IsStagedKind, KeepsStaging}
use Rattle.nt_machine.specs.declared.entry.Entry.{Entry}
use Rattle.nt_machine.specs.declared.entry.EntryKind.{EntryKind}
use Rattle.nt_machine.specs.declared.entry.EntryKind.TheVariants as entry
use Rattle.nt_book.specs.declared.meta.ClusterMeta.{ClusterMeta}

none-publishes : (published : List ℕ) (history : List (Entry ClusterMeta)) → IsStagedAfter false published history
    → publishers_of history ≡ []
none-publishes published [] h = refl
none-publishes published (e ∷ es) h =
    ap (λ (l : List ℕ). l ++ publishers_of es) (none e.context e.kind h.0.0)
    ∙ none-publishes (published ++ publisher e.context e.kind) es h.1
  where
    none : (c : ℕ) (kind : EntryKind ClusterMeta) → IsStagedKind false kind → publisher c kind ≡ []
    none c (entry.Committed n start len meta) is = refl
    none c (entry.Reserved n start len meta) is = absurd (cc is)
    none c (entry.Published ns) is = absurd (cc is)
    none c (entry.Settled n bytes) is = refl
    none c (entry.Spoiled n faults) is = refl
    none c (entry.Faulted faults) is = refl

pub unstaged-publishers : (history : List (Entry ClusterMeta)) → KeepsStaging false history → publishers_of history ≡ []
unstaged-publishers history h = none-publishes [] history h
