-- The log of a file that contexts fill.
use Rattle.std.proofs.Common.{sym, subst, List, [], arith}
use Rattle.std.specs.List.{AllByRecursion}
use Rattle.nt_outside.specs.Log.{Step}
use Rattle.nt_logged.specs.Stands.{IsBehind}
use Rattle.nt_grammar.specs.Table.{Table}
use Rattle.nt_book.specs.declared.meta.ClusterMeta.{ClusterMeta}
use Rattle.nt_layout.specs.Headers.{clusters_place}
use Rattle.nt_cuts.specs.Shut.{StaysShut}
use Rattle.nt_cuts.proofs.Keeping.{StepsStand, shut-append, tail-spares}
use Rattle.nt_close.proofs.Crashes.{begun-shut}
use Rattle.nt_crash.specs.Fillings.{begun_file, IsFilling}

-- a file that is being filled leaves its first byte as it is
pub filling-shut : StepsStand ClusterMeta → (t : Table) (log : List Step) → IsFilling t log → StaysShut log
filling-shut stand t log filling =
    let steps = filling.steps in
    let place = clusters_place t in
    subst StaysShut (sym filling.is)
    (shut-append (begun_file t).log steps (begun-shut t)
    (tail-spares place place [] steps (omega arith) filling.is_log.tail
    (subst (λ (l : List Step). AllByRecursion (IsBehind place) l) (sym filling.is_log.ranges)
    (stand place filling.history filling.legal))))
