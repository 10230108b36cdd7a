use Rattle.std.specs.Prelude.{◌++◌}
use Rattle.nt_dealing.proofs.Longest.{longest, whole-grows}
use Rattle.nt_dealing.proofs.limits.whole_files_are_longest.Goals as goal

pub returns-clause-chunks : goal.returns-clause-chunks
returns-clause-chunks c fields plain t page most chunks some others metas rows few permuted kept =
    let all = longest fields plain t rows page most some others metas few kept in
    (all.0, record { order = some ++ others; permuted = permuted; counted = all.1 }, all.2)

pub returns-clause-clusters : goal.returns-clause-clusters
returns-clause-clusters c t most metas more few = whole-grows t most metas more few
