use Rattle.nt_finished.proofs.RunFiles.{run-laid}
use Rattle.nt_finished.proofs.runs.closed_runs_mean_their_chunks.Goals as goal

pub returns : goal.returns
returns c = λ t m chunks blob steps file described measures ok closed holds.
    let r = run-laid t m chunks blob steps file ok closed holds in
    (r.0, r.1, r.2, r.3, c.finished_files_mean_their_entries.ensures file t r.0 m described measures r.3)
