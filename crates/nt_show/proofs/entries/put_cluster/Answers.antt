use Rattle.std.proofs.Common.{◌∙◌, ap, sym, ℕ}
use Rattle.nt_reader.specs.Columns.{given_entries}
use Rattle.nt_show.specs.Ranges.{past_entries}
use Rattle.nt_show.proofs.ClusterLines.{length-given}
use Rattle.nt_show.proofs.entries.put_cluster.Goals as goal

pub returns-in_ok-put_entries-in-Ok-clause-told : goal.returns-in_ok-put_entries-in-Ok-clause-told
returns-in_ok-put_entries-in-Ok-clause-told g c b is = (
  given_entries c.in-Ok.cluster,
  c.in-Ok.ensures.read b is,
  c.past-pending.ensures ∙ ap (λ (n : ℕ). past_entries n c.args.pending.now.range) (c.entries.ensures ∙ sym (length-given c.in-Ok.cluster)),
  c.in_ok-put_entries-in-Ok.ensures.ok,
)
