use Rattle.std.proofs.Common.{◌≡◌, ◌-◌}
use Rattle.nt_frame.specs.Writing.{bytes_added}
use Rattle.nt_pagelists.specs.Writing.{summary_texts}
use Rattle.nt_pagelists.specs.Books.{listed_clusters}
use Rattle.nt_meta.proofs.writing_list.put_summaries.Given as goal

-- what is left, written behind what is there, gives what all gives
abbrev pub invariant-loop-cluster : goal.invariant-loop-cluster
invariant-loop-cluster l =
    bytes_added (summary_texts (listed_clusters l.book l.cluster (l.to - l.cluster))) l.out
    ≡ bytes_added (summary_texts (listed_clusters l.book l.from (l.to - l.from))) l.initial.out
