use Rattle.std.proofs.Common.{◌≡◌, drop}
use Rattle.nt_frame.specs.Writing.{bytes_added}
use Rattle.nt_pagelists.specs.FooterWriting.{group_texts}
use Rattle.nt_meta.proofs.writing_footer.put_groups.Given as goal

-- what is left, written behind what is there, gives what all gives
abbrev pub invariant-loop-group : goal.invariant-loop-group
invariant-loop-group l = bytes_added (group_texts (drop l.group-index l.groups)) l.out ≡ bytes_added (group_texts l.groups) l.initial.out
