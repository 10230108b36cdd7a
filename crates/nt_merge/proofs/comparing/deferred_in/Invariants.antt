use Rattle.std.proofs.Common.{◌≡◌, map, drop}
use Rattle.nt_file_meaning.specs.Outlines.{Outline}
use Rattle.nt_merge.specs.Comparing.{deferred_in}
use Rattle.nt_merge.proofs.comparing.deferred_in.Given as goal

abbrev pub invariant-loop-file : goal.invariant-loop-file
invariant-loop-file l = record {
  left : deferred_in l.file (map (λ (o : Outline). o.table) (drop l.file l.readers))
      ≡ deferred_in 0 (map (λ (o : Outline). o.table) l.readers);
}
