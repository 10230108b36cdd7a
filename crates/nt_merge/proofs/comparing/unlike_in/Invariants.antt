use Rattle.std.proofs.Common.{◌≡◌, ◌+◌, map, drop}
use Rattle.nt_file_meaning.specs.Outlines.{Outline}
use Rattle.nt_merge.specs.Comparing.{unlike_in}
use Rattle.nt_merge.proofs.comparing.unlike_in.Given as goal

abbrev pub invariant-loop-place : goal.invariant-loop-place
invariant-loop-place l = record {
  left : unlike_in l.first (1 + l.place) (map (λ (o : Outline). o.table) (drop l.place l.readers))
      ≡ unlike_in l.first 1 (map (λ (o : Outline). o.table) l.readers);
}
