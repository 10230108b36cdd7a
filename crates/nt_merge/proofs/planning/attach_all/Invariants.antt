use Rattle.std.proofs.Common.{◌≡◌, ◌++◌, ℕ, List, Ok, drop, length}
use Rattle.nt_lists.specs.Chaining.{◌>>=◌}
use Rattle.nt_merge.specs.Files.{TellBytes, KeepFiles}
use Rattle.nt_merge.specs.Planning.{outlines_from}
use Rattle.nt_merge.proofs.planning.attach_all.Given as goal

abbrev pub invariant-loop-at : goal.invariant-loop-at
invariant-loop-at g l = record {
  kept : KeepFiles g.F.ReadAt.state l.initial.files.items l.files.items;
  all : length l.files.items ≡ length l.initial.files.items;
  count : length l.readers.items ≡ l.at;
  told : (bytes : List (List ℕ)) → TellBytes g.F.ReadAt.state l.initial.files.items bytes
      → outlines_from 0 bytes ≡ (outlines_from l.at (drop l.at bytes) >>= λ others. Ok (l.readers.items ++ others));
}
