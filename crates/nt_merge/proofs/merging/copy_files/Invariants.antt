use Rattle.std.proofs.Common.{◌≤◌, ℕ, List}
use Rattle.nt_outside.specs.Disk.{DiskState}
use Rattle.nt_grammar.specs.Table.{Table}
use Rattle.nt_book.specs.declared.params.Params.{Params}
use Rattle.nt_merge.specs.Files.{TellBytes, KeepFiles}
use Rattle.nt_merge.specs.Copying.{MayCopyInto, HasMerged}
use Rattle.nt_merge.specs.Joining.{AllCopyable}
use Rattle.nt_merge.specs.Merging.{IsMerging, all_numbered}
use Rattle.nt_merge.proofs.AllFiles.{before}
use Rattle.nt_merge.proofs.merging.copy_files.Given as goal

abbrev pub invariant-loop-at : goal.invariant-loop-at
invariant-loop-at g l = record {
  may : MayCopyInto l.target.columns (g.D.Disk.state l.disk) l.target.book;
  kept : KeepFiles g.F.ReadAt.state l.initial.files.items l.files.items;
  disk : (g.D.Disk.state l.initial.disk).faults ≤ (g.D.Disk.state l.disk).faults;
  going : (t : Table) (p : Params) (given : DiskState) → AllCopyable t l.plan
      → IsMerging t p given (g.D.Disk.state l.initial.disk) l.initial.target.book
      → IsMerging t p given (g.D.Disk.state l.disk) l.target.book;
  told : (t : Table) (p : Params) (given : DiskState) (bytes : List (List ℕ)) → TellBytes g.F.ReadAt.state l.initial.files.items bytes
      → AllCopyable t l.plan → IsMerging t p given (g.D.Disk.state l.initial.disk) l.initial.target.book
      → HasMerged t p given (g.D.Disk.state l.initial.disk) l.initial.target.book (all_numbered 0 bytes l.plan) 0
      → HasMerged t p given (g.D.Disk.state l.disk) l.target.book (all_numbered 0 bytes l.plan) (before l.at l.plan);
}
