use Rattle.std.proofs.Common.{◌≡◌, ◌+◌, ◌≤◌, ℕ, List, Some}
use Rattle.nt_outside.specs.Disk.{DiskState}
use Rattle.nt_grammar.specs.Table.{Table}
use Rattle.nt_book.specs.declared.params.Params.{Params}
use Rattle.nt_merge.specs.Copying.{MayCopyInto, AreOfFile, IsJoinable, HasMerged}
use Rattle.nt_merge.specs.Merging.{Numbered, IsMerging}
use Rattle.nt_merge.proofs.copying.copy_file.Given as goal

abbrev pub invariant-loop-k : goal.invariant-loop-k
invariant-loop-k g l = record {
  may : MayCopyInto l.target.columns (g.D.Disk.state l.disk) l.target.book;
  same : (g.F.ReadAt.state l.file).bytes ≡ (g.F.ReadAt.state l.initial.file).bytes;
  later : (g.F.ReadAt.state l.initial.file).faults ≤ (g.F.ReadAt.state l.file).faults;
  disk : (g.D.Disk.state l.initial.disk).faults ≤ (g.D.Disk.state l.disk).faults;
  going : (t : Table) (p : Params) (given : DiskState) → IsJoinable t l.reader.table
      → IsMerging t p given (g.D.Disk.state l.initial.disk) l.initial.target.book
      → IsMerging t p given (g.D.Disk.state l.disk) l.target.book;
  told : (file : ℕ) (t : Table) (p : Params) (given : DiskState) (ns : List Numbered) (at : ℕ) (b : List ℕ)
      → (g.F.ReadAt.state l.initial.file).bytes ≡ Some b → AreOfFile file b l.reader ns at → IsJoinable t l.reader.table
      → IsMerging t p given (g.D.Disk.state l.initial.disk) l.initial.target.book
      → HasMerged t p given (g.D.Disk.state l.initial.disk) l.initial.target.book ns at
      → HasMerged t p given (g.D.Disk.state l.disk) l.target.book ns (at + l.k);
}
