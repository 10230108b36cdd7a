use Rattle.std.proofs.Common.{◌≡◌, ◌≤◌, ℕ, List, take, drop, Some}
use Rattle.nt_column.specs.Column.{columns_of}
use Rattle.nt_file_meaning.specs.Clusters.{columns_from}
use Rattle.nt_decoded.specs.Windows.{IsSeenBy}
use Rattle.nt_decoded.specs.Columns.{held_elements, AreReadTo, AreOfTypes}
use Rattle.nt_decoded.proofs.ColumnSteps.{columns_behind}
use Rattle.nt_decoded.proofs.columns.read_columns.Given as goal

-- the file serves, and the columns that are left, behind those so far, give what all give
abbrev pub invariant-loop-id : goal.invariant-loop-id
invariant-loop-id g l =
    let state = g.F.ReadAt.state in
    record {
      same : (state l.file).bytes ≡ (state l.initial.file).bytes;
      later : (state l.initial.file).faults ≤ (state l.file).faults;
      window : IsSeenBy (state l.file) l.window;
      types : AreOfTypes l.schema.columns (columns_of l.columns);
      done : AreReadTo l.schema.columns l.id (columns_of l.columns);
      read : (told : List ℕ) → (state l.initial.file).bytes ≡ Some told
          → columns_from told l.cluster.number l.cluster.list.now l.schema 0 l.schema.columns
          ≡ columns_behind l.cluster.number l.cluster.list.now l.schema l.id (drop l.id l.schema.columns) (take l.id
          (held_elements l.columns)) told;
    }
