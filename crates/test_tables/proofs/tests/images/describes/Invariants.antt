-- the columns so far are of the types that the rows so far have
use Rattle.std.proofs.Common.{take}
use Rattle.nt_column.specs.Column.{columns_of}
use Rattle.nt_trees.specs.Described.{AreDescribed}
use Rattle.test_tables.proofs.tests.images.describes.Given as goal

abbrev pub invariant-loop-k : goal.invariant-loop-k
invariant-loop-k l = AreDescribed (take l.k (columns_of l.columns)) (take l.k l.schema.columns)
