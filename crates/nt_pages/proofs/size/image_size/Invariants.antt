use Rattle.std.proofs.Common.{◌≡◌, ◌+◌, length, drop}
use Rattle.std.specs.List.{flat_map}
use Rattle.nt_column.specs.Column.{columns_of}
use Rattle.nt_pages.specs.Image.{column_bytes, image}
use Rattle.nt_pages.proofs.size.image_size.Given as goal

-- with the columns that are left the size is whole
abbrev pub invariant-loop-k : goal.invariant-loop-k
invariant-loop-k l =
    l.size + length (flat_map (column_bytes l.page) (drop l.k (columns_of l.columns))) ≡ length (image l.page (columns_of l.columns))
