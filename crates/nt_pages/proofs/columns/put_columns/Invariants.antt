use Rattle.std.proofs.Common.{◌≡◌, ◌++◌, ◌-◌, ◌≤◌, length, drop}
use Rattle.std.specs.List.{flat_map}
use Rattle.nt_column.specs.Column.{columns_of}
use Rattle.nt_pages.specs.Image.{column_bytes, payload}
use Rattle.nt_pages.specs.Metas.{column_metas}
use Rattle.nt_pages.specs.Written.{written_bytes}
use Rattle.nt_pages.proofs.columns.put_columns.Given as goal

-- with the columns that are left the image and the lists are whole
abbrev pub invariant-loop-k : goal.invariant-loop-k
invariant-loop-k l = record {
  image : written_bytes l.image ++ flat_map (column_bytes l.page) (drop l.k (columns_of l.columns))
      ≡ written_bytes l.fn.image ++ payload l.page (columns_of l.columns);
  lists : l.lists.items ++ column_metas l.page (length (written_bytes l.image) - 42) (drop l.k (columns_of l.columns))
      ≡ column_metas l.page 0 (columns_of l.columns);
  room : 42 ≤ length (written_bytes l.image);
}
