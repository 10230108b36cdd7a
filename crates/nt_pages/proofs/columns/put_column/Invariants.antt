use Rattle.std.proofs.Common.{◌≡◌, ◌++◌, ◌-◌, ◌≤◌, length, drop}
use Rattle.std.specs.List.{flat_map}
use Rattle.nt_lists.specs.Chunks.{chunks}
use Rattle.nt_pages.specs.Image.{stored_page, column_bytes}
use Rattle.nt_pages.specs.Metas.{page_metas}
use Rattle.nt_pages.specs.Written.{written_bytes}
use Rattle.nt_pages.proofs.columns.put_column.Given as goal

-- with the pages that are left the image and the list are whole
abbrev pub invariant-loop-i : goal.invariant-loop-i
invariant-loop-i l = record {
  image : written_bytes l.image ++ flat_map (stored_page l.buffer.column.kind)
      (drop l.i (chunks l.page l.buffer.column.elements)) ≡ written_bytes l.fn.image ++ column_bytes l.page l.buffer.column;
  metas : l.metas.items ++ page_metas l.buffer.column.kind (length (written_bytes l.image) - 42)
      (drop l.i (chunks l.page l.buffer.column.elements))
      ≡ page_metas l.buffer.column.kind (length (written_bytes l.fn.image) - 42) (chunks l.page l.buffer.column.elements);
  room : 42 ≤ length (written_bytes l.image);
}
