use Rattle.std.proofs.Common.{◌≡◌, ◌++◌, ◌-◌, ◌≤◌, length}
use Rattle.nt_copied.specs.Stored.{stored_page_metas, AreSoundPages}
use Rattle.nt_copying.specs.Copied.{copied_pages, loaded_part}
use Rattle.nt_copying.proofs.CopiedPages.{GoesOn}
use Rattle.nt_copying.proofs.image.put_column.Given as goal

-- with the pages that are left the image and the list are whole
abbrev pub invariant-loop-i : goal.invariant-loop-i
invariant-loop-i l = record {
  image : GoesOn (loaded_part l.loaded l.from l.to) (loaded_part l.loaded l.i l.to) l.fn.image.items l.image.items;
  metas : l.metas.items ++ stored_page_metas (length l.image.items - 42) (copied_pages (loaded_part l.loaded l.i l.to))
      ≡ stored_page_metas (length l.fn.image.items - 42) (copied_pages (loaded_part l.loaded l.from l.to));
  sound : AreSoundPages (copied_pages (loaded_part l.loaded l.i l.to)) → AreSoundPages (copied_pages (loaded_part l.loaded l.from l.to));
  room : 42 ≤ length l.image.items;
}
