use Rattle.std.proofs.Common.{◌≡◌, ◌++◌, ◌-◌, ◌≤◌, length}
use Rattle.nt_copied.specs.Stored.{stored_metas, AreSoundColumns}
use Rattle.nt_copying.specs.Copied.{copied_columns, all_loaded, HaveTheirSums}
use Rattle.nt_copying.proofs.Runs.{StandsAt, ColumnsGoOn}
use Rattle.nt_copying.proofs.image.put_columns.Given as goal

-- with the columns that are left the image and the lists are whole
abbrev pub invariant-loop-id : goal.invariant-loop-id
invariant-loop-id l = record {
  stands : StandsAt l.id l.at l.loaded.pages;
  image : ColumnsGoOn (HaveTheirSums (all_loaded l.loaded)) (copied_columns l.loaded 0 l.columns)
      (copied_columns l.loaded l.id (l.columns - l.id)) l.fn.image.items l.image.items;
  metas : l.lists.items ++ stored_metas (length l.image.items - 42) (copied_columns l.loaded l.id (l.columns - l.id))
      ≡ stored_metas 0 (copied_columns l.loaded 0 l.columns);
  sound : AreSoundColumns (copied_columns l.loaded l.id (l.columns - l.id)) → AreSoundColumns (copied_columns l.loaded 0 l.columns);
  room : 42 ≤ length l.image.items;
}
