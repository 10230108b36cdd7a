use Rattle.nt_copied.proofs.CopiedPlaces.{copied-stored}
use Rattle.nt_copied.proofs.laws.copied_files_have_the_stored_pages.Goals as goal

pub returns : goal.returns
returns c = copied-stored
