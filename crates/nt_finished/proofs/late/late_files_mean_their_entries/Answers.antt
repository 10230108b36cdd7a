use Rattle.nt_finished.proofs.LaidLate.{laid-late}
use Rattle.nt_finished.proofs.late.late_files_mean_their_entries.Goals as goal

pub returns : goal.returns
returns c = laid-late c.late_fields_have_needs.ensures.before c.late_fields_have_needs.ensures.behind c.columns_have_needs.ensures.need
    c.files_mean_filled_entries.ensures
