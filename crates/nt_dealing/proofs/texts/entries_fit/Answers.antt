use Rattle.std.proofs.Common.{◌∙◌}
use Rattle.nt_types.specs.ShapeData.{parts_of}
use Rattle.nt_dealing.proofs.ReadFits.{entry_fits}
use Rattle.nt_dealing.proofs.TableFits.{table_fits}
use Rattle.nt_dealing.proofs.texts.entries_fit.Goals as goal

pub returns-clause-fields : goal.returns-clause-fields
returns-clause-fields c = entry_fits

pub returns-clause-rows : goal.returns-clause-rows
returns-clause-rows c fields plain t line entry rules rows is =
    table_fits fields plain t entry rows (c.described_fields_are_open.ensures fields plain t rules rows)
    ∙ entry_fits (parts_of fields) line entry is
