use Rattle.nt_append.proofs.Widened.{beside-wide, parts-wide}
use Rattle.nt_append.proofs.Noted.{sizes-wide}
use Rattle.nt_append.proofs.laws.added_columns_change_no_part.Goals as goal

pub returns-clause-beside : goal.returns-clause-beside
returns-clause-beside c = beside-wide

pub returns-clause-sizes : goal.returns-clause-sizes
returns-clause-sizes c =
    λ t u most old new more kept kept' beside sum is were. sizes-wide t u most old new more kept kept' beside sum is were

pub returns-clause-parts : goal.returns-clause-parts
returns-clause-parts c =
    λ t u most old new more ranges kept kept' beside sum is. parts-wide t u most old new more kept kept' beside sum is ranges
