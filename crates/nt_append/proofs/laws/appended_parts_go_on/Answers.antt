use Rattle.nt_append.proofs.Grown.{beside-grown, parts-more}
use Rattle.nt_append.proofs.Noted.{sizes-grown}
use Rattle.nt_append.proofs.laws.appended_parts_go_on.Goals as goal

pub returns-clause-beside : goal.returns-clause-beside
returns-clause-beside c = λ t most meta old new kept beside gains. beside-grown t most old new meta kept beside gains

pub returns-clause-sizes : goal.returns-clause-sizes
returns-clause-sizes c = λ t most meta old new kept beside gains were. sizes-grown t most old new meta kept beside gains were

pub returns-clause-parts : goal.returns-clause-parts
returns-clause-parts c =
    λ t most meta old new ranges range kept kept' beside gains long.
    parts-more t most old new meta kept beside gains kept' ranges range long
