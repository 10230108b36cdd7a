use Rattle.nt_format.specs.Locators.{link, link_at, IsLink}
use Rattle.nt_format.proofs.Locators.{link_spells}
use Rattle.nt_format.proofs.OneReading.{one_reading}
use Rattle.nt_format.proofs.laws.links_are_spelled.Goals as goal

pub returns-clause-spelled : goal.returns-clause-spelled
returns-clause-spelled c = link_spells

pub returns-clause-one : goal.returns-clause-one
returns-clause-one c = one_reading link_at link IsLink link_spells
