use Rattle.nt_format.specs.Locators.{locator, locator_at, IsSimple}
use Rattle.nt_format.proofs.Locators.{locator_spells}
use Rattle.nt_format.proofs.OneReading.{one_reading}
use Rattle.nt_format.proofs.laws.locators_are_spelled.Goals as goal

pub returns-clause-spelled : goal.returns-clause-spelled
returns-clause-spelled c = locator_spells

pub returns-clause-one : goal.returns-clause-one
returns-clause-one c = one_reading locator_at locator IsSimple locator_spells
