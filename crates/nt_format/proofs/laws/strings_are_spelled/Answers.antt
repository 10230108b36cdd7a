use Rattle.std.proofs.Common.{◌<◌, ◌^◌, length}
use Rattle.nt_format.specs.Strings.{string, string_at}
use Rattle.nt_format.proofs.Strings.{string_spells}
use Rattle.nt_format.proofs.OneReading.{one_reading}
use Rattle.nt_format.proofs.laws.strings_are_spelled.Goals as goal

pub returns-clause-spelled : goal.returns-clause-spelled
returns-clause-spelled c = string_spells

pub returns-clause-one : goal.returns-clause-one
returns-clause-one c = one_reading string_at string (λ text. length text < 2 ^ 32) string_spells
