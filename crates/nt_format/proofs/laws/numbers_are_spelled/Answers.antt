use Rattle.std.proofs.Common.{◌^◌}
use Rattle.std.specs.Int.{w16, w32, w64, from_le_bytes, to_le_bytes, from_be_bytes, to_be_bytes}
use Rattle.nt_format.proofs.Numbers.{number_spells, little_16, little_32, little_64, big_16, big_32, big_64}
use Rattle.nt_format.proofs.Signed.{signed_code, signed_spells}
use Rattle.nt_format.proofs.laws.numbers_are_spelled.Goals as goal

pub returns-clause-little : goal.returns-clause-little
returns-clause-little c = record {
  of_16 = number_spells 2 (2 ^ 16) (from_le_bytes w16) (to_le_bytes w16) little_16;
  of_32 = number_spells 4 (2 ^ 32) (from_le_bytes w32) (to_le_bytes w32) little_32;
  of_64 = number_spells 8 (2 ^ 64) (from_le_bytes w64) (to_le_bytes w64) little_64;
}

pub returns-clause-big : goal.returns-clause-big
returns-clause-big c = record {
  of_16 = number_spells 2 (2 ^ 16) (from_be_bytes w16) (to_be_bytes w16) big_16;
  of_32 = number_spells 4 (2 ^ 32) (from_be_bytes w32) (to_be_bytes w32) big_32;
  of_64 = number_spells 8 (2 ^ 64) (from_be_bytes w64) (to_be_bytes w64) big_64;
}

pub returns-clause-signed_32 : goal.returns-clause-signed_32
returns-clause-signed_32 c = signed_spells w32 4 (signed_code w32 4 little_32)

pub returns-clause-signed_64 : goal.returns-clause-signed_64
returns-clause-signed_64 c = signed_spells w64 8 (signed_code w64 8 little_64)
