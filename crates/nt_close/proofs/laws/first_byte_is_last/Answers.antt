use Rattle.nt_close.proofs.FirstByte.{begins_shut, closes_shut, cut_shut}
use Rattle.nt_close.proofs.laws.first_byte_is_last.Goals as goal

pub returns : goal.returns
returns c = record { begins = begins_shut; closes = closes_shut; fails = cut_shut }
