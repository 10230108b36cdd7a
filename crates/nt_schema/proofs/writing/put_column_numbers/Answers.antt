use Rattle.nt_schema.proofs.Appended.{five}
use Rattle.nt_schema.proofs.writing.put_column_numbers.Goals as goal

pub returns : goal.returns
returns c =
    five _ _ _ _ _ _ _ _ _ _ _ c.in_ok-put_u16le.ensures.ok c.in_ok-put_u16le-2.ensures.ok c.in_ok-put_u32le.ensures.ok
    c.in_ok-put_u16le-3.ensures.ok c.in_ok-put_u16le-4.ensures.ok
