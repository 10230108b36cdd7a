use Rattle.std.proofs.Common.{◌∙◌}
use Rattle.std.proofs.lemmas.List.{length-map}
use Rattle.nt_column.proofs.Numbers.{number-read, bit-read, bit-byte}
use Rattle.nt_column.proofs.store.Store.number.Goals as goal

pub returns-in-Bits : goal.returns-in-Bits
returns-in-Bits c =
    let within = rw (c.in-Bits.is, length-map) at c.requires in
    rw c.in-Bits.is (bit-byte _ _ c.from.ensures ∙ bit-read _ c.args.i _ within c.index.ensures)

pub returns-in-Bytes : goal.returns-in-Bytes
returns-in-Bytes c =
    let within = rw (c.in-Bytes.is, length-map) at c.requires in
    rw c.in-Bytes.is (c.from-in-Bytes.ensures ∙ number-read _ c.args.i _ within c.index-in-Bytes.ensures)

pub returns-in-Words16 : goal.returns-in-Words16
returns-in-Words16 c =
    let within = rw (c.in-Words16.is, length-map) at c.requires in
    rw c.in-Words16.is (c.from-in-Words16.ensures ∙ number-read _ c.args.i _ within c.index-in-Words16.ensures)

pub returns-in-Words32 : goal.returns-in-Words32
returns-in-Words32 c =
    let within = rw (c.in-Words32.is, length-map) at c.requires in
    rw c.in-Words32.is (c.from-in-Words32.ensures ∙ number-read _ c.args.i _ within c.index-in-Words32.ensures)

pub returns-in-Words64 : goal.returns-in-Words64
returns-in-Words64 c =
    let within = rw (c.in-Words64.is, length-map) at c.requires in
    rw c.in-Words64.is (number-read _ c.args.i _ within c.index-in-Words64.ensures)
