use Rattle.std.proofs.Common.{Bool}
use Rattle.nt_column.specs.Bits.{bit_of}
use Rattle.nt_column.specs.Elements.{plain}
use Rattle.nt_column.proofs.Numbers.{elements-range}
use Rattle.nt_column.proofs.words.words_of.Goals as goal

pub returns-in-Bits-clause-words : goal.returns-in-Bits-clause-words
returns-in-Bits-clause-words c =
    let list = c.in-Bits.list.items in
    rw c.in-Bits.is (elements-range (λ (b : Bool). plain (bit_of b)) c.deref.result.now list c.args.from c.args.to c.deref.ensures.value)

pub returns-in-Bytes-clause-words : goal.returns-in-Bytes-clause-words
returns-in-Bytes-clause-words c =
    let list = c.in-Bytes.list.items in
    rw c.in-Bytes.is (elements-range plain c.deref-in-Bytes.result.now list c.args.from c.args.to c.deref-in-Bytes.ensures.value)

pub returns-in-Words16-clause-words : goal.returns-in-Words16-clause-words
returns-in-Words16-clause-words c =
    let list = c.in-Words16.list.items in
    rw c.in-Words16.is (elements-range plain c.deref-in-Words16.result.now list c.args.from c.args.to c.deref-in-Words16.ensures.value)

pub returns-in-Words32-clause-words : goal.returns-in-Words32-clause-words
returns-in-Words32-clause-words c =
    let list = c.in-Words32.list.items in
    rw c.in-Words32.is (elements-range plain c.deref-in-Words32.result.now list c.args.from c.args.to c.deref-in-Words32.ensures.value)

pub returns-in-Words64-clause-words : goal.returns-in-Words64-clause-words
returns-in-Words64-clause-words c =
    let list = c.in-Words64.list.items in
    rw c.in-Words64.is (elements-range plain c.deref-in-Words64.result.now list c.args.from c.args.to c.deref-in-Words64.ensures.value)
