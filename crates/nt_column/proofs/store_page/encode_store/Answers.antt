use Rattle.std.proofs.Common.{arith}
use Rattle.nt_column.proofs.Pages.{page-numbers, page-bits, not_switch}
use Rattle.nt_column.proofs.store_page.encode_store.Goals as goal

pub returns-in-Bits : goal.returns-in-Bits
returns-in-Bits c =
    let other = not_switch c.args.kind 1 (rw c.in-Bits.is at c.requires.kind) (omega arith) in
    rw c.in-Bits.is (page-bits c.args.kind _ _ c.args.from c.args.to _ other c.deref.ensures.value c.encode_bits.ensures)

pub returns-in-Bytes : goal.returns-in-Bytes
returns-in-Bytes c =
    let other = not_switch c.args.kind 8 (rw c.in-Bytes.is at c.requires.kind) (omega arith) in
    rw c.in-Bytes.is (page-numbers c.args.kind _ _ c.args.from c.args.to _ other c.deref-in-Bytes.ensures.value c.encode_bytes.ensures)

pub returns-in-Words16 : goal.returns-in-Words16
returns-in-Words16 c =
    let other = not_switch c.args.kind 16 (rw c.in-Words16.is at c.requires.kind) (omega arith) in
    rw c.in-Words16.is (page-numbers c.args.kind _ _ c.args.from c.args.to _ other c.deref-in-Words16.ensures.value c.encode_16.ensures)

pub returns-in-Words32 : goal.returns-in-Words32
returns-in-Words32 c =
    let other = not_switch c.args.kind 32 (rw c.in-Words32.is at c.requires.kind) (omega arith) in
    rw c.in-Words32.is (page-numbers c.args.kind _ _ c.args.from c.args.to _ other c.deref-in-Words32.ensures.value c.encode_32.ensures)

pub returns-in-Words64 : goal.returns-in-Words64
returns-in-Words64 c =
    let other = not_switch c.args.kind 64 (rw c.in-Words64.is at c.requires.kind) (omega arith) in
    rw c.in-Words64.is (page-numbers c.args.kind _ _ c.args.from c.args.to _ other c.deref-in-Words64.ensures.value c.encode_64.ensures)
