use Rattle.std.proofs.Common.{Bool, arith}
use Rattle.std.proofs.lemmas.List.{length-map}
use Rattle.std.proofs.lemmas.Result.{on_err_weaker}
use Rattle.nt_column.specs.Bits.{bit_of}
use Rattle.nt_column.specs.Elements.{plain}
use Rattle.nt_column.proofs.Filled.{ok-filled, words-filled, items-filled, same-kept, cut-kept}
use Rattle.nt_column.proofs.Pages.{not_switch}
use Rattle.nt_column.proofs.store.Store.fill.Goals as goal

pub returns-in-Bits-clause-page : goal.returns-in-Bits-clause-page
returns-in-Bits-clause-page c =
    let other = not_switch c.args.kind 1 (rw c.in-Bits.is at c.requires.0.width) (omega arith) in
    let filled =
    items-filled bit_of c.args.kind c.args.filled c.args.count c.args.bytes.now c.in-Bits.list.items _ _ _ _ _ other (omega arith)
    (omega arith) in
    rw c.in-Bits.is (ok-filled _ c.fill_bits.result filled c.fill_bits.ensures.page)

pub returns-in-Bits-clause-failed : goal.returns-in-Bits-clause-failed
returns-in-Bits-clause-failed c =
    let within = rw (c.in-Bits.is, length-map) at c.requires.1 in
    let kept = cut-kept (λ (b : Bool). plain (bit_of b)) c.args.filled c.in-Bits.list.items _ within in
    rw c.in-Bits.is (on_err_weaker c.fill_bits.result kept c.fill_bits.ensures.failed)

pub returns-in-Bytes-clause-page : goal.returns-in-Bytes-clause-page
returns-in-Bytes-clause-page c =
    let other = not_switch c.args.kind 8 (rw c.in-Bytes.is at c.requires.0.width) (omega arith) in
    let filled =
    words-filled c.args.kind c.args.filled c.args.count c.args.bytes.now c.in-Bytes.list.items _ _ _ _ _ other (omega arith)
    (omega arith) in
    rw c.in-Bytes.is (ok-filled _ c.fill_8.result filled c.fill_8.ensures.page)

pub returns-in-Bytes-clause-failed : goal.returns-in-Bytes-clause-failed
returns-in-Bytes-clause-failed c =
    let within = rw (c.in-Bytes.is, length-map) at c.requires.1 in
    let kept = same-kept plain c.args.filled c.in-Bytes.list.items _ within in
    rw c.in-Bytes.is (on_err_weaker c.fill_8.result kept c.fill_8.ensures.failed)

pub returns-in-Words16-clause-page : goal.returns-in-Words16-clause-page
returns-in-Words16-clause-page c =
    let other = not_switch c.args.kind 16 (rw c.in-Words16.is at c.requires.0.width) (omega arith) in
    let filled =
    words-filled c.args.kind c.args.filled c.args.count c.args.bytes.now c.in-Words16.list.items _ _ _ _ _ other (omega arith)
    (omega arith) in
    rw c.in-Words16.is (ok-filled _ c.fill_16.result filled c.fill_16.ensures.page)

pub returns-in-Words16-clause-failed : goal.returns-in-Words16-clause-failed
returns-in-Words16-clause-failed c =
    let within = rw (c.in-Words16.is, length-map) at c.requires.1 in
    let kept = same-kept plain c.args.filled c.in-Words16.list.items _ within in
    rw c.in-Words16.is (on_err_weaker c.fill_16.result kept c.fill_16.ensures.failed)

pub returns-in-Words32-clause-page : goal.returns-in-Words32-clause-page
returns-in-Words32-clause-page c =
    let other = not_switch c.args.kind 32 (rw c.in-Words32.is at c.requires.0.width) (omega arith) in
    let filled =
    words-filled c.args.kind c.args.filled c.args.count c.args.bytes.now c.in-Words32.list.items _ _ _ _ _ other (omega arith)
    (omega arith) in
    rw c.in-Words32.is (ok-filled _ c.fill_32.result filled c.fill_32.ensures.page)

pub returns-in-Words32-clause-failed : goal.returns-in-Words32-clause-failed
returns-in-Words32-clause-failed c =
    let within = rw (c.in-Words32.is, length-map) at c.requires.1 in
    let kept = same-kept plain c.args.filled c.in-Words32.list.items _ within in
    rw c.in-Words32.is (on_err_weaker c.fill_32.result kept c.fill_32.ensures.failed)

pub returns-in-Words64-clause-page : goal.returns-in-Words64-clause-page
returns-in-Words64-clause-page c =
    let other = not_switch c.args.kind 64 (rw c.in-Words64.is at c.requires.0.width) (omega arith) in
    let filled =
    words-filled c.args.kind c.args.filled c.args.count c.args.bytes.now c.in-Words64.list.items _ _ _ _ _ other (omega arith)
    (omega arith) in
    rw c.in-Words64.is (ok-filled _ c.fill_64.result filled c.fill_64.ensures.page)

pub returns-in-Words64-clause-failed : goal.returns-in-Words64-clause-failed
returns-in-Words64-clause-failed c =
    let within = rw (c.in-Words64.is, length-map) at c.requires.1 in
    let kept = same-kept plain c.args.filled c.in-Words64.list.items _ within in
    rw c.in-Words64.is (on_err_weaker c.fill_64.result kept c.fill_64.ensures.failed)
