use Rattle.std.proofs.Common.{rules, ℕ, List, Ok, Err, sym, ap, ◌∙◌}
use Rattle.nt_num.specs.declared.fault.ReadError.{ReadError}
use Rattle.nt_reader.specs.Envelopes.{block_of, opened_bytes}
use Rattle.nt_reader.proofs.Blocks.{compressed_is, lost-fails, found-opened_envelope}
use Rattle.nt_reader.proofs.envelope.read_sealed.Goals as goal

pub returns-then-block-clause-read : goal.returns-then-block-clause-read
returns-then-block-clause-read g c told is =
    compressed_is told c.args.kind (block_of c.args.block) c.if-block.true
    ∙ ap (λ (e : ReadError). Err e) (sym c.fault_with-fault.ensures)

pub returns-in_err-bytes-clause-read : goal.returns-in_err-bytes-clause-read
returns-in_err-bytes-clause-read g c told is =
    let failed = lost-fails told c.args.kind (block_of c.args.block) _ _ c.if-block.false c.fault_with-outside.ensures
    (c.in_err-bytes.ensures.read told is) in
    search (rules, failed)

pub returns-in_err-sum-clause-read : goal.returns-in_err-sum-clause-read
returns-in_err-sum-clause-read g c told is =
    let failed = found-opened_envelope told c.args.kind (block_of c.args.block) _ _ _ _ c.deref.ensures.value c.if-block.false
    c.fault_with-outside.ensures (c.in_ok-bytes.ensures.read told is) c.in_err-sum.ensures.read in
    search (rules, failed)

pub returns-clause-read : goal.returns-clause-read
returns-clause-read g c told is =
    found-opened_envelope told c.args.kind (block_of c.args.block) _ _ _ _ c.deref.ensures.value c.if-block.false
    c.fault_with-outside.ensures (c.in_ok-bytes.ensures.read told is) c.in_ok-sum.ensures.read
    ∙ ap (λ (l : List ℕ). Ok (opened_bytes l c.in_ok-sum.sum)) c.deref.ensures.value
