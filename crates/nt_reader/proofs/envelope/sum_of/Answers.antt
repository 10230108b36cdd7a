use Rattle.std.proofs.Common.{rules, arith}
use Rattle.std.proofs.lemmas.Grind.{common_steps}
use Rattle.nt_format.proofs.Envelopes.{length_from_payload}
use Rattle.nt_reader.proofs.Opened.{opened_envelope-kept}
use Rattle.nt_reader.proofs.envelope.sum_of.Goals as goal

pub returns-in-Ok-clause-read : goal.returns-in-Ok-clause-read
returns-in-Ok-clause-read c =
    let kept = opened_envelope-kept c.args.place _ _ _ c.are_bytes.ensures c.in-Ok.ensures in
    search (rules, kept)

pub returns-in-Ok-clause-long : goal.returns-in-Ok-clause-long
returns-in-Ok-clause-long c = length_from_payload _ _ _ c.in-Ok.ensures

pub overflow_sub-bytes : goal.overflow_sub-bytes
overflow_sub-bytes c = omega (arith, length_from_payload _ _ _ c.in-Ok.ensures)

pub read_u64-requires : goal.read_u64-requires
read_u64-requires c =
    let long = length_from_payload _ _ _ c.in-Ok.ensures in
    grind (arith, common_steps, long)
