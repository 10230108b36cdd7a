use Rattle.std.proofs.Common.{◌++◌, arith, length-append, length-take, take}
use Rattle.std.proofs.lemmas.Grind.{common_steps}
use Rattle.std.proofs.KnownBytes.{Consumes-trans}
use Rattle.nt_outside.proofs.source.read_front.Goals as goal

pub returns-in_err-extend_from_slice-clause-taken : goal.returns-in_err-extend_from_slice-clause-taken
returns-in_err-extend_from_slice-clause-taken g c =
    let next = take c.in_ok-count.count c.read.new.buf in
    record {
      bytes = c.loop.bytes.items ++ next;
      few = grind (arith, common_steps, length-append c.loop.bytes.items next, length-take c.in_ok-count.count c.read.new.buf);
      taken = Consumes-trans _ _ _ c.loop.bytes.items next c.loop.invariant.taken c.in_ok-count.ensures.bytes.0;
    }
