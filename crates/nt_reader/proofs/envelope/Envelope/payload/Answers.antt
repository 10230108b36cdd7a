use Rattle.std.proofs.Common.{rules}
use Rattle.nt_reader.proofs.Opened.{inside_of-slice}
use Rattle.nt_reader.proofs.envelope.Envelope.payload.Goals as goal

pub returns : goal.returns
returns c =
    let inside = inside_of-slice c.self.inside.bytes.items c.self.invariant in
    search (rules, inside)
