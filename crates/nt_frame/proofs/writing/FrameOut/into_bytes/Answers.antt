-- With no frame begun all bytes are there.
use Rattle.std.proofs.Common.{◌∙◌, sym, ap, reverse, arith}
use Rattle.nt_frame.specs.Writing.{Written}
use Rattle.nt_frame.proofs.Marks.{written-done}
use Rattle.nt_frame.proofs.writing.FrameOut.into_bytes.Goals as goal

pub returns-clause-bytes : goal.returns-clause-bytes
returns-clause-bytes c =
    sym (written-done (reverse c.self.inside.marks.items) c.self.inside.out.items
    (ap (λ (w : Written). w.frames) c.self.view_is ∙ c.requires))
    ∙ ap (λ (w : Written). w.inside) c.self.view_is

pub returns-clause-fit : goal.returns-clause-fit
returns-clause-fit c = omega (arith, c.self.inside.out.ok.0, c.self.inside.out.ok.1, c.self.inside.out.small)
