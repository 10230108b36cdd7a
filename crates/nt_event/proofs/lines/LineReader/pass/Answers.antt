use Rattle.std.proofs.Common.{refl, inl, arith, length-take-le}
use Rattle.nt_event.specs.Lines.{ready_bytes}
use Rattle.nt_event.proofs.LineSteps.{taken_to_lf}
use Rattle.nt_event.proofs.lines.LineReader.pass.Goals as goal

pub returns-clause-line : goal.returns-clause-line
returns-clause-line g c =
    let self = c.args.self.now in
    let is = c.requires in
    record {
      ends = inl (taken_to_lf (g.S.Source.state self.source).left self.piece.items self.at self.end c.args.len is.within is.lf);
      one_line = is.one_line;
      fits = omega (arith, is.fits, length-take-le c.args.len (ready_bytes self) (omega (arith, is.within)));
      number = (refl, omega (arith, is.number));
      counted = refl;
    }
