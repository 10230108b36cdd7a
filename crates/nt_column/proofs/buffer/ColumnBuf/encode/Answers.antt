use Rattle.std.proofs.Common.{◌≡◌, ◌-◌, ◌++◌, replicate, refl, ap}
use Rattle.std.specs.List.{slice_range}
use Rattle.nt_column.specs.Elements.{plain}
use Rattle.nt_column.specs.Column.{Buffer}
use Rattle.nt_column.specs.Store.{elements_of}
use Rattle.nt_column.proofs.Buffers.{zeros-range}
use Rattle.nt_column.proofs.buffer.ColumnBuf.encode.Goals as goal

pub returns-then-self-gt0 : goal.returns-then-self-gt0
returns-then-self-gt0 c =
    let seen : replicate c.self.inside.zeros (plain 0) ++ elements_of c.self.inside.store ≡ c.args.self.now.column.elements =
    ap (λ (b : Buffer). b.column.elements) c.self.view_is in
    let kind : c.self.inside.kind ≡ c.args.self.now.column.kind = ap (λ (b : Buffer). b.column.kind) c.self.view_is in
    let part : slice_range c.args.self.now.column.elements c.args.from c.args.to ≡ replicate (c.args.to - c.args.from) (plain 0) =
    zeros-range c.self.inside.zeros (elements_of c.self.inside.store) c.args.self.now.column.elements c.args.from c.args.to
    (c.args.to - c.args.from) seen
    (c.self.invariant.1 c.if-self-gt0.true) c.requires.order c.requires.within refl in
    rw (← kind, part) c.encode_zeros.ensures
