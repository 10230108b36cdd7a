use Rattle.std.proofs.Common.{◌≡◌, ◌<◌, ◌∙◌, ap, length, arith}
use Rattle.std.proofs.lemmas.List.{length-map}
use Rattle.nt_column.specs.Column.{Column, Buffer, empty, columns_of}
use Rattle.nt_column.proofs.Sets.{columns-set, emptied-next, emptied-length, column-read}
use Rattle.nt_column.proofs.set.ColumnSet.recycle.Goals as goal

pub loop-i-preserved : goal.loop-i-preserved
loop-i-preserved c =
    let first : length c.self.inside.buffers.items ≡ length c.args.self.now = ap length c.self.view_is in
    let all : length (columns_of c.args.self.now) ≡ length c.args.self.now = length-map c.args.self.now (λ (b : Buffer). b.column) in
    let kept = emptied-length (columns_of c.args.self.now) _ c.loop-i.i c.loop-i.invariant in
    let some : length (columns_of c.loop-i.self-inside.buffers.items) ≡ length c.loop-i.self-inside.buffers.items =
    length-map c.loop-i.self-inside.buffers.items (λ (b : Buffer). b.column) in
    let within : c.loop-i.i < length (columns_of c.args.self.now) = omega arith in
    let read = column-read c.loop-i.self-inside.buffers.items c.loop-i.i _ (omega arith) c.index_mut.ensures.value in
    columns-set c.loop-i.self-inside.buffers.items c.loop-i.i _ _ c.recycle.ensures
    ∙ emptied-next (columns_of c.args.self.now) _ c.loop-i.i _ _ c.loop-i.invariant within (ap (λ (x : Column). empty x.kind) read)
