use Rattle.std.proofs.Common.{◌<◌, ◌+◌, length, sym, arith}
use Rattle.nt_view.proofs.Viewed.{sums-within, sums-number}
use Rattle.nt_view.proofs.view.PageView.value.Goals as goal

pub overflow_add-self-inside : goal.overflow_add-self-inside
overflow_add-self-inside c =
    let v = c.self.inside in
    let b = c.in-Some.sums.now in
    let below : v.first + c.args.i < length b.column.elements =
    sums-within b.column.elements v.first v.count c.args.i v.kind v.bytes.now (rw c.in-Some.is at c.self.invariant.1)
    (rw (sym c.self.view_is) at c.requires) in
    omega (arith, below, c.len-all.ensures, c.len-all.type_inv)

pub number-requires : goal.number-requires
number-requires c =
    let v = c.self.inside in
    let b = c.in-Some.sums.now in
    sums-within b.column.elements v.first v.count c.args.i v.kind v.bytes.now (rw c.in-Some.is at c.self.invariant.1)
    (rw (sym c.self.view_is) at c.requires)

pub returns-in-Some : goal.returns-in-Some
returns-in-Some c =
    let v = c.self.inside in
    let b = c.in-Some.sums.now in
    rw (sym c.self.view_is) (sums-number b.column.elements v.first v.count c.args.i c.number.result v.kind v.bytes.now
    (rw c.in-Some.is at c.self.invariant.1) (rw (sym c.self.view_is) at c.requires) c.number.ensures)
