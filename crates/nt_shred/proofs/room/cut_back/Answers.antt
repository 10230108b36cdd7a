use Rattle.std.proofs.Common.{◌≡◌, ◌∙◌, ◌+◌, ◌<◌, suc, ap, length, get_or, arith}
use Rattle.nt_column.specs.Column.{columns_of}
use Rattle.nt_shred.proofs.Cutting.{cut_first, cut-next, cut-count, cut-whole, get-mark}
use Rattle.nt_shred.proofs.room.cut_back.Goals as goal

pub buffer-requires : goal.buffer-requires
buffer-requires c =
    let count = cut-count c.args.out.now c.loop-column.out c.loop-column.column c.args.marks.now c.loop-column.invariant in
    omega (arith, c.loop-column-test.true, count, c.columns-column-end.ensures)

pub loop-column-preserved : goal.loop-column-preserved
loop-column-preserved c =
    let k = c.loop-column.column in
    let up : suc k ≡ k + 1 = omega arith in
    let within : k < length c.args.marks.now = omega (arith, c.loop-column-test.true, c.requires.marks, c.columns-column-end.ensures) in
    cut-next k (get_or c.args.marks.now k 0) c.args.marks.now (columns_of c.args.out.now) c.loop-column.out c.buffer.result.now
    c.cut.new.self c.loop-column.invariant c.buffer.ensures.value (get-mark c.args.marks.now k within) c.cut.ensures.column
    ∙ ap (λ n. cut_first n c.args.marks.now (columns_of c.args.out.now)) up

pub returns : goal.returns
returns c start grew stored is =
    let old = c.args.out.now in
    let count = cut-count old c.loop-column.out c.loop-column.column c.args.marks.now c.loop-column.invariant in
    let all : c.loop-column.column ≡ length old = omega (arith, c.loop-column-test.false, c.columns-column-end.ensures) in
    c.loop-column.invariant ∙ ap (λ n. cut_first n c.args.marks.now (columns_of old)) all
    ∙ ap (λ ms. cut_first (length old) ms (columns_of old)) is ∙ cut-whole start old grew.frame grew.columns stored
