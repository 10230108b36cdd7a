use Rattle.std.proofs.Common.{ℕ, ◌+◌, ◌∙◌, ap, refl, arith}
use Rattle.nt_column.specs.Column.{columns_of}
use Rattle.nt_pages.proofs.Pages.{columns-next}
use Rattle.nt_pages.proofs.Sizes.{size-first, size-least, size-next, none-is}
use Rattle.nt_pages.proofs.size.image_size.Goals as goal

pub loop-k-init : goal.loop-k-init
loop-k-init c = size-first c.args.page (columns_of c.args.columns.now)

pub loop-k-preserved : goal.loop-k-preserved
loop-k-preserved c =
    let next = columns-next c.args.columns.now c.loop-k.k c.column.result.now c.column.ensures in
    size-next c.args.page _ _ _ _ _ _ next
    (c.in_ok-size.ensures.1 ∙ ap (λ (n : ℕ). c.loop-k.size + n) c.in_ok-column_size.ensures.some) c.loop-k.invariant

pub returns-in_err-column_size-clause-none : goal.returns-in_err-column_size-clause-none
returns-in_err-column_size-clause-none c is =
    let next = columns-next c.args.columns.now c.loop-k.k c.column.result.now c.column.ensures in
    let most = size-least c.args.page _ _ _ _ _ next c.loop-k.invariant in
    omega (arith, most, c.in_err-column_size.ensures.none refl)

pub returns-in_err-size-clause-none : goal.returns-in_err-size-clause-none
returns-in_err-size-clause-none c is =
    let next = columns-next c.args.columns.now c.loop-k.k c.column.result.now c.column.ensures in
    let most = size-least c.args.page _ _ _ _ _ next c.loop-k.invariant in
    none-is _ _ c.in_err-size.ensures (rw c.in_ok-column_size.ensures.some most)
