use Rattle.std.proofs.Common.{◌≡◌, ◌≤◌, ◌∙◌, ap, get_or, ◌-◌, ◌+◌, ◌++◌, length, take, drop, arith, sym, rules}
use Rattle.nt_lists.proofs.Fronts.{take_front}
use Rattle.nt_view.specs.declared.place.PageAt.{PageAt}
use Rattle.nt_view.proofs.Elements.{numbers-in}
use Rattle.nt_view.proofs.column.read.Goals as goal

pub returns-clause-read : goal.returns-clause-read
returns-clause-read c =
    let e : PageAt = record { first = 0; count = 0; at = 0 } in
    let p : PageAt = get_or c.args.pages.now c.page_with.result e in
    let n = c.min-some.result in
    let new = c.read_values.new.out in
    let len : length new ≡ n = search (rules, c.read_values.auto) in
    let h = c.page_with.ensures in
    let to : p.first ≤ c.args.from = h.from e in
    let end : c.args.from + n ≤ p.first + p.count = omega (arith, c.min-some.ensures, h.from e, h.before e) in
    let place : c.args.from - p.first + length new ≡ c.args.from + n - p.first = omega (arith, len, to) in
    ap (λ m. take m (new ++ drop n c.args.out.now)) (sym len) ∙ take_front new (drop n c.args.out.now)
    ∙ rw (c.page_bytes-bytes.ensures, place) at c.read_values.ensures
    ∙ numbers-in c.args.kind c.args.store.now c.args.pages.now c.page_with.result c.args.from (c.args.from + n) e
    c.requires.own.pages.follow h (omega arith) end
