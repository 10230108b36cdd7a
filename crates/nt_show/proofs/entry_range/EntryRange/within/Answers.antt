use Rattle.std.proofs.Common.{◌≡◌, ◌∙◌, ap, sym, rules, arith, ℕ, ◌+◌, ◌-◌, take, drop}
use Rattle.std.specs.Prelude.{min}
use Rattle.nt_show.proofs.Ranges.{within_is, limited_is}
use Rattle.nt_show.proofs.entry_range.EntryRange.within.Goals as goal

pub returns-clause-range : goal.returns-clause-range
returns-clause-range c entries is =
    let from = c.min-from.result in
    let shown = c.limited.result in
    let first : from ≡ min c.args.self.now.from c.args.len = search rules in
    let count : (from + shown) - from ≡ shown = omega arith in
    within_is c.args.self.now c.args.len from shown entries is first
    (λ ys length-is. limited_is c.args.self.now.count _ shown ys length-is c.limited.ensures)
    ∙ ap (λ (n : ℕ). take n (drop from entries)) (sym count)
