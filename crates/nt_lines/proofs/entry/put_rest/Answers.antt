use Rattle.std.proofs.Common.{◌≡◌, ℕ, List, length, take, sym, ap, subst, ◌∙◌}
use Rattle.std.specs.Prelude.{OnOk, ◌==◌}
use Rattle.nt_print.proofs.Arrays.{kept-more, kept-self, kept-kept}
use Rattle.nt_lines.proofs.Written.{made-behind}
use Rattle.nt_lines.proofs.entry.put_rest.Goals as goal

pub returns-clause-kept : goal.returns-clause-kept
returns-clause-kept g c =
    let o = c.args.out.now.items in
    kept-kept o c.extend_from_slice.new.self.items c.put_values-2.new.out.items
    (subst (λ (l : List ℕ). take (length o) l ≡ o) (sym c.in_ok-extend_from_slice.ensures.items)
    (kept-more o o c.args.made.now (kept-self o)))
    c.put_values-2.ensures.kept

pub returns-clause-ok : goal.returns-clause-ok
returns-clause-ok g c =
    let cols = g.C.Columns.elements c.args.lines.now.columns.now in
    let new = c.put_values-2.new.out.items in
    let behind = made-behind c.args.count c.args.lines.now.plans.items cols c.args.i c.args.out.now.items
    c.extend_from_slice.new.self.items c.args.made.now c.in_ok-extend_from_slice.ensures.items
    (λ none. absurd (cc (c.if-is_empty.ensures ∙ ap (λ (l : List ℕ). length l == 0) none))) c.requires.made.1 in
    subst (λ (l : List ℕ). OnOk c.put_values-2.result (new ≡ l)) behind.1 c.put_values-2.ensures.ok
