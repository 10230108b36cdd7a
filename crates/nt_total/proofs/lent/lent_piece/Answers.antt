use Rattle.std.proofs.Common.{◌∙◌, ℕ, List, map, ap, sym, subst}
use Rattle.std.specs.Prelude.{IfSome}
use Rattle.nt_column.specs.Elements.{numbers}
use Rattle.nt_column.specs.Words.{lent_elements}
use Rattle.nt_column.proofs.Numbers.{numbers-plain, numbers-plain_list}
use Rattle.nt_total.specs.Keys.{key, IsPieceOf}
use Rattle.nt_total.proofs.lent.lent_piece.Goals as goal

pub returns-in-Bytes : goal.returns-in-Bytes
returns-in-Bytes c =
    let same = sym (numbers-plain (λ (n : ℕ). n) c.in-Bytes.list.now) ∙ ap (λ w. numbers (lent_elements w)) (sym c.in-Bytes.is) in
    let piece = c.by_width in
    subst (λ (ns : List ℕ). IfSome piece.result (λ p. IsPieceOf (map (key c.args.bias) ns) p)) same piece.ensures

pub returns-in-Words16 : goal.returns-in-Words16
returns-in-Words16 c =
    let same = sym (numbers-plain (λ (n : ℕ). n) c.in-Words16.list.now) ∙ ap (λ w. numbers (lent_elements w)) (sym c.in-Words16.is) in
    let piece = c.by_width-in-Words16 in
    subst (λ (ns : List ℕ). IfSome piece.result (λ p. IsPieceOf (map (key c.args.bias) ns) p)) same piece.ensures

pub returns-in-Words32 : goal.returns-in-Words32
returns-in-Words32 c =
    let same = sym (numbers-plain (λ (n : ℕ). n) c.in-Words32.list.now) ∙ ap (λ w. numbers (lent_elements w)) (sym c.in-Words32.is) in
    let piece = c.by_width-in-Words32 in
    subst (λ (ns : List ℕ). IfSome piece.result (λ p. IsPieceOf (map (key c.args.bias) ns) p)) same piece.ensures

pub returns-in-Words64 : goal.returns-in-Words64
returns-in-Words64 c =
    let same = sym (numbers-plain_list c.in-Words64.list.now) ∙ ap (λ w. numbers (lent_elements w)) (sym c.in-Words64.is) in
    subst (λ (ns : List ℕ). IsPieceOf (map (key c.args.bias) ns) c.piece_of.result) same c.piece_of.ensures
