-- Elements that are added to a column one by one.
use Rattle.std.proofs.Common.{◌≡◌, ℕ, ◌+◌, ◌≤◌, List, [], ◌∷◌, ◌++◌, ap, sym, ◌∙◌, arith, append_assoc, append-nil}
use Rattle.nt_column.specs.Column.{Column, Buffer, with_more}
use Rattle.nt_column.specs.Elements.{Element}

-- these were added, so many
pub record AreAdded (es : List Element) (n : ℕ) (first now : Buffer) : Type 0 where
  pub column : now.column ≡ with_more first.column es
  pub spare : first.spare ≤ now.spare + n

pub added-none : (b : Buffer) → AreAdded [] 0 b b
added-none b = record {
  column = ap (λ (l : List Element). record { kind = b.column.kind; elements = l; zeros = b.column.zeros })
      (sym (append-nil b.column.elements));
  spare = omega arith;
}

-- one more
pub added-more : (es : List Element) (n : ℕ) (e : Element) (first old new : Buffer) → AreAdded es n first old
    → new.column ≡ with_more old.column (e ∷ []) → old.spare ≤ new.spare + 1 → AreAdded (es ++ e ∷ []) (n + 1) first new
added-more es n e first old new s column le = record {
  column = column ∙ ap (λ (c : Column). with_more c (e ∷ [])) s.column
      ∙ ap (λ (l : List Element). record { kind = first.column.kind; elements = l; zeros = first.column.zeros })
      (append_assoc first.column.elements es (e ∷ []));
  spare = omega (arith, s.spare, le);
}
