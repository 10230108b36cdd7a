-- The lines of totals.
use Rattle.std.specs.Prelude.{ℕ, ◌+◌, List, [], ◌∷◌, ◌++◌, codes, decimal}
use Rattle.nt_generate.specs.declared.total.Total.{Total}

-- `context`, its number, `clusters`, how many, `entries`, how many, `sum`, the sum, and a line feed
abbrev pub total_line : ℕ → Total → List ℕ
total_line i t =
    (codes "context " ++ decimal i) ++ (codes " clusters " ++ decimal t.clusters) ++ (codes " entries " ++ decimal t.entries)
    ++ (codes " sum " ++ decimal t.sum) ++ 10 ∷ []

-- the lines of contexts whose numbers go on from this one
abbrev pub lines_from : ℕ → List Total → List ℕ
lines_from i [] = []
lines_from i (t ∷ ts) = total_line i t ++ lines_from (i + 1) ts

-- the lines of all contexts
abbrev pub total_lines : List Total → List ℕ
total_lines totals = lines_from 0 totals
