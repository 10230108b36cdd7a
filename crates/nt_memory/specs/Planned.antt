-- Calls of objects that are to fail.
use Rattle.std.specs.Prelude.{ℕ, zero, suc, ◌+◌, ◌-◌, ◌^◌, ◌==◌, min, max, Bool, true, false, List, [], ◌∷◌, ◌++◌, map, filter}
use Rattle.nt_memory.specs.declared.plan.Object.{Object}
use Rattle.nt_memory.specs.declared.plan.Object.TheVariants.{Host, Text, File, Disk, Pen}
use Rattle.nt_memory.specs.declared.plan.Planned.{Planned}

-- the same kind, and the same number
abbrev pub is_same : Object → Object → Bool
is_same Host Host = true
is_same (Text one) (Text two) = one == two
is_same (File one) (File two) = one == two
is_same Disk Disk = true
is_same (Pen one) (Pen two) = one == two
is_same _ _ = false

-- the numbers of an object's calls
abbrev pub numbers_for : Object → List Planned → List ℕ
numbers_for object planned = map (λ p. p.call) (filter (λ p. is_same p.object object) planned)

-- the numbers of the calls of each of the first so many pens
abbrev pub pen_lists : ℕ → List Planned → List (List ℕ)
pen_lists zero planned = []
pen_lists (suc n) planned = pen_lists n planned ++ numbers_for (Pen n) planned ∷ []

-- below which number all pens stand that have calls to fail, with one object more
abbrev pub pens_with : Object → ℕ → ℕ
pens_with (Pen number) pens = max pens (min (number + 1) (2 ^ 32 - 1))
pens_with _ pens = pens
