-- The limits of a schema text.
use Rattle.std.specs.Prelude.{ℕ, ◌^◌}

-- the most bytes of a text
abbrev pub max_text : ℕ
max_text = 2 ^ 20

-- the most fields, those inside of others included
abbrev pub max_fields : ℕ
max_fields = 4096

-- the least count of too many fields
abbrev pub too_many : ℕ
too_many = 4097

-- how deep a type may nest, with a leaf counted as 1
abbrev pub max_depth : ℕ
max_depth = 32

-- the most alternatives of a choice
abbrev pub max_alternatives : ℕ
max_alternatives = 100

-- the most bytes of a name
abbrev pub max_name : ℕ
max_name = 255
