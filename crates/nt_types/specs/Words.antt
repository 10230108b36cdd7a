-- The bytes and words of a schema text.
use Rattle.std.specs.Prelude.{ℕ, Bool, true, false, List, [], ◌∷◌, length, Option, Some, None, option_map, nat_le, ◌==◌, ◌&&◌, ◌||◌, not}
use Rattle.std.specs.Prelude.{codes, if◌then◌else◌}
use Rattle.std.specs.List.{list_all}
use Rattle.std.specs.Str.{bytes_eq}
use Rattle.nt_types.specs.Limits.{max_name}
use Rattle.nt_types.specs.ShapeData.{ShapeData, bool, char, byte, int, text}

-- an ASCII digit
abbrev pub is_digit : ℕ → Bool
is_digit b = nat_le 48 b && nat_le b 57

-- an ASCII letter, a digit or `_`
abbrev pub is_word_byte : ℕ → Bool
is_word_byte b = (nat_le 97 b && nat_le b 122) || (nat_le 65 b && nat_le b 90) || is_digit b || (b == 95)

-- a space or a tab
abbrev pub is_blank : ℕ → Bool
is_blank b = (b == 32) || (b == 9)

-- a space, a tab or a CR
abbrev pub is_space : ℕ → Bool
is_space b = (b == 32) || (b == 9) || (b == 13)

-- a name has 1 to 255 letters, digits or `_`, and no digit comes first
abbrev pub is_name : List ℕ → Bool
is_name [] = false
is_name (b ∷ bs) = not (is_digit b) && nat_le (length (b ∷ bs)) max_name && list_all is_word_byte (b ∷ bs)

-- the widths of integers, in digits
abbrev pub width : List ℕ → Option ℕ
width w = if bytes_eq w (codes "8") then Some 8
    else if bytes_eq w (codes "16") then Some 16
    else if bytes_eq w (codes "32") then Some 32
    else if bytes_eq w (codes "64") then Some 64
    else None

-- an integer of the width that these digits stand for
abbrev pub int_of : List ℕ → Bool → Option ShapeData
int_of w signed = option_map (λ bits. int bits signed) (width w)

-- `i` and a width, or `u` and a width
abbrev pub number : List ℕ → Option ShapeData
number [] = None
number (b ∷ bs) = if b == 105 then int_of bs true else if b == 117 then int_of bs false else None

-- the types that have no parts
abbrev pub leaf : List ℕ → Option ShapeData
leaf w = if bytes_eq w (codes "bool") then Some bool
    else if bytes_eq w (codes "char") then Some char
    else if bytes_eq w (codes "byte") then Some byte
    else if bytes_eq w (codes "string") then Some text
    else number w
