-- The type that a text spells, read byte by byte with a stack of the constructs that are open. Private functions cite it; what types
-- and texts are is said in Spelling, LineSpelling and TextSpelling, and `texts_are_read` joins the two.
use Rattle.std.specs.Prelude.{ℕ, Bool, true, false, List, [], ◌∷◌, ◌++◌, length, Option, Some, None, is_some, option_and_then, option_map}
use Rattle.std.specs.Prelude.{nat_le, ◌==◌, ◌&&◌, ◌||◌, not, codes, if◌then◌else◌}
use Rattle.std.specs.Str.{bytes_eq}
use Rattle.nt_types.specs.ShapeData.{ShapeData, MemberData, bool, list, maybe, fields, tuple, choice, no_kinds, kinds_of, parts_of}
use Rattle.nt_types.specs.ShapeData.{takes_nothing}
use Rattle.nt_types.specs.Words.{is_word_byte, is_name, leaf}
use Rattle.nt_types.specs.Names.{names_differ}
use Rattle.nt_types.specs.Limits.{max_alternatives}

-- a construct that is open, with the parts that it has so far
pub data OpenData : Type 0 where
  in_list : OpenData
  -- an optional, and whether it lies in a choice or another optional
  in_maybe : Bool → OpenData
  -- a record, before the name of its next member
  at_name : List MemberData → OpenData
  -- a record, in the type of the member of this name
  in_member : List MemberData → List ℕ → OpenData
  in_tuple : List ShapeData → OpenData
  -- a choice, and whether it lies in another one or in an optional
  in_choice : Bool → List ShapeData → OpenData

-- what the byte after a part makes of the construct round it
pub data PlacedData : Type 0 where
  goes : OpenData → PlacedData
  ends : ShapeData → PlacedData

-- what is read of a type so far
pub record ReadingData : Type 0 where
  -- what is open, the innermost first
  pub stack : List OpenData
  -- whether a choice or an optional is open
  pub within : Bool
  -- the part that has just ended
  pub done : Option ShapeData

-- nothing is read
abbrev pub start : ReadingData
start = record { stack = []; within = false; done = None }

-- where kinds aren't kept, all that is read is whether there is one, and whether it takes nothing
abbrev pub kind_kept : Bool → ShapeData → ShapeData
kind_kept keep k = if keep then k else if takes_nothing k then choice no_kinds else bool

-- components, and the byte after the last of them
abbrev pub tuple_on : List ShapeData → ℕ → Option PlacedData
tuple_on ks b = if b == 44 then Some (goes (in_tuple ks)) else if b == 62 then Some (ends (tuple (kinds_of ks))) else None

-- alternatives, and the byte after the last of them
abbrev pub choice_on : Bool → List ShapeData → ℕ → Option PlacedData
choice_on w ks b =
    if b == 44 then Some (goes (in_choice w ks))
    else if (b == 62) && nat_le (length ks) max_alternatives then Some (ends (choice (kinds_of ks))) else None

-- members, and the byte after the last of them
abbrev pub members_on : List MemberData → ℕ → Option PlacedData
members_on ps b =
    if b == 44 then Some (goes (at_name ps)) else if (b == 125) && names_differ ps then Some (ends (fields (parts_of ps))) else None

-- a part of the construct has ended, and this byte follows it
abbrev pub put : OpenData → ShapeData → ℕ → Option PlacedData
put in_list k b = if b == 62 then Some (ends (list k)) else None
put (in_maybe w) k b = if (b == 62) && not (takes_nothing k) then Some (ends (maybe k)) else None
put (at_name ps) k b = None
put (in_member ps n) k b = members_on (ps ++ record { name = n; of = k } ∷ []) b
put (in_tuple ks) k b = tuple_on (ks ++ k ∷ []) b
put (in_choice w ks) k b = choice_on w (ks ++ k ∷ []) b

-- whether a choice or an optional is open once this construct has ended
abbrev pub within_after : OpenData → Bool → Bool
within_after (in_choice w ks) inside = w
within_after (in_maybe w) inside = w
within_after in_list inside = inside
within_after (at_name ps) inside = inside
within_after (in_member ps n) inside = inside
within_after (in_tuple ks) inside = inside

-- what is open once a part has been put into a construct
abbrev pub part_placed : Bool → Bool → OpenData → List OpenData → PlacedData → ReadingData
part_placed keep within o os (goes p) = record { stack = p ∷ os; within = within; done = None }
part_placed keep within o os (ends k) = record { stack = os; within = within_after o within; done = Some (kind_kept keep k) }

-- a part in the innermost construct
abbrev pub place_on : Bool → Bool → List OpenData → ShapeData → ℕ → Option ReadingData
place_on keep within [] k b = None
place_on keep within (o ∷ os) k b = option_map (part_placed keep within o os) (put o k b)

-- a part has ended, and this byte follows it
abbrev pub place : Bool → ReadingData → ShapeData → ℕ → Option ReadingData
place keep s k b = place_on keep s.within s.stack k b

-- the construct that a word and the byte after it begin; a record begins in no choice and no optional
abbrev pub started : Bool → List ℕ → ℕ → Option OpenData
started within w b = if b == 123 then (if bytes_eq w (codes "rec") && not within then Some (at_name []) else None)
    else if bytes_eq w (codes "vec") then Some in_list
    else if bytes_eq w (codes "opt") then Some (in_maybe within)
    else if bytes_eq w (codes "tuple") then Some (in_tuple [])
    else if bytes_eq w (codes "var") then Some (in_choice within [])
    else None

-- whether a choice or an optional is open inside of this construct
abbrev pub within_inside : OpenData → Bool → Bool
within_inside (in_choice w ks) outside = true
within_inside (in_maybe w) outside = true
within_inside in_list outside = outside
within_inside (at_name ps) outside = outside
within_inside (in_member ps n) outside = outside
within_inside (in_tuple ks) outside = outside

-- a construct has begun
abbrev pub opened : ReadingData → OpenData → ReadingData
opened s o = record { stack = o ∷ s.stack; within = within_inside o s.within; done = None }

-- a word and the byte after it begin a construct
abbrev pub begin : ReadingData → List ℕ → ℕ → Option ReadingData
begin s w b = if is_some s.done then None else option_map (opened s) (started s.within w b)

-- the name of a member of the innermost construct
abbrev pub named_on : Bool → List OpenData → List ℕ → Option ReadingData
named_on within (at_name ps ∷ os) w =
    if is_name w then Some (record { stack = in_member ps w ∷ os; within = within; done = None }) else None
named_on within _ w = None

-- the name of a member, before its type
abbrev pub named : ReadingData → List ℕ → Option ReadingData
named s w = if is_some s.done then None else named_on s.within s.stack w

-- the part that ends here: one that has ended already, or a leaf
abbrev pub ended_here : Bool → Option ShapeData → List ℕ → Option ShapeData
ended_here keep None w = option_map (kind_kept keep) (leaf w)
ended_here keep (Some k) [] = Some k
ended_here keep (Some k) (b ∷ w) = None

-- a word, and a byte of no word after it
abbrev pub delimited : Bool → ReadingData → List ℕ → ℕ → Option ReadingData
delimited keep s w b = if (b == 60) || (b == 123) then begin s w b
    else if b == 58 then named s w
    else option_and_then (λ k. place keep s k b) (ended_here keep s.done w)

-- a kind is whole where nothing is open
abbrev pub ended_on : List OpenData → ShapeData → Option ShapeData
ended_on [] k = Some k
ended_on (o ∷ os) k = None

-- the end of the text after this word
abbrev pub text_ended : Bool → ReadingData → List ℕ → Option ShapeData
text_ended keep s w = option_and_then (ended_on s.stack) (ended_here keep s.done w)

-- the kind that this word and the bytes after it complete
abbrev pub read : Bool → ReadingData → List ℕ → List ℕ → Option ShapeData
read keep s w [] = text_ended keep s w
read keep s w (b ∷ bs) =
    if is_word_byte b then read keep s (w ++ b ∷ []) bs else option_and_then (λ t. read keep t [] bs) (delimited keep s w b)

-- the kind that a text spells, if it spells one
abbrev pub read_kind : List ℕ → Option ShapeData
read_kind bytes = read true start [] bytes
