-- What an event is as JSON, and its line.
use Rattle.std.specs.Prelude.{ℕ, ◌^◌, ◌<◌, ℤ, pos, negsuc, List, ⊤, codes, if◌then◌else◌}
use Rattle.std.specs.Str.{is_utf8}
use Rattle.hex.specs.Hex.{encode_lower, IsBytes}
use Rattle.serde_json.specs.Data.{Num, unsigned, negative, Data, null, boolean, number, string, array, object, Items, no_items, item}
use Rattle.serde_json.specs.Data.{no_members, member}
use Rattle.serde_json.specs.Written.{compact_text}
use Rattle.nt_types.specs.TreeData.{TreeData, TreesData, flag, num, text, items, parts, pick, nothing, no_trees, tree}

-- an integer as a JSON number
abbrev pub num_data : ℤ → Num
num_data (pos n) = unsigned n
num_data (negsuc n) = negative (negsuc n)

-- bytes as an object with their hex
abbrev pub hex_data : List ℕ → Data
hex_data s = object (member (codes "hex") (string (encode_lower s)) no_members)

-- a text is a string, and its hex where it is not UTF-8
abbrev pub text_data : List ℕ → Data
text_data s = if is_utf8 s then string s else hex_data s

-- the JSON that a tree is, by what its texts are
abbrev mutual
  pub data_with : (List ℕ → Data) → TreeData → Data
  data_with f (flag b) = boolean b
  data_with f (num z) = number (num_data z)
  data_with f (text s) = f s
  data_with f (items vs) = array (datas_with f vs)
  data_with f (parts vs) = array (datas_with f vs)
  data_with f (pick tag v) = array (item (number (unsigned tag)) (item (data_with f v) no_items))
  data_with f nothing = null

  pub datas_with : (List ℕ → Data) → TreesData → Items
  datas_with f no_trees = no_items
  datas_with f (tree v vs) = item (data_with f v) (datas_with f vs)

-- the JSON that a tree is
abbrev pub data_of : TreeData → Data
data_of v = data_with text_data v

-- the JSON that each of the trees is
abbrev pub datas_of : TreesData → Items
datas_of vs = datas_with text_data vs

-- an entry's line, without its end
abbrev pub line_of : TreesData → List ℕ
line_of vs = compact_text (array (datas_of vs))

-- numbers that JSON reads as integers
abbrev pub InWord : ℤ → Type 0
InWord (pos n) = n < 2 ^ 64
InWord (negsuc n) = n < 2 ^ 63

-- numbers of 64 bits, tags of 32, and texts of bytes
abbrev mutual
  pub InRange : TreeData → Type 0
  InRange (flag b) = ⊤
  InRange (num z) = InWord z
  InRange (text s) = IsBytes s
  InRange (items vs) = AllInRange vs
  InRange (parts vs) = AllInRange vs
  InRange (pick tag v) = (tag < 2 ^ 32) × InRange v
  InRange nothing = ⊤

  pub AllInRange : TreesData → Type 0
  AllInRange no_trees = ⊤
  AllInRange (tree v vs) = InRange v × AllInRange vs
