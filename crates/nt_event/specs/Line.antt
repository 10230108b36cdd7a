-- The tree that JSON data is, for a shape.
use Rattle.std.specs.Prelude.{ℕ, zero, suc, ◌^◌, nat_lt, ◌==◌, ℤ, List, Bool, false, Option, Some, None, option_map, option_and_then}
use Rattle.std.specs.Prelude.{Result, Ok, Err, codes, if◌then◌else◌}
use Rattle.hex.specs.Hex.{decode_of}
use Rattle.serde_json.specs.Data.{Data, null, string, array, object, Items, no_items, item, Members}
use Rattle.serde_json.specs.Find.{get_member, as_bool, as_number, as_str, as_array, as_integer, as_u64}
use Rattle.serde_json.specs.Events.{members_len}
use Rattle.nt_types.specs.ShapeData.{ShapeData, ShapesData, MembersData, no_kinds, kind, no_parts, part}
use Rattle.nt_types.specs.ShapeData as kinds
use Rattle.nt_types.specs.TreeData.{TreeData, TreesData, flag, num, text, items, parts, pick, nothing, no_trees, tree}
use Rattle.nt_types.specs.Fits.{is_int}

-- what stands, where it is no error
abbrev pub ok_of : {A E : Type 0} → Result A E → Option A
ok_of (Ok a) = Some a
ok_of (Err e) = None

-- the bytes of an object whose one key is `hex`
abbrev pub hex_read : Members → Option (List ℕ)
hex_read ms =
    if members_len ms == 1 then option_and_then (λ s. ok_of (decode_of s)) (option_and_then as_str (get_member (codes "hex") ms)) else None

-- a text is a string, or an object with its bytes as hex
abbrev pub text_read : Data → Option (List ℕ)
text_read (string s) = Some s
text_read (object ms) = hex_read ms
text_read _ = None

-- an integer that passes
abbrev pub int_if : (ℤ → Bool) → ℤ → Option TreeData
int_if f z = if f z then Some (num z) else None

-- a number that is an integer, and passes
abbrev pub int_read : (ℤ → Bool) → Data → Option TreeData
int_read f d = option_and_then (int_if f) (option_and_then as_integer (as_number d))

-- each item by the same reading
abbrev pub all_read : (Data → Option TreeData) → Items → Option TreesData
all_read f no_items = Some no_trees
all_read f (item d ds) = option_and_then (λ v. option_map (tree v) (all_read f ds)) (f d)

-- a first item, and those behind it
abbrev pub next_read : (Data → Option TreeData) → (Items → Option TreesData) → Items → Option TreesData
next_read f g no_items = None
next_read f g (item d ds) = option_and_then (λ v. option_map (tree v) (g ds)) (f d)

-- no item
abbrev pub none_read : Items → Option TreesData
none_read no_items = Some no_trees
none_read (item d ds) = None

-- a tag is a number of 32 bits
abbrev pub tag_of : ℕ → Option ℕ
tag_of n = if nat_lt n (2 ^ 32) then Some n else None

-- the tag that a value is
abbrev pub tag_read : Data → Option ℕ
tag_read d = option_and_then tag_of (option_and_then as_u64 (as_number d))

-- a tag and a value, and no more
abbrev pub pick_read : (ℕ → Data → Option TreeData) → Items → Option TreeData
pick_read f (item t (item d no_items)) = option_and_then (λ tag. option_map (pick tag) (f tag d)) (tag_read t)
pick_read f no_items = None
pick_read f (item t no_items) = None
pick_read f (item t (item d (item e ds))) = None

-- a choice is `null`, or an array of tag and value
abbrev pub choice_read : (ℕ → Data → Option TreeData) → Data → Option TreeData
choice_read f null = Some nothing
choice_read f (array ds) = pick_read f ds
choice_read f _ = None

-- an optional is `null`, or its value
abbrev pub maybe_read : (Data → Option TreeData) → Data → Option TreeData
maybe_read f null = Some nothing
maybe_read f d = f d

-- an array whose items are read so
abbrev pub array_read : (Items → Option TreesData) → (TreesData → TreeData) → Data → Option TreeData
array_read f g d = option_and_then (λ ds. option_map g (f ds)) (as_array d)

-- the tree that a value is, for a shape; of several kinds, one value for each; of alternatives, the one of the tag, from 1
abbrev mutual
  pub tree_read : ShapeData → Data → Option TreeData
  tree_read kinds.bool d = option_map flag (as_bool d)
  tree_read kinds.char d = int_read (is_int 8 false) d
  tree_read kinds.byte d = int_read (is_int 8 false) d
  tree_read (kinds.int bits signed) d = int_read (is_int bits signed) d
  tree_read kinds.text d = option_map text (text_read d)
  tree_read (kinds.list k) d = array_read (all_read (tree_read k)) items d
  tree_read (kinds.maybe k) d = maybe_read (tree_read k) d
  tree_read (kinds.fields ps) d = array_read (parts_read ps) parts d
  tree_read (kinds.tuple ks) d = array_read (kinds_read ks) parts d
  tree_read (kinds.choice ks) d = choice_read (one_read ks) d

  pub parts_read : MembersData → Items → Option TreesData
  parts_read no_parts ds = none_read ds
  parts_read (part n k ps) ds = next_read (tree_read k) (parts_read ps) ds

  pub kinds_read : ShapesData → Items → Option TreesData
  kinds_read no_kinds ds = none_read ds
  kinds_read (kind k ks) ds = next_read (tree_read k) (kinds_read ks) ds

  pub one_read : ShapesData → ℕ → Data → Option TreeData
  one_read no_kinds tag d = None
  one_read (kind k ks) zero d = None
  one_read (kind k ks) (suc zero) d = tree_read k d
  one_read (kind k ks) (suc (suc n)) d = one_read ks (suc n) d
