-- What stands from one place of a text to another.
use Rattle.std.specs.Prelude.{ℕ, ◌≡◌, ◌≤◌, ◌<◌, List, [], ◌∷◌, ◌++◌, length, drop, Bool, true, false, ⊤}
use Rattle.std.specs.Str.{IsUtf8}
use Rattle.json.specs.Token.{Token}
use Rattle.json.specs.Word.{ends_word}
use Rattle.json.specs.Lex.{lex, between, Place, fresh, after_value, after_comma, may_begin, begins_colon, punctuate, tokens}
use Rattle.json.specs.Json.{Json, Items, array}
use Rattle.json.specs.Tree.{json_tokens, items_tokens, depth}
use Rattle.serde_json.specs.Data.{string}
use Rattle.serde_json.specs.Written.{outline, items_outline}
use Rattle.nt_types.specs.ShapeData.{ShapeData, MemberData}
use Rattle.nt_types.specs.TreeData.{TreeData, TreesData, trees_of}
use Rattle.nt_types.specs.Fits.{fits}
use Rattle.nt_event.specs.Json.{data_with, datas_with, InRange, AllInRange}
use Rattle.nt_event.specs.Limits.{max_line}

-- from one place to another stands this
pub record StandsFrom (part text : List ℕ) (at end : ℕ) : Type 0 where
  pub part_is : drop at text ≡ part ++ drop end text
  pub within : end ≤ length text
  pub some : at < end

-- the tokens of a text, behind what a place is behind
abbrev pub tokens_from : Place → List ℕ → List Token
tokens_from p xs = punctuate p (lex between xs)

-- a value that stands before this text has ended
pub record EndsValue (xs : List ℕ) : Type 0 where
  pub word : ends_word xs ≡ true
  pub value : begins_colon (lex between xs) ≡ false

-- from one place to another stands a JSON value, where it has ended there
pub record ValueStands (j : Json) (text : List ℕ) (at end : ℕ) : Type 0 where
  pub told : (p : Place) → may_begin p ≡ true → EndsValue (drop end text)
      → tokens_from p (drop at text) ≡ json_tokens j ++ tokens_from after_value (drop end text)
  pub within : end ≤ length text
  pub some : at < end

-- behind an opening bracket, from one place to another stand items and the closing bracket
pub record ItemsStand (js : Items) (text : List ℕ) (at end : ℕ) : Type 0 where
  pub told : tokens_from fresh (drop at text) ≡ items_tokens js ++ tokens_from after_value (drop end text)
  pub within : end ≤ length text
  pub some : at < end

-- from one place to another stand a comma and blanks
pub record CommaStands (text : List ℕ) (at end : ℕ) : Type 0 where
  pub told : tokens_from after_value (drop at text) ≡ tokens_from after_comma (drop end text)
  pub ends : EndsValue (drop at text)
  pub within : end ≤ length text
  pub some : at < end

-- a comma and blanks where something stands before, and nothing elsewhere
abbrev pub MayStand : Bool → List ℕ → ℕ → ℕ → Type 0
MayStand true text at end = CommaStands text at end
MayStand false text at end = end ≡ at

-- from one place to another stand blanks alone
pub record BlanksStand (text : List ℕ) (at end : ℕ) : Type 0 where
  pub told : lex between (drop at text) ≡ lex between (drop end text)
  pub word : ends_word (drop end text) ≡ true → ends_word (drop at text) ≡ true
  pub within : end ≤ length text
  pub past : at ≤ end

-- the JSON that a tree is read from, whose texts are strings
abbrev pub json_of : TreeData → Json
json_of v = outline (data_with string v)

-- the JSON that each of the trees is read from
abbrev pub jsons_of : TreesData → Items
jsons_of vs = items_outline (datas_with string vs)

-- a value that has the kind, whose JSON nests at most so deep, and that JSON can give back
pub record Good (deep : ℕ) (k : ShapeData) (v : TreeData) : Type 0 where
  pub fit : fits k v ≡ true
  pub range : InRange v
  pub shallow : depth (json_of v) ≤ deep

-- the value stands from one place to another
pub record ReadsValue (deep : ℕ) (k : ShapeData) (v : TreeData) (text : List ℕ) (at end : ℕ) : Type 0 where
  pub stands : ValueStands (json_of v) text at end
  pub good : Good deep k v

-- a list of one kind
abbrev pub AllGood : ℕ → ShapeData → List TreeData → Type 0
AllGood deep k [] = ⊤
AllGood deep k (v ∷ vs) = Good deep k v × AllGood deep k vs

-- one value for each kind
abbrev pub EachGood : ℕ → List ShapeData → List TreeData → Type 0
EachGood deep [] [] = ⊤
EachGood deep [] (v ∷ vs) = ⊥
EachGood deep (k ∷ ks) [] = ⊥
EachGood deep (k ∷ ks) (v ∷ vs) = Good deep k v × EachGood deep ks vs

-- the kinds of members, without their names
abbrev pub kinds_in : List MemberData → List ShapeData
kinds_in [] = []
kinds_in (p ∷ ps) = p.of ∷ kinds_in ps

-- the tokens of the line are those of the values, which are good for the fields
pub record IsWritten (fields : List MemberData) (vs : List TreeData) (line : List ℕ) : Type 0 where
  pub told : tokens line ≡ json_tokens (array (jsons_of (trees_of vs)))
  pub good : EachGood 126 (kinds_in fields) vs

-- the tokens of a line that is not too long are those of the trees, which JSON can give back
pub record SpellsTrees (vs : List TreeData) (line : List ℕ) : Type 0 where
  pub few : length line ≤ max_line
  pub utf8 : IsUtf8 line
  pub told : tokens line ≡ json_tokens (array (jsons_of (trees_of vs)))
  pub range : AllInRange (trees_of vs)
