-- What is printed for an entry is read as its data.
use Rattle.std.proofs.Common.{◌≡◌, ℕ, ◌≤◌, ℤ, pos, negsuc, List, [], Bool, true, false, Some, option_map, option_and_then, if◌then◌else◌}
use Rattle.std.proofs.Common.{refl, sym, ap, ◌∙◌, arith, append-nil}
use Rattle.std.specs.Str.{is_utf8}
use Rattle.json.specs.Lex.{tokens}
use Rattle.json.specs.Json as json
use Rattle.json.specs.Tree.{json_tokens, HasNumbers, ItemsHaveNumbers}
use Rattle.json.specs.Tree as tree
use Rattle.json.specs.Print.{IsNumber}
use Rattle.json.proofs.Printed.Tokens.{tokens-print}
use Rattle.json.proofs.Printed.Trees.{value-json_tokens, ArePrintable-json_tokens}
use Rattle.json.proofs.Printed.Decimals.{IsNumber-decimal, IsNumber-signed_decimal}
use Rattle.serde_json.specs.Data.{Data, number, string, array}
use Rattle.serde_json.specs.Read.{number_of, of_json, of_items, read, max_depth}
use Rattle.serde_json.specs.Written.{number_text, outline, items_outline, compact_text}
use Rattle.serde_json.proofs.Numbers.{number_of-decimal, number_of-negative}
use Rattle.serde_json.proofs.Texts.{print-outline}
use Rattle.nt_types.specs.TreeData.{TreeData, TreesData, flag, num, text, items, parts, pick, nothing, no_trees, tree}
use Rattle.nt_event.specs.Json.{num_data, hex_data, data_of, datas_of, line_of, data_with, datas_with, text_data, InWord, InRange}
use Rattle.nt_event.specs.Json.{AllInRange}

number_read : (z : ℤ) → InWord z → option_map number (number_of (number_text (num_data z))) ≡ Some (number (num_data z))
number_read (pos n) h = ap (option_map number) (number_of-decimal n h)
number_read (negsuc n) h = ap (option_map number) (number_of-negative n h)

pub number_is : (z : ℤ) → InWord z → IsNumber (number_text (num_data z))
number_is (pos n) h = IsNumber-decimal n h
number_is (negsuc n) h = IsNumber-signed_decimal (negsuc n) h

-- the JSON of a text is data
abbrev pub IsText : (List ℕ → Data) → Type 0
IsText f = (s : List ℕ) → of_json (outline (f s)) ≡ Some (f s)

-- a string is data
pub string_is : IsText string
string_is s = refl

either_is : (b : Bool) (s : List ℕ) → of_json (outline (if b then string s else hex_data s)) ≡ Some (if b then string s else hex_data s)
either_is true s = refl
either_is false s = refl

text_is : IsText text_data
text_is s = either_is (is_utf8 s) s

text_numbers : (b : Bool) (s : List ℕ) → HasNumbers (outline (if b then string s else hex_data s))
text_numbers true s = tt
text_numbers false s = (tt, tt)

mutual
  pub of_json-data : (f : List ℕ → Data) → IsText f → (v : TreeData) → InRange v → of_json (outline (data_with f v)) ≡ Some (data_with f v)
  of_json-data f t (flag b) h = refl
  of_json-data f t (num z) h = number_read z h
  of_json-data f t (text s) h = t s
  of_json-data f t (items vs) h = ap (option_map array) (of_items-datas f t vs h)
  of_json-data f t (parts vs) h = ap (option_map array) (of_items-datas f t vs h)
  of_json-data f t (pick tag v) h = rw (number_of-decimal tag (omega (arith, h.0)), of_json-data f t v h.1) refl
  of_json-data f t nothing h = refl

  pub of_items-datas : (f : List ℕ → Data) → IsText f → (vs : TreesData) → AllInRange vs
      → of_items (items_outline (datas_with f vs)) ≡ Some (datas_with f vs)
  of_items-datas f t no_trees h = refl
  of_items-datas f t (tree v vs) h = rw (of_json-data f t v h.0, of_items-datas f t vs h.1) refl

mutual
  numbers-data : (v : TreeData) → InRange v → HasNumbers (outline (data_of v))
  numbers-data (flag b) h = tt
  numbers-data (num z) h = number_is z h
  numbers-data (text s) h = text_numbers (is_utf8 s) s
  numbers-data (items vs) h = numbers-datas vs h
  numbers-data (parts vs) h = numbers-datas vs h
  numbers-data (pick tag v) h = (IsNumber-decimal tag (omega (arith, h.0)), (numbers-data v h.1, tt))
  numbers-data nothing h = tt

  numbers-datas : (vs : TreesData) → AllInRange vs → ItemsHaveNumbers (items_outline (datas_of vs))
  numbers-datas no_trees h = tt
  numbers-datas (tree v vs) h = (numbers-data v h.0, numbers-datas vs h.1)

-- tokens of a value's outline are read as the value, whatever text gave them
pub read-tokens : (f : List ℕ → Data) → IsText f → (bytes : List ℕ) (vs : TreesData) → AllInRange vs
    → tree.depth (outline (array (datas_with f vs))) ≤ 127
    → tokens bytes ≡ json_tokens (outline (array (datas_with f vs))) → read bytes ≡ Some (array (datas_with f vs))
read-tokens f t bytes vs h shallow same =
    let j = outline (array (datas_with f vs)) in
    ap (λ ts. option_and_then of_json (option_and_then (λ p. json.if_last p.0 p.1) (json.value max_depth ts)))
    (same ∙ sym (append-nil (json_tokens j)))
    ∙ ap (λ o. option_and_then of_json (option_and_then (λ p. json.if_last p.0 p.1) o)) (value-json_tokens j max_depth [] shallow)
    ∙ ap (option_map array) (of_items-datas f t vs h)

tokens-compact : (d : Data) → HasNumbers (outline d) → tokens (compact_text d) ≡ json_tokens (outline d)
tokens-compact d h = ap tokens (sym (print-outline d)) ∙ tokens-print (json_tokens (outline d)) (ArePrintable-json_tokens (outline d) h)

pub read-line_of : (vs : TreesData) → AllInRange vs → tree.depth (outline (array (datas_of vs))) ≤ 127
    → read (line_of vs) ≡ Some (array (datas_of vs))
read-line_of vs h shallow = read-tokens text_data text_is (line_of vs) vs h shallow
    (tokens-compact (array (datas_of vs)) (numbers-datas vs h))
