-- Steps along the bytes of a type.
use Rattle.std.proofs.Common.{ℕ, List, [], ◌∷◌, ◌++◌, ◌≡◌, ◌+◌, ◌-◌, ◌<◌, ◌≤◌, refl, Bool, true, false, Some, None, Ok, length, get_or}
use Rattle.std.proofs.Common.{take, drop, drop-cons, add-one, arith}
use Rattle.std.proofs.Common.{length-drop}
use Rattle.std.proofs.lemmas.List.{take_more, get_or-drop}
use Rattle.nt_types.specs.ShapeData.{ShapeData}
use Rattle.nt_types.specs.Words.{is_word_byte}
use Rattle.nt_lists.specs.Answering.{Refuses}
use Rattle.nt_types.specs.FaultViews.{type_fault, or_malformed}
use Rattle.nt_types.specs.declared.fault.TypeError.{TypeError}
use Rattle.nt_types.specs.declared.fault.TypeError.TheVariants as types
use Rattle.nt_types.proofs.Malformed.{some_read, none_read}
use Rattle.nt_types.specs.Reading.{ReadingData, read, delimited}
use Rattle.std.specs.Prelude.{Option}

-- one byte more of a slice
range_more : (text : List ℕ) (from i : ℕ) → from ≤ i → i < length text
    → take (i + 1 - from) (drop from text) ≡ take (i - from) (drop from text) ++ get_or text i 0 ∷ []
range_more text from i order lt =
    let more : i + 1 - from ≡ i - from + 1 = omega arith in
    let inside : i - from < length (drop from text) = rw length-drop (omega arith) in
    let there : from + (i - from) ≡ i = omega arith in
    rw (more, take_more (drop from text) (i - from) 0 inside, get_or-drop from text (i - from) 0, there) refl

drop_next : (text : List ℕ) (i : ℕ) → i < length text → drop i text ≡ get_or text i 0 ∷ drop (i + 1) text
drop_next text i lt = rw (add-one, drop-cons text i 0) refl

-- a byte of a word
pub read_word : (keep : Bool) (s : ReadingData) (text : List ℕ) (from i : ℕ) (all : Option ShapeData) → from ≤ i → i < length text
    → is_word_byte (get_or text i 0) ≡ true
    → read keep s (take (i - from) (drop from text)) (drop i text) ≡ all
    → read keep s (take (i + 1 - from) (drop from text)) (drop (i + 1) text) ≡ all
read_word keep s text from i all order lt word e =
    rw (range_more text from i order lt) (rw (drop_next text i lt, word) at e)

-- a byte of no word
pub read_delimiter : (keep : Bool) (s t : ReadingData) (text : List ℕ) (from i : ℕ) (all : Option ShapeData) → i < length text
    → is_word_byte (get_or text i 0) ≡ false
    → or_malformed (delimited keep s (take (i - from) (drop from text)) (get_or text i 0)) ≡ Ok t
    → read keep s (take (i - from) (drop from text)) (drop i text) ≡ all
    → read keep t (take (i + 1 - (i + 1)) (drop (i + 1) text)) (drop (i + 1) text) ≡ all
read_delimiter keep s t text from i all lt word step e =
    let zero : i + 1 - (i + 1) ≡ 0 = omega arith in
    let none : take (i + 1 - (i + 1)) (drop (i + 1) text) ≡ [] = rw zero refl in
    let next : delimited keep s (take (i - from) (drop from text)) (get_or text i 0) ≡ Some t = some_read _ t step in
    rw none (rw (drop_next text i lt, word, next) at e)

-- a byte of no word, at which the reading stops
pub read_refused : (e : TypeError) (keep : Bool) (s : ReadingData) (text : List ℕ) (from i : ℕ) (all : Option ShapeData) → i < length text
    → is_word_byte (get_or text i 0) ≡ false
    → Refuses (type_fault e) (or_malformed (delimited keep s (take (i - from) (drop from text)) (get_or text i 0)))
    → read keep s (take (i - from) (drop from text)) (drop i text) ≡ all
    → Refuses (type_fault e) (or_malformed all)
read_refused types.Memory keep s text from i all lt word step e = tt
read_refused types.Malformed keep s text from i all lt word step e =
    let none : delimited keep s (take (i - from) (drop from text)) (get_or text i 0) ≡ None = none_read _ step in
    let whole : None ≡ all = rw (drop_next text i lt, word, none) at e in
    rw (← whole) refl
