-- Values that stand one after the other.
use Rattle.std.proofs.Common.{arith, ◌≡◌, ℕ, suc, ◌+◌, ◌^◌, ◌≤◌, ◌<◌, List, [], ◌∷◌, ◌++◌, length, drop, get_or, Bool, true, false}
use Rattle.std.proofs.Common.{refl, sym, ap, ◌∙◌, append_assoc, append-nil, decimal, ℤ}
use Rattle.std.proofs.lemmas.List.{drop_all}
use Rattle.json.specs.Token.{Token, begin_array, end_array}
use Rattle.json.specs.Lex.{lex, between, fresh, after_value, after_comma, begins_colon, punctuate, tokens}
use Rattle.json.specs.Json as json
use Rattle.json.specs.Word.{ends_word}
use Rattle.json.specs.Tree.{json_tokens, items_tokens}
use Rattle.json.proofs.Printed.Decimals.{IsNumber-decimal}
use Rattle.nt_types.specs.ShapeData.{ShapeData, ShapesData, MemberData, parts_of}
use Rattle.nt_types.specs.ShapeData as kinds
use Rattle.nt_types.specs.TreeData.{TreeData, flag, num, text, items, parts, pick, nothing}
use Rattle.nt_types.specs.Fits.{fits, fits_one, is_int}
use Rattle.hex.specs.Hex.{IsBytes}
use Rattle.serde_json.specs.Written.{compact_text, number_text}
use Rattle.nt_event.specs.Json.{data_of, num_data, InWord}
use Rattle.nt_types.specs.TreeData.{trees_of}
use Rattle.nt_types.specs.ShapeData.{kinds_of}
use Rattle.nt_event.specs.Standing.{StandsFrom, tokens_from, EndsValue, ValueStands, ItemsStand, CommaStands, MayStand, BlanksStand}
use Rattle.nt_event.specs.Standing.{json_of, jsons_of, ReadsValue, AllGood, EachGood, kinds_in}
use Rattle.nt_event.proofs.Lexing.{opens, closes-fresh, closes-value, ends-at, number-stands, true-stands, false-stands, null-stands}
use Rattle.nt_event.proofs.ReadBack.{number_is}
use Rattle.nt_event.proofs.GoodValues.{all-fit, all-range, all-shallow, each-fit, each-range, each-shallow, one-fits, parts-fit}

-- ---- items without their brackets

-- the tokens of values one after the other
abbrev pub open_tokens : List TreeData → List Token
open_tokens [] = []
open_tokens (v ∷ vs) = json_tokens (json_of v) ++ open_tokens vs

-- behind an opening bracket, from one place to another stand these values
abbrev pub OpenStands : List TreeData → List ℕ → ℕ → ℕ → Type 0
OpenStands [] t at end = end ≡ at
OpenStands (v ∷ vs) t at end = EndsValue (drop end t)
    → tokens_from fresh (drop at t) ≡ open_tokens (v ∷ vs) ++ tokens_from after_value (drop end t)

-- whether something stands before
abbrev pub are_some : List TreeData → Bool
are_some [] = false
are_some (v ∷ vs) = true

open_tokens-push : (vs : List TreeData) (w : TreeData) (ts : List Token)
    → open_tokens (vs ++ w ∷ []) ++ ts ≡ open_tokens vs ++ (json_tokens (json_of w) ++ ts)
open_tokens-push [] w ts = ap (λ l. l ++ ts) (append-nil (json_tokens (json_of w)))
open_tokens-push (v ∷ vs) w ts =
    let j = json_tokens (json_of v) in
    append_assoc j (open_tokens (vs ++ w ∷ [])) ts ∙ ap (λ l. j ++ l) (open_tokens-push vs w ts) ∙ sym (append_assoc j (open_tokens vs) _)

items_tokens-open : (vs : List TreeData) (ts : List Token) → items_tokens (jsons_of (trees_of vs)) ++ ts ≡ open_tokens vs ++ end_array ∷ ts
items_tokens-open [] ts = refl
items_tokens-open (v ∷ vs) ts =
    let j = json_tokens (json_of v) in
    append_assoc j (items_tokens (jsons_of (trees_of vs))) ts ∙ ap (λ l. j ++ l) (items_tokens-open vs ts)
    ∙ sym (append_assoc j (open_tokens vs) _)

-- one more value behind a comma, or the first
pub open-next : (t : List ℕ) (at i next end : ℕ) (vs : List TreeData) (w : TreeData) → OpenStands vs t at i
    → MayStand (are_some vs) t i next → ValueStands (json_of w) t next end
    → OpenStands (vs ++ w ∷ []) t at end
open-next t at i next end [] w so comma it =
    λ e. ap (λ n. tokens_from fresh (drop n t)) (sym (comma ∙ so)) ∙ it.told fresh refl e
    ∙ ap (λ l. l ++ tokens_from after_value (drop end t)) (sym (append-nil (json_tokens (json_of w))))
open-next t at i next end (v ∷ vs) w so comma it =
    λ e. so comma.ends ∙ ap (λ l. open_tokens (v ∷ vs) ++ l) (comma.told ∙ it.told after_comma refl e)
    ∙ sym (open_tokens-push (v ∷ vs) w (tokens_from after_value (drop end t)))

pub open-end : (t : List ℕ) (at i end : ℕ) (vs : List TreeData) → at ≤ i → OpenStands vs t at i → StandsFrom (93 ∷ []) t i end
    → ItemsStand (jsons_of (trees_of vs)) t at end
open-end t at i end [] past so close = record {
  told = ap (λ n. tokens_from fresh (drop n t)) (sym so) ∙ ap (tokens_from fresh) close.part_is ∙ closes-fresh (drop end t);
  within = close.within;
  some = omega (arith, close.some, past);
}
open-end t at i end (v ∷ vs) past so close = record {
  told = so (ends-at t i end close) ∙ ap (λ l. open_tokens (v ∷ vs) ++ l)
      (ap (tokens_from after_value) close.part_is ∙ closes-value (drop end t))
      ∙ sym (items_tokens-open (v ∷ vs) (tokens_from after_value (drop end t)));
  within = close.within;
  some = omega (arith, close.some, past);
}

pub array-stands : (js : json.Items) (t : List ℕ) (at first end : ℕ) → StandsFrom (91 ∷ []) t at first → ItemsStand js t first end
    → ValueStands (json.array js) t at end
array-stands js t at first end begin rest = record {
  told = λ p b e. ap (tokens_from p) begin.part_is ∙ opens p (drop first t) b ∙ ap (λ l. begin_array ∷ l) rest.told;
  within = rest.within;
  some = omega (arith, begin.some, rest.some);
}

-- ---- the cases

pub reads-flag : (b : Bool) (n : ℕ) (t : List ℕ) (at end : ℕ) → StandsFrom (compact_text (data_of (flag b))) t at end
    → ReadsValue n kinds.bool (flag b) t at end
reads-flag true n t at end h = record { stands = true-stands t at end h; good = record { fit = refl; range = tt; shallow = omega arith } }
reads-flag false n t at end h = record { stands = false-stands t at end h; good = record { fit = refl; range = tt; shallow = omega arith } }

pub num-stands : (z : ℤ) (t : List ℕ) (at end : ℕ) → InWord z → StandsFrom (number_text (num_data z)) t at end
    → ValueStands (json_of (num z)) t at end
num-stands z t at end w h = number-stands (number_text (num_data z)) t at end (number_is z w) h

pub reads-int : (bits : ℕ) (signed : Bool) (z : ℤ) (n : ℕ) (t : List ℕ) (at end : ℕ) → is_int bits signed z ≡ true → InWord z
    → StandsFrom (compact_text (data_of (num z))) t at end
    → ReadsValue n (kinds.int bits signed) (num z) t at end
reads-int bits signed z n t at end f w h = record
    { stands = num-stands z t at end w h; good = record { fit = f; range = w; shallow = omega arith } }

pub reads-char : (z : ℤ) (n : ℕ) (t : List ℕ) (at end : ℕ) → is_int 8 false z ≡ true → InWord z
    → StandsFrom (compact_text (data_of (num z))) t at end → ReadsValue n kinds.char (num z) t at end
reads-char z n t at end f w h = record { stands = num-stands z t at end w h; good = record { fit = f; range = w; shallow = omega arith } }

pub reads-byte : (z : ℤ) (n : ℕ) (t : List ℕ) (at end : ℕ) → is_int 8 false z ≡ true → InWord z
    → StandsFrom (compact_text (data_of (num z))) t at end → ReadsValue n kinds.byte (num z) t at end
reads-byte z n t at end f w h = record { stands = num-stands z t at end w h; good = record { fit = f; range = w; shallow = omega arith } }

pub reads-text : (s : List ℕ) (n : ℕ) (t : List ℕ) (at end : ℕ) → IsBytes s → ValueStands (json.string s) t at end
    → ReadsValue n kinds.text (text s) t at end
reads-text s n t at end b h = record { stands = h; good = record { fit = refl; range = b; shallow = omega arith } }

pub reads-null : (n : ℕ) (ks : ShapesData) (t : List ℕ) (at end : ℕ) → StandsFrom (110 ∷ 117 ∷ 108 ∷ 108 ∷ []) t at end
    → ReadsValue n (kinds.choice ks) nothing t at end
reads-null n ks t at end h = record { stands = null-stands t at end h; good = record { fit = refl; range = tt; shallow = omega arith } }

pub reads-no_value : (n : ℕ) (k : ShapeData) (t : List ℕ) (at end : ℕ) → StandsFrom (110 ∷ 117 ∷ 108 ∷ 108 ∷ []) t at end
    → ReadsValue n (kinds.maybe k) nothing t at end
reads-no_value n k t at end h = record { stands = null-stands t at end h; good = record { fit = refl; range = tt; shallow = omega arith } }

pub reads-list : (n : ℕ) (k : ShapeData) (vs : List TreeData) (t : List ℕ) (at first end : ℕ) → StandsFrom (91 ∷ []) t at first
    → ItemsStand (jsons_of (trees_of vs)) t first end → AllGood n k vs
    → ReadsValue (n + 1) (kinds.list k) (items (trees_of vs)) t at end
reads-list n k vs t at first end begin rest good = record {
  stands = array-stands (jsons_of (trees_of vs)) t at first end begin rest;
  good = record { fit = all-fit n k vs good; range = all-range n k vs good; shallow = omega (arith, all-shallow n k vs good) };
}

pub reads-tuple : (n : ℕ) (ks : List ShapeData) (vs : List TreeData) (t : List ℕ) (at first end : ℕ) → StandsFrom (91 ∷ []) t at first
    → ItemsStand (jsons_of (trees_of vs)) t first end → EachGood n ks vs
    → ReadsValue (n + 1) (kinds.tuple (kinds_of ks)) (parts (trees_of vs)) t at end
reads-tuple n ks vs t at first end begin rest good = record {
  stands = array-stands (jsons_of (trees_of vs)) t at first end begin rest;
  good = record { fit = each-fit n ks vs good; range = each-range n ks vs good; shallow = omega (arith, each-shallow n ks vs good) };
}

pub reads-record : (n : ℕ) (ps : List MemberData) (vs : List TreeData) (t : List ℕ) (at first end : ℕ) → StandsFrom (91 ∷ []) t at first
    → ItemsStand (jsons_of (trees_of vs)) t first end
    → EachGood n (kinds_in ps) vs → ReadsValue (n + 1) (kinds.fields (parts_of ps)) (parts (trees_of vs)) t at end
reads-record n ps vs t at first end begin rest good = record {
  stands = array-stands (jsons_of (trees_of vs)) t at first end begin rest;
  good = record {
    fit = parts-fit n ps vs good;
    range = each-range n (kinds_in ps) vs good;
    shallow = omega (arith, each-shallow n (kinds_in ps) vs good);
  };
}

pub pick-items : (tag : ℕ) (v : TreeData) (t : List ℕ) (first dot next last end : ℕ) → tag < 2 ^ 64 → StandsFrom (decimal tag) t first dot
    → CommaStands t dot next → ValueStands (json_of v) t next last
    → StandsFrom (93 ∷ []) t last end → ItemsStand (json.item (json.number (decimal tag)) (json.item (json_of v) json.no_items)) t first end
pick-items tag v t first dot next last end small number comma of close =
    let j = json_tokens (json_of v) in
    let n = number-stands (decimal tag) t first dot (IsNumber-decimal tag small) number in
    let rest = tokens_from after_value (drop end t) in
    record {
      told = n.told fresh refl comma.ends ∙ ap (λ l. json_tokens (json.number (decimal tag)) ++ l)
          (comma.told ∙ of.told after_comma refl (ends-at t last end close)
          ∙ ap (λ l. j ++ l) (ap (tokens_from after_value) close.part_is ∙ closes-value (drop end t))
          ∙ sym (append_assoc j (end_array ∷ []) rest));
      within = close.within;
      some = omega (arith, n.some, comma.some, of.some, close.some);
    }

pub reads-pick : (n : ℕ) (ks : List ShapeData) (tag i : ℕ) (k : ShapeData) (v : TreeData) (t : List ℕ) (at first dot next last end : ℕ)
    → tag ≡ suc i → i < length ks → k ≡ get_or ks i k → tag < 2 ^ 32
    → StandsFrom (91 ∷ []) t at first → StandsFrom (decimal tag) t first dot → CommaStands t dot next → ReadsValue n k v t next last
    → StandsFrom (93 ∷ []) t last end
    → ReadsValue (n + 1) (kinds.choice (kinds_of ks)) (pick tag v) t at end
reads-pick n ks tag i k v t at first dot next last end is lt the small begin number comma of close = record {
  stands = array-stands _ t at first end begin (pick-items tag v t first dot next last end (omega (arith, small)) number comma of.stands
      close);
  good = record {
    fit = ap (λ m. fits_one (kinds_of ks) m v) is ∙ one-fits ks i k v lt (ap (λ j. fits j v) (sym the) ∙ of.good.fit);
    range = (small, of.good.range);
    shallow = grind (arith, of.good.shallow);
  };
}

pub comma-some : (vs : List TreeData) (t : List ℕ) (i n : ℕ) → 0 < length vs → CommaStands t i n → MayStand (are_some vs) t i n
comma-some [] t i n some h = absurd (omega arith)
comma-some (v ∷ vs) t i n some h = h

nothing-left : tokens_from after_value [] ≡ []
unfolding lex punctuate
nothing-left = refl

nothing-ends : EndsValue []
unfolding lex
nothing-ends = record { word = refl; value = refl }

-- the tokens of a line whose array ends before blanks
pub line-tokens : (js : json.Items) (t : List ℕ) (first last : ℕ) → StandsFrom (91 ∷ []) t 0 first → ItemsStand js t first last
    → BlanksStand t last (length t) → tokens t ≡ json_tokens (json.array js)
line-tokens js t first last begin rest blanks =
    let all : drop (length t) t ≡ [] = drop_all (length t) t (omega arith) in
    let told : lex between (drop last t) ≡ lex between [] = blanks.told ∙ ap (lex between) all in
    let ends : EndsValue (drop last t) = record {
      word = blanks.word (ap ends_word all ∙ nothing-ends.word);
      value = ap begins_colon told ∙ nothing-ends.value;
    } in
    (array-stands js t 0 first last begin rest).told fresh refl ends
    ∙ ap (λ l. json_tokens (json.array js) ++ l) (ap (punctuate after_value) told ∙ nothing-left)
    ∙ append-nil (json_tokens (json.array js))

pub deeper : (n m : ℕ) (k : ShapeData) (v : TreeData) (t : List ℕ) (at end : ℕ) → n ≤ m → ReadsValue n k v t at end
    → ReadsValue m k v t at end
deeper n m k v t at end le h = record {
  stands = h.stands;
  good = record { fit = h.good.fit; range = h.good.range; shallow = omega (arith, le, h.good.shallow) };
}

pub may-past : (b : Bool) (t : List ℕ) (i n : ℕ) → MayStand b t i n → i ≤ n
may-past true t i n h = omega (arith, h.some)
may-past false t i n h = omega (arith, h)
