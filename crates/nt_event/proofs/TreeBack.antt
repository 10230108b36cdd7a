-- The data of a tree is that tree, for a shape that it fits.
use Rattle.std.proofs.Common.{◌≡◌, ℕ, ◌^◌, ◌<◌, zero, suc, ℤ, pos, negsuc, List, Bool, true, false, Option, Some, None, option_map}
use Rattle.std.proofs.Common.{option_and_then, if◌then◌else◌, refl, ap, ◌∙◌, ◌||◌}
use Rattle.std.proofs.lemmas.Bool.{and_parts, false≢true, lt-ltb}
use Rattle.std.specs.Str.{is_utf8}
use Rattle.hex.specs.Hex.{IsBytes}
use Rattle.hex.proofs.HexLemmas.{decode_of-encode_lower}
use Rattle.serde_json.specs.Data.{Data, null, string}
use Rattle.nt_types.specs.ShapeData.{ShapeData, ShapesData, MembersData, no_kinds, kind, no_parts, part}
use Rattle.nt_types.specs.ShapeData as kinds
use Rattle.nt_types.specs.TreeData.{TreeData, TreesData, flag, num, text, items, parts, pick, nothing, no_trees, tree, is_nothing}
use Rattle.nt_types.specs.Fits.{is_int, all_trees, fits, fit_parts, fit_kinds, fits_one}
use Rattle.nt_event.specs.Line.{ok_of, text_read, int_read, tag_of, all_read, maybe_read, tree_read, parts_read, kinds_read, one_read}
use Rattle.nt_event.specs.Json.{hex_data, text_data, data_with, datas_with, data_of, InRange, AllInRange}

-- the JSON of a text gives the text back
abbrev pub GivesText : (List ℕ → Data) → Type 0
GivesText f = (s : List ℕ) → IsBytes s → text_read (f s) ≡ Some s

-- a string gives its text back
pub string_gives : GivesText string
string_gives s h = refl

int_back : (f : ℤ → Bool) (z : ℤ) → f z ≡ true → int_read f (data_of (num z)) ≡ Some (num z)
int_back f (pos n) h = rw h refl
int_back f (negsuc n) h = rw h refl

either_back : (b : Bool) (s : List ℕ) → IsBytes s → text_read (if b then string s else hex_data s) ≡ Some s
either_back true s h = refl
either_back false s h = ap ok_of (decode_of-encode_lower s h)

-- a text or its hex gives the text back
pub text_gives : GivesText text_data
text_gives s h = either_back (is_utf8 s) s h

tag_back : (tag : ℕ) → tag < 2 ^ 32 → tag_of tag ≡ Some tag
tag_back tag h = ap (λ b. if b then Some tag else None) (lt-ltb tag (2 ^ 32) h)

all_back : (t : List ℕ → Data) (f : Data → Option TreeData) (g : TreeData → Bool) (vs : TreesData)
    → ((v : TreeData) → g v ≡ true → InRange v → f (data_with t v) ≡ Some v) → all_trees g vs ≡ true → AllInRange vs
    → all_read f (datas_with t vs) ≡ Some vs
all_back t f g no_trees each h b = refl
all_back t f g (tree v vs) each h b = let p = and_parts (g v) (all_trees g vs) h in rw (each v p.0 b.0, all_back t f g vs each p.1 b.1) refl

-- what a text is read from isn't `null`
text_there : (f : Data → Option TreeData) (d : Data) (s : List ℕ) → text_read d ≡ Some s → maybe_read f d ≡ f d
text_there f null s e = cc
text_there f _ s e = refl

-- nothing is `null`, and no other tree is
maybe_back : (t : List ℕ → Data) → GivesText t → (f : Data → Option TreeData) (fit : Bool) (v : TreeData)
    → (fit ≡ true → f (data_with t v) ≡ Some v) → (is_nothing v || fit) ≡ true → InRange v → maybe_read f (data_with t v) ≡ Some v
maybe_back t g f fit nothing each h y = refl
maybe_back t g f fit (text s) each h y = text_there f (t s) s (g s y) ∙ each h
maybe_back t g f fit _ each h y = each h

mutual
  pub tree_read-data : (t : List ℕ → Data) → GivesText t → (k : ShapeData) (v : TreeData) → fits k v ≡ true → InRange v
      → tree_read k (data_with t v) ≡ Some v
  tree_read-data t g kinds.bool (flag b) h y = refl
  tree_read-data t g kinds.char (num z) h y = int_back (is_int 8 false) z h
  tree_read-data t g kinds.byte (num z) h y = int_back (is_int 8 false) z h
  tree_read-data t g (kinds.int bits signed) (num z) h y = int_back (is_int bits signed) z h
  tree_read-data t g kinds.text (text s) h y = ap (option_map text) (g s y)
  tree_read-data t g (kinds.list k) (items vs) h y =
      ap (option_map items) (all_back t (tree_read k) (fits k) vs (λ v e b. tree_read-data t g k v e b) h y)
  tree_read-data t g (kinds.maybe k) v h y = maybe_back t g (tree_read k) (fits k v) v (λ e. tree_read-data t g k v e y) h y
  tree_read-data t g (kinds.fields ps) (parts vs) h y = ap (option_map parts) (parts_read-data t g ps vs h y)
  tree_read-data t g (kinds.tuple ks) (parts vs) h y = ap (option_map parts) (kinds_read-data t g ks vs h y)
  tree_read-data t g (kinds.choice ks) nothing h y = refl
  tree_read-data t g (kinds.choice ks) (pick tag v) h y =
      ap (option_and_then (λ n. option_map (pick n) (one_read ks n (data_with t v)))) (tag_back tag y.0)
      ∙ ap (option_map (pick tag)) (one_read-data t g ks tag v h y.1)
  tree_read-data t g _ _ h y = absurd (false≢true h)

  pub parts_read-data : (t : List ℕ → Data) → GivesText t → (ps : MembersData) (vs : TreesData) → fit_parts ps vs ≡ true → AllInRange vs
      → parts_read ps (datas_with t vs) ≡ Some vs
  parts_read-data t g no_parts no_trees h y = refl
  parts_read-data t g no_parts (tree v vs) h y = absurd (false≢true h)
  parts_read-data t g (part n k ps) no_trees h y = absurd (false≢true h)
  parts_read-data t g (part n k ps) (tree v vs) h y = let p = and_parts (fits k v) (fit_parts ps vs) h in
      rw (tree_read-data t g k v p.0 y.0, parts_read-data t g ps vs p.1 y.1) refl

  pub kinds_read-data : (t : List ℕ → Data) → GivesText t → (ks : ShapesData) (vs : TreesData) → fit_kinds ks vs ≡ true → AllInRange vs
      → kinds_read ks (datas_with t vs) ≡ Some vs
  kinds_read-data t g no_kinds no_trees h y = refl
  kinds_read-data t g no_kinds (tree v vs) h y = absurd (false≢true h)
  kinds_read-data t g (kind k ks) no_trees h y = absurd (false≢true h)
  kinds_read-data t g (kind k ks) (tree v vs) h y = let p = and_parts (fits k v) (fit_kinds ks vs) h in
      rw (tree_read-data t g k v p.0 y.0, kinds_read-data t g ks vs p.1 y.1) refl

  one_read-data : (t : List ℕ → Data) → GivesText t → (ks : ShapesData) (tag : ℕ) (v : TreeData) → fits_one ks tag v ≡ true → InRange v
      → one_read ks tag (data_with t v) ≡ Some v
  one_read-data t g no_kinds tag v h y = absurd (false≢true h)
  one_read-data t g (kind k ks) zero v h y = absurd (false≢true h)
  one_read-data t g (kind k ks) (suc zero) v h y = tree_read-data t g k v h y
  one_read-data t g (kind k ks) (suc (suc n)) v h y = one_read-data t g ks (suc n) v h y
