-- What fits the fields of a schema text fits the rows that describe them.
use Rattle.std.proofs.Common.{◌≡◌, ℕ, zero, suc, ◌+◌, ◌<◌, ◌==◌, Bool, true, false, List, [], ◌∷◌, ◌++◌, length, map, Option, Some, None}
use Rattle.std.proofs.Common.{refl, sym, ap, ◌∙◌, subst, arith}
use Rattle.std.specs.Prelude.{◌&&◌, ◌||◌, slice_get, option_map, option_and_then, if◌then◌else◌}
use borrow.Author.Tests.{eqb-true}
use Rattle.std.proofs.lemmas.List.{length-append, map-append}
use Rattle.nt_types.specs.ShapeData.{ShapeData, ShapesData, MembersData, MemberData, no_kinds, kind, no_parts, part, parts_of}
use Rattle.nt_types.specs.ShapeData as kinds
use Rattle.nt_types.specs.TreeData.{TreeData, TreesData, flag, num, text, items, parts, pick, nothing, no_trees, tree, is_nothing}
use Rattle.nt_types.specs.Fits.{all_trees, fits_items, fits_parts, fits_pick, fits_next, fits, fit_parts, fit_kinds, fits_one}
use Rattle.nt_grammar.specs.declared.rows.FieldRow.{FieldRow}
use Rattle.nt_grammar.specs.declared.rows.ColumnRow.{ColumnRow}
use Rattle.nt_grammar.specs.Table.{Table}
use Rattle.nt_grammar.specs.Codes.{most_levels}
use Rattle.nt_grammar.specs.AsRead.{as_read, parts_as_read, places_as_read, kinds_as_read}
use Rattle.nt_grammar.specs.Rows.{NodeData, Rows, inside, members_in, places_in, all_inside, at_top, field_row}
use Rattle.nt_grammar.specs.Open.{top_shape, open_shape, open_shapes, open_field}
use Rattle.nt_grammar.proofs.Listing.{all_inside-self, uncons, regrouped}
use Rattle.nt_trees.specs.Fits.{some_shapes, fits_entry}

all_same : (p q : TreeData → Bool) → ((t : TreeData) → p t ≡ q t) → (ts : TreesData) → all_trees p ts ≡ all_trees q ts
all_same p q same no_trees = refl
all_same p q same (tree t ts) = ap (λ (b : Bool). b && all_trees p ts) (same t) ∙ ap (λ (b : Bool). q t && b) (all_same p q same ts)

next_same : (p q : TreeData → Bool) (f g : TreesData → Bool) → ((t : TreeData) → p t ≡ q t) → ((ts : TreesData) → f ts ≡ g ts)
    → (ts : TreesData)
    → fits_next p f ts ≡ fits_next q g ts
next_same p q f g one others no_trees = refl
next_same p q f g one others (tree t ts) = ap (λ (b : Bool). b && f ts) (one t) ∙ ap (λ (b : Bool). q t && b) (others ts)

items_same : (f g : TreesData → Bool) → ((ts : TreesData) → f ts ≡ g ts) → (t : TreeData) → fits_items f t ≡ fits_items g t
items_same f g same (flag b) = refl
items_same f g same (num z) = refl
items_same f g same (text s) = refl
items_same f g same (items ts) = same ts
items_same f g same (parts ts) = refl
items_same f g same (pick n t) = refl
items_same f g same nothing = refl

parts_same : (f g : TreesData → Bool) → ((ts : TreesData) → f ts ≡ g ts) → (t : TreeData) → fits_parts f t ≡ fits_parts g t
parts_same f g same (flag b) = refl
parts_same f g same (num z) = refl
parts_same f g same (text s) = refl
parts_same f g same (items ts) = refl
parts_same f g same (parts ts) = same ts
parts_same f g same (pick n t) = refl
parts_same f g same nothing = refl

pick_same : (f g : ℕ → TreeData → Bool) → ((n : ℕ) (t : TreeData) → f n t ≡ g n t) → (t : TreeData) → fits_pick f t ≡ fits_pick g t
pick_same f g same (flag b) = refl
pick_same f g same (num z) = refl
pick_same f g same (text s) = refl
pick_same f g same (items ts) = refl
pick_same f g same (parts ts) = refl
pick_same f g same (pick n t) = same n t
pick_same f g same nothing = refl

mutual
  -- a tuple takes what the record takes that it is read as
  pub as_read-fits : (k : ShapeData) (t : TreeData) → fits (as_read k) t ≡ fits k t
  as_read-fits kinds.bool t = refl
  as_read-fits kinds.char t = refl
  as_read-fits kinds.byte t = refl
  as_read-fits (kinds.int bits signed) t = refl
  as_read-fits kinds.text t = refl
  as_read-fits (kinds.list k) t = items_same (all_trees (fits (as_read k))) (all_trees (fits k))
      (all_same (fits (as_read k)) (fits k) (as_read-fits k)) t
  as_read-fits (kinds.maybe k) t = ap (λ (b : Bool). is_nothing t || b) (as_read-fits k t)
  as_read-fits (kinds.fields ps) t = parts_same (fit_parts (parts_as_read ps)) (fit_parts ps) (parts_as_read-fit ps) t
  as_read-fits (kinds.tuple ks) t = parts_same (fit_parts (places_as_read 0 ks)) (fit_kinds ks) (places_as_read-fit 0 ks) t
  as_read-fits (kinds.choice ks) t = pick_same (fits_one (kinds_as_read ks)) (fits_one ks) (kinds_as_read-fit ks) t

  parts_as_read-fit : (ps : MembersData) (ts : TreesData) → fit_parts (parts_as_read ps) ts ≡ fit_parts ps ts
  parts_as_read-fit no_parts ts = refl
  parts_as_read-fit (part n k ps) ts = next_same (fits (as_read k)) (fits k) (fit_parts (parts_as_read ps)) (fit_parts ps)
      (as_read-fits k) (parts_as_read-fit ps) ts

  places_as_read-fit : (i : ℕ) (ks : ShapesData) (ts : TreesData) → fit_parts (places_as_read i ks) ts ≡ fit_kinds ks ts
  places_as_read-fit i no_kinds ts = refl
  places_as_read-fit i (kind k ks) ts = next_same (fits (as_read k)) (fits k) (fit_parts (places_as_read (i + 1) ks)) (fit_kinds ks)
      (as_read-fits k) (places_as_read-fit (i + 1) ks) ts

  kinds_as_read-fit : (ks : ShapesData) (n : ℕ) (t : TreeData) → fits_one (kinds_as_read ks) n t ≡ fits_one ks n t
  kinds_as_read-fit no_kinds n t = refl
  kinds_as_read-fit (kind k ks) zero t = refl
  kinds_as_read-fit (kind k ks) (suc zero) t = as_read-fits k t
  kinds_as_read-fit (kind k ks) (suc (suc n)) t = kinds_as_read-fit ks (suc n) t

-- rows whose fields lie inside others before them
abbrev pub AreInside : ℕ → List NodeData → Type 0
AreInside id [] = Unit {0}
AreInside id (n ∷ ns) = (n.parent < id) × AreInside (id + 1) ns

inside-join : (id : ℕ) (a b : List NodeData) → AreInside id a → AreInside (id + length a) b → AreInside id (a ++ b)
inside-join id [] b h k = subst (λ (n : ℕ). AreInside n b) (omega arith) k
inside-join id (n ∷ a) b h k =
    let next : id + suc (length a) ≡ id + 1 + length a = omega arith in
    (h.0, inside-join (id + 1) a b h.1 (subst (λ (m : ℕ). AreInside m b) next k))

inside-members : (id j : ℕ) (ps : MembersData) → id < j → AreInside j (members_in id ps)
inside-members id j no_parts less = tt
inside-members id j (part n k ps) less = (less, inside-members id (j + 1) ps (omega arith))

inside-places : (id i j : ℕ) (ks : ShapesData) → id < j → AreInside j (places_in id i ks)
inside-places id i j no_kinds less = tt
inside-places id i j (kind k ks) less = (less, inside-places id (i + 1) (j + 1) ks (omega arith))

inside-shape : (id j : ℕ) (k : ShapeData) → id < j → AreInside j (inside id k)
inside-shape id j kinds.bool less = tt
inside-shape id j kinds.char less = tt
inside-shape id j kinds.byte less = tt
inside-shape id j (kinds.int bits signed) less = tt
inside-shape id j kinds.text less = tt
inside-shape id j (kinds.list k) less = (less, tt)
inside-shape id j (kinds.maybe k) less = (less, tt)
inside-shape id j (kinds.fields ps) less = inside-members id j ps less
inside-shape id j (kinds.tuple ks) less = inside-places id 0 j ks less
inside-shape id j (kinds.choice ks) less = inside-places id 0 j ks less

pub inside-all : (id : ℕ) (front ms : List NodeData) → ms ≡ front ++ all_inside id ms → AreInside (id + length front) (all_inside id ms)
inside-all id front [] e = tt
inside-all id [] (m ∷ ms) e = let none : m ∷ ms ≡ [] = all_inside-self id (m ∷ ms) e in cc
inside-all id (q ∷ front) (m ∷ ms) e =
    let d : (m ≡ q) × (ms ≡ front ++ (inside id m.of ++ all_inside (id + 1) ms)) = uncons m q ms _ e in
    let later = inside-all (id + 1) (front ++ inside id q.of) ms (regrouped id front q m ms d.0 d.1) in
    let same : length (inside id q.of) ≡ length (inside id m.of) = ap (λ (n : NodeData). length (inside id n.of)) (sym d.0) in
    let place : id + 1 + length (front ++ inside id q.of) ≡ id + suc (length front) + length (inside id m.of) =
    omega (arith, length-append front (inside id q.of), same) in
    inside-join (id + suc (length front)) (inside id m.of) (all_inside (id + 1) ms)
    (inside-shape id (id + suc (length front)) m.of (omega arith))
    (subst (λ (n : ℕ). AreInside n (all_inside (id + 1) ms)) place later)

pub below-other : (a b : ℕ) → a < b → (a == b) ≡ false
below-other a b less = at (a == b) refl
  where
    at : (c : Bool) → (a == b) ≡ c → (a == b) ≡ false
    at true e = absurd (omega (arith, eqb-true a b e))
    at false e = e

module _ (fs : List FieldRow) (cs : List ColumnRow) where
  -- no field inside another is at the top level
  none_at_top : (id : ℕ) (ns : List NodeData) → AreInside id ns → some_shapes (open_shapes fs cs id (map field_row ns)) ≡ no_kinds
  none_at_top id [] h = refl
  none_at_top id (n ∷ ns) h =
      let closed : top_shape fs cs id (field_row n) ≡ None =
      ap (λ (b : Bool). if b then option_map (λ (p : MemberData). p.of) (open_field most_levels fs cs true id) else None)
      (below-other n.parent id h.0) in
      ap (λ (o : Option ShapeData). some_shapes (o ∷ open_shapes fs cs (id + 1) (map field_row ns))) closed ∙ none_at_top (id + 1) ns h.1

  -- the row of a field at the top level
  abbrev row_at : ℕ → MemberData → FieldRow
  row_at id p = field_row (record { parent = id; name = p.name; of = p.of })

  tops_fit : (id : ℕ) (ps : List MemberData) (rest : List FieldRow) (ts : TreesData)
      → ((j : ℕ) (p : MemberData) → slice_get ps j ≡ Some p → top_shape fs cs (id + j) (row_at (id + j) p) ≡ Some (as_read p.of))
      → some_shapes (open_shapes fs cs (id + length ps) rest) ≡ no_kinds
      → fit_kinds (some_shapes (open_shapes fs cs id (map field_row (at_top id ps) ++ rest))) ts ≡ fit_parts (parts_of ps) ts
  tops_fit id [] rest ts each none =
      let here : id + 0 ≡ id = omega arith in
      ap (λ (n : ℕ). fit_kinds (some_shapes (open_shapes fs cs n rest)) ts) (sym here) ∙ ap (λ (k : ShapesData). fit_kinds k ts) none
  tops_fit id (p ∷ ps) rest ts each none =
      let here : id + 0 ≡ id = omega arith in
      let first : top_shape fs cs id (row_at id p) ≡ Some (as_read p.of) =
      subst (λ (n : ℕ). top_shape fs cs n (row_at n p) ≡ Some (as_read p.of)) here (each 0 p refl) in
      let others = open_shapes fs cs (id + 1) (map field_row (at_top (id + 1) ps) ++ rest) in
      let behind : id + suc (length ps) ≡ id + 1 + length ps = omega arith in
      ap (λ (o : Option ShapeData). fit_kinds (some_shapes (o ∷ others)) ts) first
      ∙ next_same (fits (as_read p.of)) (fits p.of) (fit_kinds (some_shapes others)) (fit_parts (parts_of ps)) (as_read-fits p.of)
      (λ us. tops_fit (id + 1) ps rest us
      (λ j q is. let next : id + suc j ≡ id + 1 + j = omega arith in
      subst (λ (n : ℕ). top_shape fs cs n (row_at n q) ≡ Some (as_read q.of)) next (each (suc j) q is))
      (subst (λ (n : ℕ). some_shapes (open_shapes fs cs n rest) ≡ no_kinds) behind none)) ts

  top_row : (id : ℕ) (ps : List MemberData) (rest : List FieldRow) (j : ℕ) (p : MemberData) → slice_get ps j ≡ Some p
      → slice_get (map field_row (at_top id ps) ++ rest) j ≡ Some (row_at (id + j) p)
  top_row id [] rest j p is = cc
  top_row id (q ∷ ps) rest zero p is =
      let same : q ≡ p = cc in
      let here : id ≡ id + 0 = omega arith in
      ap (λ (m : MemberData). Some (row_at id m)) same ∙ ap (λ (n : ℕ). Some (row_at n p)) here
  top_row id (q ∷ ps) rest (suc j) p is =
      let next : id + 1 + j ≡ id + suc j = omega arith in
      top_row (id + 1) ps rest j p is ∙ ap (λ (n : ℕ). Some (row_at n p)) next

pub length-at_top : (id : ℕ) (ps : List MemberData) → length (at_top id ps) ≡ length ps
length-at_top id [] = refl
length-at_top id (p ∷ ps) = ap suc (length-at_top (id + 1) ps)

-- one tree for each field fits the rows that describe the fields
pub table_fits : (fields : List MemberData) (plain : Bool) (t : Table) (ts : TreesData) → Rows fields plain t
    → ((id : ℕ) (p : MemberData) → slice_get fields id ≡ Some p → open_shape t id ≡ Some (as_read p.of)) → fits_entry t ts
    ≡ fit_parts (parts_of fields) ts
table_fits fields plain t ts rows opens =
    let inner : List FieldRow = map field_row (all_inside 0 rows.nodes) in
    let rows_are : t.fields ≡ map field_row (at_top 0 fields) ++ inner =
    rows.field_rows ∙ (ap (λ (l : List NodeData). map field_row l) rows.order ∙ map-append field_row (at_top 0 fields)
    (all_inside 0 rows.nodes)) in
    let below : AreInside (0 + length fields) (all_inside 0 rows.nodes) =
    subst (λ (n : ℕ). AreInside (0 + n) (all_inside 0 rows.nodes)) (length-at_top 0 fields)
    (inside-all 0 (at_top 0 fields) rows.nodes rows.order) in
    ap (λ (l : List FieldRow). fit_kinds (some_shapes (open_shapes t.fields t.columns 0 l)) ts) rows_are
    ∙ tops_fit t.fields t.columns 0 fields inner ts
    (λ j p is.
    let row : slice_get t.fields j ≡ Some (row_at t.fields t.columns (0 + j) p) =
    ap (λ (l : List FieldRow). slice_get l j) rows_are ∙ top_row t.fields t.columns 0 fields inner j p is in
    let zero_place : j ≡ 0 + j = omega arith in
    subst (λ (n : ℕ). top_shape t.fields t.columns n (row_at t.fields t.columns (0 + j) p) ≡ Some (as_read p.of)) zero_place
    (sym (ap (λ (o : Option FieldRow). option_and_then (top_shape t.fields t.columns j) o) row) ∙ opens j p is))
    (none_at_top t.fields t.columns (0 + length fields) (all_inside 0 rows.nodes) below)
