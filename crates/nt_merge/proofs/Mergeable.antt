-- Schemas that nothing stands against are alike, with open fields alone.
use Rattle.std.proofs.Common.{◌≡◌, ◌∙◌, ap, sym, refl, subst, ℕ, ◌+◌, ◌<◌, cond, Bool, true, false, not, ◌&&◌, ◌||◌, List, [], ◌∷◌}
use Rattle.std.proofs.Common.{length, map, Option, Some, None, arith, eqb}
use Rattle.std.specs.Prelude.{option_map, is_some}
use Rattle.std.specs.List.{AllByRecursion}
use Rattle.std.specs.Option.{option_or}
use Rattle.std.specs.Str.{bytes_eq}
use Rattle.std.proofs.lemmas.Bool.{eq-eqb, eqb-true, ne_eqb}
use Rattle.std.proofs.lemmas.Option.{none-some}
use Rattle.nt_lists.proofs.Bools.{and_true, both_true}
use Rattle.nt_types.specs.ShapeData.{ShapeData}
use Rattle.std.proofs.lemmas.Slice.Eq.{bytes_eq-Decides}
use Rattle.nt_grammar.specs.declared.rows.FieldRow.{FieldRow}
use Rattle.nt_grammar.specs.declared.rows.ColumnRow.{ColumnRow}
use Rattle.nt_grammar.specs.Table.{Table}
use Rattle.nt_grammar.specs.ReadingBack.{IsDescribed, AreFieldRows}
use Rattle.nt_grammar.specs.Open.{top_shape, open_shapes}
use Rattle.nt_plans.specs.Types.{are_some}
use Rattle.nt_plans.specs.Place.{open_plans, place_from}
use Rattle.nt_copied.specs.Alike.{without_flags, plain_column, Alike, all_open, AllOpen}
use Rattle.nt_copied.specs.Copies.{NoneDeferred}
use Rattle.nt_merge.specs.declared.place.SchemaPlace.TheVariants.{Closed, Deferred, Field, Column}
use Rattle.nt_merge.specs.Comparing.{closed_from, first_closed, deferred_from, first_deferred, like_field, like_column, unlike_from}
use Rattle.nt_merge.specs.Comparing.{first_unlike, closed_in, deferred_in, unlike_in, schema_error}
use Rattle.nt_merge.specs.Mergeable.{AreMergeable}

or-none : {A : Type 0} (a b : Option A) → option_or a b ≡ None → (a ≡ None) × (b ≡ None)
or-none None b e = (refl, e)
or-none (Some x) b e = absurd (none-some x (sym e))

map-none : {A B : Type 0} (f : A → B) (o : Option A) → option_map f o ≡ None → o ≡ None
map-none f None e = refl
map-none f (Some x) e = absurd (none-some (f x) (sym e))

-- ---- open fields

open-if : (a b : Bool) → (a && not b) ≡ false → (not a || b) ≡ true
open-if true true e = refl
open-if true false e = absurd cc
open-if false b e = refl

closed-open : (fs : List FieldRow) (cs : List ColumnRow) (id : ℕ) (rs : List FieldRow) → closed_from fs cs id rs ≡ None
    → all_open fs cs id rs ≡ true
closed-open fs cs id [] e = refl
closed-open fs cs id (r ∷ rs) e =
    by (eqb r.parent id && not (is_some (top_shape fs cs id r))) refl e (closed-open fs cs (id + 1) rs)
  where
    by : (b : Bool) → (eqb r.parent id && not (is_some (top_shape fs cs id r))) ≡ b
        → cond b (Some id) (closed_from fs cs (id + 1) rs) ≡ None
        → (closed_from fs cs (id + 1) rs ≡ None → all_open fs cs (id + 1) rs ≡ true) → all_open fs cs id (r ∷ rs) ≡ true
    by true is e more = absurd (none-some id (sym e))
    by false is e more =
        both_true (not (eqb r.parent id) || is_some (top_shape fs cs id r)) (all_open fs cs (id + 1) rs)
        (open-if (eqb r.parent id) (is_some (top_shape fs cs id r)) is) (more e)

none-closed : (t : Table) → first_closed t ≡ None → (0 < length t.fields) × (closed_from t.fields t.columns 0 t.fields ≡ None)
none-closed t = by t.fields
  where
    by : (fs : List FieldRow) → cond (eqb (length fs) 0) (Some 0) (closed_from t.fields t.columns 0 fs) ≡ None
        → (0 < length fs) × (closed_from t.fields t.columns 0 fs ≡ None)
    by [] e = absurd (none-some 0 (sym e))
    by (r ∷ rs) e =
        let some : eqb (length (r ∷ rs)) 0 ≡ false = ne_eqb (length (r ∷ rs)) 0 (λ z. omega (arith, z)) in (
          omega arith,
          sym (ap (λ (b : Bool). cond b (Some 0) (closed_from t.fields t.columns 0 (r ∷ rs))) some) ∙ e,
        )

-- the first field is at the top level, and open
some-open : (t : Table) → first_closed t ≡ None → IsDescribed t → are_some (open_plans t) ≡ true
some-open t none is =
    by t.fields is.fields (none-closed t none).0 (closed-open t.fields t.columns 0 t.fields (none-closed t none).1)
  where
    first : (r : FieldRow) (o : Option ShapeData) → r.parent ≡ 0 → (not (eqb r.parent 0) || is_some o) ≡ true
        → (k : ShapeData) × (o ≡ Some k)
    first r (Some k) top e = (k, refl)
    first r None top e =
        absurd (no (subst (λ (b : Bool). (not b || false) ≡ true) (eq-eqb r.parent 0 top) e))
      where
        no : false ≡ true → ⊥
        no h = cc

    by : (fs : List FieldRow) → AreFieldRows 0 fs → 0 < length fs → all_open t.fields t.columns 0 fs ≡ true
        → are_some (place_from t.fields t.columns 0 (open_shapes t.fields t.columns 0 fs)) ≡ true
    by [] are some all = absurd (omega (arith, some))
    by (r ∷ rs) are some all =
        let one = and_true (not (eqb r.parent 0) || is_some (top_shape t.fields t.columns 0 r)) (all_open t.fields t.columns 1 rs) all in
        let shape = first r (top_shape t.fields t.columns 0 r) (omega (arith, are.0.parent)) one.0 in
        ap (λ (o : Option ShapeData). are_some (place_from t.fields t.columns 0 (o ∷ open_shapes t.fields t.columns 1 rs))) shape.1

-- ---- deferred columns

none-deferred : (id : ℕ) (cs : List ColumnRow) → deferred_from id cs ≡ None → NoneDeferred cs
none-deferred id [] e = tt
none-deferred id (c ∷ cs) e = by (eqb c.first 0) refl e (none-deferred (id + 1) cs)
  where
    by : (b : Bool) → eqb c.first 0 ≡ b → cond b (deferred_from (id + 1) cs) (Some id) ≡ None
        → (deferred_from (id + 1) cs ≡ None → NoneDeferred cs) → (c.first ≡ 0) × NoneDeferred cs
    by true is e more = (eqb-true c.first 0 is, more e)
    by false is e more = absurd (none-some id (sym e))

-- ---- like rows

field-same : (r q : FieldRow) → like_field r q ≡ true → without_flags r ≡ without_flags q
field-same r q e =
    let one = and_true (eqb r.parent q.parent) (eqb r.role q.role && (bytes_eq r.name q.name && bytes_eq r.type_name q.type_name)) e in
    let two = and_true (eqb r.role q.role) (bytes_eq r.name q.name && bytes_eq r.type_name q.type_name) one.1 in
    let three = and_true (bytes_eq r.name q.name) (bytes_eq r.type_name q.type_name) two.1 in
    ap (λ (n : ℕ). record { parent = n; role = r.role; flags = 0; name = r.name; type_name = r.type_name }) (eqb-true _ _ one.0)
    ∙ (ap (λ (n : ℕ). record { parent = q.parent; role = n; flags = 0; name = r.name; type_name = r.type_name }) (eqb-true _ _ two.0)
    ∙ (ap (λ (w : List ℕ). record { parent = q.parent; role = q.role; flags = 0; name = w; type_name = r.type_name })
    ((bytes_eq-Decides r.name q.name).0 three.0)
    ∙ ap (λ (w : List ℕ). record { parent = q.parent; role = q.role; flags = 0; name = q.name; type_name = w })
    ((bytes_eq-Decides r.type_name q.type_name).0 three.1)))

column-same : (c d : ColumnRow) → like_column c d ≡ true → plain_column c ≡ plain_column d
column-same c d e =
    let one = and_true (eqb c.code d.code) (eqb c.bits d.bits && eqb c.field d.field) e in
    let two = and_true (eqb c.bits d.bits) (eqb c.field d.field) one.1 in
    ap (λ (n : ℕ). record { code = n; bits = c.bits; field = c.field; flags = 0; representation = 0; first = 0 }) (eqb-true _ _ one.0)
    ∙ (ap (λ (n : ℕ). record { code = d.code; bits = n; field = c.field; flags = 0; representation = 0; first = 0 }) (eqb-true _ _ two.0)
    ∙ ap (λ (n : ℕ). record { code = d.code; bits = d.bits; field = n; flags = 0; representation = 0; first = 0 }) (eqb-true _ _ two.1))

rows-same : {A : Type 0} (like : A → A → Bool) (f : A → A) → ((x y : A) → like x y ≡ true → f x ≡ f y) → (id : ℕ) (xs ys : List A)
    → unlike_from like id xs ys ≡ None → map f xs ≡ map f ys
rows-same like f h id [] [] e = refl
rows-same like f h id [] (y ∷ ys) e = absurd (none-some id (sym e))
rows-same like f h id (x ∷ xs) [] e = absurd (none-some id (sym e))
rows-same {A} like f h id (x ∷ xs) (y ∷ ys) e = by (like x y) refl e (rows-same like f h (id + 1) xs ys)
  where
    by : (b : Bool) → like x y ≡ b → cond b (unlike_from like (id + 1) xs ys) (Some id) ≡ None
        → (unlike_from like (id + 1) xs ys ≡ None → map f xs ≡ map f ys) → f x ∷ map f xs ≡ f y ∷ map f ys
    by true is e more = ap (λ (z : A). z ∷ map f xs) (h x y is) ∙ ap (λ (l : List A). f y ∷ l) (more e)
    by false is e more = absurd (none-some id (sym e))

like-alike : (s : Table) (file : ℕ) (t : Table) → first_unlike s file t ≡ None → Alike s t
like-alike s file t e =
    let both = or-none (option_map (λ (id : ℕ). Field file id) (unlike_from like_field 0 s.fields t.fields))
    (option_map (λ (id : ℕ). Column file id) (unlike_from like_column 0 s.columns t.columns)) e in
    record {
      fields = rows-same like_field without_flags field-same 0 s.fields t.fields
          (map-none (λ (id : ℕ). Field file id) (unlike_from like_field 0 s.fields t.fields) both.0);
      columns = rows-same like_column plain_column column-same 0 s.columns t.columns
          (map-none (λ (id : ℕ). Column file id) (unlike_from like_column 0 s.columns t.columns) both.1);
    }

-- ---- all schemas

all-closed : (file : ℕ) (ts : List Table) → closed_in file ts ≡ None → AllByRecursion (λ (t : Table). first_closed t ≡ None) ts
all-closed file [] e = tt
all-closed file (t ∷ ts) e =
    let both = or-none (option_map (λ (id : ℕ). Closed file id) (first_closed t)) (closed_in (file + 1) ts) e in
    (map-none (λ (id : ℕ). Closed file id) (first_closed t) both.0, all-closed (file + 1) ts both.1)

all-deferred : (file : ℕ) (ts : List Table) → deferred_in file ts ≡ None → AllByRecursion (λ (t : Table). NoneDeferred t.columns) ts
all-deferred file [] e = tt
all-deferred file (t ∷ ts) e =
    let both = or-none (option_map (λ (id : ℕ). Deferred file id) (first_deferred t)) (deferred_in (file + 1) ts) e in
    (none-deferred 0 t.columns (map-none (λ (id : ℕ). Deferred file id) (first_deferred t) both.0), all-deferred (file + 1) ts both.1)

all-alike : (s : Table) (file : ℕ) (ts : List Table) → unlike_in s file ts ≡ None → AllByRecursion (λ (t : Table). Alike s t) ts
all-alike s file [] e = tt
all-alike s file (t ∷ ts) e =
    let both = or-none (first_unlike s file t) (unlike_in s (file + 1) ts) e in
    (like-alike s file t both.0, all-alike s (file + 1) ts both.1)

each : (P Q : Table → Type 0) → ((t : Table) → P t → Q t) → (ts : List Table) → AllByRecursion P ts → AllByRecursion Q ts
each P Q h [] all = tt
each P Q h (t ∷ ts) all = (h t all.0, each P Q h ts all.1)

pub none-against : (t : Table) (ts : List Table) → schema_error (t ∷ ts) ≡ None → AreMergeable t (t ∷ ts)
none-against t ts e =
    let first = or-none (closed_in 0 (t ∷ ts)) (option_or (deferred_in 0 (t ∷ ts)) (unlike_in t 1 ts)) e in
    let second = or-none (deferred_in 0 (t ∷ ts)) (unlike_in t 1 ts) first.1 in
    let closed = all-closed 0 (t ∷ ts) first.0 in
    record {
      are_open = each (λ (u : Table). first_closed u ≡ None) AllOpen
          (λ u c. closed-open u.fields u.columns 0 u.fields (none-closed u c).1) (t ∷ ts) closed;
      have_some = each (λ (u : Table). first_closed u ≡ None) (λ (u : Table). IsDescribed u → are_some (open_plans u) ≡ true) some-open
          (t ∷ ts) closed;
      none_deferred = all-deferred 0 (t ∷ ts) second.0;
      alike = (record { fields = refl; columns = refl }, all-alike t 1 ts second.1);
    }
