-- Schemas that are compared row by row.
use Rattle.std.proofs.Common.{◌≡◌, ◌∙◌, ap, sym, refl, ℕ, zero, suc, ◌+◌, ◌<◌, ◌≤◌, cond, Bool, true, false, not, ◌&&◌, List, [], ◌∷◌}
use Rattle.std.proofs.Common.{length, drop}
use Rattle.std.proofs.Common.{Option, Some, None, arith, eqb}
use Rattle.std.specs.Prelude.{slice_get, is_some}
use Rattle.std.proofs.lemmas.Bool.{eq-eqb, eqb-true}
use Rattle.std.proofs.lemmas.Option.{slice_get-get_or}
use Rattle.nt_grammar.specs.Table.{Table}
use Rattle.nt_grammar.specs.declared.rows.FieldRow.{FieldRow}
use Rattle.nt_grammar.specs.declared.rows.ColumnRow.{ColumnRow}
use Rattle.nt_grammar.specs.Open.{top_shape}
use Rattle.nt_merge.specs.Comparing.{closed_from, first_closed, deferred_from, unlike_from}

-- what is left from an item on
drop-from : {A : Type 0} (xs : List A) (n : ℕ) (x : A) → slice_get xs n ≡ Some x → drop n xs ≡ x ∷ drop (suc n) xs
drop-from [] n x is = absurd (cc is)
drop-from (y ∷ xs) zero x is = let same : y ≡ x = cc is in ap (λ (z : _). z ∷ xs) same
drop-from (y ∷ xs) (suc n) x is = drop-from xs n x is

pub drop_read : {A : Type 0} (xs : List A) (n : ℕ) (x : A) → slice_get xs n ≡ Some x → drop n xs ≡ x ∷ drop (n + 1) xs
drop_read xs n x is =
    let next : suc n ≡ n + 1 = omega arith in drop-from xs n x is ∙ ap (λ (m : ℕ). x ∷ drop m xs) next

pub drop_end : {A : Type 0} (xs : List A) (n : ℕ) → length xs ≤ n → drop n xs ≡ []
drop_end [] zero le = refl
drop_end [] (suc n) le = refl
drop_end (x ∷ xs) zero le = absurd (omega (arith, le))
drop_end (x ∷ xs) (suc n) le = drop_end xs n (omega (arith, le))

-- ---- deferred columns

module _ (cs : List ColumnRow) (n : ℕ) (c : ColumnRow) (is : slice_get cs n ≡ Some c) (all : Option ℕ)
    (h : deferred_from n (drop n cs) ≡ all) where
  deferred-here : deferred_from n (c ∷ drop (n + 1) cs) ≡ all
  deferred-here = sym (ap (deferred_from n) (drop_read cs n c is)) ∙ h

  pub deferred_found : eqb c.first 0 ≡ false → all ≡ Some n
  deferred_found fails = sym deferred-here ∙ ap (λ (b : Bool). cond b (deferred_from (n + 1) (drop (n + 1) cs)) (Some n)) fails

  pub deferred_next : eqb c.first 0 ≡ true → deferred_from (n + 1) (drop (n + 1) cs) ≡ all
  deferred_next holds = sym (ap (λ (b : Bool). cond b (deferred_from (n + 1) (drop (n + 1) cs)) (Some n)) holds) ∙ deferred-here

pub deferred_none : (cs : List ColumnRow) (n : ℕ) (all : Option ℕ) → length cs ≤ n → deferred_from n (drop n cs) ≡ all → all ≡ None
deferred_none cs n all le h = sym h ∙ ap (deferred_from n) (drop_end cs n le)

-- ---- closed fields

module _ (fs : List FieldRow) (cs : List ColumnRow) (n : ℕ) (r : FieldRow) (is : slice_get fs n ≡ Some r) (all : Option ℕ)
    (h : closed_from fs cs n (drop n fs) ≡ all) where
  closed-here : closed_from fs cs n (r ∷ drop (n + 1) fs) ≡ all
  closed-here = sym (ap (closed_from fs cs n) (drop_read fs n r is)) ∙ h

  pub closed_found : (eqb r.parent n && not (is_some (top_shape fs cs n r))) ≡ true → all ≡ Some n
  closed_found holds = sym closed-here ∙ ap (λ (b : Bool). cond b (Some n) (closed_from fs cs (n + 1) (drop (n + 1) fs))) holds

  pub closed_next : (eqb r.parent n && not (is_some (top_shape fs cs n r))) ≡ false → closed_from fs cs (n + 1) (drop (n + 1) fs) ≡ all
  closed_next fails = sym (ap (λ (b : Bool). cond b (Some n) (closed_from fs cs (n + 1) (drop (n + 1) fs))) fails) ∙ closed-here

pub closed_none : (fs : List FieldRow) (cs : List ColumnRow) (n : ℕ) (all : Option ℕ) → length fs ≤ n
    → closed_from fs cs n (drop n fs) ≡ all → all ≡ None
closed_none fs cs n all le h = sym h ∙ ap (closed_from fs cs n) (drop_end fs n le)

-- ---- rows that differ

module _ {A : Type 0} (like : A → A → Bool) (xs ys : List A) (n : ℕ) (all : Option ℕ)
    (h : unlike_from like n (drop n xs) (drop n ys) ≡ all) where
  unlike-here : (x y : A) → slice_get xs n ≡ Some x → slice_get ys n ≡ Some y
      → unlike_from like n (x ∷ drop (n + 1) xs) (y ∷ drop (n + 1) ys) ≡ all
  unlike-here x y is is_other =
      sym (ap (λ (l : List A). unlike_from like n l (drop n ys)) (drop_read xs n x is)
      ∙ ap (λ (l : List A). unlike_from like n (x ∷ drop (n + 1) xs) l) (drop_read ys n y is_other)) ∙ h

  pub unlike_found : (x y : A) → slice_get xs n ≡ Some x → slice_get ys n ≡ Some y → like x y ≡ false → all ≡ Some n
  unlike_found x y is is_other fails =
      sym (unlike-here x y is is_other)
      ∙ ap (λ (b : Bool). cond b (unlike_from like (n + 1) (drop (n + 1) xs) (drop (n + 1) ys)) (Some n)) fails

  pub unlike_next : (x y : A) → slice_get xs n ≡ Some x → slice_get ys n ≡ Some y → like x y ≡ true
      → unlike_from like (n + 1) (drop (n + 1) xs) (drop (n + 1) ys) ≡ all
  unlike_next x y is is_other holds =
      sym (ap (λ (b : Bool). cond b (unlike_from like (n + 1) (drop (n + 1) xs) (drop (n + 1) ys)) (Some n)) holds)
      ∙ unlike-here x y is is_other

  -- both end here
  pub unlike_none : length xs ≡ n → length ys ≡ n → all ≡ None
  unlike_none xs_end ys_end =
      sym h ∙ (ap (λ (l : List A). unlike_from like n l (drop n ys)) (drop_end xs n (omega (arith, xs_end)))
      ∙ ap (λ (l : List A). unlike_from like n [] l) (drop_end ys n (omega (arith, ys_end))))

  -- one of them does
  pub unlike_longer : n ≤ length xs → n ≤ length ys → (length xs ≡ length ys → ⊥) → (n < length xs → n < length ys → ⊥) → all ≡ Some n
  unlike_longer xs_le ys_le other short = sym h ∙ by (drop n xs) (drop n ys) refl refl
    where
      left : (zs : List A) → n ≤ length zs → length (drop n zs) + n ≡ length zs
      left zs le = drop-long n zs le
        where
          drop-long : (m : ℕ) (ws : List A) → m ≤ length ws → length (drop m ws) + m ≡ length ws
          drop-long zero ws le = omega arith
          drop-long (suc m) [] le = absurd (omega (arith, le))
          drop-long (suc m) (w ∷ ws) le = let rest = drop-long m ws (omega (arith, le)) in omega (arith, rest)

      by : (us vs : List A) → drop n xs ≡ us → drop n ys ≡ vs → unlike_from like n us vs ≡ Some n
      by [] [] u v =
          let one = left xs xs_le in
          let two = left ys ys_le in
          absurd (other (omega (arith, one, two, ap length u, ap length v)))
      by [] (w ∷ ws) u v = refl
      by (w ∷ ws) [] u v = refl
      by (w ∷ ws) (z ∷ zs) u v =
          let one = left xs xs_le in
          let two = left ys ys_le in
          absurd (short (omega (arith, one, ap length u)) (omega (arith, two, ap length v)))

-- ---- tests

pub not_zero : (n : ℕ) → (n ≡ 0 → ⊥) → eqb n 0 ≡ false
not_zero n fails = by (eqb n 0) refl
  where
    by : (b : Bool) → eqb n 0 ≡ b → eqb n 0 ≡ false
    by true is = absurd (fails (eqb-true n 0 is))
    by false is = is

pub is_zero : (n : ℕ) → n ≡ 0 → eqb n 0 ≡ true
is_zero n is = eq-eqb n 0 is

-- a schema with fields
pub closed_some : (t : Table) → (length t.fields ≡ 0 → ⊥) → first_closed t ≡ closed_from t.fields t.columns 0 t.fields
closed_some t some =
    ap (λ (b : Bool). cond b (Some 0) (closed_from t.fields t.columns 0 t.fields)) (not_zero (length t.fields) some)

no_field : FieldRow
no_field = record { parent = 0; role = 0; flags = 0; name = []; type_name = [] }

pub closed_here : (t : Table) (n : ℕ) (b : Bool) → n < length t.fields
    → ((r : FieldRow) → slice_get t.fields n ≡ Some r → b ≡ (eqb r.parent n && not (is_some (top_shape t.fields t.columns n r))))
    → b ≡ true → closed_from t.fields t.columns n (drop n t.fields) ≡ closed_from t.fields t.columns 0 t.fields
    → closed_from t.fields t.columns 0 t.fields ≡ Some n
closed_here t n b less test holds h =
    let is = slice_get-get_or t.fields n no_field less in
    closed_found t.fields t.columns n _ is _ h (sym (test _ is) ∙ holds)

pub closed_later : (t : Table) (n : ℕ) (b : Bool) → n < length t.fields
    → ((r : FieldRow) → slice_get t.fields n ≡ Some r → b ≡ (eqb r.parent n && not (is_some (top_shape t.fields t.columns n r))))
    → b ≡ false → closed_from t.fields t.columns n (drop n t.fields) ≡ closed_from t.fields t.columns 0 t.fields
    → closed_from t.fields t.columns (n + 1) (drop (n + 1) t.fields) ≡ closed_from t.fields t.columns 0 t.fields
closed_later t n b less test fails h =
    let is = slice_get-get_or t.fields n no_field less in
    closed_next t.fields t.columns n _ is _ h (sym (test _ is) ∙ fails)
