-- Open fields stay open, with the same plans, where flags are taken away.
use Rattle.std.proofs.Common.{◌≡◌, ℕ, zero, suc, ◌+◌, Bool, true, false, cond, not, eqb, ◌&&◌, ◌||◌, List, [], ◌∷◌, ◌++◌, map, drop}
use Rattle.std.proofs.Common.{get_or, Option, Some, None, refl, sym, ap, subst, ◌∙◌}
use Rattle.std.specs.Prelude.{find, option_map, option_and_then, slice_get, is_some, codes}
use Rattle.std.specs.Str.{bytes_eq}
use Rattle.std.proofs.lemmas.Option.{none-some, slice_get-map}
use Rattle.nt_lists.proofs.Bools.{and_true, both_true}
use Rattle.nt_types.specs.ShapeData.{ShapeData, ShapesData, MembersData, MemberData, bool, char, byte, int, text, list, maybe, fields}
use Rattle.nt_types.specs.ShapeData.{tuple, choice}
use Rattle.nt_types.specs.ShapeData.{no_kinds, kind, no_parts, part}
use Rattle.nt_types.specs.Schema.{part_under}
use Rattle.nt_types.specs.declared.column_type.ColumnType.{ColumnType}
use Rattle.nt_types.specs.declared.column_type.ColumnType.TheVariants.{Char, Switch}
use Rattle.nt_grammar.specs.declared.rows.FieldRow.{FieldRow}
use Rattle.nt_grammar.specs.declared.rows.ColumnRow.{ColumnRow}
use Rattle.nt_grammar.specs.Codes.{leaf_role, collection_role, record_role, variant_role, most_levels}
use Rattle.nt_grammar.specs.Table.{Table, in_header}
use Rattle.nt_grammar.specs.Types.{cpp_name}
use Rattle.nt_grammar.specs.Open.{ids_inside, columns_of_field, column_fits, one_column, no_column, index_types, text_columns, leaves}
use Rattle.nt_grammar.specs.Open.{leaf_types, leaf_with, named_leaf, leaf_shape, collection_shape, record_shape, choice_shape, flags_fit}
use Rattle.nt_grammar.specs.Open.{is_leaf}
use Rattle.nt_grammar.specs.Open.{shape_by_role, all_some, field_of_row, open_field, top_shape, open_shapes}
use Rattle.nt_plans.specs.Plan.{PlanData, PlansData}
use Rattle.nt_plans.specs.Plan as plans
use Rattle.nt_plans.specs.Place.{column_ids, place, place_members, place_each, place_from, open_plans}
use Rattle.nt_copied.specs.Alike.{without_flags, all_open, AllOpen}
use Rattle.nt_copied.proofs.Answered.{kept-if, kept-then, kept-by, kept-map, kept-all, kept-four}

-- ---- columns that fit where others did

-- what is done to columns keeps their fields, and what fits
pub record Keeps (g : ColumnRow → ColumnRow) : Type 0 where
  pub field : (c : ColumnRow) → (g c).field ≡ c.field
  pub fit : (principal : Bool) (types : List ColumnType) (c : ColumnRow) → column_fits principal types c ≡ true
      → column_fits principal types (g c) ≡ true

module _ (g : ColumnRow → ColumnRow) (keeps : Keeps g) where
  one-kept : (principal : Bool) (types : List ColumnType) (cs : List ColumnRow) → one_column principal types cs ≡ true
      → one_column principal types (map g cs) ≡ true
  one-kept principal types [] e = e
  one-kept principal types (c ∷ []) e = keeps.fit principal types c e
  one-kept principal types (c ∷ d ∷ cs) e = e

  text-kept : (principal : Bool) (cs : List ColumnRow) → text_columns principal cs ≡ true → text_columns principal (map g cs) ≡ true
  text-kept principal [] e = e
  text-kept principal (c ∷ []) e = e
  text-kept principal (c ∷ d ∷ []) e =
      let both = and_true (column_fits principal index_types c) (column_fits false (Char ∷ []) d) e in
      both_true (column_fits principal index_types (g c)) (column_fits false (Char ∷ []) (g d)) (keeps.fit principal index_types c both.0)
      (keeps.fit false (Char ∷ []) d both.1)
  text-kept principal (c ∷ d ∷ x ∷ cs) e = e

  none-kept : (cs : List ColumnRow) → no_column cs ≡ true → no_column (map g cs) ≡ true
  none-kept [] e = e
  none-kept (c ∷ cs) e = e

  leaf-kept : (principal : Bool) (name : List ℕ) (cs : List ColumnRow) (k : ShapeData) → leaf_shape principal name cs ≡ Some k
      → leaf_shape principal name (map g cs) ≡ Some k
  leaf-kept principal name cs k = by (bytes_eq name (codes "std::string"))
    where
      by : (b : Bool)
          → cond b (cond (text_columns principal cs) (Some text) None) (named_leaf leaves principal name cs) ≡ Some k
          → cond b (cond (text_columns principal (map g cs)) (Some text) None) (named_leaf leaves principal name (map g cs)) ≡ Some k
      by true e =
          kept-if (text_columns principal cs) (text_columns principal (map g cs)) (Some text) (Some text) k (text-kept principal cs)
          (λ s. s) e
      by false e =
          kept-by (leaf_with principal cs) (leaf_with principal (map g cs)) (find (λ x. bytes_eq name (cpp_name x)) leaves) k
          (λ x s. kept-if (one_column principal (leaf_types x) cs) (one_column principal (leaf_types x) (map g cs)) (Some x) (Some x) k
          (one-kept principal (leaf_types x) cs) (λ u. u) s) e

  columns-kept : (id : ℕ) (cs : List ColumnRow) → columns_of_field id (map g cs) ≡ map g (columns_of_field id cs)
  columns-kept id [] = refl
  columns-kept id (c ∷ cs) =
      ap (λ (n : ℕ). cond (eqb n id) (g c ∷ columns_of_field id (map g cs)) (columns_of_field id (map g cs))) (keeps.field c)
      ∙ by (eqb c.field id) (columns-kept id cs)
    where
      by : (b : Bool) → columns_of_field id (map g cs) ≡ map g (columns_of_field id cs)
          → cond b (g c ∷ columns_of_field id (map g cs)) (columns_of_field id (map g cs))
          ≡ map g (cond b (c ∷ columns_of_field id cs) (columns_of_field id cs))
      by true e = ap (λ (l : List ColumnRow). g c ∷ l) e
      by false e = e

  owners-kept : (field id : ℕ) (cs : List ColumnRow) → column_ids field id (map g cs) ≡ column_ids field id cs
  owners-kept field id [] = refl
  owners-kept field id (c ∷ cs) =
      ap (λ (n : ℕ). cond (eqb n field) (id ∷ []) [] ++ column_ids field (id + 1) (map g cs)) (keeps.field c)
      ∙ ap (λ (l : List ℕ). cond (eqb c.field field) (id ∷ []) [] ++ l) (owners-kept field (id + 1) cs)

  inside-kept : (parent id : ℕ) (rs : List FieldRow) → ids_inside parent id (map without_flags rs) ≡ ids_inside parent id rs
  inside-kept parent id [] = refl
  inside-kept parent id (r ∷ rs) =
      ap (λ (l : List ℕ). cond (eqb r.parent parent && not (eqb id parent)) (id ∷ []) [] ++ l) (inside-kept parent (id + 1) rs)

  -- ---- shapes

  role-kept : (principal : Bool) (r : FieldRow) (cs : List ColumnRow) (js : List ℕ) (inside below : Bool → Option (List MemberData))
      (k : ShapeData) → ((up : Bool) (ms : List MemberData) → inside up ≡ Some ms → below up ≡ Some ms)
      → shape_by_role principal r cs js inside ≡ Some k → shape_by_role principal (without_flags r) (map g cs) js below ≡ Some k
  role-kept principal r cs js inside below k more e =
      kept-four (eqb r.role leaf_role) (eqb r.role collection_role) (eqb r.role record_role) (eqb r.role variant_role) _ _ _ _ _ _ _ _ k
      (kept-if (is_leaf js) (is_leaf js) (leaf_shape principal r.type_name cs) (leaf_shape principal r.type_name (map g cs)) k (λ b. b)
      (leaf-kept principal r.type_name cs k))
      (kept-if (one_column principal index_types cs) (one_column principal index_types (map g cs))
      (option_and_then (collection_shape r.type_name) (inside false)) (option_and_then (collection_shape r.type_name) (below false)) k
      (one-kept principal index_types cs) (kept-then (collection_shape r.type_name) (inside false) (below false) k (more false)))
      (kept-if (no_column cs) (no_column (map g cs)) (option_and_then record_shape (inside principal))
      (option_and_then record_shape (below principal)) k (none-kept cs)
      (kept-then record_shape (inside principal) (below principal) k (more principal)))
      (kept-if (one_column principal (Switch ∷ []) cs) (one_column principal (Switch ∷ []) (map g cs))
      (option_and_then choice_shape (inside false)) (option_and_then choice_shape (below false)) k (one-kept principal (Switch ∷ []) cs)
      (kept-then choice_shape (inside false) (below false) k (more false)))
      e

  module _ (fs : List FieldRow) (cs : List ColumnRow) where
    row-kept : (above below : Bool → ℕ → Option MemberData)
        → ((up : Bool) (j : ℕ) (m : MemberData) → above up j ≡ Some m → below up j ≡ Some m)
        → (principal : Bool) (id : ℕ) (r : FieldRow) (m : MemberData) → field_of_row fs cs above principal id r ≡ Some m
        → field_of_row (map without_flags fs) (map g cs) below principal id (without_flags r) ≡ Some m
    row-kept above below more principal id r m = by (flags_fit r)
      where
        by : (b : Bool)
            → cond b (option_map (part_under r.name) (shape_by_role principal r (columns_of_field id cs) (ids_inside id 0 fs)
            (λ up. all_some (map (above up) (ids_inside id 0 fs))))) None ≡ Some m
            → field_of_row (map without_flags fs) (map g cs) below principal id (without_flags r) ≡ Some m
        by false e = absurd (none-some m e)
        by true e =
            subst (λ (js : List ℕ). option_map (part_under r.name) (shape_by_role principal (without_flags r)
            (columns_of_field id (map g cs)) js (λ up. all_some (map (below up) js))) ≡ Some m) (sym (inside-kept id 0 fs))
            (subst (λ (l : List ColumnRow). option_map (part_under r.name) (shape_by_role principal (without_flags r) l
            (ids_inside id 0 fs) (λ up. all_some (map (below up) (ids_inside id 0 fs)))) ≡ Some m) (sym (columns-kept id cs))
            (kept-map (part_under r.name)
            (shape_by_role principal r (columns_of_field id cs) (ids_inside id 0 fs) (λ up. all_some (map (above up) (ids_inside id 0 fs))))
            (shape_by_role principal (without_flags r) (map g (columns_of_field id cs)) (ids_inside id 0 fs)
            (λ up. all_some (map (below up) (ids_inside id 0 fs)))) m
            (λ k s. role-kept principal r (columns_of_field id cs) (ids_inside id 0 fs)
            (λ up. all_some (map (above up) (ids_inside id 0 fs))) (λ up. all_some (map (below up) (ids_inside id 0 fs))) k
            (λ up ms t. kept-all (above up) (below up) (ids_inside id 0 fs) ms (more up) t) s) e))

    open-kept : (depth : ℕ) (principal : Bool) (id : ℕ) (m : MemberData) → open_field depth fs cs principal id ≡ Some m
        → open_field depth (map without_flags fs) (map g cs) principal id ≡ Some m
    unfolding open_field
    open-kept zero principal id m e = absurd (none-some m e)
    open-kept (suc depth) principal id m e =
        ap (option_and_then (field_of_row (map without_flags fs) (map g cs)
        (open_field depth (map without_flags fs) (map g cs)) principal id)) (slice_get-map without_flags fs id)
        ∙ by (slice_get fs id) (λ up j n s. open-kept depth up j n s) e
      where
        by : (o : Option FieldRow)
            → ((up : Bool) (j : ℕ) (n : MemberData) → open_field depth fs cs up j ≡ Some n
            → open_field depth (map without_flags fs) (map g cs) up j ≡ Some n)
            → option_and_then (field_of_row fs cs (open_field depth fs cs) principal id) o ≡ Some m
            → option_and_then (field_of_row (map without_flags fs) (map g cs)
            (open_field depth (map without_flags fs) (map g cs)) principal id) (option_map without_flags o) ≡ Some m
        by None more s = absurd (none-some m s)
        by (Some r) more s =
            row-kept (open_field depth fs cs) (open_field depth (map without_flags fs) (map g cs)) more principal id r m s

    top-kept : (b : Bool) (x y : Option ShapeData) → (not b || is_some (cond b x None)) ≡ true
        → ((k : ShapeData) → x ≡ Some k → y ≡ Some k) → cond b y None ≡ cond b x None
    top-kept true None y h i = absurd cc
    top-kept true (Some k) y h i = i k refl
    top-kept false x y h i = refl

    shapes-kept : (id : ℕ) (rs : List FieldRow) → all_open fs cs id rs ≡ true
        → open_shapes (map without_flags fs) (map g cs) id (map without_flags rs) ≡ open_shapes fs cs id rs
    shapes-kept id [] e = refl
    shapes-kept id (r ∷ rs) e =
        let both = and_true (not (eqb r.parent id) || is_some (top_shape fs cs id r)) (all_open fs cs (id + 1) rs) e in
        let first : top_shape (map without_flags fs) (map g cs) id (without_flags r) ≡ top_shape fs cs id r =
        top-kept (eqb r.parent id) (option_map (λ (p : MemberData). p.of) (open_field most_levels fs cs true id))
        (option_map (λ (p : MemberData). p.of) (open_field most_levels (map without_flags fs) (map g cs) true id)) both.0
        (λ k s. kept-map (λ (p : MemberData). p.of) (open_field most_levels fs cs true id)
        (open_field most_levels (map without_flags fs) (map g cs) true id) k (λ m t. open-kept most_levels true id m t) s) in
        ap (λ (o : Option ShapeData). o ∷ open_shapes (map without_flags fs) (map g cs) (id + 1) (map without_flags rs)) first
        ∙ ap (λ (l : List (Option ShapeData)). top_shape fs cs id r ∷ l) (shapes-kept (id + 1) rs both.1)

    -- ---- plans

    mutual
      place-kept : (k : ShapeData) (id : ℕ) → place (map without_flags fs) (map g cs) k id ≡ place fs cs k id
      place-kept bool id = ap (λ (l : List ℕ). plans.bool (get_or l 0 0)) (owners-kept id 0 cs)
      place-kept char id = ap (λ (l : List ℕ). plans.number (get_or l 0 0) 8 false) (owners-kept id 0 cs)
      place-kept byte id = ap (λ (l : List ℕ). plans.number (get_or l 0 0) 8 false) (owners-kept id 0 cs)
      place-kept (int bits signed) id = ap (λ (l : List ℕ). plans.number (get_or l 0 0) bits signed) (owners-kept id 0 cs)
      place-kept text id = ap (λ (l : List ℕ). plans.text (get_or l 0 0) (get_or l 1 0)) (owners-kept id 0 cs)
      place-kept (list k) id =
          ap (λ (l : List ℕ). plans.list (get_or l 0 0) (place (map without_flags fs) (map g cs) k
          (get_or (ids_inside id 0 (map without_flags fs)) 0 0))) (owners-kept id 0 cs)
          ∙ ap (λ (p : PlanData). plans.list (get_or (column_ids id 0 cs) 0 0) p)
          (place-kept k (get_or (ids_inside id 0 (map without_flags fs)) 0 0)
          ∙ ap (λ (l : List ℕ). place fs cs k (get_or l 0 0)) (inside-kept id 0 fs))
      place-kept (maybe k) id =
          ap (λ (l : List ℕ). plans.maybe (get_or l 0 0) (place (map without_flags fs) (map g cs) k
          (get_or (ids_inside id 0 (map without_flags fs)) 0 0))) (owners-kept id 0 cs)
          ∙ ap (λ (p : PlanData). plans.maybe (get_or (column_ids id 0 cs) 0 0) p)
          (place-kept k (get_or (ids_inside id 0 (map without_flags fs)) 0 0)
          ∙ ap (λ (l : List ℕ). place fs cs k (get_or l 0 0)) (inside-kept id 0 fs))
      place-kept (fields ps) id =
          ap (λ (p : PlansData). plans.record_of p)
          (members-kept ps (ids_inside id 0 (map without_flags fs)) ∙ ap (place_members fs cs ps) (inside-kept id 0 fs))
      place-kept (tuple ks) id =
          ap (λ (p : PlansData). plans.record_of p)
          (each-kept ks (ids_inside id 0 (map without_flags fs)) ∙ ap (place_each fs cs ks) (inside-kept id 0 fs))
      place-kept (choice ks) id =
          ap (λ (l : List ℕ). plans.choice (get_or l 0 0) (place_each (map without_flags fs) (map g cs) ks
          (ids_inside id 0 (map without_flags fs)))) (owners-kept id 0 cs)
          ∙ ap (λ (p : PlansData). plans.choice (get_or (column_ids id 0 cs) 0 0) p)
          (each-kept ks (ids_inside id 0 (map without_flags fs)) ∙ ap (place_each fs cs ks) (inside-kept id 0 fs))

      members-kept : (ps : MembersData) (ids : List ℕ)
          → place_members (map without_flags fs) (map g cs) ps ids ≡ place_members fs cs ps ids
      members-kept no_parts ids = refl
      members-kept (part n k ps) ids =
          ap (λ (p : PlanData). plans.plan p (place_members (map without_flags fs) (map g cs) ps (drop 1 ids)))
          (place-kept k (get_or ids 0 0))
          ∙ ap (λ (p : PlansData). plans.plan (place fs cs k (get_or ids 0 0)) p) (members-kept ps (drop 1 ids))

      each-kept : (ks : ShapesData) (ids : List ℕ) → place_each (map without_flags fs) (map g cs) ks ids ≡ place_each fs cs ks ids
      each-kept no_kinds ids = refl
      each-kept (kind k ks) ids =
          ap (λ (p : PlanData). plans.plan p (place_each (map without_flags fs) (map g cs) ks (drop 1 ids)))
          (place-kept k (get_or ids 0 0))
          ∙ ap (λ (p : PlansData). plans.plan (place fs cs k (get_or ids 0 0)) p) (each-kept ks (drop 1 ids))

    from-kept : (id : ℕ) (shapes : List (Option ShapeData))
        → place_from (map without_flags fs) (map g cs) id shapes ≡ place_from fs cs id shapes
    from-kept id [] = refl
    from-kept id (None ∷ shapes) = from-kept (id + 1) shapes
    from-kept id (Some k ∷ shapes) =
        ap (λ (p : PlanData). plans.plan p (place_from (map without_flags fs) (map g cs) (id + 1) shapes)) (place-kept k id)
        ∙ ap (λ (p : PlansData). plans.plan (place fs cs k id) p) (from-kept (id + 1) shapes)

  pub plans-kept : (t : Table) → AllOpen t → open_plans (in_header (map without_flags t.fields) (map g t.columns)) ≡ open_plans t
  plans-kept t all =
      ap (λ (l : List (Option ShapeData)). place_from (map without_flags t.fields) (map g t.columns) 0 l)
      (shapes-kept t.fields t.columns 0 t.fields all)
      ∙ from-kept t.fields t.columns 0 (open_shapes t.fields t.columns 0 t.fields)
