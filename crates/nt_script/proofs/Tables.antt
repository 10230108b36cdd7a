-- Tables of just some fields.
use Rattle.std.proofs.Common.{◌≡◌, ℕ, ◌+◌, ◌≤◌, Bool, true, false, List, [], ◌∷◌, ◌++◌, length, map, Some, None, Ok, Err}
use Rattle.std.proofs.Common.{Result, refl, sym, ap, ap₂, ◌∙◌, arith}
use Rattle.std.specs.Prelude.{◌||◌, is_some, nat_lt, if◌then◌else◌}
use Rattle.std.proofs.lemmas.Bool.Decides.{nat_tests}
use Rattle.std.proofs.lemmas.List.{length-append, length-map, map-append}
use Rattle.std.proofs.lemmas.List.Folds.{list_any-append}
use Rattle.std.specs.Str.{bytes_eq}
use Rattle.nt_lists.proofs.Variants.{chosen_not}
use Rattle.nt_types.specs.ShapeData.{MemberData, parts_of}
use Rattle.nt_types.specs.Names.{has_name}
use Rattle.nt_types.specs.Limits.{max_fields}
use Rattle.nt_types.specs.Schema.{ProgressData, field_count, parts_count, with_field}
use Rattle.nt_types.specs.LineSpelling.{IsMember}
use Rattle.nt_types.specs.Rules.{AreFields}
use Rattle.nt_types.specs.declared.fault.SchemaKind.{SchemaKind}
use Rattle.nt_types.specs.declared.fault.SchemaKind.TheVariants as kinds
use Rattle.nt_types.proofs.Rules.{seen_after, AreFields-rules, AreFields-some, Keeps, Keeps-field, Keeps-names}
use Rattle.nt_grammar.specs.declared.rows.FieldRow.{FieldRow}
use Rattle.nt_grammar.specs.Added.{Added, nodes_of}
use Rattle.nt_grammar.specs.AsRead.{as_read}
use Rattle.nt_grammar.specs.Rows.{Rows, field_row}
use Rattle.nt_grammar.specs.Open.{open_shapes}
use Rattle.nt_grammar.specs.Table.{Table}
use Rattle.nt_grammar.proofs.AddedRows.{added-order, added-count, added-length}
use Rattle.nt_grammar.proofs.Described.{described-open}
use Rattle.nt_grammar.proofs.ReadingSchemas.{count-listed}
use Rattle.nt_plans.specs.Place.{place, open_plans}
use Rattle.nt_plans.specs.Plan.{PlansData}
use Rattle.nt_plans.specs.Late.{GrowsBy}
use Rattle.nt_schema.specs.ByName.{find_from}
use Rattle.nt_schema.specs.Extending.{refused}
use Rattle.nt_schema.specs.declared.extend_error.ExtendError.TheVariants as extending
use Rattle.nt_trees.specs.Fits.{fit_plans}
use Rattle.nt_trees.proofs.FitPlans.{fits-place, fit-open}
use Rattle.nt_dealing.proofs.TableFits.{table_fits, as_read-fits}
use Rattle.nt_script.specs.Script.{beside}
use Rattle.nt_script.specs.Taking.{HasJustFields}
use Rattle.nt_script.proofs.FieldNames.{names, found-append, found-listed}
use Rattle.nt_script.proofs.LastTrees.{more_fits}

-- a table that describes fields has just these
pub described-just : (fields : List MemberData) (plain : Bool) (t : Table) → AreFields fields → Rows fields plain t → HasJustFields fields t
described-just fields plain t rules rows = record {
  rules = rules;
  names = λ name.
      ap (λ (l : List FieldRow). is_some (find_from 0 l name)) rows.field_rows ∙ found-listed 0 fields rows.nodes name rows.order;
  count = ap length rows.field_rows ∙ (length-map rows.nodes field_row ∙ count-listed 0 fields rows.nodes rows.order);
  fits = λ entry. table_fits fields plain t entry rows (described-open fields plain t rules rows);
}

-- what stands against a field, by the table and by the fields
beside_at : (F : List MemberData) (m : MemberData) (named many : Bool) → Result MemberData SchemaKind
beside_at F m named many = if named then Err kinds.Repeated else (if many then Err kinds.TooMany else Ok m)

module _ (F : List MemberData) (t : Table) (just : HasJustFields F t) (m : MemberData) where
  -- the two tests of a field that is added
  abbrev named : Bool
  named = has_name (names F) m.name

  abbrev many : Bool
  many = nat_lt max_fields (parts_count (parts_of F) + field_count m.of)

  refused-is : refused t m ≡ (if named then Some extending.Repeated else (if many then Some extending.TooMany else None))
  refused-is =
      ap (λ (b : Bool). if b then Some extending.Repeated else (if nat_lt max_fields (length t.fields + field_count m.of)
      then Some extending.TooMany else None)) (just.names m.name)
      ∙ ap (λ (n : ℕ). if named then Some extending.Repeated else (if nat_lt max_fields (n + field_count m.of)
      then Some extending.TooMany else None)) just.count

  pub not_refused : refused t m ≡ None → beside F m ≡ Ok m
  not_refused e = at named many (sym refused-is ∙ e)
    where
      at : (a b : Bool) → (if a then Some extending.Repeated else (if b then Some extending.TooMany else None)) ≡ None
          → (if a then Err kinds.Repeated else (if b then Err kinds.TooMany else Ok m)) ≡ Ok m
      at true b h = cc
      at false true h = cc
      at false false h = refl

  pub repeated : refused t m ≡ Some extending.Repeated → beside F m ≡ Err kinds.Repeated
  repeated e = at named many (sym refused-is ∙ e)
    where
      at : (a b : Bool) → (if a then Some extending.Repeated else (if b then Some extending.TooMany else None)) ≡ Some extending.Repeated
          → (if a then Err kinds.Repeated else (if b then Err kinds.TooMany else Ok m)) ≡ Err kinds.Repeated
      at true b h = refl
      at false true h = cc
      at false false h = cc

  pub too_many : refused t m ≡ Some extending.TooMany → beside F m ≡ Err kinds.TooMany
  too_many e = at named many (sym refused-is ∙ e)
    where
      at : (a b : Bool) → (if a then Some extending.Repeated else (if b then Some extending.TooMany else None)) ≡ Some extending.TooMany
          → (if a then Err kinds.Repeated else (if b then Err kinds.TooMany else Ok m)) ≡ Err kinds.TooMany
      at true b h = cc
      at false true h = refl
      at false false h = cc

-- fields that were read
abbrev progress : List MemberData → ProgressData
progress F = record { line = 0; seen = seen_after [] F; count = parts_count (parts_of F); parts = F }

progress-keeps : (F : List MemberData) → AreFields F → Keeps (progress F)
progress-keeps F rules = record { count = refl; seen = refl; fields = AreFields-rules F rules }

module _ (F : List MemberData) (line : List ℕ) (m : MemberData) (rules : AreFields F) (member : IsMember line m)
    (is : beside F m ≡ Ok m) where
  new_name : has_name (names F) m.name ≡ false
  new_name = (chosen_not (has_name (names F) m.name) _ m kinds.Repeated is).0

  few_fields : parts_count (parts_of F) + field_count m.of ≤ 4096
  few_fields =
      let rest = (chosen_not (has_name (names F) m.name) _ m kinds.Repeated is).1 in
      let few : nat_lt max_fields (parts_count (parts_of F) + field_count m.of) ≡ false =
      (chosen_not (nat_lt max_fields (parts_count (parts_of F) + field_count m.of)) (Ok m) m kinds.TooMany rest).0 in
      grind (arith, nat_tests, few)

  more_keeps : Keeps (with_field (progress F) m)
  more_keeps = Keeps-field (progress F) line m (record {
    new = Keeps-names (progress F) m.name (progress-keeps F rules) ∙ new_name;
    named = member.line_is.is_name;
    typed = member.rules;
    shallow = member.shallow;
    few = few_fields;
    member = member;
  }) (progress-keeps F rules)

  more_rules : AreFields (F ++ m ∷ [])
  more_rules = AreFields-some (F ++ m ∷ []) (omega (arith, length-append F (m ∷ []))) more_keeps.fields

  -- a table that has just some fields, and one more that was added, has just these
  pub added-just : (t new : Table) (plain : Bool) (written : ℕ) → HasJustFields F t → GrowsBy t new (place new.fields new.columns
      (as_read m.of) (length t.fields))
      → Added t m plain written new → HasJustFields (F ++ m ∷ []) new
  added-just t new plain written just grows added =
      let order = added-order t m plain written new added in
      let place_is : 0 + length t.fields ≡ length t.fields = omega arith in
      record {
        rules = more_rules;
        names = λ name.
            ap (λ (l : List FieldRow). is_some (find_from 0 l name)) added.field_rows
            ∙ (found-append 0 t.fields (map field_row (nodes_of added.marks)) name
            ∙ (ap₂ (λ (a b : Bool). a || b) (just.names name)
            (ap (λ (n : ℕ). is_some (find_from n (map field_row (nodes_of added.marks)) name)) place_is
            ∙ found-listed (length t.fields) (m ∷ []) (nodes_of added.marks) name order)
            ∙ (sym (list_any-append (λ (n : List ℕ). bytes_eq n name) (names F) (names (m ∷ [])))
            ∙ ap (λ (l : List (List ℕ)). has_name l name) (sym (map-append (λ (p : MemberData). p.name) F (m ∷ []))))));
        count = added-length t m plain written new added
            ∙ (ap₂ (λ (a b : ℕ). a + b) just.count (added-count t m plain written new added) ∙ more_keeps.count);
        fits = λ entry.
            sym (fit-open new.fields new.columns 0 (open_shapes new.fields new.columns 0 new.fields) entry)
            ∙ (ap (λ (ps : PlansData). fit_plans ps entry) grows.plans
            ∙ more_fits (open_plans t) (place new.fields new.columns (as_read m.of) (length t.fields)) F m
            (λ us. fit-open t.fields t.columns 0 (open_shapes t.fields t.columns 0 t.fields) us ∙ just.fits us)
            (λ u. fits-place new.fields new.columns (as_read m.of) (length t.fields) u ∙ as_read-fits m.of u) entry);
      }
