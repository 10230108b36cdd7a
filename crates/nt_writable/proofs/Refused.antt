-- Records and choices that keep the rules, and those that don't.
use Rattle.std.proofs.Common.{rules, ◌≡◌, ◌∙◌, ap, sym, refl, ◌<◌, ◌≤◌, ◌&&◌, Bool, true, false, List, map, length, ℕ, arith}
use Rattle.std.specs.Prelude.{nat_le, not}
use Rattle.std.proofs.lemmas.Bool.{leb-true, le-leb}
use Rattle.nt_types.specs.ShapeData.{ShapeData, MemberData, fields, choice, kinds_of, parts_of, parts_list}
use Rattle.nt_types.specs.Limits.{max_alternatives}
use Rattle.nt_types.specs.Names.{names_differ}
use Rattle.nt_types.specs.Views.{shape_view}
use Rattle.nt_types.specs.declared.shape.Shape.{Choice, the_lemmas}
use Rattle.nt_types.specs.declared.shape.Shapes.{Shapes}
use Rattle.nt_writable.specs.Fields.{is_type, are_types, are_members}
use Rattle.nt_writable.proofs.Loops.{list-of_kinds, list-of_parts}

pub view-Choice : (ks : Shapes) → shape_view (Choice ks) ≡ choice (kinds_of (map shape_view ks.list.items))
view-Choice ks = search (rules, the_lemmas)

module _ (within differ : Bool) (ms : List MemberData) (out : within ≡ false) (is : differ ≡ names_differ ms) where
  opened : is_type within (fields (parts_of ms)) ≡ (differ && are_members (parts_of ms))
  opened =
      ap (λ (b : Bool). not b && (names_differ (parts_list (parts_of ms)) && are_members (parts_of ms))) out
      ∙ ap (λ (b : Bool). b && are_members (parts_of ms)) (ap names_differ (list-of_parts ms) ∙ sym is)

  pub record-refused : differ ≡ false → false ≡ is_type within (fields (parts_of ms))
  record-refused off = sym (opened ∙ ap (λ (b : Bool). b && are_members (parts_of ms)) off)

  pub record-taken : differ ≡ true → are_members (parts_of ms) ≡ is_type within (fields (parts_of ms))
  record-taken on = sym (opened ∙ ap (λ (b : Bool). b && are_members (parts_of ms)) on)

le-no : (a b : ℕ) → b < a → nat_le a b ≡ false
le-no a b less = by (nat_le a b) refl
  where
    by : (x : Bool) → nat_le a b ≡ x → x ≡ false
    by false e = refl
    by true e = absurd (omega (arith, less, leb-true a b e))

module _ (within : Bool) (ks : List ShapeData) where
  choice-opened : (few : Bool) → nat_le (length ks) max_alternatives ≡ few
      → is_type within (choice (kinds_of ks)) ≡ (few && are_types true (kinds_of ks))
  choice-opened few e =
      ap (λ (l : List ShapeData). nat_le (length l) max_alternatives && are_types true (kinds_of ks)) (list-of_kinds ks)
      ∙ ap (λ (b : Bool). b && are_types true (kinds_of ks)) e

  pub choice-refused : max_alternatives < length ks → false ≡ is_type within (choice (kinds_of ks))
  choice-refused many = sym (choice-opened false (le-no (length ks) max_alternatives many))

  pub choice-taken : length ks ≤ max_alternatives → are_types true (kinds_of ks) ≡ is_type within (choice (kinds_of ks))
  choice-taken few = sym (choice-opened true (le-leb (length ks) max_alternatives few))
