use Rattle.std.proofs.Common.{rules, ◌≡◌, ◌∙◌, ap, sym, subst, Bool, true, List, map, arith}
use Rattle.std.specs.Prelude.{IfOk}
use Rattle.std.proofs.lemmas.List.{length-map}
use Rattle.nt_types.specs.ShapeData.{fields, kinds_of, parts_of}
use Rattle.nt_types.specs.Views.{shape_view, member_view}
use Rattle.nt_types.specs.declared.shape.Shape.{Shape, the_lemmas}
use Rattle.nt_types.specs.declared.shape.Member.{Member}
use Rattle.nt_writable.specs.Fields.{is_type, are_types, are_members}
use Rattle.nt_writable.proofs.Refused.{view-Choice, record-refused, record-taken, choice-refused, choice-taken}
use Rattle.nt_writable.proofs.field.+rules.Goals as goal

pub is_type-returns-then-not-branch : goal.is_type-returns-then-not-branch
is_type-returns-then-not-branch t c =
    let ms = map member_view c.deref-in-Rec.result.now in
    let seen : shape_view c.args.shape.now ≡ fields (parts_of ms) =
    search (rules, the_lemmas, c.in-Rec.is, c.deref-in-Rec.ensures.value) in
    record-refused c.args.within c.in_ok-names_differ-in-Rec.field-0 ms c.if-within.false c.in_ok-names_differ-in-Rec.ensures
    c.if-not-branch.true
    ∙ ap (is_type c.args.within) (sym seen)

pub is_type-returns-else-not-branch : goal.is_type-returns-else-not-branch
is_type-returns-else-not-branch t c =
    let ms = map member_view c.deref-in-Rec.result.now in
    let seen : shape_view c.args.shape.now ≡ fields (parts_of ms) =
    search (rules, the_lemmas, c.in-Rec.is, c.deref-in-Rec.ensures.value) in
    let again = c.deref-in-Rec-2.ensures.value ∙ sym c.deref-in-Rec.ensures.value in
    let same = ap (λ (l : List Member). are_members (parts_of (map member_view l))) again
    ∙ record-taken c.args.within c.in_ok-names_differ-in-Rec.field-0 ms c.if-within.false c.in_ok-names_differ-in-Rec.ensures
    c.if-not-branch.false
    ∙ ap (is_type c.args.within) (sym seen) in
    subst (λ (b : Bool). IfOk c.are_members.result (λ keeps. keeps ≡ b)) same c.are_members.ensures

pub is_type-returns-then-len-gt-MAX_ALTERNATIVES : goal.is_type-returns-then-len-gt-MAX_ALTERNATIVES
is_type-returns-then-len-gt-MAX_ALTERNATIVES t c =
    let ss = c.in-Choice.shapes.list.items in
    choice-refused c.args.within (map shape_view ss)
    (omega (arith, c.if-len-gt-MAX_ALTERNATIVES.true, c.len.ensures, length-map ss shape_view))
    ∙ ap (is_type c.args.within) (sym (ap shape_view c.in-Choice.is ∙ view-Choice c.in-Choice.shapes))

pub is_type-returns-else-len-gt-MAX_ALTERNATIVES : goal.is_type-returns-else-len-gt-MAX_ALTERNATIVES
is_type-returns-else-len-gt-MAX_ALTERNATIVES t c =
    let ss = c.in-Choice.shapes.list.items in
    let same = ap (λ (l : List Shape). are_types true (kinds_of (map shape_view l))) c.deref-in-Choice.ensures.value
    ∙ choice-taken c.args.within (map shape_view ss)
    (omega (arith, c.if-len-gt-MAX_ALTERNATIVES.false, c.len.ensures, length-map ss shape_view))
    ∙ ap (is_type c.args.within) (sym (ap shape_view c.in-Choice.is ∙ view-Choice c.in-Choice.shapes)) in
    subst (λ (b : Bool). IfOk c.are_types-in-Choice.result (λ keeps. keeps ≡ b)) same c.are_types-in-Choice.ensures
