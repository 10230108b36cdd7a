use Rattle.std.proofs.Common.{rules, ◌≡◌, Some, None, List, length, arith, sym, ap, ◌∙◌, map}
use Rattle.std.proofs.lemmas.List.{length-map}
use Rattle.serde_json.specs.View.{view, items_view}
use Rattle.nt_types.specs.ShapeData.{MemberData, parts_of}
use Rattle.nt_types.specs.Views.{member_view, members_view}
use Rattle.nt_types.specs.TreeViews.{tree_view}
use Rattle.nt_types.specs.TreeData.{TreeData, trees_of}
use Rattle.nt_event.specs.Line as lines
use Rattle.nt_event.specs.Entry.{or_misfit}
use Rattle.nt_event.proofs.Entries.{data_is, no_data, no_array, an_array, other_count, same_count}
use Rattle.nt_event.proofs.entry.read_value.Goals as goal

pub returns-in_default : goal.returns-in_default
returns-in_default c = record {
  ok = tt;
  err = no_data (parts_of (members_view c.args.fields.now)) c.args.line.now c.requires
      (c.in-Err.ensures.err (λ m. c.in_default.not-Memory (c.classify.ensures.memory.1 m)));
}

pub returns-in_default-as_array-clause-err : goal.returns-in_default-as_array-clause-err
returns-in_default-as_array-clause-err c =
    let F = parts_of (members_view c.args.fields.now) in
    let ok = c.in-Ok.ensures.ok in
    data_is F c.args.line.now (view c.in-Ok.value) c.requires ok.0 ok.1 ∙ no_array F (view c.in-Ok.value) c.in_default-as_array.ensures

pub returns-then-len-members-clause-err : goal.returns-then-len-members-clause-err
returns-then-len-members-clause-err c =
    let ps = members_view c.args.fields.now in
    let F = parts_of ps in
    let ok = c.in-Ok.ensures.ok in
    let xs = c.in-Some.values.now.items in
    let seen : length c.as_slice-members.result.now ≡ length ps = sym (length-map c.as_slice-members.result.now member_view)
    ∙ ap (λ (l : List MemberData). length l) c.as_slice-members.ensures in
    data_is F c.args.line.now (view c.in-Ok.value) c.requires ok.0 ok.1 ∙ an_array F (view c.in-Ok.value) (items_view xs) c.in-Some.ensures
    ∙ other_count ps xs (λ e. omega (arith, e, c.len.ensures, c.if-len-members.true, seen))

pub returns-in-Ok-Some-clause-ok : goal.returns-in-Ok-Some-clause-ok
returns-in-Ok-Some-clause-ok c =
    let ps = members_view c.args.fields.now in
    let F = parts_of ps in
    let ok = c.in-Ok.ensures.ok in
    let xs = c.in-Some.values.now.items in
    let seen : length c.as_slice-members.result.now ≡ length ps = sym (length-map c.as_slice-members.result.now member_view)
    ∙ ap (λ (l : List MemberData). length l) c.as_slice-members.ensures in
    let all : Some (trees_of (map tree_view c.in-Ok-Some.list.items)) ≡ lines.parts_read
    (parts_of (map member_view c.as_slice-members.result.now)) (items_view xs) =
    search (rules, c.in-Ok-Some.ensures, c.in-Ok-Some.field-0-is, c.deref.ensures.value) in
    data_is F c.args.line.now (view c.in-Ok.value) c.requires ok.0 ok.1 ∙ an_array F (view c.in-Ok.value) (items_view xs) c.in-Some.ensures
    ∙ same_count ps xs (omega (arith, c.len.ensures, c.if-len-members.false, seen))
    ∙ ap or_misfit (sym (ap (λ (l : List TreeData). Some (trees_of l)) c.from_vec.ensures ∙ all
    ∙ ap (λ (l : List MemberData). lines.parts_read (parts_of l) (items_view xs)) c.as_slice-members.ensures))

pub returns-in-Ok-None-clause-err : goal.returns-in-Ok-None-clause-err
returns-in-Ok-None-clause-err c =
    let ps = members_view c.args.fields.now in
    let F = parts_of ps in
    let ok = c.in-Ok.ensures.ok in
    let xs = c.in-Some.values.now.items in
    let seen : length c.as_slice-members.result.now ≡ length ps = sym (length-map c.as_slice-members.result.now member_view)
    ∙ ap (λ (l : List MemberData). length l) c.as_slice-members.ensures in
    let all : None ≡ lines.parts_read (parts_of (map member_view c.as_slice-members.result.now)) (items_view xs) =
    search (rules, c.in-Ok-None.ensures, c.in-Ok-None.field-0-is, c.deref.ensures.value) in
    data_is F c.args.line.now (view c.in-Ok.value) c.requires ok.0 ok.1 ∙ an_array F (view c.in-Ok.value) (items_view xs) c.in-Some.ensures
    ∙ same_count ps xs (omega (arith, c.len.ensures, c.if-len-members.false, seen))
    ∙ ap or_misfit (sym (all ∙ ap (λ (l : List MemberData). lines.parts_read (parts_of l) (items_view xs)) c.as_slice-members.ensures))
