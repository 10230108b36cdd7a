use Rattle.std.proofs.Common.{◌≡◌, List, map, IfSome, sym, subst, length}
use Rattle.nt_types.specs.Views.{member_view, members_view}
use Rattle.nt_types.specs.ShapeData.{MemberData}
use Rattle.nt_types.specs.TreeViews.{tree_view}
use Rattle.nt_types.specs.TreeData.{trees_of}
use Rattle.nt_event.specs.Standing.{ItemsStand, BlanksStand, EachGood, jsons_of, kinds_in, IsWritten}
use Rattle.nt_event.proofs.Texts.{line-tokens}
use Rattle.nt_event.proofs.scan.read_written.Goals as goal

pub returns-in-Some-2 : goal.returns-in-Some-2
returns-in-Some-2 c =
    let e = c.in_ok-end.ensures in
    let line = c.args.line.now in
    let vs = c.in-Some-2.list in
    let end = c.in-Some-2.end in
    let first = c.in-Some.first in
    let fields = c.args.fields.now in
    let so = subst (λ o. IfSome o (λ r. ItemsStand (jsons_of (trees_of (map tree_view r.0.items))) line first r.1)) c.in-Some-2.is
    e.stands in
    let good = subst (λ o. IfSome o (λ r. EachGood 126 (kinds_in (map member_view c.as_slice.result.now)) (map tree_view r.0.items)))
    c.in-Some-2.is e.good in
    let blanks : BlanksStand line end (length line) =
    subst (λ n. BlanksStand line end n) c.if-after_blanks-line.true c.after_blanks.ensures in
    let seen : map member_view c.as_slice.result.now ≡ members_view fields = c.as_slice.ensures in
    let written : IsWritten (members_view fields) (map tree_view vs.items) line = record {
      told = line-tokens (jsons_of (trees_of (map tree_view vs.items))) line first end c.in-Some.ensures so blanks;
      good = subst (λ (ps : List MemberData). EachGood 126 (kinds_in ps) (map tree_view vs.items)) seen good;
    } in
    subst (λ ts. IsWritten (members_view fields) ts line) (sym c.from_vec.ensures) written
