use Rattle.std.proofs.Common.{[], refl}
use Rattle.nt_types.proofs.Seen.{Knows-empty}
use Rattle.nt_types.proofs.NamesDiffer.{new_member, old_member, last_member}
use Rattle.nt_writable.proofs.names.names_differ.Goals as goal

pub loop-member-init : goal.loop-member-init
loop-member-init c = ([], Knows-empty c.new-seen.result c.new-seen.ensures.empty, refl)

pub loop-member-preserved : goal.loop-member-preserved
loop-member-preserved c =
    let (seen, knows, e) = c.loop-member.invariant in
    new_member _ _ seen _ _ _ c.as_slice.result _ _ knows e c.loop-member-test.true c.member-item.is c.as_slice.ensures
    c.in_ok-insert.ensures.added c.if-not-branch.false c.in_ok-insert.ensures.updates

pub returns-then-not-branch : goal.returns-then-not-branch
returns-then-not-branch c =
    let (seen, knows, e) = c.loop-member.invariant in
    old_member _ seen _ _ _ c.as_slice.result _ _ knows e c.loop-member-test.true c.member-item.is c.as_slice.ensures
    c.in_ok-insert.ensures.added c.if-not-branch.true

pub returns : goal.returns
returns c = let (seen, knows, e) = c.loop-member.invariant in last_member seen _ _ _ c.loop-member-test.false e
