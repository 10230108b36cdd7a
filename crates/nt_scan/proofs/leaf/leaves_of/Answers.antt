use Rattle.std.proofs.Common.{arith, rules, ◌≡◌, ◌++◌, ◌∷◌, []}
use Rattle.nt_scan.proofs.Leaves.{leaf-more, leaf-none}
use Rattle.nt_scan.proofs.leaf.leaves_of.Goals.{in-Some+in_ok-push-in-Some, in-None}
use Rattle.nt_scan.proofs.leaf.leaves_of.Goals as goal

pub loop-id-preserved : goal.loop-id-preserved
loop-id-preserved c =
    let t = c.args.schema.now in
    let id = c.loop-id.id in
    elim c.match-leaf_of.branch [
      | in-Some+in_ok-push-in-Some w ↦ rw w.leaves-is (leaf-more t id w.in-Some.leaf c.loop-id.leaves.items _
          (omega (arith, c.loop-id-test.true, c.fields-id-end.ensures)) w.in-Some.ensures (search rules) c.loop-id.invariant)
      | in-None w ↦ rw w.leaves-is (leaf-none t id c.loop-id.leaves.items (omega (arith, c.loop-id-test.true, c.fields-id-end.ensures))
          w.in-None.ensures c.loop-id.invariant)
    ]
