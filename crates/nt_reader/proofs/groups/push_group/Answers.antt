use Rattle.std.proofs.lemmas.Result.{err_from_is_err_and}
use Rattle.nt_reader.specs.Envelopes.{block_of}
use Rattle.nt_reader.proofs.GroupSteps.{list-fails, list-refused, list-done, list-counted}
use Rattle.nt_reader.proofs.groups.push_group.Goals as goal

pub returns-in_err-list-clause-read : goal.returns-in_err-list-clause-read
returns-in_err-list-clause-read g c told is =
    let p = err_from_is_err_and c.from_residual.result c.from_residual.ensures.1 in
    rw (p.1, p.2)
    (list-fails told c.args.known.now.sum c.args.known.now.columns.now c.args.group.now c.args.so_far.now.progress
    c.args.so_far.now.clusters.items
    (block_of c.list_block-block.result) _ c.list_block-block.ensures
    (c.in_err-list.ensures.read told is))

pub returns-in-Ok-clause-read : goal.returns-in-Ok-clause-read
returns-in-Ok-clause-read g c told is =
    list-done told c.args.known.now.sum c.args.known.now.columns.now c.args.group.now c.args.so_far.now.progress
    c.args.so_far.now.clusters.items
    (block_of c.list_block-block.result) _ _ _ _ _ _ c.list_block-block.ensures
    (c.in_ok-list.ensures.read told is) c.payload-payload.ensures c.in-Ok.ensures c.as_slice.ensures c.in_ok-push_moved-in-Ok.ensures

pub returns-in-Ok-clause-counted : goal.returns-in-Ok-clause-counted
returns-in-Ok-clause-counted g c =
    list-counted c.payload-payload.result.now c.args.known.now.sum c.args.known.now.columns.now c.args.group.now c.args.so_far.now.progress
    c.args.so_far.now.clusters.items
    c.payload-payload.result.now _ _ _ _ _ c.in-Ok.ensures c.as_slice.ensures
    c.in_ok-push_moved-in-Ok.ensures

pub returns-clause-read : goal.returns-clause-read
returns-clause-read g c told is =
    list-refused told c.args.known.now.sum c.args.known.now.columns.now c.args.group.now c.args.so_far.now.progress
    c.args.so_far.now.clusters.items
    (block_of c.list_block-block.result) _ _ _ _ c.list_block-block.ensures
    (c.in_ok-list.ensures.read told is) c.payload-payload.ensures c.in-Err.ensures c.failure_inside.ensures
