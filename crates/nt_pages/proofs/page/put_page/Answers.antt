use Rattle.std.proofs.Common.{arith}
use Rattle.nt_lists.proofs.Groups.{chunk-begins, chunk-read}
use Rattle.nt_pages.proofs.page.put_page.Goals as goal

pub overflow_mul-from : goal.overflow_mul-from
overflow_mul-from c =
    let begins = chunk-begins c.args.page c.args.buffer.now.column.elements c.args.i c.requires.limit.some c.requires.within in omega arith

pub overflow_sub-count : goal.overflow_sub-count
overflow_sub-count c =
    let begins = chunk-begins c.args.page c.args.buffer.now.column.elements c.args.i c.requires.limit.some c.requires.within in omega arith

pub overflow_add-to : goal.overflow_add-to
overflow_add-to c =
    let begins = chunk-begins c.args.page c.args.buffer.now.column.elements c.args.i c.requires.limit.some c.requires.within in omega arith

pub put_part-requires-clause-part : goal.put_part-requires-clause-part
put_part-requires-clause-part c =
    let begins = chunk-begins c.args.page c.args.buffer.now.column.elements c.args.i c.requires.limit.some c.requires.within in
    record { order = omega arith; within = omega arith; few = omega arith }

pub returns-clause-image : goal.returns-clause-image
returns-clause-image c =
    rw (chunk-read c.args.page c.args.buffer.now.column.elements c.args.i _ _ c.requires.within c.len-count.ensures c.min.ensures)
    c.put_part.ensures.image

pub returns-clause-meta : goal.returns-clause-meta
returns-clause-meta c =
    rw (chunk-read c.args.page c.args.buffer.now.column.elements c.args.i _ _ c.requires.within c.len-count.ensures c.min.ensures)
    c.put_part.ensures.meta
