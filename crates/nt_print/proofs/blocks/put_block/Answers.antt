use Rattle.std.proofs.Common.{rules, ◌≡◌, ◌≤◌, ◌+◌, ◌∙◌, take, length, length-append, ap, refl, arith, take_at}
use Rattle.nt_print.specs.declared.blocks.TheConstants.{BLOCK_ROOM}
use Rattle.nt_print.proofs.Parts.{room-cut}
use Rattle.nt_print.proofs.blocks.put_block.Goals as goal

pub returns-clause-ok : goal.returns-clause-ok
returns-clause-ok g c =
    let o = c.args.out.now.items in
    let len = c.len-len.result in
    let all = c.extend_from_slice.new.self in
    let few = c.place_each-count.ensures.few in
    let count : length o ≡ len = omega (arith, c.len-len.ensures, c.args.out.now.ok) in
    let wide : length BLOCK_ROOM ≡ 64 = refl in
    let size : length all.items ≡ len + 64 =
    omega (arith, ap length c.in_ok-extend_from_slice.ensures.items, length-append o BLOCK_ROOM, wide, count) in
    let most : len + c.place_each-count.result ≤ all.len = omega (arith, few, c.requires.eight, size, all.ok) in
    let within : c.place_each-count.result ≤ length c.place_each-count.new.room =
    search (rules, few, c.place_each-count.ensures.len, c.requires.eight, size) in
    c.truncate.ensures.items
    ∙ room-cut o c.deref_mut.result.now c.place_each-count.new.room _ _ _ all.len len c.place_each-count.result
    (ap (take len) (c.deref_mut.ensures.value ∙ c.in_ok-extend_from_slice.ensures.items) ∙ take_at o BLOCK_ROOM len count) count most within
    c.place_each-count.ensures.text
