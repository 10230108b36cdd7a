use Rattle.std.proofs.Common.{rules, ◌≡◌, ◌≤◌, ◌+◌, ◌∙◌, take, length, length-append, ap, refl, arith, take_at}
use Rattle.nt_print.specs.declared.room.TheConstants.{ROOM}
use Rattle.nt_print.proofs.Parts.{room-cut}
use Rattle.nt_print.proofs.marked.put_digits.Goals as goal

pub returns-clause-ok : goal.returns-clause-ok
returns-clause-ok c =
    let o = c.args.out.now.items in
    let len = c.len-len.result in
    let all = c.extend_from_slice.new.self in
    let few = c.place_digits-count.ensures.few in
    let count : length o ≡ len = omega (arith, c.len-len.ensures, c.args.out.now.ok) in
    let wide : length ROOM ≡ 32 = refl in
    let size : length all.items ≡ len + 32 =
    omega (arith, ap length c.in_ok-extend_from_slice.ensures.items, length-append o ROOM, wide, count) in
    let most : len + c.place_digits-count.result ≤ all.len = omega (arith, few, size, all.ok) in
    let within : c.place_digits-count.result ≤ length c.place_digits-count.new.room =
    search (rules, few, c.place_digits-count.ensures.len, size) in
    c.truncate.ensures.items
    ∙ room-cut o c.deref_mut.result.now c.place_digits-count.new.room _ _ _ all.len len c.place_digits-count.result
    (ap (take len) (c.deref_mut.ensures.value ∙ c.in_ok-extend_from_slice.ensures.items) ∙ take_at o ROOM len count) count most within
    c.place_digits-count.ensures.text
