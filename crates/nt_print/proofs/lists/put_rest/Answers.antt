use Rattle.std.proofs.Common.{rules, ℤ, ◌≡◌, ◌≤◌, ◌<◌, ◌+◌, ◌++◌, ◌∙◌, List, map, take, length, length-append, ap, refl, arith, take_at}
use Rattle.nt_print.specs.declared.blocks.TheConstants.{BLOCK_ROOM}
use Rattle.nt_print.specs.Integers.{integers_text}
use Rattle.nt_print.proofs.Parts.{room-cut, integers-below}
use Rattle.nt_print.proofs.lists.put_rest.Goals as goal

pub returns-clause-ok : goal.returns-clause-ok
returns-clause-ok g c =
    let o = c.args.out.now.items in
    let len = c.len-len.result in
    let all = c.extend_from_slice.new.self in
    let end = c.place_below-count.result in
    let few = c.place_below-count.ensures.few.0 in
    let ns = map g.W.Word.number c.args.words.now in
    let count : length o ≡ len = omega (arith, c.len-len.ensures, c.args.out.now.ok) in
    let wide : length BLOCK_ROOM ≡ 64 = refl in
    let size : length all.items ≡ len + 64 =
    omega (arith, ap length c.in_ok-extend_from_slice.ensures.items, length-append o BLOCK_ROOM, wide, count) in
    let most : len + end ≤ all.len = omega (arith, few, size, all.ok) in
    let within : end ≤ length c.place_below-count.new.room = search (rules, few, c.place_below-count.ensures.few.1, size) in
    let some : 0 < end = omega (arith, c.if-count-eq0.false) in
    let same = integers-below c.args.bits c.args.signed c.short_end-end.result ns c.short_end-end.ensures.same
    (c.place_below-count.ensures.below some) in
    c.truncate.ensures.items
    ∙ (room-cut o c.deref_mut.result.now c.place_below-count.new.room _ _ _ all.len len end
    (ap (take len) (c.deref_mut.ensures.value ∙ c.in_ok-extend_from_slice.ensures.items) ∙ take_at o BLOCK_ROOM len count) count most within
    (c.place_below-count.ensures.text some)
    ∙ ap (λ (zs : List ℤ). o ++ integers_text c.args.mark zs) same)
