use Rattle.std.proofs.Common.{rules, IfSome, subst}
use Rattle.hex.specs.Hex.{IsBytes}
use Rattle.json.specs.Json as json
use Rattle.nt_types.specs.ShapeData as kinds
use Rattle.nt_types.specs.TreeData.{flag, num, text}
use Rattle.nt_types.specs.declared.tree.Tree.{the_lemmas as tree_lemmas}
use Rattle.nt_types.specs.declared.shape.Shape.{the_lemmas as shape_lemmas}
use Rattle.nt_event.specs.Standing.{ReadsValue, ValueStands}
use Rattle.nt_event.proofs.Texts.{reads-flag, reads-int, reads-char, reads-byte, reads-text}
use Rattle.nt_event.proofs.single.single_value.Goals as goal

pub returns-in-Some : goal.returns-in-Some
returns-in-Some c =
    let e = c.in-Some in
    let r : ReadsValue 0 kinds.bool (flag e.holds) c.args.text.now c.args.at e.end =
    reads-flag e.holds 0 c.args.text.now c.args.at e.end e.ensures in
    search (rules, shape_lemmas, tree_lemmas, r, c.in-Bool.is)

pub returns-in-Some-integer : goal.returns-in-Some-integer
returns-in-Some-integer c =
    let e = c.in-Some-integer in
    let r : ReadsValue 0 (kinds.int c.in-Int.bits c.in-Int.signed) (num e.n) c.args.text.now c.args.at e.end =
    reads-int c.in-Int.bits c.in-Int.signed e.n 0 c.args.text.now c.args.at e.end e.ensures.fits e.ensures.range e.ensures.spells in
    search (rules, shape_lemmas, tree_lemmas, r, c.in-Int.is)

pub returns-in-Some-integer-2 : goal.returns-in-Some-integer-2
returns-in-Some-integer-2 c =
    let e = c.in-Some-integer-2 in
    let h = e.ensures in
    let one : ReadsValue 0 kinds.char (num e.n) c.args.text.now c.args.at e.end =
    reads-char e.n 0 c.args.text.now c.args.at e.end h.fits h.range h.spells in
    let other : ReadsValue 0 kinds.byte (num e.n) c.args.text.now c.args.at e.end =
    reads-byte e.n 0 c.args.text.now c.args.at e.end h.fits h.range h.spells in
    search (rules, shape_lemmas, tree_lemmas, one, other, c.in-Char.is)

pub returns-in-Some-2 : goal.returns-in-Some-2
returns-in-Some-2 c =
    let e = c.in_ok-bytes-in-Text.ensures in
    let t = c.args.text.now in
    let b = c.in-Some-2.bytes in
    let stands = subst (λ o. IfSome o (λ r. ValueStands (json.string r.0.items) t c.args.at r.1)) c.in-Some-2.is e.stands in
    let bytes = subst (λ o. IfSome o (λ r. IsBytes r.0.items)) c.in-Some-2.is e.bytes in
    let r : ReadsValue 0 kinds.text (text b.items) t c.args.at c.in-Some-2.end =
    reads-text b.items 0 t c.args.at c.in-Some-2.end bytes stands in
    search (rules, shape_lemmas, tree_lemmas, r, c.in-Text.is, c.from_vec.ensures)
