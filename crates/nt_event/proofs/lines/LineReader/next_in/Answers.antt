use Rattle.std.proofs.Common.{rules, ◌+◌, ◌<◌, ◌≤◌, inr, [], ◌∷◌, length, refl, ap, ◌∙◌, arith}
use Rattle.std.specs.List.{slice_range}
use Rattle.std.proofs.KnownBytes.{Consumes-kept}
use Rattle.nt_event.specs.Lines.{lines_state}
use Rattle.nt_event.specs.LineParts.{TakesMore}
use Rattle.nt_digits.proofs.Digits.{range-length}
use Rattle.nt_event.proofs.LineSteps.{more_left, gives_err, next_line}
use Rattle.nt_event.proofs.lines.LineReader.next_in.Goals as goal

pub returns-then-self-ge-MAX_NUMBER-clause-line : goal.returns-then-self-ge-MAX_NUMBER-clause-line
returns-then-self-ge-MAX_NUMBER-clause-line g c =
    let state = g.S.Source.state in
    let A = lines_state (state c.args.self.now.source) c.args.self.now in
    let B = lines_state (state c.loop.self.source) c.loop.self in
    let s = c.fill.new.self in
    let C = lines_state (state s.source) s in
    let v = c.loop.invariant in
    let more : s.at < s.end = search (rules, c.in_ok-fill.ensures.ready, c.if-not-branch.false) in
    let ready = slice_range s.piece.items s.at s.end in
    let inside : s.end ≤ length s.piece.items = search rules in
    let some : 0 < length ready = omega (arith, range-length s.piece.items s.at s.end (omega arith) inside, more) in (
      ap (λ n. n + 1) (c.fill.ensures.number ∙ v.number),
      inr (
        omega (arith, c.if-self-ge-MAX_NUMBER.true),
        more_left A.left C.left (state s.source).left c.loop.bytes.items ready
            (Consumes-kept A.left B.left C.left c.loop.bytes.items v.taken c.fill.ensures.same) refl some,
      ),
    )

pub returns-in_err-take_part-clause-line : goal.returns-in_err-take_part-clause-line
returns-in_err-take_part-clause-line g c =
    let state = g.S.Source.state in
    let A = lines_state (state c.args.self.now.source) c.args.self.now in
    let B = lines_state (state c.loop.self.source) c.loop.self in
    let C = lines_state (state c.fill.new.self.source) c.fill.new.self in
    let D = lines_state (state c.take_part.new.self.source) c.take_part.new.self in
    let v = c.loop.invariant in
    let e = gives_err A C D c.in_err-take_part.field-0.0 c.loop.bytes.items c.take_part.new.line.items (c.fill.ensures.number ∙ v.number)
    (Consumes-kept A.left B.left C.left c.loop.bytes.items v.taken c.fill.ensures.same) v.one_line c.in_err-take_part.ensures.part in
    search (rules, e, c.from_residual-in_err-take_part.ensures)

pub returns-then-branch-clause-line : goal.returns-then-branch-clause-line
returns-then-branch-clause-line g c =
    let state = g.S.Source.state in
    let A = lines_state (state c.args.self.now.source) c.args.self.now in
    let B = lines_state (state c.loop.self.source) c.loop.self in
    let C = lines_state (state c.fill.new.self.source) c.fill.new.self in
    let D = lines_state (state c.take_part.new.self.source) c.take_part.new.self in
    let s = c.numbered-then-branch.new.self in
    let E = lines_state (state s.source) s in
    let v = c.loop.invariant in
    let n = c.numbered-then-branch.ensures in
    let same = c.take_part.ensures.number ∙ c.fill.ensures.number ∙ v.number in
    let part : TakesMore C D c.loop.bytes.items c.take_part.new.line.items (10 ∷ []) =
    search (rules, c.in_ok-take_part.ensures.part, c.if-branch.true) in
    next_line A C D E c.numbered-then-branch.result c.loop.bytes.items c.take_part.new.line.items
    (omega (arith, c.if-self-ge-MAX_NUMBER.false, c.fill.ensures.number, v.number))
    (Consumes-kept A.left B.left C.left c.loop.bytes.items v.taken c.fill.ensures.same) v.one_line part
    n.left (n.number ∙ ap (λ m. m + 1) same) (n.line.0 ∙ ap (λ m. m + 1) same) n.line.1
