use Rattle.std.proofs.Common.{rules, ◌≡◌, ◌++◌, length, take, refl, ap, arith, length-append, length-take-le}
use Rattle.std.specs.List.{slice_range}
use Rattle.memchr.specs.Find.{Nowhere, NoneBefore, Passes, is_byte}
use Rattle.nt_event.proofs.LineSteps.{too_many, taken_to_lf, no_lf-before, lf_at}
use Rattle.nt_event.proofs.lines.LineReader.take_part.Goals as goal

pub returns-then-count-len-clause-part : goal.returns-then-count-len-clause-part
returns-then-count-len-clause-part g c =
    let s = c.args.self.now in
    let hay = slice_range s.piece.items s.at s.end in
    let found : NoneBefore (Passes (is_byte 10) hay) 0 (length hay) c.in-Some.count =
    search (rules, c.in-Some.ensures, c.deref.ensures.value) in (
      refl,
      too_many (g.S.Source.state s.source).left hay c.args.line.now.items c.in-Some.count (omega (arith, found.high)) found.before
          (omega (arith, c.if-count-len.true, c.len.ensures)),
    )

pub returns-then-rest-len-clause-part : goal.returns-then-rest-len-clause-part
returns-then-rest-len-clause-part g c =
    let s = c.args.self.now in
    let hay = slice_range s.piece.items s.at s.end in
    let none : Nowhere (Passes (is_byte 10) hay) 0 (length hay) = search (rules, c.in-None.ensures, c.deref.ensures.value) in (
      refl,
      too_many (g.S.Source.state s.source).left hay c.args.line.now.items (length hay) (omega arith) none
          (omega (arith, c.if-rest-len.true, c.len-in-None.ensures, ap (λ l. length (slice_range l s.at s.end)) c.deref.ensures.value)),
    )

pub returns-in_ok-extend_from_slice-in-Some-clause-part : goal.returns-in_ok-extend_from_slice-in-Some-clause-part
returns-in_ok-extend_from_slice-in-Some-clause-part g c =
    let s = c.args.self.now in
    let hay = slice_range s.piece.items s.at s.end in
    let count = c.in-Some.count in
    let found : NoneBefore (Passes (is_byte 10) hay) 0 (length hay) count = search (rules, c.in-Some.ensures, c.deref.ensures.value) in
    let lf : Passes (is_byte 10) hay count = search (rules, c.in-Some.ensures, c.deref.ensures.value) in
    let grown : c.extend_from_slice.new.self.items ≡ c.args.line.now.items ++ take count hay =
    search (rules, c.in_ok-extend_from_slice-in-Some.ensures.items, c.deref.ensures.value) in
    record {
      part = take count hay;
      grown = grown;
      one_line = no_lf-before hay count found;
      taken = taken_to_lf (g.S.Source.state s.source).left s.piece.items s.at s.end count found.high (lf_at hay count lf);
      few = omega (
        arith,
        c.if-count-len.false,
        c.len.ensures,
        ap (λ l. length l) grown,
        length-append c.args.line.now.items (take count hay),
        length-take-le count hay (omega (arith, found.high)),
      );
    }
