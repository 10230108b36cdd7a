use Rattle.std.proofs.Common.{◌∙◌, sym, ap, map, arith}
use Rattle.std.proofs.lemmas.List.{length-map}
use Rattle.nt_types.specs.ColumnTable.{bits_of}
use Rattle.nt_shred.proofs.Sets.{framed, gains, spare-at}
use Rattle.nt_moving.proofs.words.push_run.Goals as goal

pub append-requires-clause-takes : goal.append-requires-clause-takes
append-requires-clause-takes g c =
    let p = c.requires.column.0 in
    let both = framed c.args.out.now c.args.column c.buffer.result.now p.0 0 c.buffer.ensures.value p.1 in
    let es = map g.W.Word.element c.args.words.now in
    record {
      other = λ e. p.2 (sym both.0 ∙ e);
      stored = both.1;
      width = ap bits_of both.0 ∙ p.3;
      known = c.requires.column.1;
      room = omega (
        arith,
        length-map c.args.words.now g.W.Word.element,
        spare-at c.args.out.now c.args.column c.buffer.result.now es c.buffer.ensures.value c.requires.room,
      );
    }

pub returns : goal.returns
returns g c =
    let es = map g.W.Word.element c.args.words.now in
    gains c.args.out.now c.args.column c.buffer.result.now c.append.new.column es c.buffer.ensures.value c.append.ensures.column
    (omega (arith, length-map c.args.words.now g.W.Word.element, c.append.ensures.spare))
