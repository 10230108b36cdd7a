use Rattle.std.proofs.Common.{◌-◌, length, arith}
use Rattle.std.proofs.lemmas.Bool.{eqb-true}
use Rattle.nt_shred.proofs.AsciiBytes.{ascii-behind}
use Rattle.nt_shred.proofs.ascii.is_long_ascii.Goals as goal

pub returns-then-i-last : goal.returns-then-i-last
returns-then-i-last c = λ none.
    let text = c.args.text.now in
    ascii-behind text c.ascii_sixteens-i.result (length text - 16) 16 (omega arith) (omega arith) c.ascii_sixteens-i.ensures.ascii
    (c.others_of_sixteen.ensures (eqb-true _ 0 none))
