use Rattle.std.proofs.Common.{◌≡◌, arith, length}
use Rattle.test_close.proofs.Growing.{keeps-spoiled}
use Rattle.test_close.proofs.files.spoil_last.Goals as goal

pub returns : goal.returns
returns c =
    let none : length c.args.book.now.lists ≡ 0 = omega arith in
    keeps-spoiled c.args.book.now c.spoil.new.self _ c.spoil.ensures.book none
