use Rattle.std.proofs.Common.{◌≡◌, length, ◌∙◌, arith}
use Rattle.std.proofs.lemmas.Grind.{common_steps}
use Rattle.nt_tfile.proofs.Windows.{more_read, cut_read}
use Rattle.nt_tfile.proofs.window.read_more.Goals as goal

pub returns-clause-bytes : goal.returns-clause-bytes
returns-clause-bytes g c told is =
    let read = c.in_ok-count.ensures.bytes told is in
    let size : length c.read_at.new.buf ≡ c.args.step =
    grind (arith, common_steps, c.in_ok-resize.ensures.len, c.deref_mut.ensures.len, c.len-filled.ensures) in
    more_read c.args.bytes.now.items c.read_at.new.buf told c.truncate.new.self.items c.args.at c.args.step c.in_ok-count.count
    read.0 size read.1
    (cut_read c.args.bytes.now.items c.read_at.new.buf c.truncate.new.self.items c.deref_mut.result.now _ _ _ c.len-filled.result
    c.in_ok-count.count c.args.step c.resize.new.self.len
    c.truncate.ensures.items (c.deref_mut.ensures.value ∙ c.in_ok-resize.ensures.items)
    (grind (arith, common_steps, c.len-filled.ensures)) size c.in_ok-resize.ensures.len)
