use Rattle.std.proofs.Common.{◌≡◌, length, take, ◌∙◌, arith}
use Rattle.std.proofs.lemmas.Grind.{common_steps}
use Rattle.nt_view.proofs.Taking.{read-given, cut-read}
use Rattle.nt_view.proofs.reading.read_more.Goals as goal

pub returns-clause-bytes : goal.returns-clause-bytes
returns-clause-bytes g c =
    let size : length c.read_at.new.buf ≡ c.args.len =
    grind (arith, common_steps, c.in_ok-resize.ensures.len, c.deref_mut.ensures.len, c.len-filled.ensures) in
    record {
      got = take c.in_ok-count.count c.read_at.new.buf;
      behind =
          cut-read c.args.bytes.now.items c.read_at.new.buf c.truncate.new.self.items c.deref_mut.result.now _ _ _ c.len-filled.result
          c.in_ok-count.count c.args.len c.resize.new.self.len
          c.truncate.ensures.items (c.deref_mut.ensures.value ∙ c.in_ok-resize.ensures.items)
          (grind (arith, common_steps, c.len-filled.ensures)) size c.in_ok-resize.ensures.len;
      read = λ told is.
          read-given c.read_at.new.buf told c.args.at c.args.len c.in_ok-count.count (c.in_ok-count.ensures.bytes told is).0 size
          (c.in_ok-count.ensures.bytes told is).1;
    }
