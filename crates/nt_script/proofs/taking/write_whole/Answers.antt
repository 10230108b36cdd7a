use Rattle.std.proofs.Common.{◌≡◌, ◌<◌, length, arith, rules}
use Rattle.nt_seq.specs.Writer.{gathered_by}
use Rattle.nt_script.proofs.Taken.{whole_written}
use Rattle.nt_script.proofs.taking.write_whole.Goals as goal

pub returns-then-full-clause-done : goal.returns-then-full-clause-done
returns-then-full-clause-done g c segments es taken =
    let some : 0 < c.args.writer.now.params.cluster = omega (arith, c.args.writer.now.params.cluster_range.0) in
    let whole : length (gathered_by c.args.writer.now) ≡ c.args.writer.now.params.cluster = c.if-full.ensures.0 (search rules) in
    whole_written g.D.Disk.state segments es c.args.writer.now c.write_gathered.new.writer c.write_gathered.result some whole taken
    (c.write_gathered.ensures.done segments es taken)
