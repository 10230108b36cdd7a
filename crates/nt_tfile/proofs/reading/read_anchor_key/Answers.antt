use Rattle.std.proofs.Common.{rules}
use Rattle.nt_tfile.proofs.Chains.{list-fails}
use Rattle.nt_tfile.proofs.reading.read_anchor_key.Goals as goal

pub returns-in_err-list-clause-read : goal.returns-in_err-list-clause-read
returns-in_err-list-clause-read g c told is =
    let failed = list-fails told c.args.directory.now _ _ c.fault.ensures (c.in_err-list.ensures.read told is) in
    search (rules, failed)
