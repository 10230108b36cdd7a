use Rattle.clap.specs.Words.{app_of}
use Rattle.nt_command_line.proofs.Spoken.{simple_of}
use Rattle.nt_command_line.proofs.arguments.matches_of.Goals as goal

pub returns-in-Ok-clause-reads : goal.returns-in-Ok-clause-reads
returns-in-Ok-clause-reads c =
    (c.in-Ok.ensures.kinds c.requires.simple, (c.in-Ok.ensures.matches (simple_of (app_of c.args.command) c.requires.simple)).0)
