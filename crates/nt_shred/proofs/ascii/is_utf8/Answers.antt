use Rattle.std.proofs.lemmas.Str.{IsUtf8-from_ascii}
use Rattle.nt_shred.proofs.ascii.is_utf8.Goals as goal

pub returns-then-is_ascii-clause-yes : goal.returns-then-is_ascii-clause-yes
returns-then-is_ascii-clause-yes c = λ h. IsUtf8-from_ascii c.args.text.now (c.is_ascii.ensures h)
