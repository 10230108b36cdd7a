use Rattle.nt_types.proofs.TextAnswers.{line-told, line-only, line-each}
use Rattle.nt_types.proofs.member.parse_member.Goals as goal

pub returns-clause-told : goal.returns-clause-told
returns-clause-told c = line-told c.read_member.result c.args.line.now c.read_member.ensures

pub returns-clause-only : goal.returns-clause-only
returns-clause-only c p m = line-only c.read_member.result c.args.line.now p m c.read_member.ensures

pub returns-clause-each : goal.returns-clause-each
returns-clause-each c k f = line-each c.read_member.result c.args.line.now k f c.read_member.ensures
