use Rattle.nt_types.proofs.TextAnswers.{text-told, text-only, text-each, text-rules}
use Rattle.nt_types.proofs.schema.parse_schema.Goals as goal

pub returns-clause-told : goal.returns-clause-told
returns-clause-told c = text-told c.read_text.result c.args.text.now c.read_text.ensures

pub returns-clause-only : goal.returns-clause-only
returns-clause-only c fields s = text-only c.read_text.result c.args.text.now fields s c.read_text.ensures

pub returns-clause-each : goal.returns-clause-each
returns-clause-each c f s = text-each c.read_text.result c.args.text.now f s c.read_text.ensures

pub returns-clause-rules : goal.returns-clause-rules
returns-clause-rules c = text-rules c.read_text.result c.args.text.now c.read_text.ensures
