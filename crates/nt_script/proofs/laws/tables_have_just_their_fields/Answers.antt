use Rattle.nt_script.proofs.Tables.{described-just}
use Rattle.nt_script.proofs.laws.tables_have_just_their_fields.Goals as goal

pub returns : goal.returns
returns c fields plain t rules rows = described-just fields plain t rules rows
