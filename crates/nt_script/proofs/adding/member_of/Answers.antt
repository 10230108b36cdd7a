use Rattle.std.proofs.Common.{◌≡◌, ◌∙◌, ap, refl, sym, subst, Result, Err}
use Rattle.nt_types.specs.Lines.{member_of}
use Rattle.nt_types.specs.TextAnswers.{TellsLine}
use Rattle.nt_types.specs.Views.{member_view}
use Rattle.nt_types.specs.declared.fault.SchemaError.{SchemaError}
use Rattle.nt_types.specs.declared.fault.SchemaError.TheVariants.{Fault}
use Rattle.nt_types.specs.declared.shape.Member.{Member}
use Rattle.nt_types.proofs.FieldFaults.{member_of-refused}
use Rattle.nt_script.specs.Script.{behind_plus}
use Rattle.nt_script.proofs.Members.{member_of-spelled}
use Rattle.nt_script.proofs.adding.member_of.Goals as goal

pub returns-in-Ok-clause-ok : goal.returns-in-Ok-clause-ok
returns-in-Ok-clause-ok c =
    let same = c.behind_plus.ensures ∙ ap behind_plus c.as_slice.ensures in
    ap member_of (sym same) ∙ member_of-spelled c.behind_plus.result.now (member_view c.in-Ok.member) c.in-Ok.ensures.told

pub returns-in-Err-Fault-clause-err : goal.returns-in-Err-Fault-clause-err
returns-in-Err-Fault-clause-err c =
    let same = c.behind_plus.ensures ∙ ap behind_plus c.as_slice.ensures in
    let is : c.parse_member.result ≡ Err (Fault c.in-Err-Fault.fault) = cc in
    let told : TellsLine c.behind_plus.result.now (Err (Fault c.in-Err-Fault.fault)) =
    subst (λ (r : Result Member SchemaError). TellsLine c.behind_plus.result.now r) is c.parse_member.ensures.told in
    (refl, ap member_of (sym same) ∙ member_of-refused c.behind_plus.result.now c.in-Err-Fault.fault.kind told.1)
