-- What the readers of schema texts answer, from what is read.
use Rattle.std.proofs.Common.{ℕ, List, ◌≡◌, refl, subst, Result, Ok, Err, cond}
use Rattle.std.specs.Prelude.{IfOk}
use Rattle.nt_lists.specs.Answering.{Answers}
use Rattle.nt_lists.proofs.Variants.{err_is}
use Rattle.nt_types.specs.ShapeData.{MemberData}
use Rattle.nt_types.specs.Views.{member_view, members_view}
use Rattle.nt_types.specs.FaultViews.{schema_fault}
use Rattle.nt_types.specs.Lines.{member_of}
use Rattle.nt_types.specs.LineSpelling.{IsMember, HasFault}
use Rattle.nt_types.specs.Schema.{member_text, at_result, at_line, schema_text}
use Rattle.nt_types.specs.Rules.{AreFields}
use Rattle.nt_types.specs.TextSpelling.{IsSchema, IsRefused}
use Rattle.nt_types.specs.TextAnswers.{TellsLine, TellsText}
use Rattle.nt_types.specs.declared.fault.SchemaKind.{SchemaKind}
use Rattle.nt_types.specs.declared.fault.SchemaFault.{SchemaFault}
use Rattle.nt_types.specs.declared.fault.SchemaError.{SchemaError}
use Rattle.nt_types.specs.declared.fault.SchemaError.TheVariants.{Fault, Memory}
use Rattle.nt_types.specs.declared.shape.Member.{Member}
use Rattle.nt_types.specs.declared.shape.Members.{Members}
use Rattle.nt_types.proofs.MemberText.{member_text-is, member_text-sound}
use Rattle.nt_types.proofs.FieldFaults.{member_of-fault, member_of-refused}
use Rattle.nt_types.proofs.TextFaults.{schema_text-told, schema_text-is, schema_text-fault, schema_text-refused}

-- a line

member_text-fault : (line : List ℕ) (f : SchemaFault) → member_text line ≡ Err f → (f.line ≡ 0) × HasFault line f.kind
member_text-fault line f e = cases (member_of line) refl e
  where
    cases : (r : Result MemberData SchemaKind) → member_of line ≡ r → at_result 0 r ≡ Err f → (f.line ≡ 0) × HasFault line f.kind
    cases (Ok p) is e = cc
    cases (Err k) is e =
        let same : at_line 0 k ≡ f = err_is {A = MemberData} (at_line 0 k) f e in
        subst (λ (g : SchemaFault). (g.line ≡ 0) × HasFault line g.kind) same (refl, member_of-fault line k is)

pub line-told : (r : Result Member SchemaError) (line : List ℕ) → Answers member_view schema_fault r (member_text line) → TellsLine line r
line-told (Ok m) line g = member_text-sound line (member_view m) g
line-told (Err (Fault f)) line g = member_text-fault line f g
line-told (Err Memory) line g = tt

pub line-only : (r : Result Member SchemaError) (line : List ℕ) (p : MemberData) → IsMember line p
    → Answers member_view schema_fault r (member_text line)
    → Answers member_view schema_fault r (Ok p)
line-only r line p m g = subst (Answers member_view schema_fault r) (member_text-is line p m) g

pub line-each : (r : Result Member SchemaError) (line : List ℕ) (k : SchemaKind) → HasFault line k
    → Answers member_view schema_fault r (member_text line)
    → Answers member_view schema_fault r (Err (at_line 0 k))
line-each r line k f g = subst (Answers member_view schema_fault r) (rw (member_of-refused line k f) refl) g

-- a text

pub text-told : (r : Result Members SchemaError) (text : List ℕ) → Answers members_view schema_fault r (schema_text text)
    → TellsText text r
text-told (Ok m) text g = schema_text-told text (members_view m) g
text-told (Err (Fault f)) text g = schema_text-fault text f g
text-told (Err Memory) text g = tt

pub text-only : (r : Result Members SchemaError) (text : List ℕ) (fields : List MemberData) → IsSchema text fields
    → Answers members_view schema_fault r (schema_text text)
    → Answers members_view schema_fault r (Ok fields)
text-only r text fields s g = subst (Answers members_view schema_fault r) (schema_text-is text fields s) g

pub text-each : (r : Result Members SchemaError) (text : List ℕ) (f : SchemaFault) → IsRefused text f.line f.kind
    → Answers members_view schema_fault r (schema_text text)
    → Answers members_view schema_fault r (Err f)
text-each r text f s g = subst (Answers members_view schema_fault r) (schema_text-refused text f.line f.kind s) g

pub text-rules : (r : Result Members SchemaError) (text : List ℕ) → Answers members_view schema_fault r (schema_text text)
    → IfOk r (λ fields. AreFields (members_view fields))
text-rules (Ok m) text g = (schema_text-told text (members_view m) g).rules
text-rules (Err e) text g = tt
