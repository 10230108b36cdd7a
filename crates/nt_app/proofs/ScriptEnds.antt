-- How `seq` ends where the outside serves, and which limit it tells.
use Rattle.std.proofs.Common.{◌≡◌, ◌⊎◌, ◌∙◌, inl, inr, ap, sym, subst, refl, ℕ, List, Option, Some, None}
use Rattle.std.proofs.Common.{Result, Ok, Err}
use Rattle.std.specs.Prelude.{IsErrOf}
use Rattle.nt_lists.proofs.Variants.{some_is}
use Rattle.nt_types.specs.ShapeData.{MemberData}
use Rattle.nt_types.specs.Schema.{schema_text, at_line}
use Rattle.nt_types.specs.declared.fault.SchemaKind.{SchemaKind}
use Rattle.nt_outside.specs.World.{World, file}
use Rattle.nt_book.specs.declared.params.Params.{Params}
use Rattle.nt_store.specs.Worlds.{IsThereWith}
use Rattle.nt_script.specs.declared.error.LineFault.{LineFault}
use Rattle.nt_script.specs.declared.store_error.ScriptStoreError.{ScriptStoreError}
use Rattle.nt_script.specs.declared.store_error.ScriptStoreError.TheVariants as script
use Rattle.nt_script.specs.Script.{BadScriptLine, read_script}
use Rattle.nt_script.specs.Clusters.{bad_line}
use Rattle.nt_script.specs.Passing.{PassesLimit}
use Rattle.nt_script.specs.Fitting.{FitsWhole, MayFit}
use Rattle.nt_script.proofs.WholePassed.{whole_passed, passed_rows, fits_none}
use Rattle.nt_script.specs.Storing.{AreScriptTexts, IsTooLargeScript, ScriptTold}
use Rattle.nt_app.specs.declared.status.Status.TheVariants as status
use Rattle.nt_app.specs.declared.status.TextFault.TheVariants as fault
use Rattle.nt_app.specs.Seqs.{fault_of_line, status_of_script, ScriptPasses, AnswersScript}
use Rattle.nt_app.proofs.WriteEnds.{same_fields, not_both, same_fault}

-- the texts of a host are of one reading
same_script : (w : World) (s i : List ℕ) (f f' : List MemberData) (t t' : List ℕ) (P : List MemberData → List ℕ → Type 0)
    → AreScriptTexts w s i f t → AreScriptTexts w s i f' t' → P f t → P f' t'
same_script w s i f f' t t' P one other holds =
    let fields : f ≡ f' = same_fields (file w s) f f' one.schema_is other.schema_is in
    let text : t ≡ t' = some_is t t' (sym one.script_is ∙ other.script_is) in
    subst (λ (l : List ℕ). P f' l) text (subst (λ (l : List MemberData). P l t) fields holds)

-- the first bad line of a script is one
same_bad : (b : Option BadScriptLine) (line line' : ℕ) (kind kind' : LineFault) → b ≡ Some (record { line = line; kind = kind })
    → b ≡ Some (record { line = line'; kind = kind' })
    → status.Text (Some 0) line (fault_of_line kind) ≡ status.Text (Some 0) line' (fault_of_line kind')
same_bad b line line' kind kind' one other =
    ap (λ (x : BadScriptLine). status.Text (Some 0) x.line (fault_of_line x.kind))
    (some_is (record { line = line; kind = kind }) (record { line = line'; kind = kind' }) (sym one ∙ other))

not_sound : (b : Option BadScriptLine) (x : BadScriptLine) → b ≡ None → b ≡ Some x → ⊥
not_sound b x none some = let bad = sym none ∙ some in cc

-- a limit is passed only where the script doesn't fit
not_over : (s i : List ℕ) (p : Params) (w : World) (reached limit : ℕ) (fields : List MemberData) (text : List ℕ)
    → IsTooLargeScript s i p w reached limit → AreScriptTexts w s i fields text → FitsWhole fields p (read_script fields text) → ⊥
not_over s i p w reached limit fields text over are fits =
    fits_none fields p (read_script fields text) reached limit fits (same_script w s i over.fields fields over.text text
    (λ f t. PassesLimit f p (read_script f t) reached limit) over.are are over.over)

completes : (o s i : List ℕ) (p : Params) (w v : World) (stored : Result Unit ScriptStoreError) (fields : List MemberData)
    (text : List ℕ) → ScriptTold o s i p w v stored → (IsErrOf stored script.Outside → ⊥) → AreScriptTexts w s i fields text
    → bad_line (read_script fields text) ≡ None → FitsWhole fields p (read_script fields text)
    → (status_of_script stored ≡ status.Done) ⊎ (status_of_script stored ≡ status.Memory)
completes o s i p w v (Ok done) fields text told served are sound fits = inl refl
completes o s i p w v (Err script.Outside) fields text told served are sound fits = absurd (served refl)
completes o s i p w v (Err script.Memory) fields text told served are sound fits = inr refl
completes o s i p w v (Err (script.Schema line kind)) fields text told served are sound fits =
    absurd (not_both fields line kind (file w s) are.schema_is told.0)
completes o s i p w v (Err (script.Line line kind)) fields text told served are sound fits =
    absurd (not_sound (bad_line (read_script fields text)) (record { line = line; kind = kind }) sound
    (same_script w s i told.0.fields fields told.0.text text
    (λ f t. bad_line (read_script f t) ≡ Some (record { line = line; kind = kind })) told.0.are are told.0.bad.first))
completes o s i p w v (Err (script.Limit reached limit)) fields text told served are sound fits =
    absurd (not_over s i p w reached limit fields text told.0 are fits)

limits : (o s i : List ℕ) (p : Params) (w v : World) (stored : Result Unit ScriptStoreError) (fields : List MemberData)
    (text : List ℕ) → ScriptTold o s i p w v stored → (IsErrOf stored script.Outside → ⊥) → AreScriptTexts w s i fields text
    → bad_line (read_script fields text) ≡ None → (MayFit fields p (read_script fields text) → ⊥)
    → ((reached limit : ℕ) × (status_of_script stored ≡ status.Limit reached limit)) ⊎ (status_of_script stored ≡ status.Memory)
limits o s i p w v (Ok done) fields text told served are sound beyond =
    absurd (beyond (same_script w s i told.1.fields fields told.1.text text (λ f t. MayFit f p (read_script f t)) told.1.are are
    told.1.file.whole.fits))
limits o s i p w v (Err script.Outside) fields text told served are sound beyond = absurd (served refl)
limits o s i p w v (Err script.Memory) fields text told served are sound beyond = inr refl
limits o s i p w v (Err (script.Schema line kind)) fields text told served are sound beyond =
    absurd (not_both fields line kind (file w s) are.schema_is told.0)
limits o s i p w v (Err (script.Line line kind)) fields text told served are sound beyond =
    absurd (not_sound (bad_line (read_script fields text)) (record { line = line; kind = kind }) sound
    (same_script w s i told.0.fields fields told.0.text text
    (λ f t. bad_line (read_script f t) ≡ Some (record { line = line; kind = kind })) told.0.are are told.0.bad.first))
limits o s i p w v (Err (script.Limit reached limit)) fields text told served are sound beyond = inl (reached, limit, refl)

refuses : (o s i : List ℕ) (p : Params) (w v : World) (stored : Result Unit ScriptStoreError) (line : ℕ) (kind : SchemaKind)
    → ScriptTold o s i p w v stored → (IsErrOf stored script.Outside → ⊥)
    → IsThereWith (λ text. schema_text text ≡ Err (at_line line kind)) (file w s)
    → (status_of_script stored ≡ status.Text None line (fault.Schema kind)) ⊎ (status_of_script stored ≡ status.Memory)
refuses o s i p w v (Ok done) line kind told served other =
    absurd (not_both told.1.fields line kind (file w s) told.1.are.schema_is other)
refuses o s i p w v (Err script.Outside) line kind told served other = absurd (served refl)
refuses o s i p w v (Err script.Memory) line kind told served other = inr refl
refuses o s i p w v (Err (script.Schema line' kind')) line kind told served other =
    inl (same_fault line' line kind' kind (file w s) told.0 other)
refuses o s i p w v (Err (script.Line line' kind')) line kind told served other =
    absurd (not_both told.0.fields line kind (file w s) told.0.are.schema_is other)
refuses o s i p w v (Err (script.Limit reached limit)) line kind told served other =
    absurd (not_both told.0.fields line kind (file w s) told.0.are.schema_is other)

faults : (o s i : List ℕ) (p : Params) (w v : World) (stored : Result Unit ScriptStoreError) (fields : List MemberData) (text : List ℕ)
    (line : ℕ) (kind : LineFault) → ScriptTold o s i p w v stored → (IsErrOf stored script.Outside → ⊥)
    → AreScriptTexts w s i fields text → bad_line (read_script fields text) ≡ Some (record { line = line; kind = kind })
    → FitsWhole fields p (read_script fields text)
    → (status_of_script stored ≡ status.Text (Some 0) line (fault_of_line kind)) ⊎ (status_of_script stored ≡ status.Memory)
faults o s i p w v (Ok done) fields text line kind told served are first fits =
    absurd (not_sound (bad_line (read_script fields text)) (record { line = line; kind = kind })
    (same_script w s i told.1.fields fields told.1.text text (λ f t. bad_line (read_script f t) ≡ None) told.1.are are
    told.1.file.whole.sound) first)
faults o s i p w v (Err script.Outside) fields text line kind told served are first fits = absurd (served refl)
faults o s i p w v (Err script.Memory) fields text line kind told served are first fits = inr refl
faults o s i p w v (Err (script.Schema line' kind')) fields text line kind told served are first fits =
    absurd (not_both fields line' kind' (file w s) are.schema_is told.0)
faults o s i p w v (Err (script.Line line' kind')) fields text line kind told served are first fits =
    inl (same_bad (bad_line (read_script fields text)) line' line kind' kind (same_script w s i told.0.fields fields told.0.text text
    (λ f t. bad_line (read_script f t) ≡ Some (record { line = line'; kind = kind' })) told.0.are are told.0.bad.first) first)
faults o s i p w v (Err (script.Limit reached limit)) fields text line kind told served are first fits =
    absurd (not_over s i p w reached limit fields text told.0 are fits)

-- which answer it is
pub answers_script : (o s i : List ℕ) (p : Params) (w v : World) (stored : Result Unit ScriptStoreError) → ScriptTold o s i p w v stored
    → (IsErrOf stored script.Outside → ⊥) → AnswersScript s i p w (status_of_script stored)
answers_script o s i p w v stored told served = record {
  complete = λ fields text are sound fits. completes o s i p w v stored fields text told served are sound fits;
  limited = λ fields text are sound beyond. limits o s i p w v stored fields text told served are sound beyond;
  refused = λ line kind other. refuses o s i p w v stored line kind told served other;
  faulty = λ fields text line kind are first fits. faults o s i p w v stored fields text line kind told served are first fits;
}

-- a limit that is passed is one of the whole file
passes_whole : (s i : List ℕ) (p : Params) (w : World) (reached limit : ℕ) → IsTooLargeScript s i p w reached limit
    → ScriptPasses s i p w reached limit
passes_whole s i p w reached limit large =
    let script = read_script large.fields large.text in
    let rows = passed_rows large.fields p script reached limit large.over in
    record {
      fields = large.fields;
      text = large.text;
      are = large.are;
      first = rows.0;
      rows = rows.1;
      over = λ table grows. whole_passed large.fields p script reached limit rows.0 table rows.1 grows large.over;
      beyond = λ fits. fits_none large.fields p script reached limit fits large.over;
    }

-- a limit that is told is passed
pub told_passed : (o s i : List ℕ) (p : Params) (w v : World) (stored : Result Unit ScriptStoreError) (reached limit : ℕ)
    → ScriptTold o s i p w v stored → status_of_script stored ≡ status.Limit reached limit → ScriptPasses s i p w reached limit
told_passed o s i p w v (Ok done) reached limit told is = absurd (cc is)
told_passed o s i p w v (Err script.Outside) reached limit told is = absurd (cc is)
told_passed o s i p w v (Err script.Memory) reached limit told is = absurd (cc is)
told_passed o s i p w v (Err (script.Schema line kind)) reached limit told is = absurd (cc is)
told_passed o s i p w v (Err (script.Line line kind)) reached limit told is = absurd (cc is)
told_passed o s i p w v (Err (script.Limit r l)) reached limit told is =
    let first : r ≡ reached = cc is in
    let second : l ≡ limit = cc is in
    subst (λ (k : ℕ). ScriptPasses s i p w reached k) second
    (subst (λ (n : ℕ). ScriptPasses s i p w n l) first (passes_whole s i p w r l told.0))
