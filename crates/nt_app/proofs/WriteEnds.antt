-- How `write` ends where the outside serves.
use Rattle.std.proofs.Common.{◌≡◌, ◌⊎◌, ◌∙◌, inl, inr, ap, sym, subst, refl, ℕ, zero, suc, ◌<◌, List, [], ◌∷◌, slice_get}
use Rattle.std.proofs.Common.{Option, Some, None, Result, Ok, Err, arith}
use Rattle.std.specs.Prelude.{IsErrOf}
use Rattle.nt_types.specs.ShapeData.{MemberData}
use Rattle.nt_types.specs.Schema.{schema_text, at_line}
use Rattle.nt_types.specs.declared.fault.SchemaFault.{SchemaFault}
use Rattle.nt_types.specs.declared.fault.SchemaKind.{SchemaKind}
use Rattle.nt_event.specs.declared.fault.TextKind.{TextKind}
use Rattle.nt_grammar.specs.Rows.{Rows}
use Rattle.nt_outside.specs.World.{World, file}
use Rattle.nt_book.specs.declared.params.Params.{Params}
use Rattle.nt_dealing.specs.EventText.{BadLine}
use Rattle.nt_dealing.specs.Texts.{events_of, AreSound, IsFirstBad, all_chunks}
use Rattle.nt_dealing.specs.Limits.{IsOver}
use Rattle.nt_store.specs.declared.error.StoreError.{StoreError}
use Rattle.nt_store.specs.declared.error.StoreError.TheVariants as store
use Rattle.nt_store.specs.Worlds.{IsThereWith}
use Rattle.nt_store.specs.Texts.{AreTexts}
use Rattle.nt_store.specs.Writing.{LimitBy}
use Rattle.nt_store.specs.Stored.{IsTooLarge, StoreTold}
use Rattle.nt_app.specs.declared.status.Status.TheVariants as status
use Rattle.nt_app.specs.declared.status.TextFault.TheVariants as fault
use Rattle.nt_app.specs.Writes.{status_of_store, FitsLimits, AnswersTexts}
use Rattle.nt_dealing.proofs.Whole.{passes_none}
use Rattle.nt_app.proofs.Joined.{not_there_both, texts_are}

-- the texts of a host are of one reading
fields_are : (x y : List MemberData) → ◌≡◌ {A = Result (List MemberData) SchemaFault} (Ok x) (Ok y) → x ≡ y
fields_are x y e = cc

pub same_fields : (found : Option (List ℕ)) (fields fields' : List MemberData) → IsThereWith (λ text. schema_text text ≡ Ok fields) found
    → IsThereWith (λ text. schema_text text ≡ Ok fields') found → fields ≡ fields'
same_fields None fields fields' one other = absurd one
same_fields (Some text) fields fields' one other = fields_are fields fields' (sym one ∙ other)

same_texts : (w : World) (s : List ℕ) (is : List (List ℕ)) (f f' : List MemberData) (ts ts' : List (List ℕ)) (P : List MemberData
    → List (List ℕ) → Type 0)
    → AreTexts w s is f ts → AreTexts w s is f' ts' → P f ts → P f' ts'
same_texts w s is f f' ts ts' P one other holds =
    let fields : f ≡ f' = same_fields (file w s) f f' one.schema_is other.schema_is in
    let texts : ts ≡ ts' = texts_are ts ts' (sym one.inputs_are ∙ other.inputs_are) in
    subst (λ (l : List (List ℕ)). P f' l) texts (subst (λ (l : List MemberData). P l ts) fields holds)

-- a schema text has fields or a first fault
pub not_both : (fields : List MemberData) (line : ℕ) (kind : SchemaKind) (found : Option (List ℕ))
    → IsThereWith (λ text. schema_text text ≡ Ok fields) found
    → IsThereWith (λ text. schema_text text ≡ Err (at_line line kind)) found → ⊥
not_both fields line kind found one other =
    not_there_both (λ text. schema_text text ≡ Ok fields) (λ text. schema_text text ≡ Err (at_line line kind)) found
    (λ text is is'. let bad = sym is ∙ is' in cc) one other

fault_is : (x y : SchemaFault) → ◌≡◌ {A = Result (List MemberData) SchemaFault} (Err x) (Err y) → x ≡ y
fault_is x y e = cc

pub same_fault : (line line' : ℕ) (kind kind' : SchemaKind) (found : Option (List ℕ))
    → IsThereWith (λ text. schema_text text ≡ Err (at_line line kind)) found
    → IsThereWith (λ text. schema_text text ≡ Err (at_line line' kind')) found
    → status.Text None line (fault.Schema kind) ≡ status.Text None line' (fault.Schema kind')
same_fault line line' kind kind' None one other = absurd one
same_fault line line' kind kind' (Some text) one other =
    ap (λ (f : SchemaFault). status.Text None f.line (fault.Schema f.kind))
    (fault_is (at_line line kind) (at_line line' kind') (sym one ∙ other))

sound_at : (fields : List MemberData) (texts : List (List ℕ)) (i : ℕ) (text : List ℕ) → AreSound fields texts
    → slice_get texts i ≡ Some text
    → (events_of fields text).bad ≡ None
sound_at fields [] i text sound at = absurd (cc)
sound_at fields (t ∷ texts) zero text sound at =
    let same : t ≡ text = cc in
    subst (λ (l : List ℕ). (events_of fields l).bad ≡ None) same sound.0
sound_at fields (t ∷ texts) (suc i) text sound at = sound_at fields texts i text sound.1 at

not_sound : (fields : List MemberData) (texts : List (List ℕ)) (input line : ℕ) (kind : TextKind) → AreSound fields texts
    → IsFirstBad fields texts input line kind → ⊥
not_sound fields texts input line kind sound first =
    let none = sound_at fields texts input first.text sound first.at in
    let bad = sym none ∙ first.bad in
    cc

apart : (i j : ℕ) → (i ≡ j) ⊎ ((i < j) ⊎ (j < i))
apart zero zero = inl refl
apart zero (suc j) = inr (inl (omega arith))
apart (suc i) zero = inr (inr (omega arith))
apart (suc i) (suc j) = elim (apart i j) [
  | inl same ↦ inl (ap suc same)
  | inr either ↦ elim either
      [ inl less ↦ inr (inl (omega (arith, less))) | inr more ↦ inr (inr (omega (arith, more))) ]
]

bad_is : (x y : BadLine) → Some x ≡ Some y → x ≡ y
bad_is x y e = cc

not_lower : (fields : List MemberData) (texts : List (List ℕ)) (i j line line' : ℕ) (kind kind' : TextKind) → i < j
    → IsFirstBad fields texts i line kind
    → IsFirstBad fields texts j line' kind' → ⊥
not_lower fields texts i j line line' kind kind' less one other =
    let none = other.lower i one.text less one.at in
    let bad = sym none ∙ one.bad in
    cc

same_at : (fields : List MemberData) (texts : List (List ℕ)) (i j line line' : ℕ) (kind kind' : TextKind) → i ≡ j
    → IsFirstBad fields texts i line kind
    → IsFirstBad fields texts j line' kind' → status.Text (Some i) line (fault.Line kind) ≡ status.Text (Some j) line' (fault.Line kind')
same_at fields texts i j line line' kind kind' same one other =
    let at = sym one.at ∙ ap (slice_get texts) same ∙ other.at in
    let text : one.text ≡ other.text = cc in
    let both = bad_is (record { line = line; kind = kind }) (record { line = line'; kind = kind' })
    (sym one.bad ∙ ap (λ (l : List ℕ). (events_of fields l).bad) text ∙ other.bad) in
    ap (λ (b : BadLine). status.Text (Some i) b.line (fault.Line b.kind)) both
    ∙ ap (λ (n : ℕ). status.Text (Some n) line' (fault.Line kind')) same

same_bad : (fields : List MemberData) (texts : List (List ℕ)) (i j line line' : ℕ) (kind kind' : TextKind)
    → IsFirstBad fields texts i line kind
    → IsFirstBad fields texts j line' kind' → status.Text (Some i) line (fault.Line kind) ≡ status.Text (Some j) line' (fault.Line kind')
same_bad fields texts i j line line' kind kind' one other =
    elim (apart i j) [
      | inl same ↦ same_at fields texts i j line line' kind kind' same one other
      | inr either ↦ elim either [
        | inl less ↦ absurd (not_lower fields texts i j line line' kind kind' less one other)
        | inr more ↦ absurd (not_lower fields texts j i line' line kind' kind more other one)
      ]
    ]

-- a limit is passed only where the texts don't fit
not_over : {By : LimitBy} (s : List ℕ) (is : List (List ℕ)) (p : Params) (w : World) (reached limit : ℕ) (fields : List MemberData)
    (texts : List (List ℕ)) → IsTooLarge By s is p w reached limit → AreTexts w s is fields texts → FitsLimits fields texts p → ⊥
not_over s is p w reached limit fields texts over are fits =
    passes_none over.table p (all_chunks p.cluster fields texts) reached limit
    (fits over.table (same_texts w s is over.fields fields over.texts texts (λ f ts. Rows f p.plain over.table) over.are are over.rows))
    (same_texts w s is over.fields fields over.texts texts (λ f ts. IsOver over.table p (all_chunks p.cluster f ts) reached limit)
    over.are are over.over)

completes : (o s : List ℕ) (is : List (List ℕ)) (p : Params) (w v : World) (stored : Result Unit StoreError)
    (fields : List MemberData) (texts : List (List ℕ))
    → StoreTold o s is p w v stored → (IsErrOf stored store.Outside → ⊥) → AreTexts w s is fields texts → AreSound fields texts
    → FitsLimits fields texts p
    → (status_of_store stored ≡ status.Done) ⊎ (status_of_store stored ≡ status.Memory)
completes o s is p w v (Ok done) fields texts told served are sound fits = inl refl
completes o s is p w v (Err store.Outside) fields texts told served are sound fits = absurd (served refl)
completes o s is p w v (Err store.Memory) fields texts told served are sound fits = inr refl
completes o s is p w v (Err (store.Schema line kind)) fields texts told served are sound fits =
    absurd (not_both fields line kind (file w s) are.schema_is told.0)
completes o s is p w v (Err (store.Line input line kind)) fields texts told served are sound fits =
    absurd (not_sound fields texts input line kind sound
    (same_texts w s is told.0.fields fields told.0.texts texts (λ f ts. IsFirstBad f ts input line kind) told.0.are are
    told.0.fails.first))
completes o s is p w v (Err (store.Limit reached limit)) fields texts (inl told) served are sound fits =
    absurd (not_over s is p w reached limit fields texts told.0 are fits)
completes o s is p w v (Err (store.Limit reached limit)) fields texts (inr told) served are sound fits =
    absurd (not_over s is p w reached limit fields texts told.1 are fits)

refuses : (o s : List ℕ) (is : List (List ℕ)) (p : Params) (w v : World) (stored : Result Unit StoreError) (line : ℕ) (kind : SchemaKind)
    → StoreTold o s is p w v stored → (IsErrOf stored store.Outside → ⊥) → IsThereWith (λ text. schema_text text
    ≡ Err (at_line line kind)) (file w s)
    → (status_of_store stored ≡ status.Text None line (fault.Schema kind)) ⊎ (status_of_store stored ≡ status.Memory)
refuses o s is p w v (Ok done) line kind told served other = absurd (not_both told.fields line kind (file w s) told.are.schema_is other)
refuses o s is p w v (Err store.Outside) line kind told served other = absurd (served refl)
refuses o s is p w v (Err store.Memory) line kind told served other = inr refl
refuses o s is p w v (Err (store.Schema line' kind')) line kind told served other =
    inl (same_fault line' line kind' kind (file w s) told.0 other)
refuses o s is p w v (Err (store.Line input line' kind')) line kind told served other =
    absurd (not_both told.0.fields line kind (file w s) told.0.are.schema_is other)
refuses o s is p w v (Err (store.Limit reached limit)) line kind (inl told) served other =
    absurd (not_both told.0.fields line kind (file w s) told.0.are.schema_is other)
refuses o s is p w v (Err (store.Limit reached limit)) line kind (inr told) served other =
    absurd (not_both told.1.fields line kind (file w s) told.1.are.schema_is other)

faults : (o s : List ℕ) (is : List (List ℕ)) (p : Params) (w v : World) (stored : Result Unit StoreError) (fields : List MemberData)
    (texts : List (List ℕ))
    (input line : ℕ) (kind : TextKind) → StoreTold o s is p w v stored → (IsErrOf stored store.Outside → ⊥) → AreTexts w s is fields texts
    → IsFirstBad fields texts input line kind → FitsLimits fields texts p
    → (status_of_store stored ≡ status.Text (Some input) line (fault.Line kind)) ⊎ (status_of_store stored ≡ status.Memory)
faults o s is p w v (Ok done) fields texts input line kind told served are first fits =
    absurd (not_sound fields texts input line kind
    (same_texts w s is told.fields fields told.texts texts (λ f ts. AreSound f ts) told.are are told.stored.sound) first)
faults o s is p w v (Err store.Outside) fields texts input line kind told served are first fits = absurd (served refl)
faults o s is p w v (Err store.Memory) fields texts input line kind told served are first fits = inr refl
faults o s is p w v (Err (store.Schema line' kind')) fields texts input line kind told served are first fits =
    absurd (not_both fields line' kind' (file w s) are.schema_is told.0)
faults o s is p w v (Err (store.Line input' line' kind')) fields texts input line kind told served are first fits =
    inl (same_bad fields texts input' input line' line kind' kind
    (same_texts w s is told.0.fields fields told.0.texts texts (λ f ts. IsFirstBad f ts input' line' kind') told.0.are are
    told.0.fails.first) first)
faults o s is p w v (Err (store.Limit reached limit)) fields texts input line kind (inl told) served are first fits =
    absurd (not_over s is p w reached limit fields texts told.0 are fits)
faults o s is p w v (Err (store.Limit reached limit)) fields texts input line kind (inr told) served are first fits =
    absurd (not_over s is p w reached limit fields texts told.1 are fits)

pub answers_texts : (o s : List ℕ) (is : List (List ℕ)) (p : Params) (w v : World) (stored : Result Unit StoreError)
    → StoreTold o s is p w v stored
    → (IsErrOf stored store.Outside → ⊥) → AnswersTexts s is p w (status_of_store stored)
answers_texts o s is p w v stored told served = record {
  complete = λ fields texts are sound fits. completes o s is p w v stored fields texts told served are sound fits;
  refused = λ line kind other. refuses o s is p w v stored line kind told served other;
  faulty = λ fields texts input line kind are first fits. faults o s is p w v stored fields texts input line kind told
      served are first fits;
}
