-- What the selection of entries leaves of a sink.
use Rattle.std.specs.Prelude.{◌≡◌, ℕ, ◌≤◌, List, [], ◌∷◌, ◌++◌, length, Option, Some, None, Result, Ok, Err, IsErrOf, OnOk, OnErr, IfErr}
use Rattle.nt_num.specs.declared.fault.ReadError.{ReadError}
use Rattle.nt_types.specs.ShapeData.{MemberData}
use Rattle.nt_types.specs.TreeData.{TreesData}
use Rattle.nt_grammar.specs.Table.{Table}
use Rattle.nt_outside.specs.Faults.{Rose}
use Rattle.nt_outside.specs.File.{FileState}
use Rattle.nt_skim.specs.declared.error.SkimError.{SkimError}
use Rattle.nt_skim.specs.declared.error.SkimError.TheVariants.{Defect, Fault, Sink, Memory}
use Rattle.nt_skim.specs.declared.error.PutError.{PutError}
use Rattle.nt_skim.specs.declared.error.PutError.TheVariants as unput
use Rattle.nt_skim.specs.Select.{Selection, FitsFields, selected, entries_read, before_fault}

-- a sink: the fields of its entries; which entries were put, as it tells; the answer of a put that it refused; and what no put changes
pub record SinkState (F B : Type 0) : Type 1 where
  pub fields : List MemberData
  pub entries : List TreesData → Type 0
  pub refused : Option F
  pub birth : B

-- what was put stands there still
abbrev pub KeepsPut : (List TreesData → Type 0) → (List TreesData → Type 0) → Type 0
KeepsPut old new = (es : List TreesData) → old es → new es

-- it has these behind it
abbrev pub GainsEntries : List TreesData → (List TreesData → Type 0) → (List TreesData → Type 0) → Type 0
GainsEntries more old new = (es : List TreesData) → old es → new (es ++ more)

-- it has the first of these behind it
abbrev pub GainsFirstEntries : List TreesData → (List TreesData → Type 0) → (List TreesData → Type 0) → Type 0
GainsFirstEntries more old new =
    (es : List TreesData) → old es → (front rest : List TreesData) × (more ≡ front ++ rest) × new (es ++ front)

-- the number of the selected entries, of clusters that are read as these, is the answer, and the sink gained just them; before an answer
-- in its place it gained the first of those of the clusters before the first fault, and all of these where that fault is the answer
abbrev pub IsSkimmed : {F B : Type 0} → Selection → List (Result (List TreesData) ReadError) → SinkState F B → SinkState F B
    → Result ℕ (SkimError F) → Type 0
IsSkimmed s rs old new (Ok n) =
    (entries : List TreesData) × (entries_read rs ≡ Ok entries) × (n ≡ length (selected s entries))
    × GainsEntries (selected s entries) old.entries new.entries
IsSkimmed s rs old new (Err (Defect e)) = (entries_read rs ≡ Err e) × GainsEntries (selected s (before_fault rs)) old.entries new.entries
IsSkimmed s rs old new (Err Fault) = GainsFirstEntries (selected s (before_fault rs)) old.entries new.entries
IsSkimmed s rs old new (Err (Sink f)) = GainsFirstEntries (selected s (before_fault rs)) old.entries new.entries
IsSkimmed s rs old new (Err Memory) = GainsFirstEntries (selected s (before_fault rs)) old.entries new.entries

-- a sink refused only where that is the answer
abbrev pub HasSinkCause : {F B V : Type 0} → SinkState F B → Result V (SkimError F) → Type 0
HasSinkCause new (Ok v) = new.refused ≡ None
HasSinkCause new (Err (Defect e)) = new.refused ≡ None
HasSinkCause new (Err Fault) = new.refused ≡ None
HasSinkCause new (Err (Sink f)) = new.refused ≡ Some f
HasSinkCause new (Err Memory) = new.refused ≡ None

-- a sink keeps its fields and what no put changes, and refused a put only where that is the answer
pub record LeavesSink {F B V : Type 0} (old new : SinkState F B) (result : Result V (SkimError F)) : Type 0 where
  pub cause : HasSinkCause new result
  pub fields : new.fields ≡ old.fields
  pub birth : new.birth ≡ old.birth

-- a sink took an entry, or it has as many as before; then this is what it answered, if it was asked
pub record AnswersEntry {F B E : Type 0} (refusal : E → Option F) (entry : TreesData) (old new : SinkState F B)
    (result : Result Unit E) : Type 0 where
  pub fields : new.fields ≡ old.fields
  pub birth : new.birth ≡ old.birth
  pub ok : OnOk result (new.refused ≡ None)
  pub added : OnOk result (GainsEntries (entry ∷ []) old.entries new.entries)
  pub err : IfErr result (λ e. new.refused ≡ refusal e)
  pub kept : OnErr result (KeepsPut old.entries new.entries)

-- a sink took an entry, or refused it
abbrev pub AnswersPut : {F B : Type 0} → TreesData → SinkState F B → SinkState F B → Result Unit F → Type 0
AnswersPut entry old new result = AnswersEntry (λ f. Some f) entry old new result

-- what a sink answered, where it was asked
abbrev pub refusal_of : {F : Type 0} → PutError F → Option F
refusal_of (unput.Refused f) = Some f
refusal_of unput.Memory = None

-- a sink took what is chosen of an entry of a cluster, or refused it, or wasn't asked
abbrev pub AnswersPutFrom : {F B : Type 0} → TreesData → SinkState F B → SinkState F B → Result Unit (PutError F) → Type 0
AnswersPutFrom entry old new result = AnswersEntry refusal_of entry old new result

-- entries of a file of this schema can be put into a sink by a plan: it has refused none, what is chosen fits, and its fields are those
-- of the plan
pub record CanSkim {F B : Type 0} (t : Table) (s : Selection) (out : SinkState F B) : Type 0 where
  pub going : out.refused ≡ None
  pub fits : FitsFields t s
  pub fields : out.fields ≡ s.fields

-- of these entries of one cluster the first were taken, and all where the answer is their number
abbrev pub TakesSelected : {F B : Type 0} → List TreesData → SinkState F B → SinkState F B → Result ℕ (SkimError F) → Type 0
TakesSelected more old new (Ok n) = (n ≡ length more) × GainsEntries more old.entries new.entries
TakesSelected more old new (Err (Defect e)) = ⊥
TakesSelected more old new (Err Fault) = ⊥
TakesSelected more old new (Err (Sink f)) = GainsFirstEntries more old.entries new.entries
TakesSelected more old new (Err Memory) = GainsFirstEntries more old.entries new.entries

-- the entries of a cluster that was read; of one with a fault none
abbrev pub entries_or_none : Result (List TreesData) ReadError → List TreesData
entries_or_none (Ok es) = es
entries_or_none (Err e) = []

-- what one cluster leaves, which is read as this
abbrev pub IsClusterSkimmed : {F B : Type 0} → Selection → Result (List TreesData) ReadError → SinkState F B → SinkState F B
    → Result ℕ (SkimError F) → Type 0
IsClusterSkimmed s reading old new (Ok n) =
    (entries : List TreesData) × (reading ≡ Ok entries) × (n ≡ length (selected s entries))
    × GainsEntries (selected s entries) old.entries new.entries
IsClusterSkimmed s reading old new (Err (Defect e)) = (reading ≡ Err e) × KeepsPut old.entries new.entries
IsClusterSkimmed s reading old new (Err Fault) = GainsFirstEntries (selected s (entries_or_none reading)) old.entries new.entries
IsClusterSkimmed s reading old new (Err (Sink f)) = GainsFirstEntries (selected s (entries_or_none reading)) old.entries new.entries
IsClusterSkimmed s reading old new (Err Memory) = GainsFirstEntries (selected s (entries_or_none reading)) old.entries new.entries

-- the file keeps its bytes, and an answer of a fault comes only where its count rose
pub record ServesSkim {F V : Type 0} (old new : FileState) (result : Result V (SkimError F)) : Type 0 where
  pub same : new.bytes ≡ old.bytes
  pub later : old.faults ≤ new.faults
  pub fault : IsErrOf result Fault → Rose old.faults new.faults
