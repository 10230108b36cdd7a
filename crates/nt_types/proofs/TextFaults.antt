-- Whole texts: what they spell is read, and what is read they spell.
use Rattle.std.proofs.Common.{ℕ, List, [], ◌∷◌, ◌++◌, ◌≡◌, ◌+◌, ◌<◌, ◌≤◌, ◌^◌, refl, sym, ◌∙◌, ap, subst, Bool, true, false, Result, Ok}
use Rattle.std.proofs.Common.{Err, length, append-nil, nat_lt, inl, inr, if◌then◌else◌, arith}
use Rattle.std.proofs.lemmas.Bool.Decides.{nat_tests}
use Rattle.std.specs.Prelude.{◌⊎◌}
use Rattle.nt_lists.specs.Chaining.{◌>>=◌}
use Rattle.nt_lists.proofs.Variants.{err_is, chosen_not}
use Rattle.nt_types.specs.ShapeData.{MemberData}
use Rattle.nt_types.specs.Rules.{AreFields}
use Rattle.nt_types.specs.Schema.{field_of, take_line, take_lines, all_fields, at_line, first_line, schema_text}
use Rattle.nt_types.specs.TextSpelling.{lines_of, full_lines, SpellEach, IsSchema, HasFieldFault, IsFirstFault, IsRefused}
use Rattle.nt_types.specs.declared.fault.SchemaFault.{SchemaFault}
use Rattle.nt_types.specs.declared.fault.SchemaKind.{SchemaKind}
use Rattle.nt_types.specs.declared.fault.SchemaKind.TheVariants.{TooLong, BadName, Repeated, BadType, TooDeep, TooMany, Empty}
use Rattle.nt_types.proofs.Rules.{KeepRules, AreFields-rules, AreFields-some, Keeps-first, Keeps-names}
use Rattle.nt_types.proofs.FieldFaults.{field_of-refused}
use Rattle.nt_types.proofs.LinesAhead.{Advance, advance, field-stops}
use Rattle.nt_types.proofs.LinesRead.{Ends, Stops, Lacks, Traces, trace}

-- whole texts

too_long : (text : List ℕ) (b : Bool) → nat_lt (2 ^ 20) (length text) ≡ b
    → schema_text text ≡ (if b then Err (at_line 0 TooLong) else take_lines first_line (lines_of text))
too_long text b e = rw e refl

-- the rules of the fields before a fault, of which there may be none
some_or_none : (ps : List MemberData) → KeepRules ps → (ps ≡ []) ⊎ AreFields ps
some_or_none [] k = inl refl
some_or_none (p ∷ ps) k = inr (AreFields-some (p ∷ ps) (omega arith) k)

rules_before : (ps : List MemberData) → (ps ≡ []) ⊎ AreFields ps → KeepRules ps
rules_before ps (inl e) = subst KeepRules (sym e) Keeps-first.fields
rules_before ps (inr f) = AreFields-rules ps f

pub schema_text-told : (text : List ℕ) (fields : List MemberData) → schema_text text ≡ Ok fields → IsSchema text fields
schema_text-told text fields h =
    let q : (nat_lt (2 ^ 20) (length text) ≡ false) × (take_lines first_line (lines_of text) ≡ Ok fields) =
    chosen_not (nat_lt (2 ^ 20) (length text)) (take_lines first_line (lines_of text)) fields (at_line 0 TooLong) h in
    let t : Ends first_line (lines_of text) fields =
    subst (Traces first_line (lines_of text)) q.1 (trace (lines_of text) first_line Keeps-first) in
    record {
      short = (let at : nat_lt (2 ^ 20) (length text) ≡ false = q.0 in grind (arith, nat_tests));
      lines = subst (SpellEach (full_lines (lines_of text))) (sym t.fields) t.spelled;
      rules = AreFields-some fields t.some t.rules;
    }

pub schema_text-is : (text : List ℕ) (fields : List MemberData) → IsSchema text fields → schema_text text ≡ Ok fields
schema_text-is text fields s =
    let short : length text ≤ 2 ^ 20 = s.short in
    let below : nat_lt (2 ^ 20) (length text) ≡ false = grind (arith, nat_tests) in
    let a = advance (lines_of text) [] first_line fields Keeps-first s.lines (AreFields-rules fields s.rules) in
    too_long text false below
    ∙ (ap (take_lines first_line) (sym (append-nil (lines_of text))) ∙ (a.read ∙ (ap all_fields a.parts ∙ all fields s.rules.some)))
  where
    all : (ps : List MemberData) → 0 < length ps → all_fields ps ≡ Ok ps
    all [] some = absurd (omega arith)
    all (p ∷ ps) some = refl

-- the first fault of a text

of_kind : (text : List ℕ) (n : ℕ) (k : SchemaKind) → length text ≤ 2 ^ 20 → IsFirstFault (lines_of text) n k → IsRefused text n k
of_kind text n BadName short f = (short, f)
of_kind text n Repeated short f = (short, f)
of_kind text n BadType short f = (short, f)
of_kind text n TooDeep short f = (short, f)
of_kind text n TooMany short f = (short, f)
of_kind text n TooLong short f = absurd f.fault
of_kind text n Empty short f = absurd f.fault

abbrev Refused : List ℕ → SchemaFault → Type 0
Refused text f = IsRefused text f.line f.kind

pub schema_text-fault : (text : List ℕ) (f : SchemaFault) → schema_text text ≡ Err f → IsRefused text f.line f.kind
schema_text-fault text f h = by_length (nat_lt (2 ^ 20) (length text)) refl
  where
    by_trace : length text ≤ 2 ^ 20 → Stops first_line (lines_of text) f ⊎ Lacks first_line (lines_of text) f → Refused text f
    by_trace short (inl t) =
        of_kind text f.line f.kind short
        (record {
          before = t.before;
          line = t.line;
          after = t.after;
          fields = t.more;
          whole = t.whole;
          place = (let n : f.line ≡ 1 + length t.before = t.place in omega arith);
          full = t.full;
          spelled = t.spelled;
          rules = some_or_none t.more t.rules;
          fault = t.fault;
        })
    by_trace short (inr t) = subst (Refused text) (sym t.fault) (refl, short, t.blank)

    by_length : (b : Bool) → nat_lt (2 ^ 20) (length text) ≡ b → Refused text f
    by_length true at =
        subst (Refused text) (err_is {A = List MemberData} (at_line 0 TooLong) f (sym (too_long text true at) ∙ h))
        (refl, grind (arith, nat_tests))
    by_length false at =
        by_trace (grind (arith, nat_tests))
        (subst (Traces first_line (lines_of text)) (sym (too_long text false at) ∙ h) (trace (lines_of text) first_line Keeps-first))

abbrev faulty : ℕ → SchemaKind → Result (List MemberData) SchemaFault
faulty n k = Err (at_line n k)

first_fault-is : (text : List ℕ) (n : ℕ) (k : SchemaKind) → length text ≤ 2 ^ 20 → IsFirstFault (lines_of text) n k
    → schema_text text ≡ Err (at_line n k)
first_fault-is text n k short f =
    let below : nat_lt (2 ^ 20) (length text) ≡ false = grind (arith, nat_tests) in
    let a = advance f.before (f.line ∷ f.after) first_line f.fields Keeps-first f.spelled (rules_before f.fields f.rules) in
    let fault : HasFieldFault a.after.parts f.line k = subst (λ (z : List MemberData). HasFieldFault z f.line k) (sym a.parts) f.fault in
    let is : field_of a.after.seen a.after.count f.line ≡ Err k =
    field_of-refused a.after.parts a.after.seen a.after.count f.line (λ m. Keeps-names a.after m a.keeps) a.keeps.count k fault in
    let stops : take_line a.after f.line ≡ Err (at_line a.after.line k) = field-stops a.after f.line k f.full is in
    let number : a.after.line ≡ n =
    (let x : a.after.line ≡ 1 + length f.before = a.line in let y : n ≡ length f.before + 1 = f.place in omega arith) in
    too_long text false below ∙ (ap (take_lines first_line) f.whole ∙ (a.read ∙ rw stops (ap (λ (m : ℕ). faulty m k) number)))

pub schema_text-refused : (text : List ℕ) (n : ℕ) (k : SchemaKind) → IsRefused text n k → schema_text text ≡ Err (at_line n k)
schema_text-refused text n TooLong (zero, long) =
    let above : nat_lt (2 ^ 20) (length text) ≡ true = grind (arith, nat_tests) in
    too_long text true above ∙ rw zero refl
schema_text-refused text n Empty (zero, short, blank) =
    let below : nat_lt (2 ^ 20) (length text) ≡ false = grind (arith, nat_tests) in
    let a = advance (lines_of text) [] first_line [] Keeps-first
    (subst (λ (z : List (List ℕ)). SpellEach z []) (sym blank) tt) Keeps-first.fields in
    too_long text false below
    ∙ (ap (take_lines first_line) (sym (append-nil (lines_of text))) ∙ (a.read ∙ (ap all_fields a.parts ∙ rw zero refl)))
schema_text-refused text n BadName (short, f) = first_fault-is text n BadName short f
schema_text-refused text n Repeated (short, f) = first_fault-is text n Repeated short f
schema_text-refused text n BadType (short, f) = first_fault-is text n BadType short f
schema_text-refused text n TooDeep (short, f) = first_fault-is text n TooDeep short f
schema_text-refused text n TooMany (short, f) = first_fault-is text n TooMany short f
