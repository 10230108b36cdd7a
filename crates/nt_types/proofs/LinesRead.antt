-- The lines that were read, up to the end or the first fault.
use Rattle.std.proofs.Common.{ℕ, List, [], ◌∷◌, ◌++◌, ◌≡◌, ◌+◌, ◌<◌, ◌≤◌, ◌^◌, refl, sym, ◌∙◌, ap, subst, Bool, true, false, Result, Ok}
use Rattle.std.proofs.Common.{Err, length, append-nil, inl, inr, if◌then◌else◌, arith}
use Rattle.std.specs.Prelude.{◌⊎◌}
use Rattle.nt_lists.specs.Chaining.{◌>>=◌}
use Rattle.nt_types.specs.ShapeData.{MemberData}
use Rattle.nt_types.specs.Lines.{is_blank_line}
use Rattle.nt_types.specs.LineSpelling.{SpellsMember}
use Rattle.nt_types.specs.Schema.{ProgressData, field_of, take_lines, next_line, with_field, all_fields, at_line}
use Rattle.nt_types.specs.TextSpelling.{full_lines, SpellEach, HasFieldFault}
use Rattle.nt_types.specs.declared.fault.SchemaFault.{SchemaFault}
use Rattle.nt_types.specs.declared.fault.SchemaKind.{SchemaKind}
use Rattle.nt_types.specs.declared.fault.SchemaKind.TheVariants.{Empty}
use Rattle.nt_types.proofs.Rules.{KeepRules, field_of-is, Keeps, Keeps-field, Keeps-names}
use Rattle.nt_types.proofs.FieldFaults.{field_of-fault}
use Rattle.nt_types.proofs.LinesAhead.{full-blank, full-field, blank-next, field-next, field-stops, one-more, keeps-next}

-- the lines that were read, up to the end or the first fault

pub record Ends (s : ProgressData) (ls : List (List ℕ)) (qs : List MemberData) : Type 0 where
  pub more : List MemberData
  pub fields : qs ≡ s.parts ++ more
  pub spelled : SpellEach (full_lines ls) more
  pub rules : KeepRules qs
  pub some : 0 < length qs

pub record Stops (s : ProgressData) (ls : List (List ℕ)) (f : SchemaFault) : Type 0 where
  pub before : List (List ℕ)
  pub line : List ℕ
  pub after : List (List ℕ)
  pub more : List MemberData
  pub whole : ls ≡ before ++ line ∷ after
  pub place : f.line ≡ s.line + length before
  pub full : is_blank_line line ≡ false
  pub spelled : SpellEach (full_lines before) more
  pub rules : KeepRules (s.parts ++ more)
  pub fault : HasFieldFault (s.parts ++ more) line f.kind

pub record Lacks (s : ProgressData) (ls : List (List ℕ)) (f : SchemaFault) : Type 0 where
  pub fault : f ≡ at_line 0 Empty
  pub none : s.parts ≡ []
  pub blank : full_lines ls ≡ []

abbrev pub Traces : ProgressData → List (List ℕ) → Result (List MemberData) SchemaFault → Type 0
Traces s ls (Ok qs) = Ends s ls qs
Traces s ls (Err f) = Stops s ls f ⊎ Lacks s ls f

trace-end : (s : ProgressData) (ps : List MemberData) → s.parts ≡ ps → Keeps s → Traces s [] (all_fields ps)
trace-end s [] e k = inr (record { fault = refl; none = e; blank = refl })
trace-end s (p ∷ ps) e k =
    record { more = []; fields = sym e ∙ sym (append-nil s.parts); spelled = tt; rules = subst KeepRules e k.fields; some = omega arith }

trace-blank : (s : ProgressData) (l : List ℕ) (ls : List (List ℕ)) (r : Result (List MemberData) SchemaFault) → is_blank_line l ≡ true
    → Traces (next_line s) ls r → Traces s (l ∷ ls) r
trace-blank s l ls (Ok qs) e t =
    record {
      more = t.more;
      fields = t.fields;
      spelled = subst (λ (z : List (List ℕ)). SpellEach z t.more) (sym (full-blank l ls e)) t.spelled;
      rules = t.rules;
      some = t.some;
    }
trace-blank s l ls (Err f) e (inl t) =
    inl
    (record {
      before = l ∷ t.before;
      line = t.line;
      after = t.after;
      more = t.more;
      whole = ap (λ (z : List (List ℕ)). l ∷ z) t.whole;
      place = (let n : f.line ≡ s.line + 1 + length t.before = t.place in omega arith);
      full = t.full;
      spelled = subst (λ (z : List (List ℕ)). SpellEach z t.more) (sym (full-blank l t.before e)) t.spelled;
      rules = t.rules;
      fault = t.fault;
    })
trace-blank s l ls (Err f) e (inr t) = inr (record { fault = t.fault; none = t.none; blank = full-blank l ls e ∙ t.blank })

trace-field : (s : ProgressData) (l : List ℕ) (ls : List (List ℕ)) (p : MemberData) (r : Result (List MemberData) SchemaFault)
    → is_blank_line l ≡ false
    → SpellsMember l p
    → Traces (with_field s p) ls r → Traces s (l ∷ ls) r
trace-field s l ls p (Ok qs) e m t =
    record {
      more = p ∷ t.more;
      fields = t.fields ∙ one-more s.parts t.more p;
      spelled = subst (λ (z : List (List ℕ)). SpellEach z (p ∷ t.more)) (sym (full-field l ls e)) (m, t.spelled);
      rules = t.rules;
      some = t.some;
    }
trace-field s l ls p (Err f) e m (inl t) =
    inl
    (record {
      before = l ∷ t.before;
      line = t.line;
      after = t.after;
      more = p ∷ t.more;
      whole = ap (λ (z : List (List ℕ)). l ∷ z) t.whole;
      place = (let n : f.line ≡ s.line + 1 + length t.before = t.place in omega arith);
      full = t.full;
      spelled = subst (λ (z : List (List ℕ)). SpellEach z (p ∷ t.more)) (sym (full-field l t.before e)) (m, t.spelled);
      rules = subst KeepRules (one-more s.parts t.more p) t.rules;
      fault = subst (λ (z : List MemberData). HasFieldFault z t.line f.kind) (one-more s.parts t.more p) t.fault;
    })
trace-field s l ls p (Err f) e m (inr t) = absurd (not-empty s.parts t.none)
  where
    not-empty : (ps : List MemberData) → ps ++ p ∷ [] ≡ [] → ⊥
    not-empty [] h = cc
    not-empty (q ∷ ps) h = cc

trace-fault : (s : ProgressData) (l : List ℕ) (ls : List (List ℕ)) (k : SchemaKind) → Keeps s → is_blank_line l ≡ false
    → field_of s.seen s.count l ≡ Err k → Stops s (l ∷ ls) (at_line s.line k)
trace-fault s l ls k keeps e is =
    record {
      before = [];
      line = l;
      after = ls;
      more = [];
      whole = refl;
      place = omega arith;
      full = e;
      spelled = tt;
      rules = rw append-nil keeps.fields;
      fault = rw append-nil (field_of-fault s.parts s.seen s.count l (λ n. Keeps-names s n keeps) keeps.count k is);
    }

pub trace : (ls : List (List ℕ)) (s : ProgressData) → Keeps s → Traces s ls (take_lines s ls)
trace [] s k = trace-end s s.parts refl k
trace (l ∷ ls) s k = by_line (is_blank_line l) refl (trace ls)
  where
    by_field : (r : Result MemberData SchemaKind) → is_blank_line l ≡ false → field_of s.seen s.count l ≡ r
        → ((t : ProgressData) → Keeps t → Traces t ls (take_lines t ls)) → Traces s (l ∷ ls) (take_lines s (l ∷ ls))
    by_field (Ok p) e is later =
        let t = field_of-is s.seen s.count l p is in
        rw (field-next s l p e is)
        (trace-field s l ls p (take_lines (with_field s p) ls) e (record { line_is = t.member.line_is; rules = t.member.rules })
        (later (with_field s p) (Keeps-field s l p t k)))
    by_field (Err j) e is later = rw (field-stops s l j e is) (inl (trace-fault s l ls j k e is))

    by_line : (b : Bool) → is_blank_line l ≡ b → ((t : ProgressData) → Keeps t → Traces t ls (take_lines t ls))
        → Traces s (l ∷ ls) (take_lines s (l ∷ ls))
    by_line true e later = rw (blank-next s l e) (trace-blank s l ls (take_lines (next_line s) ls) e (later (next_line s) (keeps-next s k)))
    by_line false e later = by_field (field_of s.seen s.count l) e refl later
