-- Lines that spell fields are read, and then those behind them.
use Rattle.std.proofs.Common.{ℕ, List, [], ◌∷◌, ◌++◌, ◌≡◌, ◌+◌, ◌<◌, ◌≤◌, ◌^◌, refl, sym, ◌∙◌, subst, Bool, true, false, Ok, Err, length}
use Rattle.std.proofs.Common.{append_assoc, append-nil, if◌then◌else◌, arith}
use Rattle.std.specs.Prelude.{◌⊎◌}
use Rattle.nt_lists.specs.Chaining.{◌>>=◌}
use Rattle.nt_types.specs.ShapeData.{MemberData}
use Rattle.nt_types.specs.Lines.{is_blank_line}
use Rattle.nt_types.specs.Schema.{ProgressData, field_of, take_line, take_lines, next_line, with_field, at_line}
use Rattle.nt_types.specs.TextSpelling.{full_lines, SpellEach}
use Rattle.nt_types.specs.declared.fault.SchemaKind.{SchemaKind}
use Rattle.nt_types.proofs.Rules.{KeepRules, KeepRules-front, field_of-is, Keeps, Keeps-field, Keeps-new, Keeps-shallow, Keeps-few}
use Rattle.nt_types.proofs.Rules.{Keeps-names}
use Rattle.nt_types.proofs.FieldFaults.{field_of-spelled}

-- one line more of those that aren't blank

pub full-blank : (l : List ℕ) (ls : List (List ℕ)) → is_blank_line l ≡ true → full_lines (l ∷ ls) ≡ full_lines ls
full-blank l ls e = rw e refl

pub full-field : (l : List ℕ) (ls : List (List ℕ)) → is_blank_line l ≡ false → full_lines (l ∷ ls) ≡ l ∷ full_lines ls
full-field l ls e = rw e refl

pub blank-next : (s : ProgressData) (l : List ℕ) → is_blank_line l ≡ true → take_line s l ≡ Ok (next_line s)
blank-next s l e = rw e refl

pub field-next : (s : ProgressData) (l : List ℕ) (p : MemberData) → is_blank_line l ≡ false → field_of s.seen s.count l ≡ Ok p
    → take_line s l ≡ Ok (with_field s p)
field-next s l p e is = rw (e, is) refl

pub field-stops : (s : ProgressData) (l : List ℕ) (k : SchemaKind) → is_blank_line l ≡ false → field_of s.seen s.count l ≡ Err k
    → take_line s l ≡ Err (at_line s.line k)
field-stops s l k e is = rw (e, is) refl

pub one-more : (ps qs : List MemberData) (p : MemberData) → (ps ++ p ∷ []) ++ qs ≡ ps ++ p ∷ qs
one-more ps qs p = append_assoc ps (p ∷ []) qs

-- lines that spell fields are read, and then those behind them

pub record Advance (s : ProgressData) (ls rest : List (List ℕ)) (ps : List MemberData) : Type 0 where
  pub after : ProgressData
  pub keeps : Keeps after
  pub parts : after.parts ≡ s.parts ++ ps
  pub line : after.line ≡ s.line + length ls
  pub read : take_lines s (ls ++ rest) ≡ take_lines after rest

abbrev pub Ahead : List (List ℕ) → List (List ℕ) → Type 0
Ahead ls rest =
    (s : ProgressData) (ps : List MemberData) → Keeps s → SpellEach (full_lines ls) ps → KeepRules (s.parts ++ ps) → Advance s ls rest ps

advance-blank : (l : List ℕ) (ls rest : List (List ℕ)) (s : ProgressData) (ps : List MemberData) → is_blank_line l ≡ true → Keeps s
    → Advance (next_line s) ls rest ps → Advance s (l ∷ ls) rest ps
advance-blank l ls rest s ps e k a =
    record {
      after = a.after;
      keeps = a.keeps;
      parts = a.parts;
      line = (let n : a.after.line ≡ s.line + 1 + length ls = a.line in omega arith);
      read = rw (blank-next s l e) a.read;
    }

advance-field : (l : List ℕ) (ls rest : List (List ℕ)) (s : ProgressData) (p : MemberData) (ps : List MemberData) → is_blank_line l ≡ false
    → field_of s.seen s.count l ≡ Ok p
    → Advance (with_field s p) ls rest ps → Advance s (l ∷ ls) rest (p ∷ ps)
advance-field l ls rest s p ps e is a =
    record {
      after = a.after;
      keeps = a.keeps;
      parts = a.parts ∙ one-more s.parts ps p;
      line = (let n : a.after.line ≡ s.line + 1 + length ls = a.line in omega arith);
      read = rw (field-next s l p e is) a.read;
    }

pub keeps-next : (s : ProgressData) → Keeps s → Keeps (next_line s)
keeps-next s k = record { count = k.count; seen = k.seen; fields = k.fields }

advance-step : (l : List ℕ) (ls rest : List (List ℕ)) → Ahead ls rest → Ahead (l ∷ ls) rest
advance-step l ls rest ahead s ps k spelled rules = by_line (is_blank_line l) refl
  where
    by_part : (qs : List MemberData) → is_blank_line l ≡ false → SpellEach (l ∷ full_lines ls) qs → KeepRules (s.parts ++ qs)
        → Advance s (l ∷ ls) rest qs
    by_part [] e each all = absurd each
    by_part (p ∷ qs) e each all =
        let all' : KeepRules ((s.parts ++ p ∷ []) ++ qs) = rw (one-more s.parts qs p) all in
        let with : KeepRules (s.parts ++ p ∷ []) = KeepRules-front (s.parts ++ p ∷ []) qs all' in
        let is : field_of s.seen s.count l ≡ Ok p =
        field_of-spelled s.parts s.seen s.count l (λ n. Keeps-names s n k) k.count p each.0 (Keeps-new s p k with) (Keeps-shallow s p with)
        (Keeps-few s p k with) in
        advance-field l ls rest s p qs e is
        (ahead (with_field s p) qs (Keeps-field s l p (field_of-is s.seen s.count l p is) k) each.1 all')

    by_line : (b : Bool) → is_blank_line l ≡ b → Advance s (l ∷ ls) rest ps
    by_line true e =
        advance-blank l ls rest s ps e k
        (ahead (next_line s) ps (keeps-next s k) (subst (λ (z : List (List ℕ)). SpellEach z ps) (full-blank l ls e) spelled) rules)
    by_line false e = by_part ps e (subst (λ (z : List (List ℕ)). SpellEach z ps) (full-field l ls e) spelled) rules

pub advance : (ls rest : List (List ℕ)) → Ahead ls rest
advance [] rest s [] k spelled rules = record { after = s; keeps = k; parts = sym (append-nil s.parts); line = omega arith; read = refl }
advance [] rest s (p ∷ ps) k spelled rules = absurd spelled
advance (l ∷ ls) rest s ps k spelled rules = advance-step l ls rest (advance ls rest) s ps k spelled rules
