-- The rules of fields, one field more at a time.
use Rattle.std.proofs.Common.{ℕ, Bool, true, false, ◌≡◌, ◌<◌, ◌≤◌, ◌+◌, List, [], ◌∷◌, ◌++◌, Option, Some, None, Result, Ok, Err, nat_le}
use Rattle.std.proofs.Common.{length, map, max, refl, sym, ap, ◌∙◌, subst, if◌then◌else◌, arith}
use Rattle.std.proofs.lemmas.Bool.Decides.{nat_tests}
use Rattle.std.specs.Prelude.{◌&&◌, ◌||◌, not}
use Rattle.std.specs.Str.{bytes_eq}
use Rattle.nt_lists.proofs.Bools.{and_true, both_true, not_true}
use Rattle.nt_lists.proofs.Variants.{chosen, chosen_not}
use Rattle.nt_types.specs.ShapeData.{ShapeData, MemberData, parts_of}
use Rattle.nt_types.specs.Names.{has_name, are_new, names_differ}
use Rattle.nt_types.specs.Limits.{max_depth, max_fields}
use Rattle.nt_types.specs.Words.{is_name}
use Rattle.nt_types.specs.Spelling.{IsType, AreMoreParts, depth, deepest_part}
use Rattle.nt_types.specs.LineSpelling.{IsMember}
use Rattle.nt_types.specs.Lines.{split_line, type_of, under_name}
use Rattle.nt_types.specs.Schema.{ProgressData, field_count, parts_count, within_count, field_split, field_of, with_field, first_line}
use Rattle.nt_types.specs.Rules.{AreFields}
use Rattle.nt_types.specs.declared.fault.SchemaKind.{SchemaKind}
use Rattle.nt_types.specs.declared.fault.SchemaKind.TheVariants.{Repeated, TooMany}
use Rattle.nt_types.proofs.MemberText.{member_of-sound}

-- one field more

part_of : List ℕ → ShapeData → MemberData
part_of name k = record { name = name; of = k }

-- a field beside so many is a member of its line
record Counted (before : ℕ) (name : List ℕ) (r : Result ShapeData SchemaKind) (p : MemberData) : Type 0 where
  named : p.name ≡ name
  read : under_name name r ≡ Ok p
  few : before + field_count p.of ≤ 4096

counted-is : (before : ℕ) (name : List ℕ) (r : Result ShapeData SchemaKind) (p : MemberData) → within_count before name r ≡ Ok p
    → Counted before name r p
counted-is before name (Err e) p h = cc
counted-is before name (Ok k) p h =
    let q : (nat_le (before + field_count k) 4096 ≡ true) × (record { name = name; of = k } ≡ p) =
    chosen (nat_le (before + field_count k) 4096) _ p TooMany h in
    let same : k ≡ p.of = ap (λ (x : MemberData). x.of) q.1 in
    record {
      named = sym (ap (λ (x : MemberData). x.name) q.1);
      read = ap (λ (x : MemberData). Ok x) q.1;
      few = rw (← same) (grind (arith, q.0));
    }

-- the field of a line
pub record Taken (seen : List (List ℕ)) (before : ℕ) (line : List ℕ) (p : MemberData) : Type 0 where
  pub new : has_name seen p.name ≡ false
  pub named : is_name p.name ≡ true
  pub typed : IsType false p.of
  pub shallow : depth p.of ≤ 32
  pub few : before + field_count p.of ≤ 4096
  pub member : IsMember line p

pub field_of-is : (seen : List (List ℕ)) (before : ℕ) (line : List ℕ) (p : MemberData) → field_of seen before line ≡ Ok p
    → Taken seen before line p
field_of-is seen before line p h = cases (split_line line) refl h
  where
    cases : (o : Option (List ℕ × List ℕ)) → split_line line ≡ o → field_split seen before o ≡ Ok p → Taken seen before line p
    cases None split e = cc
    cases (Some x) split e =
        let q : (has_name seen x.0 ≡ false) × (within_count before x.0 (type_of x.1) ≡ Ok p) =
        chosen_not (has_name seen x.0) (within_count before x.0 (type_of x.1)) p Repeated e in
        let c : Counted before x.0 (type_of x.1) p = counted-is before x.0 (type_of x.1) p q.1 in
        let m : IsMember line p = member_of-sound line p (rw split c.read) in
        record {
          new = rw c.named q.0;
          named = m.line_is.is_name;
          typed = m.rules;
          shallow = m.shallow;
          few = c.few;
          member = m;
        }

-- lists with one more at the end

parts_count-snoc : (ps : List MemberData) (p : MemberData) → parts_count (parts_of (ps ++ p ∷ [])) ≡ parts_count (parts_of ps)
    + field_count p.of
parts_count-snoc [] p = omega arith
parts_count-snoc (q ∷ ps) p = let ih : parts_count (parts_of (ps ++ p ∷ [])) ≡ parts_count (parts_of ps) + field_count p.of =
    parts_count-snoc ps p in omega arith

max-most : (a b n : ℕ) → a ≤ n → b ≤ n → max a b ≤ n
max-most a b n h k = grind (arith, nat_tests)

max-parts : (a b n : ℕ) → max a b ≤ n → (a ≤ n) × (b ≤ n)
max-parts a b n h = (grind (arith, nat_tests), grind (arith, nat_tests))

deepest-snoc : (ps : List MemberData) (p : MemberData) → deepest_part (parts_of ps) ≤ 32 → depth p.of ≤ 32
    → deepest_part (parts_of (ps ++ p ∷ [])) ≤ 32
deepest-snoc [] p h k = max-most (depth p.of) 0 32 k (omega arith)
deepest-snoc (q ∷ ps) p h k =
    let both = max-parts (depth q.of) (deepest_part (parts_of ps)) 32 h in
    max-most (depth q.of) (deepest_part (parts_of (ps ++ p ∷ []))) 32 both.0 (deepest-snoc ps p both.1 k)

AreMoreParts-snoc : (ps : List MemberData) (p : MemberData) → AreMoreParts (parts_of ps) → is_name p.name ≡ true → IsType false p.of
    → AreMoreParts (parts_of (ps ++ p ∷ []))
AreMoreParts-snoc [] p g n t = (n, t, tt)
AreMoreParts-snoc (q ∷ ps) p g n t = (g.0, g.1, AreMoreParts-snoc ps p g.2 n t)

-- the names of these and those seen before
pub seen_after : List (List ℕ) → List MemberData → List (List ℕ)
seen_after seen [] = seen
seen_after seen (p ∷ ps) = seen_after (p.name ∷ seen) ps

seen_after-snoc : (seen : List (List ℕ)) (ps : List MemberData) (p : MemberData) → seen_after seen (ps ++ p ∷ []) ≡ p.name
    ∷ seen_after seen ps
unfolding seen_after
seen_after-snoc seen [] p = refl
seen_after-snoc seen (q ∷ ps) p = seen_after-snoc (q.name ∷ seen) ps p

are_new-snoc : (seen : List (List ℕ)) (ps : List MemberData) (p : MemberData) → are_new seen ps ≡ true
    → has_name (seen_after seen ps) p.name ≡ false
    → are_new seen (ps ++ p ∷ []) ≡ true
unfolding seen_after
are_new-snoc seen [] p h new = rw new refl
are_new-snoc seen (q ∷ ps) p h new =
    let both = and_true (not (has_name seen q.name)) (are_new (q.name ∷ seen) ps) h in
    rw (both.0) (are_new-snoc (q.name ∷ seen) ps p both.1 new)

-- the rules of fields, of which there may be none
pub record KeepRules (ps : List MemberData) : Type 0 where
  pub differ : names_differ ps ≡ true
  pub rules : AreMoreParts (parts_of ps)
  pub shallow : deepest_part (parts_of ps) ≤ max_depth
  pub few : parts_count (parts_of ps) ≤ max_fields

pub AreFields-rules : (ps : List MemberData) → AreFields ps → KeepRules ps
AreFields-rules ps f = record { differ = f.differ; rules = f.rules; shallow = f.shallow; few = f.few }

pub AreFields-some : (ps : List MemberData) → 0 < length ps → KeepRules ps → AreFields ps
AreFields-some ps some k = record { some = some; differ = k.differ; rules = k.rules; shallow = k.shallow; few = k.few }

-- the first of fields that keep the rules

are_new-front : (seen : List (List ℕ)) (ps qs : List MemberData) → are_new seen (ps ++ qs) ≡ true → are_new seen ps ≡ true
are_new-front seen [] qs h = refl
are_new-front seen (p ∷ ps) qs h =
    let both = and_true (not (has_name seen p.name)) (are_new (p.name ∷ seen) (ps ++ qs)) h in
    both_true (not (has_name seen p.name)) (are_new (p.name ∷ seen) ps) both.0 (are_new-front (p.name ∷ seen) ps qs both.1)

AreMoreParts-front : (ps qs : List MemberData) → AreMoreParts (parts_of (ps ++ qs)) → AreMoreParts (parts_of ps)
AreMoreParts-front [] qs a = tt
AreMoreParts-front (p ∷ ps) qs a = (a.0, a.1, AreMoreParts-front ps qs a.2)

deepest-front : (ps qs : List MemberData) → deepest_part (parts_of (ps ++ qs)) ≤ 32 → deepest_part (parts_of ps) ≤ 32
deepest-front [] qs h = omega arith
deepest-front (p ∷ ps) qs h =
    let both = max-parts (depth p.of) (deepest_part (parts_of (ps ++ qs))) 32 h in
    max-most (depth p.of) (deepest_part (parts_of ps)) 32 both.0 (deepest-front ps qs both.1)

parts_count-front : (ps qs : List MemberData) → parts_count (parts_of ps) ≤ parts_count (parts_of (ps ++ qs))
parts_count-front [] qs = omega arith
parts_count-front (p ∷ ps) qs = let ih : parts_count (parts_of ps) ≤ parts_count (parts_of (ps ++ qs)) = parts_count-front ps qs in
    omega arith

pub KeepRules-front : (ps qs : List MemberData) → KeepRules (ps ++ qs) → KeepRules ps
KeepRules-front ps qs k = record {
  differ = are_new-front [] ps qs k.differ;
  rules = AreMoreParts-front ps qs k.rules;
  shallow = deepest-front ps qs k.shallow;
  few = (let front : parts_count (parts_of ps) ≤ parts_count (parts_of (ps ++ qs)) = parts_count-front ps qs in
      let few : parts_count (parts_of (ps ++ qs)) ≤ 4096 = k.few in omega arith);
}

-- the last of fields that keep the rules

are_new-last : (seen : List (List ℕ)) (ps : List MemberData) (p : MemberData) → are_new seen (ps ++ p ∷ []) ≡ true
    → has_name (seen_after seen ps) p.name ≡ false
unfolding seen_after
are_new-last seen [] p h = not_true (has_name seen p.name) (and_true (not (has_name seen p.name)) true h).0
are_new-last seen (q ∷ ps) p h =
    are_new-last (q.name ∷ seen) ps p (and_true (not (has_name seen q.name)) (are_new (q.name ∷ seen) (ps ++ p ∷ [])) h).1

deepest-last : (ps : List MemberData) (p : MemberData) → deepest_part (parts_of (ps ++ p ∷ [])) ≤ 32 → depth p.of ≤ 32
deepest-last [] p h = (max-parts (depth p.of) 0 32 h).0
deepest-last (q ∷ ps) p h = deepest-last ps p (max-parts (depth q.of) (deepest_part (parts_of (ps ++ p ∷ []))) 32 h).1

-- what was read up to a line keeps the rules
pub record Keeps (s : ProgressData) : Type 0 where
  pub count : s.count ≡ parts_count (parts_of s.parts)
  pub seen : s.seen ≡ seen_after [] s.parts
  pub fields : KeepRules s.parts

pub Keeps-field : (s : ProgressData) (line : List ℕ) (p : MemberData) → Taken s.seen s.count line p → Keeps s → Keeps (with_field s p)
Keeps-field s line p t k = record {
  count = ap (λ (n : ℕ). n + field_count p.of) k.count ∙ sym (parts_count-snoc s.parts p);
  seen = ap (λ (z : List (List ℕ)). p.name ∷ z) k.seen ∙ sym (seen_after-snoc [] s.parts p);
  fields = record {
    differ = are_new-snoc [] s.parts p k.fields.differ (rw (← k.seen) t.new);
    rules = AreMoreParts-snoc s.parts p k.fields.rules t.named t.typed;
    shallow = deepest-snoc s.parts p k.fields.shallow t.shallow;
    few = rw (parts_count-snoc s.parts p, ← k.count) t.few;
  };
}

-- a field that keeps the rules behind those that were read is new, not too deep and not too many
pub Keeps-new : (s : ProgressData) (p : MemberData) → Keeps s → KeepRules (s.parts ++ p ∷ []) → has_name s.seen p.name ≡ false
Keeps-new s p k r = rw k.seen (are_new-last [] s.parts p r.differ)

pub Keeps-shallow : (s : ProgressData) (p : MemberData) → KeepRules (s.parts ++ p ∷ []) → depth p.of ≤ 32
Keeps-shallow s p r = deepest-last s.parts p r.shallow

pub Keeps-few : (s : ProgressData) (p : MemberData) → Keeps s → KeepRules (s.parts ++ p ∷ []) → s.count + field_count p.of ≤ 4096
Keeps-few s p k r = rw (k.count, ← parts_count-snoc s.parts p) r.few

pub Keeps-first : Keeps first_line
unfolding seen_after
Keeps-first = record { count = refl; seen = refl; fields = record { differ = refl; rules = tt; shallow = omega arith; few = omega arith } }

-- the names that were seen are those of the fields
has_or : (x y z : Bool) → (x || (y || z)) ≡ ((y || x) || z)
has_or true true z = refl
has_or true false z = refl
has_or false true z = refl
has_or false false z = refl

seen_after-has : (seen : List (List ℕ)) (ps : List MemberData) (n : List ℕ)
    → has_name (seen_after seen ps) n ≡ (has_name (map (λ (p : MemberData). p.name) ps) n || has_name seen n)
unfolding seen_after
seen_after-has seen [] n = refl
seen_after-has seen (p ∷ ps) n =
    seen_after-has (p.name ∷ seen) ps n ∙ has_or (has_name (map (λ (q : MemberData). q.name) ps) n) (bytes_eq p.name n) (has_name seen n)

or_none : (b : Bool) → (b || false) ≡ b
or_none true = refl
or_none false = refl

pub Keeps-names : (s : ProgressData) (n : List ℕ) → Keeps s → has_name s.seen n ≡ has_name (map (λ (p : MemberData). p.name) s.parts) n
Keeps-names s n k = rw k.seen (seen_after-has [] s.parts n ∙ or_none (has_name (map (λ (p : MemberData). p.name) s.parts) n))
