-- What is read as a member is spelled so, and what is spelled so is read.
use Rattle.std.proofs.Common.{ℕ, List, [], ◌∷◌, ◌++◌, ◌≡◌, ◌≤◌, refl, sym, subst, inl, inr, Bool, true, false, cond, Option, Some, None}
use Rattle.std.proofs.Common.{Result, Ok, Err, arith}
use Rattle.std.proofs.lemmas.Bool.Decides.{nat_tests}
use Rattle.std.specs.Prelude.{◌⊎◌, nat_le, codes, IfOk}
use Rattle.nt_types.specs.ShapeData.{ShapeData, MemberData, bool, char, byte, int, text, list, maybe, fields, tuple, choice}
use Rattle.nt_types.specs.Reading.{read_kind}
use Rattle.nt_types.specs.Spelling.{spell, spell_kinds, spell_parts, depth, IsType}
use Rattle.nt_types.specs.Lines.{split_line, within_depth, under_name, member_at, member_of}
use Rattle.nt_types.specs.Schema.{member_text, at_result}
use Rattle.nt_types.specs.LineSpelling.{IsLine, IsMember}
use Rattle.nt_types.specs.declared.fault.SchemaKind.{SchemaKind}
use Rattle.nt_types.specs.declared.fault.SchemaKind.TheVariants.{TooDeep}
use Rattle.nt_types.specs.Views.{member_view}
use Rattle.nt_lists.specs.Answering.{Answers}
use Rattle.nt_types.specs.FaultViews.{schema_fault}
use Rattle.nt_types.specs.declared.fault.SchemaError.{SchemaError}
use Rattle.nt_types.specs.declared.fault.SchemaFault.{SchemaFault}
use Rattle.nt_types.specs.declared.shape.Member.{Member}
use Rattle.nt_types.proofs.LineText.{IsCore, split_line-sound, split_line-is}
use Rattle.nt_types.proofs.Sound.{read_kind-sound}
use Rattle.nt_types.proofs.Spelled.{read_kind-spell, width_cases}

-- the text of a type neither begins with a blank nor ends with a space

int_core_8 : (signed : Bool) → IsCore (spell (int 8 signed))
int_core_8 true =
    record { first = 105; later = 56 ∷ []; before = 105 ∷ []; last = 56; begins = refl; ends = refl; no_blank = refl; no_space = refl }
int_core_8 false =
    record { first = 117; later = 56 ∷ []; before = 117 ∷ []; last = 56; begins = refl; ends = refl; no_blank = refl; no_space = refl }

int_core_16 : (signed : Bool) → IsCore (spell (int 16 signed))
int_core_16 true =
    record { first = 105; later = codes "16"; before = codes "i1"; last = 54; begins = refl; ends = refl; no_blank = refl; no_space = refl }
int_core_16 false =
    record { first = 117; later = codes "16"; before = codes "u1"; last = 54; begins = refl; ends = refl; no_blank = refl; no_space = refl }

int_core_32 : (signed : Bool) → IsCore (spell (int 32 signed))
int_core_32 true =
    record { first = 105; later = codes "32"; before = codes "i3"; last = 50; begins = refl; ends = refl; no_blank = refl; no_space = refl }
int_core_32 false =
    record { first = 117; later = codes "32"; before = codes "u3"; last = 50; begins = refl; ends = refl; no_blank = refl; no_space = refl }

int_core_64 : (signed : Bool) → IsCore (spell (int 64 signed))
int_core_64 true =
    record { first = 105; later = codes "64"; before = codes "i6"; last = 52; begins = refl; ends = refl; no_blank = refl; no_space = refl }
int_core_64 false =
    record { first = 117; later = codes "64"; before = codes "u6"; last = 52; begins = refl; ends = refl; no_blank = refl; no_space = refl }

int_core : (bits : ℕ) (signed : Bool) → (bits ≡ 8) ⊎ ((bits ≡ 16) ⊎ ((bits ≡ 32) ⊎ (bits ≡ 64))) → IsCore (spell (int bits signed))
int_core bits signed (inl e) = subst (λ (n : ℕ). IsCore (spell (int n signed))) (sym e) (int_core_8 signed)
int_core bits signed (inr (inl e)) = subst (λ (n : ℕ). IsCore (spell (int n signed))) (sym e) (int_core_16 signed)
int_core bits signed (inr (inr (inl e))) = subst (λ (n : ℕ). IsCore (spell (int n signed))) (sym e) (int_core_32 signed)
int_core bits signed (inr (inr (inr e))) = subst (λ (n : ℕ). IsCore (spell (int n signed))) (sym e) (int_core_64 signed)

pub spell_core : (k : ShapeData) → IsType false k → IsCore (spell k)
spell_core bool t =
    record {
      first = 98;
      later = codes "ool";
      before = codes "boo";
      last = 108;
      begins = refl;
      ends = refl;
      no_blank = refl;
      no_space = refl;
    }
spell_core char t =
    record {
      first = 99;
      later = codes "har";
      before = codes "cha";
      last = 114;
      begins = refl;
      ends = refl;
      no_blank = refl;
      no_space = refl;
    }
spell_core byte t =
    record {
      first = 98;
      later = codes "yte";
      before = codes "byt";
      last = 101;
      begins = refl;
      ends = refl;
      no_blank = refl;
      no_space = refl;
    }
spell_core (int bits signed) t = int_core bits signed (width_cases bits t)
spell_core text t =
    record {
      first = 115;
      later = codes "tring";
      before = codes "strin";
      last = 103;
      begins = refl;
      ends = refl;
      no_blank = refl;
      no_space = refl;
    }
spell_core (list k) t =
    record {
      first = 118;
      later = codes "ec<" ++ (spell k ++ codes ">");
      before = codes "vec<" ++ spell k;
      last = 62;
      begins = refl;
      ends = refl;
      no_blank = refl;
      no_space = refl;
    }
spell_core (maybe k) t =
    record {
      first = 111;
      later = codes "pt<" ++ (spell k ++ codes ">");
      before = codes "opt<" ++ spell k;
      last = 62;
      begins = refl;
      ends = refl;
      no_blank = refl;
      no_space = refl;
    }
spell_core (fields ps) t =
    record {
      first = 114;
      later = codes "ec{" ++ (spell_parts ps ++ codes "}");
      before = codes "rec{" ++ spell_parts ps;
      last = 125;
      begins = refl;
      ends = refl;
      no_blank = refl;
      no_space = refl;
    }
spell_core (tuple ks) t =
    record {
      first = 116;
      later = codes "uple<" ++ (spell_kinds ks ++ codes ">");
      before = codes "tuple<" ++ spell_kinds ks;
      last = 62;
      begins = refl;
      ends = refl;
      no_blank = refl;
      no_space = refl;
    }
spell_core (choice ks) t =
    record {
      first = 118;
      later = codes "ar<" ++ (spell_kinds ks ++ codes ">");
      before = codes "var<" ++ spell_kinds ks;
      last = 62;
      begins = refl;
      ends = refl;
      no_blank = refl;
      no_space = refl;
    }

-- what is spelled so is read

member_of-is : (line : List ℕ) (p : MemberData) → IsMember line p → member_of line ≡ Ok p
member_of-is line p m =
    let split : split_line line ≡ Some (p.name, spell p.of) = split_line-is line p.name (spell p.of) m.line_is (spell_core p.of m.rules) in
    let read : read_kind (spell p.of) ≡ Some p.of = read_kind-spell p.of m.rules in
    let deep : depth p.of ≤ 32 = m.shallow in
    let few : nat_le (depth p.of) 32 ≡ true = grind (arith, nat_tests) in
    rw (split, read, few) refl

pub member_text-is : (line : List ℕ) (p : MemberData) → IsMember line p → member_text line ≡ Ok p
member_text-is line p m = rw (member_of-is line p m) refl

-- what is read is spelled so

ok_part : (p q : MemberData) → ◌≡◌ {A = Result MemberData SchemaKind} (Ok p) (Ok q) → p ≡ q
ok_part p q e = cc

few : (n : ℕ) → nat_le n 32 ≡ true → n ≤ 32
few n e = grind (arith, nat_tests)

depth_cases : (line name t : List ℕ) (k : ShapeData) (p : MemberData) (c : Bool) → IsLine line name t → read_kind t ≡ Some k
    → nat_le (depth k) 32 ≡ c
    → under_name name (cond c (Ok k) (Err TooDeep)) ≡ Ok p → IsMember line p
depth_cases line name t k p true l read shallow e =
    let sound = read_kind-sound t k read in
    subst (IsMember line) (ok_part (record { name = name; of = k }) p e)
    (record { line_is = subst (IsLine line name) (sym sound.0) l; rules = sound.1; shallow = few (depth k) shallow })
depth_cases line name t k p false l read shallow e = cc

read_cases : (line name t : List ℕ) (r : Option ShapeData) (p : MemberData) → IsLine line name t → read_kind t ≡ r
    → under_name name (within_depth r) ≡ Ok p → IsMember line p
read_cases line name t None p l read e = cc
read_cases line name t (Some k) p l read e = depth_cases line name t k p (nat_le (depth k) 32) l read refl e

split_cases : (line : List ℕ) (r : Option (List ℕ × List ℕ)) (p : MemberData) → split_line line ≡ r → member_at r ≡ Ok p → IsMember line p
split_cases line None p split e = cc
split_cases line (Some x) p split e = read_cases line x.0 x.1 (read_kind x.1) p (split_line-sound line x.0 x.1 split) refl e

pub member_of-sound : (line : List ℕ) (p : MemberData) → member_of line ≡ Ok p → IsMember line p
member_of-sound line p e = split_cases line (split_line line) p refl e

pub member_text-sound : (line : List ℕ) (p : MemberData) → member_text line ≡ Ok p → IsMember line p
member_text-sound line p e = member_of-sound line p (ok (member_of line) e)
  where
    ok : (r : Result MemberData SchemaKind) → at_result 0 r ≡ Ok p → r ≡ Ok p
    ok (Ok q) e = cc
    ok (Err k) e = cc
