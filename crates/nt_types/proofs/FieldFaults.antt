-- What is wrong with a line, as it is read.
use Rattle.std.proofs.Common.{ℕ, List, [], ◌∷◌, ◌++◌, ◌≡◌, ◌+◌, ◌<◌, ◌≤◌, refl, sym, ◌∙◌, ap, subst, Bool, true, false, Option, Some, None}
use Rattle.std.proofs.Common.{Result, Ok, Err, length, map, nat_le, inl, inr, if◌then◌else◌, arith}
use Rattle.std.proofs.lemmas.Bool.Decides.{nat_tests}
use Rattle.std.specs.Prelude.{◌⊎◌}
use Rattle.std.specs.List.{list_all, prefix_len}
use Rattle.nt_lists.proofs.Bools.{and_true}
use Rattle.nt_lists.proofs.Fronts.{take_front, drop_front}
use Rattle.nt_lists.proofs.Variants.{some_is, err_is}
use Rattle.nt_types.specs.ShapeData.{ShapeData, MemberData, parts_of}
use Rattle.nt_types.specs.Names.{has_name}
use Rattle.nt_types.specs.Words.{is_word_byte, is_blank, is_name}
use Rattle.nt_types.specs.Reading.{read_kind}
use Rattle.nt_types.specs.Spelling.{spell, depth}
use Rattle.nt_types.specs.Lines.{split_line, type_text, within_depth, type_of, under_name, member_at, member_of}
use Rattle.nt_types.specs.LineSpelling.{IsLine, IsMember, SpellsMember, BeginsWithName, HasFault}
use Rattle.nt_types.specs.Schema.{field_count, parts_count, within_count, field_split, field_of, part_under}
use Rattle.nt_types.specs.TextSpelling.{HaveName, IsNew, HasFieldFault}
use Rattle.nt_types.specs.declared.fault.SchemaKind.{SchemaKind}
use Rattle.nt_types.specs.declared.fault.SchemaKind.TheVariants.{TooLong, BadName, Repeated, BadType, TooDeep, TooMany, Empty}
use Rattle.nt_types.proofs.Spelled.{name_bytes, read_kind-spell}
use Rattle.nt_types.proofs.Sound.{read_kind-sound}
use Rattle.nt_types.proofs.LineText.{prefix_stops, blank_ends_word, at_is, split_line-is, split_line-sound}
use Rattle.nt_types.proofs.MemberText.{spell_core, member_of-sound}

-- the name and the text of a line

begins-split : (line name : List ℕ) → BeginsWithName line name → (t : List ℕ) × (split_line line ≡ Some (name, t))
begins-split line name b =
    let stops : prefix_len is_word_byte (name ++ b.blank ∷ b.rest) ≡ length name =
    prefix_stops is_word_byte name b.blank b.rest (name_bytes name b.is_name) (blank_ends_word b.blank b.is_blank) in (
      type_text (b.blank ∷ b.rest),
      rw (b.whole, stops, take_front name (b.blank ∷ b.rest), drop_front name (b.blank ∷ b.rest))
          (at_is (is_name name) (is_blank b.blank) name _ _ b.is_name b.is_blank refl),
    )

split-begins : (line name t : List ℕ) → split_line line ≡ Some (name, t) → BeginsWithName line name
split-begins line name t e = cases l.blanks l.some_blank l.all_blank l.whole
  where
    l : IsLine line name t
    l = split_line-sound line name t e

    cases : (blanks : List ℕ) → 0 < length blanks → list_all is_blank blanks ≡ true → line ≡ name ++ (blanks ++ (t ++ l.spaces))
        → BeginsWithName line name
    cases [] some all whole = absurd (omega arith)
    cases (b ∷ bs) some all whole =
        record {
          blank = b;
          rest = bs ++ (t ++ l.spaces);
          is_name = l.is_name;
          is_blank = (and_true (is_blank b) (list_all is_blank bs) all).0;
          whole = whole;
        }

-- a line that begins with a name and a blank begins with no other
name-same : (line name other t : List ℕ) → split_line line ≡ Some (name, t) → BeginsWithName line other → other ≡ name
name-same line name other t e b =
    let s = begins-split line other b in
    ap (λ (x : List ℕ × List ℕ). x.0) (some_is (other, s.0) (name, t) (sym s.1 ∙ e))

spells-split : (line : List ℕ) (p : MemberData) → SpellsMember line p → split_line line ≡ Some (p.name, spell p.of)
spells-split line p m = split_line-is line p.name (spell p.of) m.line_is (spell_core p.of m.rules)

split-spells : (line name t : List ℕ) (k : ShapeData) → split_line line ≡ Some (name, t) → read_kind t ≡ Some k
    → SpellsMember line (part_under name k)
split-spells line name t k e read =
    let sound = read_kind-sound t k read in
    record { line_is = subst (IsLine line name) (sym sound.0) (split_line-sound line name t e); rules = sound.1 }

spells-begins : (line : List ℕ) (p : MemberData) → SpellsMember line p → BeginsWithName line p.name
spells-begins line p m = split-begins line p.name (spell p.of) (spells-split line p m)

-- the text of a type

spells-type : (line name t : List ℕ) (p : MemberData) → split_line line ≡ Some (name, t) → SpellsMember line p → read_kind t ≡ Some p.of
spells-type line name t p e m =
    let same : spell p.of ≡ t =
    ap (λ (x : List ℕ × List ℕ). x.1) (some_is (p.name, spell p.of) (name, t) (sym (spells-split line p m) ∙ e)) in
    rw (← same) (read_kind-spell p.of m.rules)

type_of-deep : (t : List ℕ) (k : ShapeData) → read_kind t ≡ Some k → 32 < depth k → type_of t ≡ Err TooDeep
type_of-deep t k read deep = let far : nat_le (depth k) 32 ≡ false = grind (arith, nat_tests) in rw (read, far) refl

type_of-shallow : (t : List ℕ) (k : ShapeData) → read_kind t ≡ Some k → depth k ≤ 32 → type_of t ≡ Ok k
type_of-shallow t k read shallow = let near : nat_le (depth k) 32 ≡ true = grind (arith, nat_tests) in rw (read, near) refl

type_of-bad : (line name t : List ℕ) → split_line line ≡ Some (name, t) → ((p : MemberData) → SpellsMember line p → ⊥)
    → type_of t ≡ Err BadType
type_of-bad line name t e none = cases (read_kind t) refl
  where
    cases : (r : Option ShapeData) → read_kind t ≡ r → within_depth r ≡ Err BadType
    cases None read = refl
    cases (Some k) read = absurd (none (part_under name k) (split-spells line name t k e read))

-- what is wrong with a text that spells no type, or one that nests too deep
type_of-fault : (line name t : List ℕ) (k : SchemaKind) → split_line line ≡ Some (name, t) → type_of t ≡ Err k
    → ((k ≡ BadType) × HasFault line BadType) ⊎ ((k ≡ TooDeep) × HasFault line TooDeep)
type_of-fault line name t k e is = cases (read_kind t) refl is
  where
    deep : (j : ShapeData) (c : Bool) → read_kind t ≡ Some j → nat_le (depth j) 32 ≡ c → (if c then Ok j else Err TooDeep) ≡ Err k
        → ((k ≡ BadType) × HasFault line BadType) ⊎ ((k ≡ TooDeep) × HasFault line TooDeep)
    deep j true read at f = cc
    deep j false read at f =
        inr (sym (err_is {A = ShapeData} TooDeep k f), (part_under name j, split-spells line name t j e read, grind (arith, nat_tests, at)))

    cases : (r : Option ShapeData) → read_kind t ≡ r → within_depth r ≡ Err k
        → ((k ≡ BadType) × HasFault line BadType) ⊎ ((k ≡ TooDeep) × HasFault line TooDeep)
    cases None read f =
        inl (
          sym (err_is {A = ShapeData} BadType k f),
          (name, split-begins line name t e, λ p m. let some : read_kind t ≡ Some p.of = spells-type line name t p e m in cc),
        )
    cases (Some j) read f = deep j (nat_le (depth j) 32) read refl f

-- no name

no-name : (line : List ℕ) → HasFault line BadName → split_line line ≡ None
no-name line none = cases (split_line line) refl
  where
    cases : (r : Option (List ℕ × List ℕ)) → split_line line ≡ r → r ≡ None
    cases None e = refl
    cases (Some x) e = absurd (none x.0 (split-begins line x.0 x.1 e))

no-split : (line : List ℕ) → split_line line ≡ None → HasFault line BadName
no-split line e name b = let s = begins-split line name b in let some : split_line line ≡ Some (name, s.0) = s.1 in cc

-- a member on a line

pub member_of-fault : (line : List ℕ) (k : SchemaKind) → member_of line ≡ Err k → HasFault line k
member_of-fault line k e = cases (split_line line) refl e
  where
    typed : (name t : List ℕ) (r : Result ShapeData SchemaKind) → split_line line ≡ Some (name, t) → type_of t ≡ r
        → under_name name r ≡ Err k
        → HasFault line k
    typed name t (Ok j) split is f = cc
    typed name t (Err j) split is f =
        let same : j ≡ k = err_is {A = MemberData} j k f in
        elim (type_of-fault line name t j split is) [
          | inl x ↦ subst (HasFault line) (sym x.0 ∙ same) x.1
          | inr x ↦ subst (HasFault line) (sym x.0 ∙ same) x.1
        ]

    cases : (r : Option (List ℕ × List ℕ)) → split_line line ≡ r → member_at r ≡ Err k → HasFault line k
    cases None split f = subst (HasFault line) (err_is {A = MemberData} BadName k f) (no-split line split)
    cases (Some x) split f = typed x.0 x.1 (type_of x.1) split refl f

pub member_of-refused : (line : List ℕ) (k : SchemaKind) → HasFault line k → member_of line ≡ Err k
member_of-refused line BadName none = rw (no-name line none) refl
member_of-refused line BadType (name, b, none) =
    let s = begins-split line name b in
    rw (s.1, type_of-bad line name s.0 s.1 none) refl
member_of-refused line TooDeep (p, m, deep) =
    rw (spells-split line p m, type_of-deep (spell p.of) p.of (read_kind-spell p.of m.rules) deep) refl
member_of-refused line TooLong f = absurd f
member_of-refused line Repeated f = absurd f
member_of-refused line TooMany f = absurd f
member_of-refused line Empty f = absurd f

-- a further field on a line, beside the names and the count of those before it

module _ (fields : List MemberData) (seen : List (List ℕ)) (before : ℕ) (line : List ℕ)
    (names : (n : List ℕ) → has_name seen n ≡ has_name (map (λ (p : MemberData). p.name) fields) n)
    (count : before ≡ parts_count (parts_of fields)) where
  has-not : (name : List ℕ) → (HaveName fields name → ⊥) → has_name seen name ≡ false
  has-not name none = cases (has_name seen name) refl
    where
      cases : (b : Bool) → has_name seen name ≡ b → b ≡ false
      cases true e = absurd (none (sym (names name) ∙ e))
      cases false e = refl

  is-new : (name t : List ℕ) → split_line line ≡ Some (name, t) → has_name seen name ≡ false → IsNew fields line
  is-new name t split new other b have =
      let same : other ≡ name = name-same line name other t split b in
      let old : has_name seen name ≡ true = names name ∙ subst (HaveName fields) same have in
      cc

  pub field_of-fault : (k : SchemaKind) → field_of seen before line ≡ Err k → HasFieldFault fields line k
  field_of-fault k e = cases (split_line line) refl e
    where
      many : (name t : List ℕ) (j : ShapeData) (c : Bool) → split_line line ≡ Some (name, t) → IsNew fields line → type_of t ≡ Ok j
          → nat_le (before + field_count j) 4096 ≡ c
          → (if c then Ok (part_under name j) else Err TooMany) ≡ Err k → HasFieldFault fields line k
      many name t j true split new is at f = cc
      many name t j false split new is at f =
          let m : IsMember line (part_under name j) = member_of-sound line (part_under name j) (rw (split, is) refl) in
          subst (HasFieldFault fields line) (err_is {A = MemberData} TooMany k f)
          (new, (part_under name j, m, rw (← count) (grind (arith, nat_tests, at))))

      typed : (name t : List ℕ) (r : Result ShapeData SchemaKind) → split_line line ≡ Some (name, t) → IsNew fields line → type_of t ≡ r
          → within_count before name r ≡ Err k
          → HasFieldFault fields line k
      typed name t (Ok j) split new is f = many name t j (nat_le (before + field_count j) 4096) split new is refl f
      typed name t (Err j) split new is f =
          let same : j ≡ k = err_is {A = MemberData} j k f in
          elim (type_of-fault line name t j split is) [
            | inl x ↦ subst (HasFieldFault fields line) (sym x.0 ∙ same) (new, x.1)
            | inr x ↦ subst (HasFieldFault fields line) (sym x.0 ∙ same) (new, x.1)
          ]

      named : (name t : List ℕ) (c : Bool) → split_line line ≡ Some (name, t) → has_name seen name ≡ c
          → (if c then Err Repeated else within_count before name (type_of t)) ≡ Err k
          → HasFieldFault fields line k
      named name t true split at f =
          subst (HasFieldFault fields line) (err_is {A = MemberData} Repeated k f) (
            name,
            split-begins line name t split,
            sym (names name) ∙ at,
          )
      named name t false split at f = typed name t (type_of t) split (is-new name t split at) refl f

      cases : (r : Option (List ℕ × List ℕ)) → split_line line ≡ r → field_split seen before r ≡ Err k → HasFieldFault fields line k
      cases None split f = subst (HasFieldFault fields line) (err_is {A = MemberData} BadName k f) (no-split line split)
      cases (Some x) split f = named x.0 x.1 (has_name seen x.0) split refl f

  pub field_of-refused : (k : SchemaKind) → HasFieldFault fields line k → field_of seen before line ≡ Err k
  field_of-refused BadName none = rw (no-name line none) refl
  field_of-refused Repeated (name, b, have) =
      let s = begins-split line name b in
      let old : has_name seen name ≡ true = names name ∙ have in
      rw (s.1, old) refl
  field_of-refused BadType (new, (name, b, none)) =
      let s = begins-split line name b in
      rw (s.1, has-not name (new name b), type_of-bad line name s.0 s.1 none) refl
  field_of-refused TooDeep (new, (p, m, deep)) =
      rw (
        spells-split line p m,
        has-not p.name (new p.name (spells-begins line p m)),
        type_of-deep (spell p.of) p.of (read_kind-spell p.of m.rules) deep,
      ) refl
  field_of-refused TooMany (new, (p, m, many)) =
      let s : SpellsMember line p = record { line_is = m.line_is; rules = m.rules } in
      let above : nat_le (before + field_count p.of) 4096 ≡ false = rw count (grind (arith, nat_tests)) in
      rw (
        spells-split line p s,
        has-not p.name (new p.name (spells-begins line p s)),
        type_of-shallow (spell p.of) p.of (read_kind-spell p.of m.rules) m.shallow,
        above,
      ) refl
  field_of-refused TooLong f = absurd f
  field_of-refused Empty f = absurd f

  pub field_of-spelled : (p : MemberData) → SpellsMember line p → has_name seen p.name ≡ false → depth p.of ≤ 32
      → before + field_count p.of ≤ 4096
      → field_of seen before line ≡ Ok p
  field_of-spelled p m new shallow few =
      let below : nat_le (before + field_count p.of) 4096 ≡ true = grind (arith, nat_tests) in
      rw (spells-split line p m, new, type_of-shallow (spell p.of) p.of (read_kind-spell p.of m.rules) shallow, below) refl
