-- The tests of fields are their rules.
use Rattle.std.proofs.Common.{◌≡◌, Bool, true, false, ◌&&◌, length, refl}
use Rattle.std.specs.Prelude.{not, nat_le}
use Rattle.std.proofs.lemmas.Bool.{and_parts, and_from, leb-true, le-leb}
use Rattle.nt_types.specs.ShapeData.{ShapeData, ShapesData, MembersData, MemberData, bool, char, byte, int, text, list, maybe, fields}
use Rattle.nt_types.specs.ShapeData.{tuple, choice, no_kinds, kind, no_parts, part, kinds_list, parts_list, takes_nothing}
use Rattle.nt_types.specs.Words.{is_name}
use Rattle.nt_types.specs.Names.{names_differ}
use Rattle.nt_types.specs.Limits.{max_alternatives, max_depth}
use Rattle.nt_types.specs.Spelling.{IsType, AreKinds, AreMoreKinds, AreParts, AreMoreParts, depth}
use Rattle.nt_types.specs.Rules.{IsField}
use Rattle.nt_writable.specs.Fields.{is_type, all_types, all_members, some_kinds, some_members, is_field}

not-false : (b : Bool) → not b ≡ true → b ≡ false
not-false false e = refl
not-false true e = absurd cc

not-true : (b : Bool) → b ≡ false → not b ≡ true
not-true false e = refl
not-true true e = absurd cc

-- ---- what passes keeps the rules

mutual
  type-kept : (within : Bool) (k : ShapeData) → is_type within k ≡ true → IsType within k
  type-kept within bool e = tt
  type-kept within char e = tt
  type-kept within byte e = tt
  type-kept within (int bits signed) e = e
  type-kept within text e = tt
  type-kept within (list k) e = type-kept within k e
  type-kept within (maybe k) e =
      let p = and_parts (not (takes_nothing k)) (is_type true k) e in (not-false (takes_nothing k) p.0, type-kept true k p.1)
  type-kept within (fields ps) e =
      let p = and_parts (not within) (names_differ (parts_list ps) && (all_members ps && some_members ps)) e in
      let q = and_parts (names_differ (parts_list ps)) (all_members ps && some_members ps) p.1 in
      let r = and_parts (all_members ps) (some_members ps) q.1 in
      (not-false within p.0, q.0, members-kept ps r.0 r.1)
  type-kept within (tuple ks) e =
      let p = and_parts (all_types within ks) (some_kinds ks) e in kinds-kept within ks p.0 p.1
  type-kept within (choice ks) e =
      let p = and_parts (nat_le (length (kinds_list ks)) max_alternatives) (all_types true ks && some_kinds ks) e in
      let q = and_parts (all_types true ks) (some_kinds ks) p.1 in
      (leb-true (length (kinds_list ks)) max_alternatives p.0, kinds-kept true ks q.0 q.1)

  kinds-kept : (within : Bool) (ks : ShapesData) → all_types within ks ≡ true → some_kinds ks ≡ true → AreKinds within ks
  kinds-kept within no_kinds all some = absurd cc
  kinds-kept within (kind k ks) all some =
      let p = and_parts (is_type within k) (all_types within ks) all in (type-kept within k p.0, more-kept within ks p.1)

  more-kept : (within : Bool) (ks : ShapesData) → all_types within ks ≡ true → AreMoreKinds within ks
  more-kept within no_kinds all = tt
  more-kept within (kind k ks) all =
      let p = and_parts (is_type within k) (all_types within ks) all in (type-kept within k p.0, more-kept within ks p.1)

  members-kept : (ps : MembersData) → all_members ps ≡ true → some_members ps ≡ true → AreParts ps
  members-kept no_parts all some = absurd cc
  members-kept (part n k ps) all some =
      let p = and_parts (is_name n) (is_type false k && all_members ps) all in
      let q = and_parts (is_type false k) (all_members ps) p.1 in
      (p.0, type-kept false k q.0, more-members-kept ps q.1)

  more-members-kept : (ps : MembersData) → all_members ps ≡ true → AreMoreParts ps
  more-members-kept no_parts all = tt
  more-members-kept (part n k ps) all =
      let p = and_parts (is_name n) (is_type false k && all_members ps) all in
      let q = and_parts (is_type false k) (all_members ps) p.1 in
      (p.0, type-kept false k q.0, more-members-kept ps q.1)

-- ---- what keeps the rules passes

mutual
  type-passes : (within : Bool) (k : ShapeData) → IsType within k → is_type within k ≡ true
  type-passes within bool r = refl
  type-passes within char r = refl
  type-passes within byte r = refl
  type-passes within (int bits signed) r = r
  type-passes within text r = refl
  type-passes within (list k) r = type-passes within k r
  type-passes within (maybe k) r =
      and_from (not (takes_nothing k)) (is_type true k) (not-true (takes_nothing k) r.0) (type-passes true k r.1)
  type-passes within (fields ps) r =
      and_from (not within) (names_differ (parts_list ps) && (all_members ps && some_members ps)) (not-true within r.0)
      (and_from (names_differ (parts_list ps)) (all_members ps && some_members ps) r.1 (members-pass ps r.2))
  type-passes within (tuple ks) r = kinds-pass within ks r
  type-passes within (choice ks) r =
      and_from (nat_le (length (kinds_list ks)) max_alternatives) (all_types true ks && some_kinds ks)
      (le-leb (length (kinds_list ks)) max_alternatives r.0) (kinds-pass true ks r.1)

  kinds-pass : (within : Bool) (ks : ShapesData) → AreKinds within ks → (all_types within ks && some_kinds ks) ≡ true
  kinds-pass within no_kinds r = absurd r
  kinds-pass within (kind k ks) r =
      and_from (is_type within k && all_types within ks) true
      (and_from (is_type within k) (all_types within ks) (type-passes within k r.0) (more-pass within ks r.1)) refl

  more-pass : (within : Bool) (ks : ShapesData) → AreMoreKinds within ks → all_types within ks ≡ true
  more-pass within no_kinds r = refl
  more-pass within (kind k ks) r = and_from (is_type within k) (all_types within ks) (type-passes within k r.0) (more-pass within ks r.1)

  members-pass : (ps : MembersData) → AreParts ps → (all_members ps && some_members ps) ≡ true
  members-pass no_parts r = absurd r
  members-pass (part n k ps) r =
      and_from (is_name n && (is_type false k && all_members ps)) true
      (and_from (is_name n) (is_type false k && all_members ps) r.0
      (and_from (is_type false k) (all_members ps) (type-passes false k r.1) (more-members-pass ps r.2))) refl

  more-members-pass : (ps : MembersData) → AreMoreParts ps → all_members ps ≡ true
  more-members-pass no_parts r = refl
  more-members-pass (part n k ps) r =
      and_from (is_name n) (is_type false k && all_members ps) r.0
      (and_from (is_type false k) (all_members ps) (type-passes false k r.1) (more-members-pass ps r.2))

-- ---- fields

pub field-kept : (p : MemberData) → is_field p ≡ true → IsField p
field-kept p e =
    let a = and_parts (is_name p.name) (nat_le (depth p.of) max_depth && is_type false p.of) e in
    let b = and_parts (nat_le (depth p.of) max_depth) (is_type false p.of) a.1 in
    record { named = a.0; typed = type-kept false p.of b.1; shallow = leb-true (depth p.of) max_depth b.0 }

pub field-passes : (p : MemberData) → IsField p → is_field p ≡ true
field-passes p r =
    and_from (is_name p.name) (nat_le (depth p.of) max_depth && is_type false p.of) r.named
    (and_from (nat_le (depth p.of) max_depth) (is_type false p.of) (le-leb (depth p.of) max_depth r.shallow)
    (type-passes false p.of r.typed))
