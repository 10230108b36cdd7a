-- The entry of a line that was read the fast way, and of one that was printed.
use Rattle.std.proofs.Common.{◌≡◌, ℕ, zero, suc, ◌^◌, ◌≤◌, List, [], ◌∷◌, length, Bool, true, false, if◌then◌else◌, refl, ap, ◌∙◌, arith}
use Rattle.std.specs.Prelude.{Ok, Err, Some, ◌||◌, ◌+◌}
use Rattle.std.specs.Str.{IsUtf8, is_utf8}
use Rattle.std.proofs.Math.Nat.{max-le, le-max_left, le-max_right}
use Rattle.std.proofs.lemmas.Bool.{and_parts, false≢true, eq-eqb}
use Rattle.json.specs.Tree.{depth, items_depth}
use Rattle.serde_json.specs.Data.{Data, string, array}
use Rattle.serde_json.specs.Events.{items_len}
use Rattle.serde_json.specs.Read.{read}
use Rattle.serde_json.specs.Written.{outline, items_outline}
use Rattle.nt_types.specs.ShapeData.{ShapeData, ShapesData, MembersData, no_kinds, kind, no_parts, part}
use Rattle.nt_types.specs.ShapeData as kinds
use Rattle.nt_types.specs.TreeData.{TreeData, TreesData, flag, num, text, items, parts, pick, nothing, no_trees, tree, is_nothing}
use Rattle.nt_types.specs.Fits.{fits, all_trees, fit_parts, fit_kinds, fits_one}
use Rattle.nt_event.specs.Json.{data_with, datas_with, text_data, hex_data, line_of, AllInRange}
use Rattle.nt_event.specs.Line as lines
use Rattle.nt_event.proofs.ReadBack.{read-line_of, read-tokens, string_is}
use Rattle.nt_event.proofs.TreeBack.{GivesText, string_gives, text_gives, parts_read-data}
use Rattle.nt_types.specs.TreeData.{trees_of}
use Rattle.nt_types.specs.ShapeData.{MemberData, parts_of}
use Rattle.nt_event.specs.Standing.{IsWritten, SpellsTrees, kinds_in}
use Rattle.nt_event.specs.Entry.{entry_of, or_misfit, parts_len}
use Rattle.nt_types.specs.Spelling.{deepest_kind, deepest_part}
use Rattle.nt_types.specs.Spelling as spelling
use Rattle.nt_event.specs.declared.fault.TextKind.TheVariants.{Count}
use Rattle.nt_event.proofs.GoodValues.{parts-fit, each-range, each-shallow}
use Rattle.nt_event.proofs.Entries.{data_is}

text_deep : (b : Bool) (s : List ℕ) → depth (outline (if b then string s else hex_data s)) ≤ 1
text_deep true s = omega arith
text_deep false s = omega arith

-- where texts nest at most so deep, values nest no deeper than their kind
module _ (f : List ℕ → Data) (flat : (s : List ℕ) → depth (outline (f s)) ≤ 1) where
  all_deep : (k : ShapeData) (vs : TreesData) → ((v : TreeData) → fits k v ≡ true → depth (outline (data_with f v)) ≤ spelling.depth k)
      → all_trees (fits k) vs ≡ true → items_depth (items_outline (datas_with f vs)) ≤ spelling.depth k
  all_deep k no_trees each h = omega arith
  all_deep k (tree v vs) each h = let p = and_parts (fits k v) (all_trees (fits k) vs) h in max-le (each v p.0) (all_deep k vs each p.1)

  maybe_deep : (fit : Bool) (n : ℕ) (v : TreeData) → (fit ≡ true → depth (outline (data_with f v)) ≤ n) → (is_nothing v || fit) ≡ true
      → depth (outline (data_with f v)) ≤ n + 1
  maybe_deep fit n nothing each h = omega arith
  maybe_deep fit n _ each h = let d = each h in omega (arith, d)

  mutual
    deep : (k : ShapeData) (v : TreeData) → fits k v ≡ true → depth (outline (data_with f v)) ≤ spelling.depth k
    deep kinds.bool (flag b) h = omega arith
    deep kinds.char (num z) h = omega arith
    deep kinds.byte (num z) h = omega arith
    deep (kinds.int bits signed) (num z) h = omega arith
    deep kinds.text (text s) h = flat s
    deep (kinds.list k) (items vs) h = let d = all_deep k vs (λ v e. deep k v e) h in omega (arith, d)
    deep (kinds.maybe k) v h = maybe_deep (fits k v) (spelling.depth k) v (λ e. deep k v e) h
    deep (kinds.fields ps) (parts vs) h = let d = deep_parts ps vs h in omega (arith, d)
    deep (kinds.tuple ks) (parts vs) h = let d = deep_kinds ks vs h in omega (arith, d)
    deep (kinds.choice ks) nothing h = omega arith
    deep (kinds.choice ks) (pick tag v) h =
        let d = deep_one ks tag v h in
        let zero_first : 0 ≤ deepest_kind ks = omega arith in
        let m = max-le zero_first (max-le d zero_first) in omega (arith, m)
    deep _ _ h = absurd (false≢true h)

    deep_parts : (ps : MembersData) (vs : TreesData) → fit_parts ps vs ≡ true
        → items_depth (items_outline (datas_with f vs)) ≤ deepest_part ps
    deep_parts no_parts no_trees h = omega arith
    deep_parts no_parts (tree v vs) h = absurd (false≢true h)
    deep_parts (part n k ps) no_trees h = absurd (false≢true h)
    deep_parts (part n k ps) (tree v vs) h =
        let p = and_parts (fits k v) (fit_parts ps vs) h in
        let a = deep k v p.0 in
        let b = deep_parts ps vs p.1 in
        let l = le-max_left (spelling.depth k) (deepest_part ps) in
        let r = le-max_right (spelling.depth k) (deepest_part ps) in
        max-le (omega (arith, a, l)) (omega (arith, b, r))

    deep_kinds : (ks : ShapesData) (vs : TreesData) → fit_kinds ks vs ≡ true
        → items_depth (items_outline (datas_with f vs)) ≤ deepest_kind ks
    deep_kinds no_kinds no_trees h = omega arith
    deep_kinds no_kinds (tree v vs) h = absurd (false≢true h)
    deep_kinds (kind k ks) no_trees h = absurd (false≢true h)
    deep_kinds (kind k ks) (tree v vs) h =
        let p = and_parts (fits k v) (fit_kinds ks vs) h in
        let a = deep k v p.0 in
        let b = deep_kinds ks vs p.1 in
        let l = le-max_left (spelling.depth k) (deepest_kind ks) in
        let r = le-max_right (spelling.depth k) (deepest_kind ks) in
        max-le (omega (arith, a, l)) (omega (arith, b, r))

    deep_one : (ks : ShapesData) (tag : ℕ) (v : TreeData) → fits_one ks tag v ≡ true → depth (outline (data_with f v)) ≤ deepest_kind ks
    deep_one no_kinds tag v h = absurd (false≢true h)
    deep_one (kind k ks) zero v h = absurd (false≢true h)
    deep_one (kind k ks) (suc zero) v h = let a = deep k v h in let l = le-max_left (spelling.depth k) (deepest_kind ks) in
        omega (arith, a, l)
    deep_one (kind k ks) (suc (suc n)) v h = let a = deep_one ks (suc n) v h in let r = le-max_right (spelling.depth k) (deepest_kind ks) in
        omega (arith, a, r)

counts : (f : List ℕ → Data) (ps : List MemberData) (vs : List TreeData) → fit_parts (parts_of ps) (trees_of vs) ≡ true
    → items_len (datas_with f (trees_of vs)) ≡ parts_len (parts_of ps)
counts f [] [] h = refl
counts f (p ∷ ps) (v ∷ vs) h = ap suc (counts f ps vs (and_parts (fits p.of v) (fit_parts (parts_of ps) (trees_of vs)) h).1)
counts f [] (v ∷ vs) h = absurd (false≢true h)
counts f (p ∷ ps) [] h = absurd (false≢true h)

pub fit_entry : (ps : List MemberData) (vs : List TreeData) (line : List ℕ) → length line ≤ 2 ^ 24 → IsUtf8 line
    → fit_parts (parts_of ps) (trees_of vs) ≡ true → AllInRange (trees_of vs)
    → (f : List ℕ → Data) → GivesText f → read line ≡ Some (array (datas_with f (trees_of vs)))
    → entry_of (parts_of ps) line ≡ Ok (trees_of vs)
fit_entry ps vs line few utf8 fit range f gives is =
    let F = parts_of ps in
    let ds = datas_with f (trees_of vs) in
    data_is F line (array ds) few utf8 is
    ∙ ap (λ b. if b then or_misfit (lines.parts_read F ds) else Err Count) (eq-eqb (items_len ds) (parts_len F) (counts f ps vs fit))
    ∙ ap or_misfit (parts_read-data f gives F (trees_of vs) fit range)

pub compact_entry : (ps : List MemberData) (vs : List TreeData) (line : List ℕ) → length line ≤ 2 ^ 24 → IsUtf8 line
    → fit_parts (parts_of ps) (trees_of vs) ≡ true → AllInRange (trees_of vs) → deepest_part (parts_of ps) ≤ 126
    → line ≡ line_of (trees_of vs) → entry_of (parts_of ps) line ≡ Ok (trees_of vs)
compact_entry ps vs line few utf8 fit range shallow is =
    let d = deep_parts text_data (λ s. text_deep (is_utf8 s) s) (parts_of ps) (trees_of vs) fit in
    fit_entry ps vs line few utf8 fit range text_data text_gives (ap read is ∙ read-line_of (trees_of vs) range (omega (arith, d, shallow)))

pub written_entry : (ps : List MemberData) (vs : List TreeData) (line : List ℕ) → length line ≤ 2 ^ 24 → IsUtf8 line
    → IsWritten ps vs line → entry_of (parts_of ps) line ≡ Ok (trees_of vs)
written_entry ps vs line few utf8 h =
    let range = each-range 126 (kinds_in ps) vs h.good in
    fit_entry ps vs line few utf8 (parts-fit 126 ps vs h.good) range string string_gives
    (read-tokens string string_is line (trees_of vs) range (omega (arith, each-shallow 126 (kinds_in ps) vs h.good)) h.told)

pub spelled_entry : (ps : List MemberData) (vs : List TreeData) (line : List ℕ) → deepest_part (parts_of ps) ≤ 126 → SpellsTrees vs line
    → fit_parts (parts_of ps) (trees_of vs) ≡ true → entry_of (parts_of ps) line ≡ Ok (trees_of vs)
spelled_entry ps vs line shallow h fit =
    let d = deep_parts string (λ s. omega arith) (parts_of ps) (trees_of vs) fit in
    fit_entry ps vs line h.few h.utf8 fit h.range string string_gives
    (read-tokens string string_is line (trees_of vs) h.range (omega (arith, d, shallow)) h.told)
