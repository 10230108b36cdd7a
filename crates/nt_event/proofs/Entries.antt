-- The entry of a line, of the data that were read in it.
use Rattle.std.proofs.Common.{◌≡◌, ℕ, suc, ◌^◌, ◌≤◌, List, [], ◌∷◌, length}
use Rattle.std.proofs.Common.{Bool, true, false, Some, None, refl, sym, ap, ◌∙◌}
use Rattle.std.proofs.Common.{if◌then◌else◌, rules}
use Rattle.std.proofs.lemmas.Bool.{le-ltb, ne_eqb, eq-eqb}
use Rattle.serde_json.specs.Data.{Data, null, boolean, number, string, array, object, Items}
use Rattle.serde_json.specs.Find.{as_array}
use Rattle.serde_json.specs.Events.{items_len}
use Rattle.serde_json.specs.View.{items_view}
use Rattle.serde_json.specs.declared.value.Value.{Value}
use Rattle.nt_types.specs.ShapeData as kinds
use Rattle.nt_event.specs.Line as lines
use Rattle.nt_types.specs.ShapeData.{parts_of}
use Rattle.nt_event.specs.Entry.{entry_of, data_entry, json_entry, items_entry, or_misfit, parts_len}
use Rattle.nt_event.specs.declared.fault.TextKind.TheVariants.{TooLong, NotJson, NotArray, Count}
use Rattle.std.specs.Str.{IsUtf8, is_utf8}
use Rattle.std.specs.Prelude.{Err}
use Rattle.std.proofs.lemmas.Str.{IsUtf8-from_is_utf8, is_utf8-from_IsUtf8}
use Rattle.serde_json.specs.Read.{read}

-- ---- lines

pub data_is : (F : kinds.MembersData) (bytes : List ℕ) (d : Data) → length bytes ≤ 2 ^ 24 → IsUtf8 bytes → read bytes ≡ Some d
    → entry_of F bytes ≡ data_entry F d
data_is F bytes d few utf8 is =
    ap (λ b. if b then Err TooLong else (if is_utf8 bytes then json_entry F (read bytes) else Err NotJson))
    (le-ltb (2 ^ 24) (length bytes) few)
    ∙ ap (λ b. if b then json_entry F (read bytes) else Err NotJson) (is_utf8-from_IsUtf8 bytes utf8)
    ∙ ap (json_entry F) is

pub no_data : (F : kinds.MembersData) (bytes : List ℕ) → length bytes ≤ 2 ^ 24 → (IsUtf8 bytes → read bytes ≡ None)
    → entry_of F bytes ≡ Err NotJson
no_data F bytes few none =
    ap (λ b. if b then Err TooLong else (if is_utf8 bytes then json_entry F (read bytes) else Err NotJson))
    (le-ltb (2 ^ 24) (length bytes) few)
    ∙ go (is_utf8 bytes) refl
  where
    go : (b : Bool) → is_utf8 bytes ≡ b → (if b then json_entry F (read bytes) else Err NotJson) ≡ Err NotJson
    go true e = ap (json_entry F) (none (IsUtf8-from_is_utf8 bytes e))
    go false e = refl

pub no_array : (F : kinds.MembersData) (d : Data) → None ≡ as_array d → data_entry F d ≡ Err NotArray
no_array F (array ds) h = search (rules, h)
no_array F null h = refl
no_array F (boolean b) h = refl
no_array F (number n) h = refl
no_array F (string s) h = refl
no_array F (object ms) h = refl

pub an_array : (F : kinds.MembersData) (d : Data) (ds : Items) → Some ds ≡ as_array d → data_entry F d ≡ items_entry F ds
an_array F (array es) ds h = search (rules, h)
an_array F null ds h = search (rules, h)
an_array F (boolean b) ds h = search (rules, h)
an_array F (number n) ds h = search (rules, h)
an_array F (string s) ds h = search (rules, h)
an_array F (object ms) ds h = search (rules, h)

count_items : (xs : List Value) → items_len (items_view xs) ≡ length xs
count_items [] = refl
count_items (x ∷ xs) = ap suc (count_items xs)

count_parts : (ps : List kinds.MemberData) → parts_len (parts_of ps) ≡ length ps
count_parts [] = refl
count_parts (p ∷ ps) = ap suc (count_parts ps)

pub other_count : (ps : List kinds.MemberData) (xs : List Value) → (length xs ≡ length ps → ⊥)
    → items_entry (parts_of ps) (items_view xs) ≡ Err Count
other_count ps xs h = ap (λ b. if b then or_misfit (lines.parts_read (parts_of ps) (items_view xs)) else Err Count)
    (ne_eqb (items_len (items_view xs)) (parts_len (parts_of ps)) (λ e. h (sym (count_items xs) ∙ e ∙ count_parts ps)))

pub same_count : (ps : List kinds.MemberData) (xs : List Value) → length xs ≡ length ps
    → items_entry (parts_of ps) (items_view xs) ≡ or_misfit (lines.parts_read (parts_of ps) (items_view xs))
same_count ps xs h = ap (λ b. if b then or_misfit (lines.parts_read (parts_of ps) (items_view xs)) else Err Count)
    (eq-eqb (items_len (items_view xs)) (parts_len (parts_of ps)) (count_items xs ∙ h ∙ sym (count_parts ps)))
