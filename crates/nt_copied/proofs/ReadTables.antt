-- The schema of a file that was read is one that descriptions can hold, and so is the bare one.
use Rattle.std.proofs.Common.{◌≡◌, ℕ, suc, ◌+◌, ◌*◌, ◌^◌, Bool, true, false, cond, eqb, List, [], ◌∷◌, ◌++◌, map, length, take, drop}
use Rattle.std.proofs.Common.{Result, Ok, Err, refl, sym, ap, subst, ◌∙◌, append_assoc, arith}
use Rattle.std.specs.Int.{w64, to_le_bytes}
use Rattle.nt_xxh3.specs.Sum.{xxh3}
use Rattle.nt_format.specs.Envelopes.{unsealed, envelope}
use Rattle.nt_format.proofs.Relations.{piece_bytes}
use Rattle.nt_format.proofs.Steps.{IsBytes-drop, IsBytes-take}
use Rattle.std.specs.List.{AllByRecursion, list_all}
use Rattle.std.proofs.lemmas.List.{length-map, take_all, take_at, drop_at}
use Rattle.nt_num.specs.Place.{At}
use Rattle.nt_num.specs.Codes.{bad_flags, other_header}
use Rattle.nt_num.specs.Faults.{fault, with_values}
use Rattle.nt_num.specs.declared.fault.ReadError.{ReadError}
use Rattle.nt_lists.specs.Chaining.{◌>>=◌}
use Rattle.nt_lists.proofs.Chaining.{bind_ok, guard_passed}
use Rattle.nt_lists.proofs.Variants.{ok_is}
use Rattle.nt_format.specs.Reading.{placed, standing, IsBytes}
use Rattle.nt_format.specs.Frames.{record_at}
use Rattle.nt_format.proofs.Frames.{record_takes}
use Rattle.nt_format.proofs.Placed.{placed_ok, u64_at, text_at, u64-yields, text-yields}
use Rattle.nt_grammar.specs.declared.rows.FieldRow.{FieldRow}
use Rattle.nt_grammar.specs.declared.part.Part.TheVariants.{Header, Extension}
use Rattle.nt_grammar.specs.Table.{Table, no_rows}
use Rattle.nt_grammar.specs.Reading.{description_at}
use Rattle.nt_grammar.specs.ReadingBack.{AreFieldRows, IsColumnRow, IsDescribed, AddsRows}
use Rattle.nt_grammar.proofs.ReadingDescribed.{drop_all, columns-of, AddsRows-described}
use Rattle.nt_grammar.proofs.ReadingFoundLists.{description-found}
use Rattle.nt_schema.specs.Whole.{is_whole_field, AreWhole}
use Rattle.nt_pagelists.specs.declared.group.Group.{Group}
use Rattle.nt_pagelists.specs.PageLists.{header_sum_at}
use Rattle.nt_pagelists.specs.ClusterGroups.{groups_at}
use Rattle.nt_pagelists.specs.Footers.{feature_flags_at, extension_at, footer_at}
use Rattle.nt_file_meaning.specs.Envelopes.{Sealed, Block, IsEnvelope, header_kind, footer_kind}
use Rattle.nt_file_meaning.specs.Headers.{header_payload_at}
use Rattle.nt_file_meaning.specs.Outlines.{Outline, header_block, footer_block, outline_of}
use Rattle.nt_file_meaning.specs.Describes.{HasOutline}
use Rattle.nt_file_meaning.proofs.OutlinesBack.{outlined}
use Rattle.nt_copied.specs.Alike.{without_flags, bare, AllOpen}
use Rattle.nt_copied.proofs.WholeOpen.{open_columns-low}

-- ---- the bytes of an envelope

payload-bytes : (file : List ℕ) (kind : ℕ) (block : Block) (is : Sealed) → IsBytes file → IsEnvelope file kind block is
    → IsBytes is.payload
payload-bytes file kind block is bytes e =
    let word = to_le_bytes w64 ((length is.payload + 16) * 2 ^ 16 + kind) in
    let sum = to_le_bytes w64 (xxh3 (unsealed kind is.payload)) in
    let all = envelope kind is.payload in
    let behind : drop (length word) all ≡ is.payload ++ sum =
    ap (λ (l : List ℕ). drop (length word) l) (append_assoc word is.payload sum) ∙ drop_at word (is.payload ++ sum) (length word) refl in
    subst IsBytes (ap (λ (l : List ℕ). take (length is.payload) l) behind ∙ take_at is.payload sum (length is.payload) refl)
    (IsBytes-take (length is.payload) (drop (length word) all)
    (IsBytes-drop (length word) all (piece_bytes file all block.place block.size bytes e.there)))

-- ---- what is read of header and footer

flags-bytes : (here : At) (w : ℕ × At) → IsBytes here.left → feature_flags_at here ≡ Ok w → IsBytes w.1.left
unfolding feature_flags_at u64_at
flags-bytes here w bytes e =
    let e0 : ReadError = fault bad_flags here.place in
    let test : ℕ × At → Result (ℕ × At) ReadError = λ word. cond (eqb word.0 0) (Ok word) (Err (with_values 0 word.0 e0)) in
    let step = bind_ok (u64_at here) test w e in
    let passed = guard_passed (eqb step.0.0 0) (with_values 0 step.0.0 e0) (Ok step.0) w step.2 in
    subst (λ (x : ℕ × At). IsBytes x.1.left) (ok_is {E = ReadError} step.0 w passed.1) (u64-yields here step.0 bytes step.1).1

sum-bytes : (sum : ℕ) (here : At) (w : ℕ × At) → IsBytes here.left → header_sum_at sum here ≡ Ok w → IsBytes w.1.left
unfolding header_sum_at u64_at
sum-bytes sum here w bytes e =
    let e0 : ReadError = fault other_header here.place in
    let test : ℕ × At → Result (ℕ × At) ReadError = λ word. cond (eqb word.0 sum) (Ok word) (Err (with_values word.0 sum e0)) in
    let step = bind_ok (u64_at here) test w e in
    let passed = guard_passed (eqb step.0.0 sum) (with_values step.0.0 sum e0) (Ok step.0) w step.2 in
    subst (λ (x : ℕ × At). IsBytes x.1.left) (ok_is {E = ReadError} step.0 w passed.1) (u64-yields here step.0 bytes step.1).1

header-adds : (here : At) (t : Table) → IsBytes here.left → header_payload_at here ≡ Ok t → AddsRows Header no_rows t
unfolding header_payload_at text_at
header-adds here t bytes e =
    let rows : At → Result Table ReadError = λ at. description_at Header no_rows at >>= λ described. Ok described.0 in
    let writer : At → Result Table ReadError = λ at. text_at at >>= λ w. rows w.1 in
    let about : At → Result Table ReadError = λ at. text_at at >>= λ w. writer w.1 in
    let name : At → Result Table ReadError = λ at. text_at at >>= λ w. about w.1 in
    let f = bind_ok (feature_flags_at here) (λ (w : ℕ × At). name w.1) t e in
    let fb = flags-bytes here f.0 bytes f.1 in
    let n = bind_ok (text_at f.0.1) (λ (w : List ℕ × At). about w.1) t f.2 in
    let nb = (text-yields f.0.1 n.0 fb n.1).1 in
    let x = bind_ok (text_at n.0.1) (λ (w : List ℕ × At). writer w.1) t n.2 in
    let xb = (text-yields n.0.1 x.0 nb x.1).1 in
    let w = bind_ok (text_at x.0.1) (λ (w : List ℕ × At). rows w.1) t x.2 in
    let wb = (text-yields x.0.1 w.0 xb w.1).1 in
    let d = bind_ok (description_at Header no_rows w.0.1) (λ (d : Table × At). Ok d.0) t w.2 in
    subst (AddsRows Header no_rows) (ok_is {E = ReadError} d.0.0 t d.2) (description-found Header no_rows d.0.0 w.0.1 d.0.1 wb d.1)

rows-keep : (t : Table) (inside : At) (m : Table × At) (b : Bool) → IsBytes inside.left → IsDescribed t
    → cond b (Ok (t, inside)) (description_at Extension t inside) ≡ Ok m → IsDescribed m.0
rows-keep t inside m true bytes is e =
    subst (λ (x : Table × At). IsDescribed x.0) (ok_is {E = ReadError} (t, inside) m e) is
rows-keep t inside m false bytes is e =
    AddsRows-described Extension t m.0 (description-found Extension t m.0 inside m.1 bytes e) is

extension-keeps : (t : Table) (here : At) (w : Table × At) → IsBytes here.left → IsDescribed t → extension_at t here ≡ Ok w
    → IsDescribed w.0
unfolding extension_at
extension-keeps t here w bytes is e =
    let rows : At → Result (Table × At) ReadError =
    λ inside. cond (eqb (length inside.left) 0) (Ok (t, inside)) (description_at Extension t inside) in
    let f = bind_ok (placed (record_at here)) (λ (frame : At × At). rows frame.0 >>= λ more. Ok (more.0, frame.1)) w e in
    let frame = record_takes here f.0.0 f.0.1 bytes (placed_ok (record_at here) f.0 f.1) in
    let m = bind_ok (rows f.0.0) (λ (more : Table × At). Ok (more.0, f.0.1)) w f.2 in
    subst (λ (x : Table × At). IsDescribed x.0) (ok_is {E = ReadError} (m.0.0, f.0.1) w m.2)
    (rows-keep t f.0.0 m.0 (eqb (length f.0.0.left) 0) frame.bytes is m.1)

footer-keeps : (sum : ℕ) (t : Table) (here : At) (w : Table × List Group) → IsBytes here.left → IsDescribed t
    → footer_at sum t here ≡ Ok w → IsDescribed w.0
unfolding footer_at
footer-keeps sum t here w bytes is e =
    let gs : Table × At → Result (Table × List Group) ReadError = λ more. groups_at more.1 >>= λ gs. Ok (more.0, gs.0) in
    let rest : At → Result (Table × List Group) ReadError = λ at. extension_at t at >>= gs in
    let f = bind_ok (feature_flags_at here) (λ (x : ℕ × At). header_sum_at sum x.1 >>= λ word. rest word.1) w e in
    let fb = flags-bytes here f.0 bytes f.1 in
    let s = bind_ok (header_sum_at sum f.0.1) (λ (x : ℕ × At). rest x.1) w f.2 in
    let sb = sum-bytes sum f.0.1 s.0 fb s.1 in
    let x = bind_ok (extension_at t s.0.1) gs w s.2 in
    let g = bind_ok (groups_at x.0.1) (λ (g : List Group × At). Ok (x.0.0, g.0)) w x.2 in
    subst (λ (r : Table × List Group). IsDescribed r.0) (ok_is {E = ReadError} (x.0.0, g.0.0) w g.2)
    (extension-keeps t s.0.1 x.0 sb is x.1)

none-described : IsDescribed no_rows
none-described = record { fields = tt; header = tt; extension = tt; header_fields = omega arith; header_columns = omega arith }

pub read-described : (file : List ℕ) (o : Outline) → IsBytes file → outline_of file ≡ Ok o → IsDescribed o.table
read-described file o bytes e =
    let h : HasOutline file o = (outlined file bytes).finds o e in
    let header = payload-bytes file header_kind (header_block h.anchor) h.header bytes h.header_there in
    let footer = payload-bytes file footer_kind (footer_block h.anchor) h.footer bytes h.footer_there in
    let first : IsDescribed h.first =
    AddsRows-described Header no_rows h.first (header-adds (standing 0 h.header.payload) h.first header h.describes) none-described in
    footer-keeps h.header.sum h.first (standing 0 h.footer.payload) (o.table, h.groups) footer first h.extends

-- ---- the bare schema

fields-bare : (id : ℕ) (rs : List FieldRow) → AreFieldRows id rs → AreFieldRows id (map without_flags rs)
fields-bare id [] are = tt
fields-bare id (r ∷ rs) are =
    let is = are.0 in (
      record {
        parent = is.parent;
        word = is.word;
        role = is.role;
        flags = omega arith;
        name = is.name;
        type_name = is.type_name;
      },
      fields-bare (suc id) rs are.1,
    )

pub bare-described : (t : Table) → IsDescribed t → IsDescribed (bare t)
bare-described t is =
    let n = length (map without_flags t.fields) in
    let same : length t.fields ≡ n = sym (length-map t.fields without_flags) in
    record {
      fields = fields-bare 0 t.fields is.fields;
      header = subst (AllByRecursion (IsColumnRow n)) (sym (take_all (length t.columns) t.columns (omega arith)))
          (subst (λ (k : ℕ). AllByRecursion (IsColumnRow k) t.columns) same (columns-of t is));
      extension = subst (AllByRecursion (IsColumnRow n)) (sym (drop_all t.columns)) tt;
      header_fields = omega arith;
      header_columns = omega arith;
    }

fields-whole : (rs : List FieldRow) → list_all is_whole_field (map without_flags rs) ≡ true
fields-whole [] = refl
fields-whole (r ∷ rs) = fields-whole rs

pub bare-whole : (t : Table) → IsDescribed t → AllOpen t → AreWhole (bare t)
bare-whole t is all = record { fields = fields-whole t.fields; columns = open_columns-low t is all }
