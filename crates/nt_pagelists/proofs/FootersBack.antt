-- What is written of a footer is read back.
use Rattle.std.proofs.Common.{◌≡◌, ℕ, ◌+◌, ◌<◌, ◌^◌, Bool, true, false, ◌&&◌, cond, eqb, List, [], ◌++◌, length, take, drop, Ok, refl, sym}
use Rattle.std.proofs.Common.{ap, ◌∙◌, append_assoc, eq-eqb, arith, ◌⊎◌, inl, inr}
use Rattle.std.specs.Int.{w64, to_le_bytes}
use Rattle.std.proofs.lemmas.Bool.{ne_eqb, eqb-true}
use Rattle.std.proofs.lemmas.List.{append-nil, take-append-drop, nil_from_length}
use Rattle.nt_num.specs.Place.{At}
use Rattle.nt_format.specs.Reading.{standing, ReadsAs}
use Rattle.nt_format.specs.Frames.{record_frame, list_frame, record_at}
use Rattle.nt_format.proofs.Placed.{u64_at, u64-reads}
use Rattle.nt_format.proofs.Frames.{record_again}
use Rattle.nt_pagelists.specs.declared.group.Group.{Group}
use Rattle.nt_pagelists.specs.PageLists.{header_sum_at}
use Rattle.nt_grammar.specs.Table.{Table}
use Rattle.nt_grammar.specs.Reading.{description_at}
use Rattle.nt_grammar.specs.declared.part.Part.TheVariants.{Extension}
use Rattle.nt_pagelists.specs.ClusterGroups.{groups_at}
use Rattle.nt_pagelists.specs.Footers.{feature_flags_at, extension_at, footer_at}
use Rattle.nt_pagelists.specs.FooterWriting.{group_texts, extension_text, footer_text}
use Rattle.nt_pagelists.specs.ReadingBack.{AreGroups}
use Rattle.nt_pagelists.proofs.Parts.{sum-reads, front-below, back-below}
use Rattle.nt_grammar.specs.Table.{table_of}
use Rattle.nt_grammar.specs.declared.rows.FieldRow.{FieldRow}
use Rattle.nt_grammar.specs.declared.rows.ColumnRow.{ColumnRow}
use Rattle.nt_grammar.specs.Writing.{description, part_fields, part_columns}
use Rattle.nt_grammar.specs.ReadingBack.{IsDescribed, header_of, before, up_to}
use Rattle.nt_grammar.proofs.ReadingParts.{part-reads}
use Rattle.nt_pagelists.proofs.GroupsBack.{group-list-reads}

pub flags-read : ReadsAs feature_flags_at (to_le_bytes w64 0) 0
unfolding feature_flags_at u64_at
flags-read place rest =
    rw (u64-reads 0 (omega arith) place rest) refl

-- what is read inside the frame of an extension: nothing, or rows
unfoldable pub IsExtension : Table → Table → List ℕ → Type 0
IsExtension t read inside = ((inside ≡ []) × (read ≡ t))
    ⊎ ((0 < length inside) × ((place : ℕ) → (after : At) × (description_at Extension t (standing place inside) ≡ Ok (read, after))))

extension-chain : (t read : Table) (place end : ℕ) (inside f rest : List ℕ) → record_at (standing place (f ++ rest))
    ≡ Ok (standing (place + 8) inside, standing end rest)
    → IsExtension t read inside → extension_at t (standing place (f ++ rest)) ≡ Ok (read, standing end rest)
unfolding extension_at IsExtension
extension-chain t read place end inside f rest frame (inl none) =
    let empty : eqb (length inside) 0 ≡ true = eq-eqb _ _ (ap length none.0) in
    rw (frame, empty) refl ∙ ap (λ (x : Table). Ok (x, standing end rest)) (sym none.1)
extension-chain t read place end inside f rest frame (inr rows) =
    let some : eqb (length inside) 0 ≡ false = ne_eqb _ _ (λ (e : length inside ≡ 0). omega (arith, e, rows.0)) in
    rw (frame, some, (rows.1 (place + 8)).1) refl

whole-chain : (sum place : ℕ) (t read : Table) (gs : List Group) (a b c d rest : List ℕ) → ReadsAs feature_flags_at a 0
    → ReadsAs (header_sum_at sum) b sum → ReadsAs (extension_at t) c read → ReadsAs groups_at d gs
    → footer_at sum t (standing place (a ++ (b ++ (c ++ (d ++ rest))))) ≡ Ok (read, gs)
unfolding footer_at
whole-chain sum place t read gs a b c d rest p q r s =
    rw (
      p place (b ++ (c ++ (d ++ rest))),
      q (place + length a) (c ++ (d ++ rest)),
      r (place + length a + length b) (d ++ rest),
      s (place + length a + length b + length c) rest,
    ) refl

-- a footer with these bytes in the frame of its extension
abbrev footer_with : ℕ → List ℕ → List Group → List ℕ
footer_with sum inside gs = to_le_bytes w64 0 ++ (to_le_bytes w64 sum ++ (record_frame inside ++ list_frame (length gs) (group_texts gs)))

footer-reads : (sum : ℕ) (t read : Table) (inside : List ℕ) (gs : List Group) (place : ℕ) (rest : List ℕ) → sum < 2 ^ 64
    → AreGroups 0 0 gs → length gs < 2 ^ 32
    → length (footer_with sum inside gs) < 2 ^ 63 → IsExtension t read inside → footer_at sum t
    (standing place (footer_with sum inside gs ++ rest)) ≡ Ok (read, gs)
footer-reads sum t read inside gs place rest fits are few short is =
    let a = to_le_bytes w64 0 in
    let b = to_le_bytes w64 sum in
    let c = record_frame inside in
    let d = list_frame (length gs) (group_texts gs) in
    let grouped : (a ++ (b ++ (c ++ d))) ++ rest ≡ a ++ (b ++ (c ++ (d ++ rest))) = simp append_assoc in
    let both : length (c ++ d) < 2 ^ 63 = back-below b (c ++ d) (2 ^ 63) (back-below a (b ++ (c ++ d)) (2 ^ 63) short) in
    let c_short : 8 + length inside < 2 ^ 63 = omega (arith, front-below c d (2 ^ 63) both) in
    let d_short : 12 + length (group_texts gs) < 2 ^ 63 = omega (arith, back-below c d (2 ^ 63) both) in
    let more : ReadsAs (extension_at t) c read = λ at after.
    let end : at + (8 + length inside) ≡ at + length c = omega arith in
    extension-chain t read at (at + length c) inside c after (record_again inside after at c_short
    ∙ ap (λ (n : ℕ). Ok (standing (at + 8) inside, standing n after)) end) is in
    ap (λ (l : List ℕ). footer_at sum t (standing place l)) grouped
    ∙ whole-chain sum place t read gs a b c d rest (flags-read) (sum-reads sum fits) more (group-list-reads gs are few d_short)

-- where nothing is behind the rows of the header, these are all rows
all_taken : {A : Type 0} (n : ℕ) (xs : List A) → length (drop n xs) ≡ 0 → take n xs ≡ xs
all_taken n xs none = sym (append-nil (take n xs)) ∙ ap (λ (l : List _). take n xs ++ l) (sym (nil_from_length (drop n xs) none))
    ∙ take-append-drop n xs

-- a table whose extension has no row has all rows in its header
no_extension : (t : Table) → length (drop t.header_fields t.fields) ≡ 0 → length (drop t.header_columns t.columns) ≡ 0 → t ≡ header_of t
no_extension t fields columns =
    sym (ap (λ (l : List FieldRow). table_of l (take t.header_columns t.columns) t.header_fields t.header_columns)
    (all_taken t.header_fields t.fields fields)
    ∙ ap (λ (l : List ColumnRow). table_of t.fields l t.header_fields t.header_columns) (all_taken t.header_columns t.columns columns))

some_rows : (t : Table) → IsDescribed t → length t.fields < 2 ^ 32 → length t.columns < 2 ^ 32
    → length (description (part_fields Extension t) (part_columns Extension t)) < 2 ^ 63
    → IsExtension (before Extension t) t (description (part_fields Extension t) (part_columns Extension t))
unfolding IsExtension
some_rows t is fields columns short =
    let inside = description (part_fields Extension t) (part_columns Extension t) in
    inr (
      omega arith,
      λ place. (
        standing (place + length inside) [],
        ap (λ (l : List ℕ). description_at Extension (before Extension t) (standing place l)) (sym (append-nil inside))
            ∙ part-reads Extension t place [] is fields columns short,
      ),
    )

no_rows_there : (t : Table) → length (part_fields Extension t) ≡ 0 → length (part_columns Extension t) ≡ 0
    → IsExtension (before Extension t) t []
unfolding IsExtension
no_rows_there t fields columns = inl (refl, no_extension t fields columns)

-- the bytes of an extension are its rows, or none
extension-by : (t : Table) (no_field no_column : Bool) → (no_field ≡ true → length (part_fields Extension t) ≡ 0)
    → (no_column ≡ true → length (part_columns Extension t) ≡ 0)
    → IsDescribed t → length t.fields < 2 ^ 32 → length t.columns < 2 ^ 32
    → length (cond (no_field && no_column) [] (description (part_fields Extension t) (part_columns Extension t))) < 2 ^ 63
    → IsExtension (before Extension t) t (cond (no_field && no_column) []
    (description (part_fields Extension t) (part_columns Extension t)))
extension-by t true true f c is fields columns short = no_rows_there t (f refl) (c refl)
extension-by t true false f c is fields columns short = some_rows t is fields columns short
extension-by t false other f c is fields columns short = some_rows t is fields columns short

extension-is : (t : Table) → IsDescribed t → length t.fields < 2 ^ 32 → length t.columns < 2 ^ 32 → length (extension_text t) < 2 ^ 63
    → IsExtension (before Extension t) t (extension_text t)
unfolding extension_text
extension-is t = extension-by t (eqb (length (part_fields Extension t)) 0) (eqb (length (part_columns Extension t)) 0)
    (eqb-true _ _) (eqb-true _ _)

extension-short : (sum : ℕ) (inside : List ℕ) (gs : List Group) → length (footer_with sum inside gs) < 2 ^ 63 → length inside < 2 ^ 63
extension-short sum inside gs short =
    let a = to_le_bytes w64 0 in
    let b = to_le_bytes w64 sum in
    let c = record_frame inside in
    let d = list_frame (length gs) (group_texts gs) in
    omega (arith, front-below c d (2 ^ 63) (back-below b (c ++ d) (2 ^ 63) (back-below a (b ++ (c ++ d)) (2 ^ 63) short)))

pub footers-read : (sum : ℕ) (t : Table) (gs : List Group) (place : ℕ) (rest : List ℕ) → sum < 2 ^ 64 → AreGroups 0 0 gs
    → length gs < 2 ^ 32
    → length (footer_text sum t gs) < 2 ^ 63 → IsDescribed t → length t.fields < 2 ^ 32 → length t.columns < 2 ^ 32
    → footer_at sum (before Extension t) (standing place (footer_text sum t gs ++ rest)) ≡ Ok (up_to Extension t, gs)
unfolding footer_text
footers-read sum t gs place rest fits are few short is fields columns =
    footer-reads sum (before Extension t) t (extension_text t) gs place rest fits are few short
    (extension-is t is fields columns (extension-short sum (extension_text t) gs short))
