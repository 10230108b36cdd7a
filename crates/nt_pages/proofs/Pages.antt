-- Pages that are appended one after the other.
use Rattle.std.proofs.Common.{◌≡◌, ℕ, ◌+◌, ◌-◌, ◌<◌, ◌≤◌, List, [], ◌∷◌, ◌++◌, length, drop, sym, ◌∙◌, ap, arith, append_assoc, slice_get}
use Rattle.std.proofs.Common.{Some}
use Rattle.std.specs.Option.{option_map}
use Rattle.std.proofs.lemmas.Option.{slice_get-map, slice_get_within, get_or_from_slice_get}
use Rattle.std.specs.List.{flat_map}
use Rattle.std.proofs.lemmas.List.{length-append, drop_more}
use Rattle.nt_types.specs.declared.column_type.ColumnType.{ColumnType}
use Rattle.nt_book.specs.declared.meta.PageMeta.{PageMeta}
use Rattle.nt_column.specs.Elements.{Element}
use Rattle.nt_lists.specs.Chunks.{chunks}
use Rattle.nt_column.specs.Column.{Column, Buffer, columns_of}
use Rattle.nt_pages.specs.Image.{stored_page, column_bytes}
use Rattle.nt_pages.specs.Metas.{page_meta, page_metas, column_metas}

-- one part more of those that are left
pub bytes-next : {X : Type 0} (f : X → List ℕ) (old new all : List ℕ) (left rest : List X) (x : X) → left ≡ x ∷ rest → new ≡ old ++ f x
    → old ++ flat_map f left ≡ all → new ++ flat_map f rest ≡ all
bytes-next f old new all left rest x parts more is =
    rw more (append_assoc old (f x) (flat_map f rest) ∙ (ap (λ (xs : List _). old ++ flat_map f xs) (sym parts) ∙ is))

-- the place behind the bytes that were appended
pub place-next : (old new part : List ℕ) → 42 ≤ length old → new ≡ old ++ part → length new - 42 ≡ length old - 42 + length part
place-next old new part room more = rw (more, length-append old part) (omega arith)

-- one page more is told
pub metas-next : (kind : ColumnType) (old new all : List PageMeta) (place after : ℕ) (left rest : List (List Element)) (g : List Element)
    → left ≡ g ∷ rest → new ≡ old ++ page_meta kind place g ∷ [] → after ≡ place + length (stored_page kind g)
    → old ++ page_metas kind place left ≡ all → new ++ page_metas kind after rest ≡ all
metas-next kind old new all place after left rest g parts more behind is =
    rw (more, behind) (append_assoc old (page_meta kind place g ∷ []) (page_metas kind (place + length (stored_page kind g)) rest)
    ∙ (ap (λ (xs : List (List Element)). old ++ page_metas kind place xs) (sym parts) ∙ is))

-- one column more is told
pub lists-next : (page : ℕ) (old new all : List (List PageMeta)) (place after : ℕ) (left rest : List Column) (c : Column)
    → left ≡ c ∷ rest → new ≡ old ++ page_metas c.kind place (chunks page c.elements) ∷ [] → after ≡ place + length (column_bytes page c)
    → old ++ column_metas page place left ≡ all → new ++ column_metas page after rest ≡ all
lists-next page old new all place after left rest c parts more behind is =
    rw (more, behind)
    (append_assoc old (page_metas c.kind place (chunks page c.elements) ∷ [])
    (column_metas page (place + length (column_bytes page c)) rest)
    ∙ (ap (λ (xs : List Column). old ++ column_metas page place xs) (sym parts) ∙ is))

-- the next column of those that are left
pub columns-next : (bs : List Buffer) (k : ℕ) (b : Buffer) → slice_get bs k ≡ Some b
    → drop k (columns_of bs) ≡ b.column ∷ drop (k + 1) (columns_of bs)
columns-next bs k b at =
    let here : slice_get (columns_of bs) k ≡ Some b.column = slice_get-map (λ (x : Buffer). x.column) bs k
    ∙ ap (option_map (λ (x : Buffer). x.column)) at in
    let within : k < length (columns_of bs) = slice_get_within (columns_of bs) k b.column here in
    drop_more (columns_of bs) k b.column within
    ∙ ap (λ (c : Column). c ∷ drop (k + 1) (columns_of bs)) (get_or_from_slice_get (columns_of bs) k b.column b.column here)
