-- What lies at the places of pages.
use Rattle.std.proofs.Common.{◌≡◌, ℕ, ◌+◌, ◌-◌, List, [], ◌∷◌, ◌++◌, length, map, refl, sym, ◌∙◌, ap, arith, append_assoc}
use Rattle.std.specs.List.{flat_map, slice_range}
use Rattle.std.specs.Int.{w64, to_le_bytes}
use Rattle.std.proofs.lemmas.List.{length-append, drop_at, take_at, append-nil}
use Rattle.nt_types.specs.declared.column_type.ColumnType.{ColumnType}
use Rattle.nt_xxh3.specs.Sum.{xxh3}
use Rattle.nt_column.specs.Elements.{Element, page_of}
use Rattle.nt_lists.specs.Chunks.{chunks}
use Rattle.nt_column.specs.Column.{Column}
use Rattle.nt_pages.specs.Image.{stored_page, column_bytes, payload}
use Rattle.nt_pages.specs.Metas.{page_meta, page_metas, column_metas, stored_at, stored_pages}

-- a part that stands behind others is found at its place
part-at : (front part behind : List ℕ) (n : ℕ) → n ≡ length part
    → slice_range (front ++ (part ++ behind)) (length front) (length front + n) ≡ part
part-at front part behind n size =
    let whole : length front + n - length front ≡ length part = omega arith in
    rw (whole, drop_at front (part ++ behind) (length front) refl) (take_at part behind (length part) refl)

-- a page of a column
page-at : (kind : ColumnType) (front behind : List ℕ) (g : List Element)
    → stored_at (front ++ (stored_page kind g ++ behind)) (page_meta kind (length front) g) ≡ stored_page kind g
page-at kind front behind g =
    part-at front (stored_page kind g) behind (length (page_of kind g) + 8)
    (sym (length-append (page_of kind g) (to_le_bytes w64 (xxh3 (page_of kind g)))))

-- the pages of a column that stands among others
pages-at : (kind : ColumnType) (gs : List (List Element)) (front behind : List ℕ)
    → map (stored_at (front ++ (flat_map (stored_page kind) gs ++ behind))) (page_metas kind (length front) gs) ≡ map (stored_page kind) gs
pages-at kind [] front behind = refl
pages-at kind (g ∷ gs) front behind =
    let rest : List ℕ = flat_map (stored_page kind) gs ++ behind in
    let first : front ++ (flat_map (stored_page kind) (g ∷ gs) ++ behind) ≡ front ++ (stored_page kind g ++ rest) =
    ap (λ (xs : List ℕ). front ++ xs) (append_assoc (stored_page kind g) (flat_map (stored_page kind) gs) behind) in
    let next : front ++ (stored_page kind g ++ rest) ≡ (front ++ stored_page kind g) ++ rest =
    sym (append_assoc front (stored_page kind g) rest) in
    let place : length front + length (stored_page kind g) ≡ length (front ++ stored_page kind g) =
    sym (length-append front (stored_page kind g)) in
    let here : stored_at (front ++ (flat_map (stored_page kind) (g ∷ gs) ++ behind))
    (page_meta kind (length front) g) ≡ stored_page kind g =
    ap (λ (xs : List ℕ). stored_at xs (page_meta kind (length front) g)) first ∙ page-at kind front rest g in
    let later : map (stored_at (front ++ (flat_map (stored_page kind) (g ∷ gs) ++ behind)))
    (page_metas kind (length front + length (stored_page kind g)) gs) ≡ map (stored_page kind) gs =
    ap (λ (xs : List ℕ). map (stored_at xs) (page_metas kind (length front + length (stored_page kind g)) gs)) (first ∙ next)
    ∙ (ap (λ (n : ℕ). map (stored_at ((front ++ stored_page kind g) ++ rest)) (page_metas kind n gs)) place
    ∙ pages-at kind gs (front ++ stored_page kind g) behind) in
    ap (λ (p : List ℕ). p ∷ map (stored_at (front ++ (flat_map (stored_page kind) (g ∷ gs) ++ behind)))
    (page_metas kind (length front + length (stored_page kind g)) gs)) here
    ∙ ap (λ (ps : List (List ℕ)). stored_page kind g ∷ ps) later

-- the pages of columns that stand among others
columns-at : (page : ℕ) (cs : List Column) (front behind : List ℕ)
    → map (map (stored_at (front ++ (payload page cs ++ behind)))) (column_metas page (length front) cs) ≡ stored_pages page cs
columns-at page [] front behind = refl
columns-at page (c ∷ cs) front behind =
    let rest : List ℕ = payload page cs ++ behind in
    let first : front ++ (payload page (c ∷ cs) ++ behind) ≡ front ++ (column_bytes page c ++ rest) =
    ap (λ (xs : List ℕ). front ++ xs) (append_assoc (column_bytes page c) (payload page cs) behind) in
    let next : front ++ (column_bytes page c ++ rest) ≡ (front ++ column_bytes page c) ++ rest =
    sym (append_assoc front (column_bytes page c) rest) in
    let place : length front + length (column_bytes page c) ≡ length (front ++ column_bytes page c) =
    sym (length-append front (column_bytes page c)) in
    let here : map (stored_at (front ++ (payload page (c ∷ cs) ++ behind)))
    (page_metas c.kind (length front) (chunks page c.elements)) ≡ map (stored_page c.kind) (chunks page c.elements) =
    ap (λ (xs : List ℕ). map (stored_at xs) (page_metas c.kind (length front) (chunks page c.elements))) first
    ∙ pages-at c.kind (chunks page c.elements) front rest in
    let later : map (map (stored_at (front ++ (payload page (c ∷ cs) ++ behind))))
    (column_metas page (length front + length (column_bytes page c)) cs) ≡ stored_pages page cs =
    ap (λ (xs : List ℕ). map (map (stored_at xs)) (column_metas page (length front + length (column_bytes page c)) cs)) (first ∙ next)
    ∙ (ap (λ (n : ℕ). map (map (stored_at ((front ++ column_bytes page c) ++ rest))) (column_metas page n cs)) place
    ∙ columns-at page cs (front ++ column_bytes page c) behind) in
    ap (λ (p : List (List ℕ)). p ∷ map (map (stored_at (front ++ (payload page (c ∷ cs) ++ behind))))
    (column_metas page (length front + length (column_bytes page c)) cs)) here
    ∙ ap (λ (ps : List (List (List ℕ))). map (stored_page c.kind) (chunks page c.elements) ∷ ps) later

-- and of a payload
pub pages-lie : (page : ℕ) (cs : List Column) → map (map (stored_at (payload page cs))) (column_metas page 0 cs) ≡ stored_pages page cs
pages-lie page cs =
    ap (λ (xs : List ℕ). map (map (stored_at xs)) (column_metas page 0 cs)) (sym (append-nil (payload page cs))) ∙ columns-at page cs [] []
