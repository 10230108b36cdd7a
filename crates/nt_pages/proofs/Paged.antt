-- What a book asks of the pages of a cluster.
use Rattle.std.proofs.Common.{◌≡◌, ℕ, zero, suc, ◌+◌, ◌*◌, ◌<◌, ◌≤◌, List, [], ◌∷◌, length, map, replicate, refl, sym, ◌∙◌, ap, arith}
use Rattle.std.specs.Int.{w64, to_le_bytes, div_ceil}
use Rattle.std.specs.List.{flat_map, range_with_len, AllByRecursion, sum_by}
use Rattle.std.proofs.lemmas.List.{length-append, length-replicate}
use Rattle.std.proofs.lemmas.List.Sums.{sum_by-cons}
use Rattle.nt_types.specs.declared.column_type.ColumnType.{ColumnType}
use Rattle.nt_types.specs.declared.column_type.ColumnType.TheVariants.{Bit, Switch}
use Rattle.nt_encode.specs.Pages.{page_size}
use Rattle.nt_xxh3.specs.Sum.{xxh3}
use Rattle.nt_book.specs.declared.meta.PageMeta.{PageMeta}
use Rattle.nt_book.specs.declared.meta.ClusterMeta.{ClusterMeta}
use Rattle.nt_book.specs.Pages.{stored_size, IsPageOf, IsPaged}
use Rattle.nt_column.specs.Elements.{Element, page_of}
use Rattle.nt_column.specs.Column.{Column, elements_at}
use Rattle.nt_column.proofs.Sizes.{length-page_of}
use Rattle.nt_lists.specs.Chunks.{chunk, chunks}
use Rattle.nt_lists.proofs.Groups.{length-chunk, chunks-joined}
use Rattle.nt_book.specs.Ranges.{max_page}
use Rattle.nt_pages.specs.Image.{stored_page, column_bytes, payload, image}
use Rattle.nt_pages.specs.Metas.{page_meta, page_metas, column_metas, cluster_meta}

-- a page has a bit for each element
bits-some : (kind : ColumnType) (n : ℕ) → n ≤ 8 * page_size kind n
bits-some Bit n = omega arith
bits-some Switch n = omega arith
bits-some kind n = omega arith

count-bits : (kind : ColumnType) (g : List Element) → length g ≤ 8 * length (page_of kind g)
count-bits kind g = rw (length-page_of kind g) (bits-some kind (length g))

length-stored : (kind : ColumnType) (g : List Element) → length (stored_page kind g) ≡ length (page_of kind g) + 8
length-stored kind g = length-append (page_of kind g) (to_le_bytes w64 (xxh3 (page_of kind g)))

-- the pages of groups that are no longer than a page, within a cluster
pages-within : (meta : ClusterMeta) (kind : ColumnType) (page : ℕ) (gs : List (List Element)) (place : ℕ) → page ≤ max_page
    → AllByRecursion (λ (g : List Element). length g ≤ page) gs
    → place + length (flat_map (stored_page kind) gs) ≤ meta.len
    → AllByRecursion (λ (p : PageMeta). IsPageOf meta p) (page_metas kind place gs)
pages-within meta kind page [] place few short within = tt
pages-within meta kind page (g ∷ gs) place few short within =
    let size : length (stored_page kind g) ≡ length (page_of kind g) + 8 = length-stored kind g in
    let parts : length (flat_map (stored_page kind) (g ∷ gs)) ≡ length (stored_page kind g) + length (flat_map (stored_page kind) gs) =
    length-append (stored_page kind g) (flat_map (stored_page kind) gs) in
    let count : length g ≤ page = short.0 in (
      record { count = omega arith; bits = count-bits kind g; place = omega arith },
      pages-within meta kind page gs (place + length (stored_page kind g)) few short.1 (omega arith),
    )

-- no group is longer than a page
groups-short : (n : ℕ) (es : List Element) (k m : ℕ)
    → AllByRecursion (λ (g : List Element). length g ≤ n) (map (chunk n es) (range_with_len k m))
groups-short n es k zero = tt
groups-short n es k (suc m) = (omega (arith, length-chunk n es k), groups-short n es (k + 1) m)

-- and of columns
columns-within : (meta : ClusterMeta) (page : ℕ) (cs : List Column) (place : ℕ) → page ≤ max_page
    → place + length (payload page cs) ≤ meta.len
    → AllByRecursion (λ (ps : List PageMeta). AllByRecursion (λ (p : PageMeta). IsPageOf meta p) ps) (column_metas page place cs)
columns-within meta page [] place few within = tt
columns-within meta page (c ∷ cs) place few within =
    let parts : length (payload page (c ∷ cs)) ≡ length (column_bytes page c) + length (payload page cs) =
    length-append (column_bytes page c) (payload page cs) in (
      pages-within meta c.kind page (chunks page c.elements) place few
          (groups-short page c.elements 0 (div_ceil (length c.elements) page)) (omega arith),
      columns-within meta page cs (place + length (column_bytes page c)) few (omega arith),
    )

-- the sizes of stored pages are their bytes
pages-size : (kind : ColumnType) (gs : List (List Element)) (place : ℕ)
    → stored_size (page_metas kind place gs) ≡ length (flat_map (stored_page kind) gs)
pages-size kind [] place = refl
pages-size kind (g ∷ gs) place =
    sum_by-cons (λ (p : PageMeta). p.size + 8) (page_meta kind place g) (page_metas kind (place + length (stored_page kind g)) gs)
    ∙ rw (pages-size kind gs (place + length (stored_page kind g)), ← length-stored kind g)
    (sym (length-append (stored_page kind g) (flat_map (stored_page kind) gs)))

columns-size : (page : ℕ) (cs : List Column) (place : ℕ) → sum_by stored_size (column_metas page place cs) ≡ length (payload page cs)
columns-size page [] place = refl
columns-size page (c ∷ cs) place =
    sum_by-cons stored_size (page_metas c.kind place (chunks page c.elements)) (column_metas page (place + length (column_bytes page c)) cs)
    ∙ rw (pages-size c.kind (chunks page c.elements) place, columns-size page cs (place + length (column_bytes page c)))
    (sym (length-append (column_bytes page c) (payload page cs)))

-- an image has its room and its payload
length-image : (page : ℕ) (cs : List Column) → length (image page cs) ≡ 42 + length (payload page cs)
length-image page cs = length-append (replicate {A = ℕ} 42 0) (payload page cs) ∙ rw (length-replicate {A = ℕ} 42 0) refl

-- what is kept of a cluster is what a book asks
pub cluster-paged : (page context entries : ℕ) (cs : List Column) → page ≤ max_page → entries ≤ 8 * length (image page cs)
    → IsPaged (cluster_meta page context entries cs)
cluster-paged page context entries cs few bits =
    let size : length (image page cs) ≡ 42 + length (payload page cs) = length-image page cs in
    record {
      each = columns-within (cluster_meta page context entries cs) page cs 0 few (omega arith);
      sizes = rw (columns-size page cs 0) (omega arith);
      entries = bits;
    }

-- a list of pages for each column
pub length-column_metas : (page place : ℕ) (cs : List Column) → length (column_metas page place cs) ≡ length cs
length-column_metas page place [] = refl
length-column_metas page place (c ∷ cs) = ap (λ (n : ℕ). suc n) (length-column_metas page (place + length (column_bytes page c)) cs)

-- groups have a bit for each element
groups-bits : (kind : ColumnType) (gs : List (List Element))
    → length (flat_map (λ (g : List Element). g) gs) ≤ 8 * length (flat_map (stored_page kind) gs)
groups-bits kind [] = omega arith
groups-bits kind (g ∷ gs) =
    omega (
      arith,
      count-bits kind g,
      groups-bits kind gs,
      length-stored kind g,
      length-append g (flat_map (λ (h : List Element). h) gs),
      length-append (stored_page kind g) (flat_map (stored_page kind) gs),
    )

column-bits : (page : ℕ) (c : Column) → 0 < page → length c.elements ≤ 8 * length (column_bytes page c)
column-bits page c some =
    let whole : length (flat_map (λ (g : List Element). g) (chunks page c.elements)) ≡ length c.elements =
    ap length (chunks-joined page c.elements some) in
    omega (arith, groups-bits c.kind (chunks page c.elements))

payload-bits : (page k : ℕ) (cs : List Column) → 0 < page → length (elements_at cs k) ≤ 8 * length (payload page cs)
payload-bits page k [] some = omega arith
payload-bits page zero (c ∷ cs) some =
    omega (arith, column-bits page c some, length-append (column_bytes page c) (payload page cs))
payload-bits page (suc k) (c ∷ cs) some =
    omega (arith, payload-bits page k cs some, length-append (column_bytes page c) (payload page cs))

-- an image has a bit for each element of a column
pub image-bits : (page k : ℕ) (cs : List Column) → 0 < page → length (elements_at cs k) ≤ 8 * length (image page cs)
image-bits page k cs some = omega (arith, payload-bits page k cs some, length-image page cs)
