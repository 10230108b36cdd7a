-- A limit that the closing of a file passes is one that its chunks pass.
use Rattle.std.proofs.Common.{◌≡◌, ◌⊎◌, ◌∙◌, inl, inr, ap, sym, subst, refl, ℕ, zero, suc, ◌+◌, ◌<◌, ◌≤◌, Bool, true, false, List, [], ◌∷◌}
use Rattle.std.proofs.Common.{◌++◌, length, take, drop, map, sum_by, Option, Some, None, append_assoc, arith}
use Rattle.std.specs.Prelude.{nat_lt, if◌then◌else◌, IsPermutation}
use Rattle.std.specs.List.{AllByRecursion, AllZip, range_with_len}
use Rattle.std.proofs.lemmas.Bool.Decides.{nat_tests}
use Rattle.std.proofs.lemmas.List.{take-append-drop}
use Rattle.std.proofs.lemmas.List.Sorted.{IsPermutation-refl, IsPermutation-append_comm, IsPermutation-append_left}
use Rattle.nt_types.specs.ShapeData.{MemberData}
use Rattle.nt_types.specs.TreeData.{TreesData}
use Rattle.nt_grammar.specs.Rows.{Rows}
use Rattle.nt_grammar.specs.Table.{Table}
use Rattle.nt_machine.specs.History.{Cluster}
use Rattle.nt_book.specs.declared.meta.ClusterMeta.{ClusterMeta}
use Rattle.nt_book.specs.declared.params.Params.{Params}
use Rattle.nt_book.specs.declared.limits.Limits.{Limits}
use Rattle.nt_book.specs.declared.limits.LimitError.{LimitError}
use Rattle.nt_book.specs.declared.limits.LimitError.TheVariants as limit
use Rattle.nt_book.specs.Books.{BookData, book_ranges, book_clusters}
use Rattle.nt_book.specs.Kept.{IsBookKept}
use Rattle.nt_container.specs.Lengths.{anchor_part_len, key_list_part_len, free_list_part_len}
use Rattle.nt_pagelists.specs.Blobs.{blob_len}
use Rattle.nt_layout.specs.Headers.{header_object, clusters_place}
use Rattle.nt_pagelists.specs.Objects.{ClusterSpan, cluster_span, list_len}
use Rattle.nt_layout.specs.Finished.{list_places, footer_object, file_len}
use Rattle.nt_layout.specs.Laid.{IsBookOf}
use Rattle.nt_finished.proofs.Spans.{AreInOrder, order-le}
use Rattle.nt_close.specs.Passing.{first_passed, passed_by_begin}
use Rattle.nt_dealing.specs.Dealt.{AreChunksDealt}
use Rattle.nt_dealing.specs.Texts.{joined_chunks}
use Rattle.nt_dealing.specs.Lengths.{page_list_len, page_lists_len, group_count, footer_len, whole_len}
use Rattle.nt_dealing.specs.Limits.{AreKeptOf, AreCountedOf, IsBlobLen, of_header}
use Rattle.nt_dealing.specs.Limits.{IsOver, range_passed, file_passed}

-- what is kept of clusters
abbrev pub metas : List (Cluster ClusterMeta) → List ClusterMeta
metas cs = map (λ (c : Cluster ClusterMeta). c.meta) cs

-- the laws of lengths and of chunks that were dealt out
abbrev pub ListsAreAsLong : Type 0
ListsAreAsLong = (sum : ℕ) (book : BookData) (s : ClusterSpan) → s.from + s.count ≤ length (book_clusters book)
    → list_len sum book s ≡ page_list_len (metas (take s.count (drop s.from (book_clusters book))))

abbrev pub FootersAreAsLong : Type 0
FootersAreAsLong =
    (staged : Bool) (t : Table) (book : BookData) (most : ℕ) → blob_len (length (footer_object t book (list_places staged t book most)))
    ≡ footer_len t (group_count most (length (book_clusters book)))

abbrev pub FilesAreAsLong : Type 0
FilesAreAsLong =
    (staged : Bool) (t : Table) (book : BookData) (most : ℕ) → length (book_clusters book) ≡ length (book_ranges book) → IsBookOf t book
    → 0 < most → file_len t book (list_places staged t book most) ≡ whole_len t most (metas (book_clusters book))

abbrev pub DealtAreAll : Type 0
DealtAreAll =
    (staged : Bool) (t : Table) (page most : ℕ) (chunks : List (List (List TreesData))) (book : BookData) (ranges : List (List ℕ))
    (is : AreChunksDealt staged t page chunks book ranges) → IsBookKept book
    → IsPermutation is.dealt (joined_chunks chunks) × AreKeptOf t page is.dealt (metas (book_clusters book))
    × ((ms : List ClusterMeta) × AreKeptOf t page (joined_chunks chunks) ms × (whole_len t most ms ≡ whole_len t most (metas (book_clusters
    book))))

-- a piece of a list, and the others
pub piece_apart : {X : Type 0} (from count : ℕ) (xs : List X)
    → IsPermutation (take count (drop from xs) ++ (take from xs ++ drop count (drop from xs))) xs
piece_apart from count xs =
    let rest = drop from xs in
    let piece = take count rest in
    let front = take from xs in
    let behind = drop count rest in
    let whole : (front ++ piece) ++ behind ≡ xs =
    append_assoc front piece behind ∙ (ap (λ l. front ++ l) (take-append-drop count rest) ∙ take-append-drop from xs) in
    subst (λ l. IsPermutation l xs) (append_assoc piece front behind)
    (subst (λ l. IsPermutation ((piece ++ front) ++ behind) l) whole
    (IsPermutation-append_left behind (piece ++ front) (front ++ piece) (IsPermutation-append_comm piece front)))

take_none : {X : Type 0} (n : ℕ) → ◌≡◌ {A = List X} (take n []) []
take_none zero = refl
take_none (suc n) = refl

pub zip_take : {A B : Type 0} (R : A → B → Type 0) (n : ℕ) (xs : List A) (ys : List B) → AllZip R xs ys → AllZip R (take n xs) (take n ys)
zip_take R zero xs ys all = tt
zip_take R (suc n) [] [] all = tt
zip_take R (suc n) [] (y ∷ ys) all = absurd all
zip_take R (suc n) (x ∷ xs) [] all = absurd all
zip_take R (suc n) (x ∷ xs) (y ∷ ys) all = (all.0, zip_take R n xs ys all.1)

pub zip_drop : {A B : Type 0} (R : A → B → Type 0) (n : ℕ) (xs : List A) (ys : List B) → AllZip R xs ys → AllZip R (drop n xs) (drop n ys)
zip_drop R zero xs ys all = all
zip_drop R (suc n) [] [] all = tt
zip_drop R (suc n) [] (y ∷ ys) all = absurd all
zip_drop R (suc n) (x ∷ xs) [] all = absurd all
zip_drop R (suc n) (x ∷ xs) (y ∷ ys) all = zip_drop R n xs ys all.1

-- groups lie among the clusters, and none is too large
pub inside : (k n : ℕ) (ss : List ClusterSpan) → AreInOrder k n ss → AllByRecursion (λ (s : ClusterSpan). s.from + s.count ≤ n) ss
inside k n [] order = tt
inside k n (s ∷ ss) order =
    let least = order-le (k + s.count) n ss order.2 in
    (omega (arith, order.0, least), inside (k + s.count) n ss order.2)

pub small : (most n i m : ℕ) → AllByRecursion (λ (s : ClusterSpan). s.count ≤ most) (map (cluster_span most n) (range_with_len i m))
small most n i zero = tt
small most n i (suc m) = (omega arith, small most n (i + 1) m)

-- the first blob of these that is passed
pub record PassesBlob {X : Type 0} (f : X → ℕ) (P Q : X → Type 0) (limits : Limits) (e : LimitError) : Type 0 where
  pub x : X
  pub first : P x
  pub second : Q x
  pub above : limits.range < f x
  pub is : e ≡ limit.RangeTooLarge (f x) limits.range

some_is : (a b : LimitError) → ◌≡◌ {A = Option LimitError} (Some a) (Some b) → a ≡ b
some_is a b e = cc

one_blob : {X : Type 0} (f : X → ℕ) (P Q : X → Type 0) (limits : Limits) (x : X) (e : LimitError) (more : Option LimitError) (b : Bool)
    → P x → Q x → nat_lt limits.range (f x) ≡ b
    → (if b then Some (limit.RangeTooLarge (f x) limits.range) else more) ≡ Some e → PassesBlob f P Q limits e ⊎ (more ≡ Some e)
one_blob f P Q limits x e more true first second above is =
    inl (record { x = x; first = first; second = second; above = grind (arith, nat_tests, above); is = sym (some_is _ _ is) })
one_blob f P Q limits x e more false first second above is = inr is

pub blobs_or : {X : Type 0} (f : X → ℕ) (P Q : X → Type 0) (limits : Limits) (xs : List X) (more : List ℕ) (end : ℕ) (e : LimitError)
    → AllByRecursion P xs → AllByRecursion Q xs
    → first_passed limits (map f xs ++ more) end ≡ Some e → PassesBlob f P Q limits e ⊎ (first_passed limits more end ≡ Some e)
blobs_or f P Q limits [] more end e first second is = inr is
blobs_or f P Q limits (x ∷ xs) more end e first second is =
    elim (one_blob f P Q limits x e (first_passed limits (map f xs ++ more) end) (nat_lt limits.range (f x)) first.0 second.0 refl is) [
      | inl passes ↦ inl passes
      | inr others ↦ blobs_or f P Q limits xs more end e first.1 second.1 others
    ]

ends_by : (limits : Limits) (end : ℕ) (e : LimitError) (b : Bool) → nat_lt limits.file end ≡ b
    → (if b then Some (limit.FileTooLarge end limits.file) else None) ≡ Some e
    → (limits.file < end) × (e ≡ limit.FileTooLarge end limits.file)
ends_by limits end e true above is = (grind (arith, nat_tests, above), sym (some_is _ _ is))
ends_by limits end e false above is = absurd (cc is)

pub ends : (limits : Limits) (end : ℕ) (e : LimitError) → first_passed limits [] end ≡ Some e
    → (limits.file < end) × (e ≡ limit.FileTooLarge end limits.file)
ends limits end e is = ends_by limits end e (nat_lt limits.file end) refl is

-- a blob is passed, or the file's end, as an error says
abbrev pub Names : LimitError → ℕ → ℕ → Type 0
Names e reached most = (e ≡ limit.RangeTooLarge reached most) ⊎ (e ≡ limit.FileTooLarge reached most)

pub range_named : (e : LimitError) (reached most len range : ℕ) → Names e reached most → e ≡ limit.RangeTooLarge len range
    → (reached ≡ len) × (most ≡ range)
range_named e reached most len range (inl is) named = (cc, cc)
range_named e reached most len range (inr is) named = absurd (cc)

pub file_named : (e : LimitError) (reached most end file : ℕ) → Names e reached most → e ≡ limit.FileTooLarge end file
    → (reached ≡ end) × (most ≡ file)
file_named e reached most end file (inl is) named = absurd (cc)
file_named e reached most end file (inr is) named = (cc, cc)

-- a blob that is written of the chunks, above the limit
pub blob_over : (t : Table) (p : Params) (chunks : List (List TreesData)) (reached most len : ℕ) → IsBlobLen t p chunks len
    → p.limits.range < len → (reached ≡ len) × (most ≡ p.limits.range) → IsOver t p chunks reached most
blob_over t p chunks reached most len blob above (is, limit-is) =
    range_passed (subst (IsBlobLen t p chunks) (sym is) blob) limit-is (omega (arith, above, is, limit-is))

-- the law of whole files that is cited here
abbrev pub WholeAreLongest : Type 0
WholeAreLongest =
    (fields : List MemberData) (plain : Bool) (t : Table) (page most : ℕ) (chunks some others : List (List TreesData))
    (ms : List ClusterMeta) → Rows fields plain t → 0 < most → IsPermutation (some ++ others) chunks → AreKeptOf t page some ms
    → (all : List ClusterMeta) × AreCountedOf t page chunks all × (whole_len t most ms ≤ whole_len t most all)

first_part : (a b c d e : ℕ) → a ≤ a + b + c + d + e
first_part a b c d e = omega arith

-- a file begins with what stands before its clusters
place_within : (t : Table) (most : ℕ) → clusters_place t ≤ whole_len t most []
place_within t most =
    first_part (clusters_place t) (sum_by (λ (m : ClusterMeta). m.len) []) (page_lists_len most []) (footer_len t (group_count most 0))
    (anchor_part_len + key_list_part_len + free_list_part_len)

-- the limit that a beginning passes, and by what
pub begun_over : WholeAreLongest → (fields : List MemberData) (t : Table) (p : Params) → Rows fields p.plain t
    → (chunks : List (List TreesData)) (e : LimitError) (reached most : ℕ)
    → passed_by_begin p.limits t ≡ Some e → Names e reached most
    → IsOver t p chunks reached most × ((reached ≡ blob_len (length (header_object t))) ⊎ (reached ≡ clusters_place t))
begun_over longest fields t p rows chunks e reached most passed names =
    elim (blobs_or (λ (n : ℕ). n) (λ (n : ℕ). n ≡ blob_len (length (header_object t))) (λ (n : ℕ). Unit {0}) p.limits (blob_len (length
    (header_object t)) ∷ []) [] (clusters_place t) e (refl, tt) (tt, tt) passed) [
      | inl blob ↦
          let named = range_named e reached most blob.x p.limits.range names blob.is in
          (blob_over t p chunks reached most blob.x (of_header blob.first) blob.above named, inl (named.0 ∙ blob.first))
      | inr rest ↦
          let end = ends p.limits (clusters_place t) e rest in
          let named = file_named e reached most (clusters_place t) p.limits.file names end.1 in
          let group = p.group_range.0 in
          let all = longest fields p.plain t p.page p.group chunks [] chunks [] rows (omega (arith, group)) (IsPermutation-refl chunks) tt
          in (
            file_passed all.0 all.1 (omega (arith, named.0, place_within t p.group, all.2)) named.1
                (omega (arith, end.0, named.0, named.1)),
            inr named.0,
          )
    ]
