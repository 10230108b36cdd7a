-- The pages that an outline lists have counts that are signed in 32 bits.
use Rattle.std.proofs.Common.{◌≡◌, ℕ, zero, suc, ◌+◌, ◌-◌, ◌^◌, ◌<◌, Bool, true, false, cond, eqb, leb, List, [], ◌∷◌, ◌++◌, map}
use Rattle.std.proofs.Common.{length, drop, Result, Ok, Err, refl, subst, inl, inr, arith}
use Rattle.std.specs.Prelude.{slice_index_or}
use Rattle.std.specs.Int.{w32, w64, cast_signed}
use Rattle.std.specs.List.{AllByRecursion}
use Rattle.std.proofs.lemmas.Bool.{cases_lt, eqb-false, leb-true, leb-false}
use Rattle.nt_num.specs.Place.{At}
use Rattle.nt_num.specs.Cursor.{little}
use Rattle.nt_num.specs.Codes.{bad_page_list, bad_group}
use Rattle.nt_num.specs.Faults.{fault}
use Rattle.nt_num.specs.declared.fault.ReadError.{ReadError}
use Rattle.nt_lists.specs.Chaining.{◌>>=◌}
use Rattle.nt_lists.proofs.Chaining.{bind_ok, guard_ok, guard_passed}
use Rattle.nt_lists.proofs.Variants.{ok_is}
use Rattle.nt_format.specs.Reading.{placed, standing}
use Rattle.nt_format.specs.Frames.{list_at}
use Rattle.nt_container.specs.Anchors.{anchor_of}
use Rattle.nt_pagelists.specs.declared.column.KnownColumn.{KnownColumn}
use Rattle.nt_pagelists.specs.declared.cluster.ClusterSummary.{ClusterSummary}
use Rattle.nt_pagelists.specs.declared.cluster.ColumnList.{ColumnList}
use Rattle.nt_pagelists.specs.declared.cluster.ClusterList.{ClusterList}
use Rattle.nt_pagelists.specs.declared.group.Group.{Group}
use Rattle.nt_pagelists.specs.declared.page.PageItem.{PageItem}
use Rattle.nt_pagelists.specs.Columns.{in_column, unknown_column, judged, judged_unlisted}
use Rattle.nt_pagelists.specs.Pages.{page_count_at, page_size_at, page_item_of, page_item_at, page_items_on, element_offset_at}
use Rattle.nt_pagelists.specs.Pages.{column_list_at, column_lists_on}
use Rattle.nt_pagelists.specs.Clusters.{outer_list_at, cluster_list_at, with_elements, cluster_lists_on, cluster_lists_at, summaries_at}
use Rattle.nt_pagelists.specs.PageLists.{ProgressCounts, with_group, header_sum_at, page_list_at}
use Rattle.nt_pagelists.specs.Objects.{page_list_kind}
use Rattle.nt_file_meaning.specs.Envelopes.{Block, envelope_of, inside_of, payload_start}
use Rattle.nt_file_meaning.specs.Clusters.{no_list}
use Rattle.nt_file_meaning.specs.Outlines.{Outline, list_block, known_columns, no_progress, moved_column, moved_cluster, clusters_of_block}
use Rattle.nt_file_meaning.specs.Outlines.{group_clusters, groups_clusters, described_of, outline_of}
use Rattle.nt_file_meaning.proofs.EnvelopesBack.{inside}
use Rattle.nt_copied.specs.Copies.{HasFewElements}

abbrev IsFew : PageItem → Type 0
IsFew p = p.count < 2 ^ 31

abbrev AreFew : List PageItem → Type 0
AreFew ps = AllByRecursion IsFew ps

abbrev ColumnsFew : List ColumnList → Type 0
ColumnsFew ls = AllByRecursion (λ (l : ColumnList). AreFew l.pages) ls

abbrev ClustersFew : List ClusterList → Type 0
ClustersFew ks = AllByRecursion (λ (k : ClusterList). ColumnsFew k.columns) ks

all-append : {A : Type 0} (P : A → Type 0) (xs ys : List A) → AllByRecursion P xs → AllByRecursion P ys → AllByRecursion P (xs ++ ys)
all-append P [] ys p q = q
all-append P (x ∷ xs) ys p q = (p.0, all-append P xs ys p.1 q)

-- ---- pages

few-count : (word size place : ℕ) → eqb word (2 ^ 31) ≡ false → IsFew (page_item_of word size place)
few-count word size place other = by (leb (2 ^ 31) word) refl
  where
    by : (b : Bool) → leb (2 ^ 31) word ≡ b → cond b (2 ^ 32 - word) word < 2 ^ 31
    by true high = elim (cases_lt (2 ^ 31) word) [
      | inl more ↦ omega (arith, more)
      | inr less ↦ absurd (eqb-false word (2 ^ 31) other (omega (arith, less, leb-true (2 ^ 31) word high)))
    ]
    by false low = omega (arith, leb-false (2 ^ 31) word low)

count-tested : (cluster column : ℕ) (here : At) (w : ℕ × At) → page_count_at cluster column here ≡ Ok w → eqb w.0 (2 ^ 31) ≡ false
unfolding page_count_at
count-tested cluster column here w e =
    let wrong : ReadError = in_column cluster column (fault bad_page_list here.place) in
    let step = bind_ok (placed (little w32 here)) (λ (word : ℕ × At). cond (eqb word.0 (2 ^ 31)) (Err wrong) (Ok word)) w e in
    let passed = guard_ok (eqb step.0.0 (2 ^ 31)) wrong (Ok step.0) w step.2 in
    subst (λ (x : ℕ × At). eqb x.0 (2 ^ 31) ≡ false) (ok_is {E = ReadError} step.0 w passed.1) passed.0

page-few : (cluster column : ℕ) (here : At) (w : PageItem × At) → page_item_at cluster column here ≡ Ok w → IsFew w.0
unfolding page_item_at
page-few cluster column here w e =
    let last : ℕ → ℕ × At → Result (PageItem × At) ReadError =
    λ word size. placed (little w64 size.1) >>= λ place. Ok (page_item_of word size.0 place.0, place.1) in
    let word = bind_ok (page_count_at cluster column here)
    (λ (x : ℕ × At). page_size_at cluster column here.place x.1 >>= last x.0) w e in
    let size = bind_ok (page_size_at cluster column here.place word.0.1) (last word.0.0) w word.2 in
    let place = bind_ok (placed (little w64 size.0.1)) (λ (x : ℕ × At). Ok (page_item_of word.0.0 size.0.0 x.0, x.1)) w size.2 in
    subst (λ (x : PageItem × At). IsFew x.0)
    (ok_is {E = ReadError} (page_item_of word.0.0 size.0.0 place.0.0, place.0.1) w place.2)
    (few-count word.0.0 size.0.0 place.0.0 (count-tested cluster column here word.0 word.1))

pages-few : (cluster column n : ℕ) (pages : List PageItem) (here : At) (w : List PageItem × At) → AreFew pages
    → page_items_on cluster column n pages here ≡ Ok w → AreFew w.0
pages-few cluster column zero pages here w few e =
    subst (λ (x : List PageItem × At). AreFew x.0) (ok_is {E = ReadError} (pages, here) w e) few
pages-few cluster column (suc n) pages here w few e =
    let page = bind_ok (page_item_at cluster column here)
    (λ (x : PageItem × At). page_items_on cluster column n (pages ++ x.0 ∷ []) x.1) w e in
    pages-few cluster column n (pages ++ page.0.0 ∷ []) page.0.1 w
    (all-append IsFew pages (page.0.0 ∷ []) few (page-few cluster column here page.0 page.1, tt)) page.2

-- ---- columns

column-few : (k : ClusterSummary) (id : ℕ) (c : KnownColumn) (before : ℕ) (here : At) (w : ColumnList × At)
    → column_list_at k id c before here ≡ Ok w → AreFew w.0.pages
unfolding column_list_at
column-few k id c before here w e =
    let made : List PageItem → ℕ → ColumnList =
    λ pages offset. record { inner = here.place; offset = cast_signed w64 offset; pages = pages } in
    let rest : (ℕ × At) × At → List PageItem × At → Result (ColumnList × At) ReadError =
    λ list pages. element_offset_at k id c here.place pages.1 >>= λ offset. judged k id c before here.place pages.0 offset.0 >>= λ sound.
    Ok (made pages.0 offset.0, list.1) in
    let list = bind_ok (placed (list_at here)) (λ (l : (ℕ × At) × At). page_items_on k.number id l.0.0 [] l.0.1 >>= rest l) w e in
    let pages = bind_ok (page_items_on k.number id list.0.0.0 [] list.0.0.1) (rest list.0) w list.2 in
    let offset = bind_ok (element_offset_at k id c here.place pages.0.1)
    (λ (o : ℕ × At). judged k id c before here.place pages.0.0 o.0 >>= λ sound. Ok (made pages.0.0 o.0, list.0.1)) w pages.2 in
    let sound = bind_ok (judged k id c before here.place pages.0.0 offset.0.0) (λ s. Ok (made pages.0.0 offset.0.0, list.0.1)) w
    offset.2 in
    subst (λ (x : ColumnList × At). AreFew x.0.pages)
    (ok_is {E = ReadError} (made pages.0.0 offset.0.0, list.0.1) w sound.2)
    (pages-few k.number id list.0.0.0 [] list.0.0.1 pages.0 tt pages.1)

columns-few : (k : ClusterSummary) (columns : List KnownColumn) (elements : List ℕ) (n : ℕ) (lists : List ColumnList) (here : At)
    (w : List ColumnList × At) → ColumnsFew lists → column_lists_on k columns elements n lists here ≡ Ok w → ColumnsFew w.0
columns-few k columns elements zero lists here w few e =
    subst (λ (x : List ColumnList × At). ColumnsFew x.0) (ok_is {E = ReadError} (lists, here) w e) few
columns-few k columns elements (suc n) lists here w few e =
    let id = length lists in
    let c = slice_index_or columns (length lists) unknown_column in
    let before = slice_index_or elements (length lists) 0 in
    let one = bind_ok (column_list_at k id c before here)
    (λ (l : ColumnList × At). column_lists_on k columns elements n (lists ++ l.0 ∷ []) l.1) w e in
    columns-few k columns elements n (lists ++ one.0.0 ∷ []) one.0.1 w
    (all-append (λ (l : ColumnList). AreFew l.pages) lists (one.0.0 ∷ []) few (column-few k id c before here one.0 one.1, tt)) one.2

-- ---- clusters

cluster-few : (k : ClusterSummary) (columns : List KnownColumn) (elements : List ℕ) (here : At) (w : ClusterList × At)
    → cluster_list_at k columns elements here ≡ Ok w → ColumnsFew w.0.columns
unfolding cluster_list_at
cluster-few k columns elements here w e =
    let made : List ColumnList → ClusterList =
    λ lists. record { first = k.first; entries = k.entries; outer = here.place; columns = lists } in
    let rest : (ℕ × At) × At → List ColumnList × At → Result (ClusterList × At) ReadError =
    λ list lists. judged_unlisted k here.place list.0.0 (drop list.0.0 columns) >>= λ sound. Ok (made lists.0, list.1) in
    let list = bind_ok (outer_list_at k columns here)
    (λ (l : (ℕ × At) × At). column_lists_on k columns elements l.0.0 [] l.0.1 >>= rest l) w e in
    let lists = bind_ok (column_lists_on k columns elements list.0.0.0 [] list.0.0.1) (rest list.0) w list.2 in
    let sound = bind_ok (judged_unlisted k here.place list.0.0.0 (drop list.0.0.0 columns)) (λ s. Ok (made lists.0.0, list.0.1)) w
    lists.2 in
    subst (λ (x : ClusterList × At). ColumnsFew x.0.columns) (ok_is {E = ReadError} (made lists.0.0, list.0.1) w sound.2)
    (columns-few k columns elements list.0.0.0 [] list.0.0.1 lists.0 tt lists.1)

clusters-few : (columns : List KnownColumn) (ks : List ClusterSummary) (elements : List ℕ) (lists : List ClusterList) (here : At)
    (w : List ClusterList × List ℕ) → ClustersFew lists → cluster_lists_on columns ks elements lists here ≡ Ok w → ClustersFew w.0
clusters-few columns [] elements lists here w few e =
    subst (λ (x : List ClusterList × List ℕ). ClustersFew x.0) (ok_is {E = ReadError} (lists, elements) w e) few
clusters-few columns (k ∷ ks) elements lists here w few e =
    let one = bind_ok (cluster_list_at k columns elements here)
    (λ (l : ClusterList × At). cluster_lists_on columns ks (with_elements elements l.0.columns) (lists ++ l.0 ∷ []) l.1) w e in
    clusters-few columns ks (with_elements elements one.0.0.columns) (lists ++ one.0.0 ∷ []) one.0.1 w
    (all-append (λ (l : ClusterList). ColumnsFew l.columns) lists (one.0.0 ∷ []) few
    (cluster-few k columns elements here one.0 one.1, tt)) one.2

list-few : (g : Group) (columns : List KnownColumn) (ks : List ClusterSummary) (elements : List ℕ) (here : At)
    (w : List ClusterList × List ℕ) → cluster_lists_at g columns ks elements here ≡ Ok w → ClustersFew w.0
unfolding cluster_lists_at
list-few g columns ks elements here w e =
    let wrong : ReadError = fault bad_group here.place in
    let list = bind_ok (placed (list_at here))
    (λ (l : (ℕ × At) × At). cond (eqb l.0.0 g.clusters) (cluster_lists_on columns ks elements [] l.0.1) (Err wrong)) w e in
    let passed = guard_passed (eqb list.0.0.0 g.clusters) wrong (cluster_lists_on columns ks elements [] list.0.0.1) w list.2 in
    clusters-few columns ks elements [] list.0.0.1 w tt passed.1

payload-few : (sum : ℕ) (g : Group) (columns : List KnownColumn) (p : ProgressCounts) (here : At)
    (w : List ClusterList × ProgressCounts) → page_list_at sum g columns p here ≡ Ok w → ClustersFew w.0
unfolding page_list_at
payload-few sum g columns p here w e =
    let last : List ClusterList × List ℕ → Result (List ClusterList × ProgressCounts) ReadError = λ all. Ok (all.0, with_group p g all.1) in
    let word = bind_ok (header_sum_at sum here)
    (λ (x : ℕ × At). summaries_at g p.clusters p.entries x.1 >>= λ ks. cluster_lists_at g columns ks.0 p.elements ks.1 >>= last) w e in
    let ks = bind_ok (summaries_at g p.clusters p.entries word.0.1)
    (λ (x : List ClusterSummary × At). cluster_lists_at g columns x.0 p.elements x.1 >>= last) w word.2 in
    let all = bind_ok (cluster_lists_at g columns ks.0.0 p.elements ks.0.1) last w ks.2 in
    subst (λ (x : List ClusterList × ProgressCounts). ClustersFew x.0)
    (ok_is {E = ReadError} (all.0.0, with_group p g all.0.1) w all.2)
    (list-few g columns ks.0.0 p.elements ks.0.1 all.0 all.1)

-- ---- a file

moved-columns : (place : ℕ) (ls : List ColumnList) → ColumnsFew ls → ColumnsFew (map (moved_column place) ls)
moved-columns place [] few = tt
moved-columns place (l ∷ ls) few = (few.0, moved-columns place ls few.1)

moved-clusters : (place : ℕ) (ks : List ClusterList) → ClustersFew ks → ClustersFew (map (moved_cluster place) ks)
moved-clusters place [] few = tt
moved-clusters place (k ∷ ks) few = (moved-columns place k.columns few.0, moved-clusters place ks few.1)

group-few : (file : List ℕ) (sum : ℕ) (columns : List KnownColumn) (g : Group) (p : ProgressCounts)
    (w : List ClusterList × ProgressCounts) → group_clusters file sum columns g p ≡ Ok w → ClustersFew w.0
unfolding group_clusters
group-few file sum columns g p w e =
    let block : Block = list_block g.link in
    let last : List ClusterList × ProgressCounts → Result (List ClusterList × ProgressCounts) ReadError =
    λ read. Ok (clusters_of_block block read.0, read.1) in
    let list = bind_ok (envelope_of file page_list_kind block)
    (λ l. inside_of block (page_list_at sum g columns p (standing 0 l.payload)) >>= last) w e in
    let read = bind_ok (inside_of block (page_list_at sum g columns p (standing 0 list.0.payload))) last w list.2 in
    subst (λ (x : List ClusterList × ProgressCounts). ClustersFew x.0)
    (ok_is {E = ReadError} (clusters_of_block block read.0.0, read.0.1) w read.2)
    (moved-clusters (block.place + payload_start) read.0.0
    (payload-few sum g columns p (standing 0 list.0.payload) read.0
    ((inside block (page_list_at sum g columns p (standing 0 list.0.payload))).finds read.0 read.1)))

groups-few : (file : List ℕ) (sum : ℕ) (columns : List KnownColumn) (gs : List Group) (p : ProgressCounts) (ks : List ClusterList)
    → groups_clusters file sum columns gs p ≡ Ok ks → ClustersFew ks
groups-few file sum columns [] p ks e = subst ClustersFew (ok_is {E = ReadError} [] ks e) tt
groups-few file sum columns (g ∷ gs) p ks e =
    let first = bind_ok (group_clusters file sum columns g p)
    (λ (f : List ClusterList × ProgressCounts). groups_clusters file sum columns gs f.1 >>= λ others. Ok (f.0 ++ others)) ks e in
    let others = bind_ok (groups_clusters file sum columns gs first.0.1) (λ (o : List ClusterList). Ok (first.0.0 ++ o)) ks first.2 in
    subst ClustersFew (ok_is {E = ReadError} (first.0.0 ++ others.0) ks others.2)
    (all-append (λ (k : ClusterList). ColumnsFew k.columns) first.0.0 others.0 (group-few file sum columns g p first.0 first.1)
    (groups-few file sum columns gs first.0.1 others.0 others.1))

listed-few : (ls : List ColumnList) (id : ℕ) → ColumnsFew ls → AreFew (slice_index_or ls id no_list).pages
listed-few [] id few = tt
listed-few (l ∷ ls) zero few = few.0
listed-few (l ∷ ls) (suc id) few = listed-few ls id few.1

each-few : (ks : List ClusterList) → ClustersFew ks → AllByRecursion HasFewElements ks
each-few [] few = tt
each-few (k ∷ ks) few = (λ id. listed-few k.columns id few.0, each-few ks few.1)

pub outlined-few : (file : List ℕ) (o : Outline) → outline_of file ≡ Ok o → AllByRecursion HasFewElements o.clusters
unfolding outline_of
outlined-few file o e =
    let anchor = bind_ok (anchor_of file) (λ a. described_of file a >>= λ said.
    groups_clusters file said.2 (known_columns said.0) said.1 (no_progress (length said.0.columns)) >>= λ clusters.
    Ok (record { table = said.0; clusters = clusters })) o e in
    let said = bind_ok (described_of file anchor.0) (λ s.
    groups_clusters file s.2 (known_columns s.0) s.1 (no_progress (length s.0.columns)) >>= λ clusters.
    Ok (record { table = s.0; clusters = clusters })) o anchor.2 in
    let clusters = bind_ok (groups_clusters file said.0.2 (known_columns said.0.0) said.0.1 (no_progress (length said.0.0.columns)))
    (λ (ks : List ClusterList). Ok (record { table = said.0.0; clusters = ks })) o said.2 in
    subst (λ (x : Outline). AllByRecursion HasFewElements x.clusters)
    (ok_is {E = ReadError} (record { table = said.0.0; clusters = clusters.0 }) o clusters.2)
    (each-few clusters.0
    (groups-few file said.0.2 (known_columns said.0.0) said.0.1 (no_progress (length said.0.0.columns)) clusters.0 clusters.1))
