-- What is written of columns is read back.
use Rattle.std.proofs.Common.{◌≡◌, ℕ, suc, ◌+◌, ◌<◌, ◌^◌, Bool, true, false, not, ◌&&◌, cond, leb, List, [], ◌∷◌, ◌++◌, length, Result, Ok}
use Rattle.std.proofs.Common.{Err, refl, sym, ap, subst, ◌∙◌, append_assoc, arith}
use Rattle.std.specs.Prelude.{slice_index_or}
use Rattle.std.specs.List.{list_all}
use Rattle.std.specs.Int.{w32, w64, to_le_bytes, cast_signed}
use Rattle.std.proofs.lemmas.Bool.{lt-leb}
use Rattle.std.proofs.lemmas.List.{append-nil, length-append}
use Rattle.nt_num.specs.Place.{At}
use Rattle.nt_num.specs.Codes.{bad_cluster, deferred_inside}
use Rattle.nt_num.specs.Faults.{fault}
use Rattle.nt_num.specs.declared.fault.ReadError.{ReadError}
use Rattle.nt_lists.specs.Chaining.{◌>>=◌}
use Rattle.nt_format.specs.Reading.{standing, ReadsAs}
use Rattle.nt_format.specs.Frames.{list_at}
use Rattle.nt_format.proofs.Chains.{alone}
use Rattle.nt_format.proofs.Placed.{u32_at, u64_at, u32-reads, u64-reads}
use Rattle.nt_pagelists.specs.declared.column.KnownColumn.{KnownColumn}
use Rattle.nt_pagelists.specs.declared.cluster.ClusterSummary.{ClusterSummary}
use Rattle.nt_pagelists.specs.declared.cluster.ColumnList.{ColumnList}
use Rattle.nt_pagelists.specs.declared.page.PageItem.{PageItem}
use Rattle.nt_pagelists.specs.Columns.{in_column, unknown_column, begins_inside, has_its_elements, has_its_offset, is_sound_column, judged}
use Rattle.nt_pagelists.specs.Columns.{judged_unlisted}
use Rattle.nt_pagelists.specs.Pages.{page_items_on, element_offset_at, column_list_at, column_lists_on}
use Rattle.nt_pagelists.specs.Writing.{ListedColumn, page_item_texts, column_list_text, column_list_texts}
use Rattle.nt_pagelists.specs.ReadingBack.{column_lists_from, IsListedColumn, AreListedColumns}
use Rattle.nt_pagelists.proofs.Parts.{list-reads, front-below, back-below}
use Rattle.nt_pagelists.proofs.PagesBack.{items-read}

abbrev passed : Result (Unit {0}) ReadError
passed = Ok tt

test_passes : (inside good : Bool) (a b : ReadError) → (not inside && good) ≡ true → cond inside (Err a) (cond good passed (Err b)) ≡ passed
test_passes false true a b h = refl
test_passes false false a b h = absurd cc
test_passes true good a b h = absurd cc

-- what has what it must have is judged so
pub fine-judged : (k : ClusterSummary) (id : ℕ) (c : KnownColumn) (before frame : ℕ) (pages : List PageItem) (offset : ℕ)
    → is_sound_column k c before pages offset ≡ true → judged k id c before frame pages offset ≡ Ok tt
unfolding judged
fine-judged k id c before frame pages offset h =
    test_passes (begins_inside k c) (has_its_elements k c pages && has_its_offset c before pages offset)
    (in_column k.number id (fault deferred_inside frame)) (in_column k.number id (fault bad_cluster frame)) h

both : (a b : Bool) → (a && b) ≡ true → (a ≡ true) × (b ≡ true)
both a b h = grind (arith, h)

pub unlisted-fine : (k : ClusterSummary) (frame id : ℕ) (cs : List KnownColumn) → list_all (λ c. is_sound_column k c 0 [] 0) cs
    ≡ true → judged_unlisted k frame id cs ≡ Ok tt
unlisted-fine k frame id [] h = refl
unlisted-fine k frame id (c ∷ cs) h =
    let p = both (is_sound_column k c 0 [] 0) (list_all (λ c. is_sound_column k c 0 [] 0) cs) h in
    rw (fine-judged k id c 0 frame [] 0 p.0) (unlisted-fine k frame (id + 1) cs p.1)

offset-reads : (k : ClusterSummary) (id : ℕ) (c : KnownColumn) (frame offset : ℕ) → offset < 2 ^ 63
    → ReadsAs (element_offset_at k id c frame) (to_le_bytes w64 offset ++ to_le_bytes w32 0) offset
unfolding element_offset_at u32_at u64_at
offset-reads k id c frame offset fits place rest =
    let a = to_le_bytes w64 offset in
    let b = to_le_bytes w32 0 in
    let low : leb (2 ^ 63) offset ≡ false = lt-leb _ _ fits in
    let word = u64-reads offset (omega arith) place (b ++ rest) in
    let setting = u32-reads 0 (omega arith) (place + 8) rest in
    let end : place + 8 + 4 ≡ place + 12 = omega arith in
    ap (λ (l : List ℕ). element_offset_at k id c frame (standing place l)) (append_assoc a b rest)
    ∙ (rw (word, low, setting) refl ∙ ap (λ (n : ℕ). Ok (offset, standing n rest)) end)

column-chain : (k : ClusterSummary) (id : ℕ) (c : KnownColumn) (before place end n offset : ℕ) (pages : List PageItem) (f a b rest : List ℕ)
    → list_at (standing place (f ++ rest)) ≡ Ok ((n, standing (place + 12) (a ++ b)), standing end rest)
    → ReadsAs (page_items_on k.number id n []) a pages → ReadsAs (element_offset_at k id c place) b offset → judged k id c before
    place pages offset ≡ Ok tt
    → column_list_at k id c before (standing place (f ++ rest)) ≡ Ok (
      record {
        inner = place;
        offset = cast_signed w64 offset;
        pages = pages;
      },
      standing end rest,
    )
unfolding column_list_at
column-chain k id c before place end n offset pages f a b rest list p q fine =
    let items_are = p (place + 12) b in
    let offset_is = alone (element_offset_at k id c place) b offset q (place + 12 + length a) in
    rw (list, items_are, offset_is, fine) refl

pub column-reads : (k : ClusterSummary) (columns : List KnownColumn) (elements : List ℕ) (id : ℕ) (l : ListedColumn)
    → IsListedColumn k columns elements id l → length (column_list_text l) < 2 ^ 63
    → (place : ℕ) (rest : List ℕ) → column_list_at k id (slice_index_or columns id unknown_column) (slice_index_or elements id 0)
    (standing place (column_list_text l ++ rest))
    ≡ Ok (record { inner = place; offset = cast_signed w64 l.offset; pages = l.pages }, standing (place + length (column_list_text l)) rest)
column-reads k columns elements id l is fits place rest =
    let c = slice_index_or columns id unknown_column in
    let before = slice_index_or elements id 0 in
    let b = to_le_bytes w64 l.offset ++ to_le_bytes w32 0 in
    let inside = page_item_texts l.pages ++ b in
    column-chain k id c before place (place + length (column_list_text l)) (length l.pages) l.offset l.pages (column_list_text l)
    (page_item_texts l.pages) b rest
    (list-reads (length l.pages) place inside rest is.few (omega (arith, fits)))
    (items-read k.number id [] l.pages is.items) (offset-reads k id c place l.offset is.offset)
    (fine-judged k id c before place l.pages l.offset is.sound)

pub columns-read : (k : ClusterSummary) (columns : List KnownColumn) (elements : List ℕ) (lists : List ColumnList)
    (ls : List ListedColumn) (place : ℕ) (rest : List ℕ)
    → AreListedColumns k columns elements (length lists) ls → length (column_list_texts ls) < 2 ^ 63
    → column_lists_on k columns elements (length ls) lists (standing place (column_list_texts ls ++ rest))
    ≡ Ok (lists ++ column_lists_from place ls, standing (place + length (column_list_texts ls)) rest)
columns-read k columns elements lists [] place rest are fits =
    let end : place ≡ place + 0 = omega arith in
    ap (λ (l : List ColumnList). Ok (l, standing place rest)) (sym (append-nil lists))
    ∙ ap (λ (n : ℕ). Ok (lists ++ [], standing n rest)) end
columns-read k columns elements lists (l ∷ ls) place rest are fits =
    let one : ColumnList = record { inner = place; offset = cast_signed w64 l.offset; pages = l.pages } in
    let next = place + length (column_list_text l) in
    let first = column-reads k columns elements (length lists) l are.0 (front-below (column_list_text l) (column_list_texts ls)
    (2 ^ 63) fits) place (column_list_texts ls ++ rest) in
    let ids : length (lists ++ one ∷ []) ≡ suc (length lists) = omega (arith, length-append lists (one ∷ [])) in
    let others = columns-read k columns elements (lists ++ one ∷ []) ls next rest
    (subst (λ (id : ℕ). AreListedColumns k columns elements id ls) (sym ids) are.1)
    (back-below (column_list_text l) (column_list_texts ls) (2 ^ 63) fits) in
    let end : next + length (column_list_texts ls) ≡ place + length (column_list_text l ++ column_list_texts ls) =
    omega (arith, length-append (column_list_text l) (column_list_texts ls)) in
    ap (λ (b : List ℕ). column_lists_on k columns elements (suc (length ls)) lists (standing place b))
    (append_assoc (column_list_text l) (column_list_texts ls) rest)
    ∙ (ap (λ (x : Result (ColumnList × At) ReadError). x >>= λ list. column_lists_on k columns elements (length ls) (lists ++ list.0
    ∷ []) list.1) first
    ∙ (others ∙ (ap (λ (x : List ColumnList). Ok (x, standing (next + length (column_list_texts ls)) rest))
    (append_assoc lists (one ∷ []) (column_lists_from next ls))
    ∙ ap (λ (n : ℕ). Ok (lists ++ one ∷ column_lists_from next ls, standing n rest)) end)))
