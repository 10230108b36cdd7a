-- What is written of pages is read back.
use Rattle.std.proofs.Common.{◌≡◌, ℕ, suc, ◌+◌, ◌-◌, ◌%◌, ◌<◌, ◌^◌, Bool, true, false, leb, eqb, List, [], ◌∷◌, ◌++◌, length, Result, Ok}
use Rattle.std.proofs.Common.{refl, sym, ap, ◌∙◌, append_assoc, arith}
use Rattle.std.specs.Int.{w32, w64, to_le_bytes}
use Rattle.std.proofs.lemmas.Bool.{le-leb, lt-leb, ne_eqb}
use Rattle.std.proofs.lemmas.List.{append-nil, length-append}
use Rattle.nt_num.specs.Place.{At}
use Rattle.nt_num.specs.declared.fault.ReadError.{ReadError}
use Rattle.nt_lists.specs.Chaining.{◌>>=◌}
use Rattle.nt_format.specs.Reading.{standing, ReadsAs}
use Rattle.nt_format.proofs.Placed.{u32_at, u64_at, u32-reads, u64-reads}
use Rattle.nt_pagelists.specs.declared.page.PageItem.{PageItem}
use Rattle.nt_pagelists.specs.Pages.{page_count_at, page_size_at, page_item_of, page_item_at, page_items_on}
use Rattle.nt_pagelists.specs.Writing.{page_count_word, page_item_text, page_item_texts}
use Rattle.nt_pagelists.specs.ReadingBack.{IsPageItem, ArePageItems}

count-reads : (cluster column word : ℕ) → word < 2 ^ 32 → (word ≡ 2 ^ 31 → ⊥)
    → ReadsAs (page_count_at cluster column) (to_le_bytes w32 word) word
unfolding page_count_at u32_at
count-reads cluster column word fits ne place rest =
    let differs : eqb word (2 ^ 31) ≡ false = ne_eqb _ _ ne in
    rw (u32-reads word fits place rest, differs) refl

size-reads : (cluster column item size : ℕ) → size < 2 ^ 31 → ReadsAs (page_size_at cluster column item) (to_le_bytes w32 size) size
unfolding page_size_at u32_at
size-reads cluster column item size fits place rest =
    let simple : leb (2 ^ 31) size ≡ false = lt-leb _ _ fits in
    rw (u32-reads size (omega arith) place rest, simple) refl

-- the word of a number of elements is that number again
negative-word : (count : ℕ) → count < 2 ^ 31 → 0 < count → (2 ^ 32 - count) % 2 ^ 32 ≡ 2 ^ 32 - count
negative-word count small some = omega arith

word-fits : (checked : Bool) (count : ℕ) → count < 2 ^ 31 → page_count_word checked count < 2 ^ 32
word-fits true count small = omega arith
word-fits false count small = omega arith

word-differs : (checked : Bool) (count : ℕ) → count < 2 ^ 31 → (checked ≡ true → 0 < count) → page_count_word checked count ≡ 2 ^ 31 → ⊥
word-differs true count small some e = omega (arith, e, negative-word count small (some refl))
word-differs false count small some e = omega (arith, e)

item-again : (checked : Bool) (count size place : ℕ) → count < 2 ^ 31 → (checked ≡ true → 0 < count)
    → page_item_of (page_count_word checked count) size place ≡ record { count = count; place = place; size = size; checked = checked }
item-again true count size place small some =
    let word = negative-word count small (some refl) in
    let top : leb (2 ^ 31) (2 ^ 32 - count) ≡ true = le-leb _ _ (omega arith) in
    let back : 2 ^ 32 - (2 ^ 32 - count) ≡ count = omega arith in
    ap (λ (n : ℕ). page_item_of n size place) word ∙ rw (top, back) refl
item-again false count size place small some =
    let low : leb (2 ^ 31) count ≡ false = lt-leb _ _ small in
    rw low refl

item-chain : (cluster column place word size at : ℕ) (a b c rest : List ℕ) → ReadsAs (page_count_at cluster column) a word
    → ReadsAs (page_size_at cluster column place) b size → ReadsAs u64_at c at
    → page_item_at cluster column (standing place (a ++ (b ++ (c ++ rest))))
    ≡ Ok (page_item_of word size at, standing (place + length a + length b + length c) rest)
unfolding page_item_at u64_at
item-chain cluster column place word size at a b c rest p q r =
    rw (p place (b ++ (c ++ rest)), q (place + length a) (c ++ rest), r (place + length a + length b) rest) refl

pub item-reads : (cluster column : ℕ) (p : PageItem) → IsPageItem p → ReadsAs (page_item_at cluster column) (page_item_text p) p
item-reads cluster column p is place rest =
    let word = page_count_word p.checked p.count in
    let a = to_le_bytes w32 word in
    let b = to_le_bytes w32 p.size in
    let c = to_le_bytes w64 p.place in
    let grouped : (a ++ (b ++ c)) ++ rest ≡ a ++ (b ++ (c ++ rest)) = simp append_assoc in
    let end : place + length a + length b + length c ≡ place + length (a ++ (b ++ c)) =
    omega (arith, length-append a (b ++ c), length-append b c) in
    ap (λ (l : List ℕ). page_item_at cluster column (standing place l)) grouped
    ∙ (item-chain cluster column place word p.size p.place a b c rest
    (count-reads cluster column word (word-fits p.checked p.count is.count) (word-differs p.checked p.count is.count is.some))
    (size-reads cluster column place p.size is.size) (u64-reads p.place is.place)
    ∙ (ap (λ (x : PageItem). Ok (x, standing (place + length a + length b + length c) rest))
    (item-again p.checked p.count p.size p.place is.count is.some)
    ∙ ap (λ (k : ℕ). Ok (p, standing k rest)) end))

pub items-read : (cluster column : ℕ) (pages ps : List PageItem) → ArePageItems ps
    → ReadsAs (page_items_on cluster column (length ps) pages) (page_item_texts ps) (pages ++ ps)
items-read cluster column pages [] are place rest =
    let end : place ≡ place + 0 = omega arith in
    ap (λ (l : List PageItem). Ok (l, standing place rest)) (sym (append-nil pages)) ∙ ap (λ (k : ℕ). Ok (pages ++ [], standing k rest)) end
items-read cluster column pages (p ∷ ps) are place rest =
    let first = item-reads cluster column p are.0 place (page_item_texts ps ++ rest) in
    let others = items-read cluster column (pages ++ p ∷ []) ps are.1 (place + length (page_item_text p)) rest in
    let end : place + length (page_item_text p) + length (page_item_texts ps) ≡ place
    + length (page_item_text p ++ page_item_texts ps) = omega (arith, length-append (page_item_text p) (page_item_texts ps)) in
    ap (λ (b : List ℕ). page_items_on cluster column (suc (length ps)) pages (standing place b))
    (append_assoc (page_item_text p) (page_item_texts ps) rest)
    ∙ (ap (λ (x : Result (PageItem × At) ReadError). x >>= λ page. page_items_on cluster column (length ps) (pages ++ page.0
    ∷ []) page.1) first
    ∙ (others ∙ (ap (λ (l : List PageItem). Ok (l, standing (place + length (page_item_text p) + length (page_item_texts ps)) rest))
    (append_assoc pages (p ∷ []) ps)
    ∙ ap (λ (k : ℕ). Ok (pages ++ p ∷ ps, standing k rest)) end)))
