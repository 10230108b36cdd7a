-- Pages of a column are read as what stands there.
use Rattle.std.proofs.Common.{◌≡◌, ℕ, zero, suc, ◌-◌, ◌%◌, ◌^◌, ◌<◌, ◌≤◌, Bool, true, false, true≢false, leb, eqb, List, [], ◌∷◌, ◌++◌}
use Rattle.std.proofs.Common.{refl, sym, ap, subst, ◌∙◌, arith}
use Rattle.std.specs.Int.{w32, w64, to_le_bytes}
use Rattle.std.proofs.lemmas.Bool.{le-leb, lt-leb, leb-true, leb-false, ne_eqb, eq-eqb}
use Rattle.std.proofs.lemmas.List.{append-nil}
use Rattle.nt_num.specs.Place.{At}
use Rattle.nt_format.specs.Reading.{IsBytes}
use Rattle.nt_format.specs.Grammars.{Spelled}
use Rattle.nt_format.specs.Relations.{Agrees, Stands}
use Rattle.nt_pagelists.specs.declared.page.PageItem.{PageItem}
use Rattle.nt_pagelists.specs.Pages.{page_count_at, page_size_at, page_item_of, page_item_at, page_items_on}
use Rattle.nt_pagelists.specs.Writing.{page_count_word, page_item_text, page_item_texts}
use Rattle.nt_pagelists.specs.ReadingBack.{IsPageItem, ArePageItems}
use Rattle.nt_payloads.proofs.Texts.{Both, Done, reword, seq, done}
use Rattle.nt_payloads.proofs.Tests.{tested_not, Word32, Word64, word32, word64}
use Rattle.nt_payloads.proofs.Loops.{Behind, loop_end, loop_more}

-- three texts, and nothing more
three : (text x y a b c d : List ℕ) → text ≡ a ++ x → x ≡ b ++ y → y ≡ c ++ d → d ≡ [] → text ≡ a ++ (b ++ c)
three text x y a b c d p q r e =
    p ∙ ap (λ (l : List ℕ). a ++ l) (q ∙ ap (λ (l : List ℕ). b ++ l) (r ∙ ap (λ (l : List ℕ). c ++ l) e ∙ append-nil c))

-- the word of a number of elements is that number again
word_fits : (checked : Bool) (count : ℕ) → count < 2 ^ 31 → page_count_word checked count < 2 ^ 32
word_fits true count small = omega arith
word_fits false count small = omega arith

negative_word : (count : ℕ) → count < 2 ^ 31 → 0 < count → (2 ^ 32 - count) % 2 ^ 32 ≡ 2 ^ 32 - count
negative_word count small some = omega arith

word_differs : (checked : Bool) (count : ℕ) → count < 2 ^ 31 → (checked ≡ true → 0 < count) → page_count_word checked count ≡ 2 ^ 31 → ⊥
word_differs true count small some e = omega (arith, e, negative_word count small (some refl))
word_differs false count small some e = omega (arith, e)

item_again : (checked : Bool) (count size place : ℕ) → count < 2 ^ 31 → (checked ≡ true → 0 < count)
    → page_item_of (page_count_word checked count) size place ≡ record { count = count; place = place; size = size; checked = checked }
item_again true count size place small some =
    let word = negative_word count small (some refl) in
    let top : leb (2 ^ 31) (2 ^ 32 - count) ≡ true = le-leb _ _ (omega arith) in
    let back : 2 ^ 32 - (2 ^ 32 - count) ≡ count = omega arith in
    ap (λ (n : ℕ). page_item_of n size place) word ∙ rw (top, back) refl
item_again false count size place small some =
    let low : leb (2 ^ 31) count ≡ false = lt-leb _ _ small in
    rw low refl

-- an item whose number of elements has this word
record IsItemOf (word : ℕ) (p : PageItem) : Type 0 where
  back : page_count_word p.checked p.count ≡ word
  is : IsPageItem p

item_of : (word size place : ℕ) (negative : Bool) → leb (2 ^ 31) word ≡ negative → word < 2 ^ 32 → eqb word (2 ^ 31) ≡ false
    → size < 2 ^ 31 → place < 2 ^ 64 → IsItemOf word (page_item_of word size place)
item_of word size place true e fits differs small low =
    let top : 2 ^ 31 ≤ word = leb-true _ _ e in
    let more : word ≡ 2 ^ 31 → ⊥ = λ same. absurd (true≢false (sym (eq-eqb _ _ same) ∙ differs)) in
    let found : page_item_of word size place ≡ record { count = 2 ^ 32 - word; place = place; size = size; checked = true } = rw e refl in
    let count : 2 ^ 32 - word < 2 ^ 31 = omega (arith, more) in
    let some : 0 < 2 ^ 32 - word = omega arith in
    subst (IsItemOf word) (sym found)
    (record {
      back = negative_word (2 ^ 32 - word) count some
          ∙ omega arith;
      is = record { count = count; some = λ s. some; size = small; place = low };
    })
item_of word size place false e fits differs small low =
    let found : page_item_of word size place ≡ record { count = word; place = place; size = size; checked = false } = rw e refl in
    subst (IsItemOf word) (sym found)
    (record {
      back = refl;
      is = record { count = leb-false _ _ e; some = λ s. absurd (true≢false (sym s)); size = small; place = low };
    })

abbrev CountWord : ℕ → List ℕ → ℕ → Type 0
CountWord place text n = Word32 place text n × (eqb n (2 ^ 31) ≡ false)

abbrev SizeWord : ℕ → List ℕ → ℕ → Type 0
SizeWord place text n = Word32 place text n × (leb (2 ^ 31) n ≡ false)

abbrev ItemSteps : ℕ → List ℕ → PageItem → Type 0
ItemSteps = Both CountWord λ word. Both SizeWord λ size. Both Word64 λ place. Done (page_item_of word size place)

item_steps : (cluster column : ℕ) (here : At) → IsBytes here.left
    → Agrees (page_item_at cluster column here) (Stands (ItemSteps here.place) here)
unfolding page_item_at page_count_at page_size_at
item_steps cluster column here bytes =
    seq _ bytes (tested_not _ _ (word32 here bytes)) λ word m fm. seq _ fm (tested_not _ _ (word32 m fm)) λ size n fn. seq _ fn
    (word64 n fn) λ place o fo. done (page_item_of word size place) fo

-- a page's item
abbrev pub ItemText : ℕ → List ℕ → PageItem → Type 0
ItemText place = Spelled page_item_text IsPageItem

pub item : (cluster column : ℕ) (here : At) → IsBytes here.left
    → Agrees (page_item_at cluster column here) (Stands (ItemText here.place) here)
item cluster column here bytes = reword to from (item_steps cluster column here bytes)
  where
    to : (text : List ℕ) (p : PageItem) → ItemSteps here.place text p → ItemText here.place text p
    to text p t =
        let word = t.head in
        let size = t.is_second.head in
        let at = t.is_second.is_second.head in
        let made = item_of word size at (leb (2 ^ 31) word) refl t.is_first.0.fits t.is_first.1
        (leb-false _ _ t.is_second.is_first.1) t.is_second.is_second.is_first.fits in
        let same : text ≡ t.first ++ (t.is_second.first ++ t.is_second.is_second.first) =
        three text _ _ t.first t.is_second.first
        t.is_second.is_second.first _ t.parts t.is_second.parts
        t.is_second.is_second.parts t.is_second.is_second.is_second.none in
        let whole : text ≡ page_item_text (page_item_of word size at) =
        same ∙ ap (λ (l : List ℕ). l ++ (t.is_second.first ++ t.is_second.is_second.first))
        (t.is_first.0.is ∙ ap (λ (n : ℕ). to_le_bytes w32 n) (sym made.back))
        ∙ ap (λ (l : List ℕ). to_le_bytes w32 (page_count_word (page_item_of word size at).checked (page_item_of word size at).count) ++
        (l ++ t.is_second.is_second.first)) t.is_second.is_first.0.is
        ∙ ap (λ (l : List ℕ). to_le_bytes w32 (page_count_word (page_item_of word size at).checked (page_item_of word size at).count) ++
        (to_le_bytes w32 size ++ l)) t.is_second.is_second.is_first.is in
        subst (λ (q : PageItem). ItemText here.place text q) (sym t.is_second.is_second.is_second.is)
        (record { is = whole; fits = made.is })

    from : (text : List ℕ) (p : PageItem) → ItemText here.place text p → ItemSteps here.place text p
    from text p t = record {
      head = page_count_word p.checked p.count;
      first = to_le_bytes w32 (page_count_word p.checked p.count);
      second = to_le_bytes w32 p.size ++ to_le_bytes w64 p.place;
      parts = t.is;
      is_first = (
        record { is = refl; fits = word_fits p.checked p.count t.fits.count },
        ne_eqb _ _ (word_differs p.checked p.count t.fits.count t.fits.some),
      );
      is_second = record {
        head = p.size;
        first = to_le_bytes w32 p.size;
        second = to_le_bytes w64 p.place;
        parts = refl;
        is_first = (record { is = refl; fits = omega (arith, t.fits.size) }, lt-leb _ _ t.fits.size);
        is_second = record {
          head = p.place;
          first = to_le_bytes w64 p.place;
          second = [];
          parts = sym (append-nil (to_le_bytes w64 p.place));
          is_first = record { is = refl; fits = t.fits.place };
          is_second = record { none = refl; is = sym (item_again p.checked p.count p.size p.place t.fits.count t.fits.some) };
        };
      };
    }

-- the items of these pages
abbrev pub ItemTexts : ℕ → List ℕ → List PageItem → Type 0
ItemTexts place text ps = (text ≡ page_item_texts ps) × ArePageItems ps

pub items : (cluster column n : ℕ) (pages : List PageItem) (here : At) → IsBytes here.left
    → Agrees (page_items_on cluster column n pages here) (Stands (Behind n pages ItemTexts here.place) here)
items cluster column zero pages here bytes = loop_end pages bytes (refl, tt) (λ text s. s.0)
items cluster column (suc n) pages here bytes =
    loop_more {Item = ItemText} {Others = λ p. ItemTexts} {Such = ItemTexts} n pages
    (λ first others p ps f o. (ap (λ (l : List ℕ). l ++ others) f.is ∙ ap (λ (l : List ℕ). page_item_text p ++ l) o.0, (f.fits, o.1)))
    (λ text p ps s. record {
      first = page_item_text p;
      others = page_item_texts ps;
      parts = s.0;
      is_first = record { is = refl; fits = s.1.0 };
      are_others = (refl, s.1.1);
    })
    (seq _ bytes (item cluster column here bytes) λ p m fm. items cluster column n (pages ++ p ∷ []) m fm)
