-- Elements that are written behind the first ones.
use Rattle.std.proofs.Common.{◌≡◌, ◌≢◌, ℕ, ◌+◌, ◌-◌, ◌≤◌, List, ◌++◌, length, map, take, sym, ◌∙◌, ap, arith}
use Rattle.std.proofs.Common.{Result, Ok, Err, IfOk}
use Rattle.std.proofs.lemmas.List.{length-append, length-map, length-take-le, take-map, take_all, take-take}
use Rattle.std.proofs.lemmas.Slice.Zip.{length-zip}
use Rattle.nt_types.specs.declared.column_type.ColumnType.{ColumnType}
use Rattle.nt_types.specs.declared.column_type.ColumnType.TheVariants.{Switch}
use Rattle.nt_encode.specs.Pages.{page_values}
use Rattle.nt_encode.specs.Switch.{switch_index, switch_indices, switch_tag, switch_tags}
use Rattle.nt_encode.proofs.Lists.{length-list_of}
use Rattle.nt_column.specs.Elements.{Element, plain, page_elements}
use Rattle.nt_column.specs.Filled.{HasPageBehind, KeepsFirst}
use Rattle.nt_column.specs.Growing.{AreWrittenBehind}
use Rattle.nt_column.proofs.Growing.{elements-more, plain-more}

-- where so many are filled, what follows from the page is so too
pub ok-filled : {E P Q : Type 0} (n : ℕ) (r : Result ℕ E) → (P → Q) → IfOk r (λ (k : ℕ). (k ≡ n) × P) → IfOk r (λ (k : ℕ). (k ≡ n) × Q)
ok-filled n (Ok k) more is = (is.0, more is.1)
ok-filled n (Err e) more is = is

-- what was added behind the first ones stands there
pub behind-first : {A : Type 0} (filled count : ℕ) (values old now : List A) → filled ≤ length old → length values ≡ count
    → now ≡ take filled old ++ values
    → (take (filled + count) now ≡ take filled old ++ values) × (length now ≡ filled + count)
behind-first filled count values old now within size is =
    let len : length now ≡ filled + count =
    ap length is ∙ (length-append (take filled old) values ∙ omega (arith, size, length-take-le filled old within)) in
    (take_all (filled + count) now (omega (arith, len)) ∙ is, len)

-- of numbers
pub words-filled : (kind : ColumnType) (filled count : ℕ) (bytes old now : List ℕ) (old_len old_capacity len capacity : ℕ)
    → kind ≢ Switch → old_len ≡ length old → len ≡ length now
    → AreWrittenBehind filled count (page_values kind count bytes) old now old_len old_capacity len capacity
    → HasPageBehind filled count (page_elements kind count bytes) (map plain old) (map plain now) (old_capacity - old_len) (capacity - len)
words-filled kind filled count bytes old now old_len old_capacity len capacity other old_is is filled_so =
    record {
      elements = take-map plain (filled + count) now
          ∙ (plain-more kind count bytes (take filled old) (take (filled + count) now) other filled_so.items
          ∙ ap (λ (es : List Element). es ++ page_elements kind count bytes) (sym (take-map plain filled old)));
      reached = omega (arith, length-map now plain, is, filled_so.reached);
      few = omega (arith, length-map now plain, length-map old plain, old_is, is, filled_so.few);
      room = omega (arith, filled_so.few, filled_so.within);
    }

-- of other items that stand for numbers
pub items-filled : {A : Type 0} (f : A → ℕ) (kind : ColumnType) (filled count : ℕ) (bytes : List ℕ) (old now : List A)
    (old_len old_capacity len capacity : ℕ) → kind ≢ Switch → old_len ≡ length old → len ≡ length now
    → AreWrittenBehind filled count (page_values kind count bytes) (map f old) (map f now) old_len old_capacity len capacity
    → HasPageBehind filled count (page_elements kind count bytes) (map (λ (x : A). plain (f x)) old) (map (λ (x : A). plain (f x)) now)
    (old_capacity - old_len) (capacity - len)
items-filled {A = A} f kind filled count bytes old now old_len old_capacity len capacity other old_is is filled_so =
    let values : map f (take (filled + count) now) ≡ map f (take filled old) ++ page_values kind count bytes =
    sym (take-map f (filled + count) now)
    ∙ (filled_so.items ∙ ap (λ (ns : List ℕ). ns ++ page_values kind count bytes) (take-map f filled old)) in
    record {
      elements = take-map (λ (x : A). plain (f x)) (filled + count) now
          ∙ (elements-more f kind count bytes (take filled old) (take (filled + count) now) other values
          ∙ ap (λ (es : List Element). es ++ page_elements kind count bytes) (sym (take-map (λ (x : A). plain (f x)) filled old)));
      reached = omega (arith, length-map now (λ (x : A). plain (f x)), is, filled_so.reached);
      few = omega (arith, length-map now (λ (x : A). plain (f x)), length-map old (λ (x : A). plain (f x)), old_is, is, filled_so.few);
      room = omega (arith, filled_so.few, filled_so.within);
    }

-- of pairs
length-page_pairs : (count : ℕ) (bytes : List ℕ) → length (page_elements Switch count bytes) ≡ count
length-page_pairs count bytes =
    length-zip (switch_indices count bytes) (switch_tags count bytes)
    ∙ omega (arith, length-list_of count (switch_index bytes), length-list_of count (switch_tag bytes))

pub pairs-filled : (filled count : ℕ) (bytes : List ℕ) (old now : List Element) (old_spare spare : ℕ) → filled ≤ length old
    → now ≡ take filled old ++ page_elements Switch count bytes → old_spare ≤ spare + count
    → HasPageBehind filled count (page_elements Switch count bytes) old now old_spare spare
pairs-filled filled count bytes old now old_spare spare within is room =
    let all = behind-first filled count (page_elements Switch count bytes) old now within (length-page_pairs count bytes) is in
    record { elements = all.0; reached = omega (arith, all.1); few = omega (arith, all.1); room = room }

-- what is unchanged, or cut to its first elements, keeps these
pub same-kept : {A : Type 0} (f : A → Element) (filled : ℕ) (old now : List A) → filled ≤ length old → now ≡ old
    → KeepsFirst filled (map f old) (map f now)
same-kept {A = A} f filled old now within same =
    record {
      elements = ap (λ (xs : List A). take filled (map f xs)) same;
      reached = omega (arith, length-map now f, ap length same);
    }

pub first-kept : {A : Type 0} (filled : ℕ) (old now : List A) → filled ≤ length old → now ≡ take filled old
    → (take filled now ≡ take filled old) × (filled ≤ length now)
first-kept filled old now within is =
    (rw is (take-take filled filled old (omega arith)), omega (arith, ap length is, length-take-le filled old within))

pub cut-kept : {A : Type 0} (f : A → Element) (filled : ℕ) (old now : List A) → filled ≤ length old → now ≡ take filled old
    → KeepsFirst filled (map f old) (map f now)
cut-kept f filled old now within is =
    let first = first-kept filled old now within is in
    record {
      elements = take-map f filled now ∙ (ap (map f) first.0 ∙ sym (take-map f filled old));
      reached = omega (arith, length-map now f, first.1);
    }
