-- The pages of a column among those of a loaded cluster, and columns that are copied one after the other.
use Rattle.std.proofs.Common.{◌≡◌, ◌∙◌, ap, sym, refl, subst, ℕ, zero, suc, ◌+◌, ◌-◌, ◌<◌, ◌≤◌, ◌⊎◌, ⊎_elim, List, [], ◌∷◌, ◌++◌}
use Rattle.std.proofs.Common.{eqb, length, take, drop, get_or, map, arith, append_assoc, append-nil, if◌then◌else◌}
use Rattle.std.specs.List.{AllByRecursion, slice_range, range_with_len, zip}
use Rattle.std.proofs.lemmas.Bool.{cases_lt}
use Rattle.std.proofs.lemmas.List.{length-append, length-drop, length-take-le, take-append-drop, get_or-take, get_or-drop, get_or_default}
use Rattle.std.proofs.lemmas.List.Folds.{drop_split}
use Rattle.nt_book.specs.declared.meta.PageMeta.{PageMeta}
use Rattle.nt_view.specs.declared.page_place.PagePlace.{PagePlace}
use Rattle.nt_view.specs.Loaded.{Loaded, loaded_pages, pages_with, MayStandBehind}
use Rattle.nt_view.proofs.Columns.{pages-none, pages-all}
use Rattle.nt_copied.specs.Stored.{StoredPage, stored_column, stored_payload, stored_page_metas, stored_metas}
use Rattle.nt_copying.specs.Copied.{copied_pages, copied_columns, all_loaded, loaded_part, HaveTheirSums, AppendsWhere, IsColumnPart}

-- ---- lists of pages, each with its bytes

zip-append : {A B : Type 0} (xs zs : List A) (ys ws : List B) → length ys ≡ length xs → zip (xs ++ zs) (ys ++ ws) ≡ zip xs ys ++ zip zs ws
zip-append [] zs [] ws long = refl
zip-append [] zs (y ∷ ys) ws long = absurd (omega (arith, long))
zip-append (x ∷ xs) zs [] ws long = absurd (omega (arith, long))
zip-append {A = A} {B = B} (x ∷ xs) zs (y ∷ ys) ws long =
    ap (λ (l : List (A × B)). (x, y) ∷ l) (zip-append xs zs ys ws (omega (arith, long)))

pages-join : (k : ℕ) (ps qs : List PagePlace) (bs cs : List (List ℕ)) → length bs ≡ length ps
    → pages_with k (ps ++ qs) (bs ++ cs) ≡ pages_with k ps bs ++ pages_with k qs cs
pages-join k [] qs [] cs long = refl
pages-join k [] qs (b ∷ bs) cs long = absurd (omega (arith, long))
pages-join k (p ∷ ps) qs [] cs long = absurd (omega (arith, long))
pages-join k (p ∷ ps) qs (b ∷ bs) cs long =
    ap (λ (l : List (PagePlace × List ℕ)). (if eqb p.column k then (p, b) ∷ [] else []) ++ l)
    (pages-join k ps qs bs cs (omega (arith, long)))
    ∙ sym (append_assoc (if eqb p.column k then (p, b) ∷ [] else []) (pages_with k ps bs) (pages_with k qs cs))

zip-take : {A B : Type 0} (n : ℕ) (xs : List A) (ys : List B) → take n (zip xs ys) ≡ zip (take n xs) (take n ys)
zip-take zero xs ys = refl
zip-take (suc n) [] ys = refl
zip-take (suc n) (x ∷ xs) [] = refl
zip-take {A = A} {B = B} (suc n) (x ∷ xs) (y ∷ ys) = ap (λ (l : List (A × B)). (x, y) ∷ l) (zip-take n xs ys)

zip-drop : {A B : Type 0} (n : ℕ) (xs : List A) (ys : List B) → length ys ≡ length xs → drop n (zip xs ys) ≡ zip (drop n xs) (drop n ys)
zip-drop zero xs ys long = refl
zip-drop (suc n) [] [] long = refl
zip-drop (suc n) [] (y ∷ ys) long = absurd (omega (arith, long))
zip-drop (suc n) (x ∷ xs) [] long = absurd (omega (arith, long))
zip-drop (suc n) (x ∷ xs) (y ∷ ys) long = zip-drop n xs ys (omega (arith, long))

all-drop : {A : Type 0} (P : A → Type 0) (n : ℕ) (xs : List A) → AllByRecursion P xs → AllByRecursion P (drop n xs)
all-drop P zero xs all = all
all-drop P (suc n) [] all = tt
all-drop P (suc n) (x ∷ xs) all = all-drop P n xs all.1

all-take : {A : Type 0} (P : A → Type 0) (n : ℕ) (xs : List A) → AllByRecursion P xs → AllByRecursion P (take n xs)
all-take P zero xs all = tt
all-take P (suc n) [] all = tt
all-take P (suc n) (x ∷ xs) all = (all.0, all-take P n xs all.1)

pub all-part : {A : Type 0} (P : A → Type 0) (xs : List A) (from to : ℕ) → AllByRecursion P xs → AllByRecursion P (slice_range xs from to)
all-part P xs from to all = all-take P (to - from) (drop from xs) (all-drop P from xs all)

-- ---- pages by rising columns

-- columns don't fall
pub column-rises : (ps : List PagePlace) (d : PagePlace)
    → ((i : ℕ) (d : PagePlace) → i + 1 < length ps → MayStandBehind (get_or ps i d) (get_or ps (i + 1) d)) → (i n : ℕ) → i + n < length ps
    → (get_or ps i d).column ≤ (get_or ps (i + n) d).column
column-rises ps d order i zero less =
    let same : i + 0 ≡ i = omega arith in omega (arith, ap (λ (k : ℕ). (get_or ps k d).column) same)
column-rises ps d order i (suc n) less =
    let before = column-rises ps d order i n (omega (arith, less)) in
    let next : i + suc n ≡ i + n + 1 = omega arith in
    let at = ap (λ (k : ℕ). (get_or ps k d).column) next in
    ⊎_elim (λ rise. omega (arith, before, rise, at)) (λ same. omega (arith, before, same.0, at)) (order (i + n) d (omega (arith, less)))

-- the pages before a place are of columns before this one, and those from it on are not
pub record StandsAt (id at : ℕ) (ps : List PagePlace) : Type 0 where
  pub within : at ≤ length ps
  pub before : (m : ℕ) (d : PagePlace) → m < at → (get_or ps m d).column < id
  pub from : (m : ℕ) (d : PagePlace) → at ≤ m → m < length ps → id ≤ (get_or ps m d).column

pub stands-first : (ps : List PagePlace) → StandsAt 0 0 ps
stands-first ps = record {
  within = omega arith;
  before = λ m d less. absurd (omega (arith, less));
  from = λ m d le less. omega arith;
}

module _ (ps : List PagePlace) (id at end : ℕ)
    (order : (i : ℕ) (d : PagePlace) → i + 1 < length ps → MayStandBehind (get_or ps i d) (get_or ps (i + 1) d))
    (stands : StandsAt id at ps) (part : IsColumnPart id at end ps) where
  -- the page behind those of a column is of a column behind it
  above : (d : PagePlace) (less : end < length ps) → id + 1 ≤ (get_or ps end d).column
  above d less =
      let low = stands.from end d part.part.order less in
      ⊎_elim (λ lt. omega (arith, lt)) (λ le. absurd (part.last d less (omega (arith, low, le)))) (cases_lt id (get_or ps end d).column)

  pub stands-next : StandsAt (id + 1) end ps
  stands-next = record {
    within = part.part.within;
    before = λ m d less. ⊎_elim
        (λ low. omega (arith, stands.before m d low))
        (λ high. omega (arith, part.same m d high less))
        (cases_lt m at);
    from = λ m d le less.
        let n : end + (m - end) ≡ m = omega (arith, le) in
        let first = above d (omega (arith, le, less)) in
        let rise = column-rises ps d order end (m - end) (omega (arith, n, less)) in
        omega (arith, first, rise, ap (λ (k : ℕ). (get_or ps k d).column) n);
  }

  -- the pages of the column are those from the one place to before the other
  pub column-is : (bs : List (List ℕ)) → length bs ≡ length ps → pages_with id ps bs ≡ slice_range (zip ps bs) at end
  column-is bs long =
      let own : List PagePlace = slice_range ps at end in
      let mine : List (List ℕ) = slice_range bs at end in
      let whole : ps ≡ take at ps ++ (own ++ drop end ps) =
      sym (take-append-drop at ps) ∙ ap (λ (l : List PagePlace). take at ps ++ l) (drop_split ps at end part.part.order) in
      let bytes : bs ≡ take at bs ++ (mine ++ drop end bs) =
      sym (take-append-drop at bs) ∙ ap (λ (l : List (List ℕ)). take at bs ++ l) (drop_split bs at end part.part.order) in
      let len-before : length (take at bs) ≡ length (take at ps) =
      length-take-le at bs (omega (arith, long, stands.within)) ∙ sym (length-take-le at ps stands.within) in
      let len-own : length own ≡ end - at =
      length-take-le (end - at) (drop at ps) (omega (arith, length-drop at ps, part.part.within)) in
      let len-mine : length mine ≡ end - at =
      length-take-le (end - at) (drop at bs) (omega (arith, length-drop at bs, part.part.within, long)) in
      let none-before : pages_with id (take at ps) (take at bs) ≡ [] =
      pages-none id (take at ps) (take at bs) (λ m d less is.
      let inside : m < at = omega (arith, less, length-take-le at ps stands.within) in
      absurd (omega (arith, stands.before m d inside, is, ap (λ (p : PagePlace). p.column) (get_or-take at ps m d inside)))) in
      let none-behind : pages_with id (drop end ps) (drop end bs) ≡ [] =
      pages-none id (drop end ps) (drop end bs) (λ m d less is.
      let inside : end + m < length ps = omega (arith, less, length-drop end ps) in
      absurd (omega (
        arith,
        above d (omega (arith, inside)),
        column-rises ps d order end m inside,
        is,
        ap (λ (p : PagePlace). p.column) (get_or-drop end ps m d),
      ))) in
      let all-own : pages_with id own mine ≡ zip own mine =
      pages-all id own mine (λ m d less.
      let inside : m < end - at = omega (arith, less, len-own) in
      ap (λ (p : PagePlace). p.column) (get_or-take (end - at) (drop at ps) m d inside ∙ get_or-drop at ps m d)
      ∙ part.same (at + m) d (omega arith) (omega (arith, inside))) in
      ap (λ (l : List PagePlace). pages_with id l bs) whole
      ∙ ap (λ (l : List (List ℕ)). pages_with id (take at ps ++ (own ++ drop end ps)) l) bytes
      ∙ pages-join id (take at ps) (own ++ drop end ps) (take at bs) (mine ++ drop end bs) len-before
      ∙ ap (λ (l : List (PagePlace × List ℕ)). l ++ pages_with id (own ++ drop end ps) (mine ++ drop end bs)) none-before
      ∙ pages-join id own (drop end ps) mine (drop end bs) (len-mine ∙ sym len-own)
      ∙ ap (λ (l : List (PagePlace × List ℕ)). pages_with id own mine ++ l) none-behind
      ∙ append-nil (pages_with id own mine)
      ∙ all-own
      ∙ sym (ap (λ (l : List (PagePlace × List ℕ)). take (end - at) l) (zip-drop at ps bs long)
      ∙ zip-take (end - at) (drop at ps) (drop at bs))

-- ---- columns that are copied

-- the column with this id, and those behind it
pub columns-next : (l : Loaded) (id left n : ℕ) → left ≡ suc n
    → copied_columns l id left ≡ copied_pages (loaded_pages l id) ∷ copied_columns l (id + 1) n
columns-next l id left n is = ap (λ (k : ℕ). copied_columns l id k) is

-- what is still to copy of some columns, behind bytes
pub record ColumnsGoOn (sums : Type 0) (all left : List (List StoredPage)) (start now : List ℕ) : Type 0 where
  pub len : length now + length (stored_payload left) ≡ length start + length (stored_payload all)
  pub bytes : sums → now ++ stored_payload left ≡ start ++ stored_payload all

pub columns-from : (sums : Type 0) (all : List (List StoredPage)) (start : List ℕ) → ColumnsGoOn sums all all start start
columns-from sums all start = record { len = refl; bytes = λ s. refl }

pub columns-end : (sums : Type 0) (all left : List (List StoredPage)) (start now : List ℕ) → left ≡ [] → ColumnsGoOn sums all left start now
    → AppendsWhere sums (stored_payload all) start now
columns-end sums all left start now none goes = record {
  len = omega (arith, goes.len, ap (λ (l : List (List StoredPage)). length (stored_payload l)) none);
  bytes = λ s.
      sym (append-nil now) ∙ ap (λ (l : List (List StoredPage)). now ++ stored_payload l) (sym none) ∙ goes.bytes s;
}

pub columns-more : (sums own : Type 0) (all left rest : List (List StoredPage)) (c : List StoredPage) (start now more : List ℕ)
    → left ≡ c ∷ rest → (sums → own) → ColumnsGoOn sums all left start now → AppendsWhere own (stored_column c) now more
    → ColumnsGoOn sums all rest start more
columns-more sums own all left rest c start now more next from goes appends = record {
  len = omega (
    arith,
    appends.len,
    goes.len,
    ap (λ (l : List (List StoredPage)). length (stored_payload l)) next,
    length-append (stored_column c) (stored_payload rest),
  );
  bytes = λ s.
      ap (λ (l : List ℕ). l ++ stored_payload rest) (appends.bytes (from s))
      ∙ append_assoc now (stored_column c) (stored_payload rest)
      ∙ ap (λ (l : List (List StoredPage)). now ++ stored_payload l) (sym next)
      ∙ goes.bytes s;
}

pub lists-more : (left rest : List (List StoredPage)) (c : List StoredPage) (place after : ℕ) (lists pushed all : List (List PageMeta))
    (m : List PageMeta) → left ≡ c ∷ rest → lists ++ stored_metas place left ≡ all → m ≡ stored_page_metas place c
    → after ≡ place + length (stored_column c) → pushed ≡ lists ++ m ∷ [] → pushed ++ stored_metas after rest ≡ all
lists-more left rest c place after lists pushed all m next before is place_is push =
    ap (λ (n : ℕ). pushed ++ stored_metas n rest) place_is
    ∙ ap (λ (l : List (List PageMeta)). l ++ stored_metas (place + length (stored_column c)) rest)
    (push ∙ ap (λ (x : List PageMeta). lists ++ x ∷ []) is)
    ∙ append_assoc lists (stored_page_metas place c ∷ []) (stored_metas (place + length (stored_column c)) rest)
    ∙ ap (λ (l : List (List StoredPage)). lists ++ stored_metas place l) (sym next)
    ∙ before
