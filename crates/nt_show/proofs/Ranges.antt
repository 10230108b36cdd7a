-- Ranges of entries, of lists that are all_entries and of their beginnings.
use Rattle.std.proofs.Common.{◌≡◌, ◌∙◌, ap, ap₂, sym, refl, ℕ, zero, suc, ◌+◌, ◌-◌, ◌<◌, ◌≤◌, List, [], ◌∷◌, ◌++◌, length, take, drop}
use Rattle.std.proofs.Common.{get_or, Option, Some, None, arith, length-drop}
use Rattle.std.specs.Prelude.{min, slice_get}
use Rattle.std.proofs.lemmas.List.{append-nil, take-append-drop, take-take, take_min, drop_min, take_all, drop-drop, drop-take}
use Rattle.std.specs.List.{slice_range}
use Rattle.std.proofs.lemmas.List.Concat.{flat_map-append}
use Rattle.nt_types.specs.TreeData.{TreesData}
use Rattle.nt_event.specs.Json.{line_of}
use Rattle.nt_show.specs.declared.entry_range.EntryRange.{EntryRange}
use Rattle.nt_show.specs.Ranges.{entry_lines, limited, limited_len, in_range, all_entries, range_lines, past_entries}

drop_over : (n : ℕ) (xs ys : List TreesData) → drop n (xs ++ ys) ≡ drop n xs ++ drop (n - length xs) ys
drop_over zero xs ys =
    let none : 0 - length xs ≡ 0 = omega arith in
    rw none refl
drop_over (suc n) [] ys =
    let all : suc n - 0 ≡ suc n = omega arith in
    rw all refl
drop_over (suc n) (x ∷ xs) ys =
    let one : suc n - suc (length xs) ≡ n - length xs = omega arith in
    rw one (drop_over n xs ys)

take_over : (n : ℕ) (xs ys : List TreesData) → take n (xs ++ ys) ≡ take n xs ++ take (n - length xs) ys
take_over zero xs ys =
    let none : 0 - length xs ≡ 0 = omega arith in
    rw none refl
take_over (suc n) [] ys =
    let all : suc n - 0 ≡ suc n = omega arith in
    rw all refl
take_over (suc n) (x ∷ xs) ys =
    let one : suc n - suc (length xs) ≡ n - length xs = omega arith in
    rw one (ap (λ (l : List TreesData). x ∷ l) (take_over n xs ys))

range_over : (from : ℕ) (count : Option ℕ) (xs ys : List TreesData)
    → in_range (record { from = from; count = count }) (xs ++ ys) ≡ in_range (record { from = from; count = count }) xs ++ in_range
    (past_entries (length xs) (record { from = from; count = count })) ys
range_over from None xs ys = drop_over from xs ys
range_over from (Some most) xs ys =
    ap (take most) (drop_over from xs ys)
    ∙ take_over most (drop from xs) (drop (from - length xs) ys)
    ∙ ap (λ (n : ℕ). take most (drop from xs) ++ take (most - n) (drop (from - length xs) ys)) (length-drop from xs)

-- a range of two lists that are all_entries is that of the first, and then what is left of the range in the second
pub in_range-append : (range : EntryRange) (xs ys : List TreesData)
    → in_range range (xs ++ ys) ≡ in_range range xs ++ in_range (past_entries (length xs) range) ys
in_range-append range xs ys = range_over range.from range.count xs ys

-- of clusters too
pub range_lines-append : (range : EntryRange) (ks ls : List (List TreesData))
    → range_lines range (ks ++ ls) ≡ range_lines range ks ++ range_lines (past_entries (length (all_entries ks)) range) ls
range_lines-append range ks ls =
    ap (λ (l : List TreesData). entry_lines (in_range range l)) (flat_map-append (λ (entries : List TreesData). entries) ks ls)
    ∙ ap entry_lines (in_range-append range (all_entries ks) (all_entries ls))
    ∙ flat_map-append (λ entry. line_of entry ++ 10 ∷ []) (in_range range (all_entries ks))
    (in_range (past_entries (length (all_entries ks)) range) (all_entries ls))

-- one cluster is its entries
pub range_lines-one : (range : EntryRange) (entries : List TreesData)
    → range_lines range (entries ∷ []) ≡ entry_lines (in_range range entries)
range_lines-one range entries = ap (λ (l : List TreesData). entry_lines (in_range range l)) (append-nil entries)

-- a first cluster, and others
pub range_lines-cons : (range : EntryRange) (entries : List TreesData) (ks : List (List TreesData))
    → range_lines range (entries ∷ ks) ≡ entry_lines (in_range range entries) ++ range_lines (past_entries (length entries) range) ks
range_lines-cons range entries ks =
    ap entry_lines (in_range-append range entries (all_entries ks))
    ∙ flat_map-append (λ entry. line_of entry ++ 10 ∷ []) (in_range range entries)
    (in_range (past_entries (length entries) range) (all_entries ks))

limited-nil : (count : Option ℕ) → limited {A = TreesData} count [] ≡ []
limited-nil None = refl
limited-nil (Some zero) = refl
limited-nil (Some (suc n)) = refl

drop-nil : (n : ℕ) → drop {A = TreesData} n [] ≡ []
drop-nil zero = refl
drop-nil (suc n) = refl

-- no cluster has no line
pub range_lines-nil : (range : EntryRange) → range_lines range [] ≡ []
range_lines-nil range =
    ap (λ (l : List TreesData). entry_lines (limited range.count l)) (drop-nil range.from) ∙ ap entry_lines (limited-nil range.count)

past_count : (count : Option ℕ) (from m n : ℕ)
    → (past_entries n (record {
      from = from - m;
      count = (past_entries m (record { from = from; count = count })).count;
    })).count ≡ (past_entries (m + n) (record { from = from; count = count })).count
past_count None from m n = refl
past_count (Some most) from m n =
    let same : (most - (m - from)) - (n - (from - m)) ≡ most - ((m + n) - from) = omega arith in
    ap (λ (c : ℕ). Some c) same

-- past some entries and then past others
pub past_entries-past_entries : (m n : ℕ) (range : EntryRange) → past_entries n (past_entries m range) ≡ past_entries (m + n) range
past_entries-past_entries m n range =
    let same : (range.from - m) - n ≡ range.from - (m + n) = omega arith in
    ap₂ (λ (from : ℕ) (count : Option ℕ). record { from = from; count = count }) same (past_count range.count range.from m n)

-- past nothing
pub past_entries-nothing : (range : EntryRange) → past_entries 0 range ≡ range
past_entries-nothing range =
    ap₂ (λ (from : ℕ) (count : Option ℕ). record { from = from; count = count }) (from_is range.from) (count_is range.from range.count)
  where
    from_is : (from : ℕ) → from - 0 ≡ from
    from_is from = omega arith

    count_is : (from : ℕ) (count : Option ℕ) → (past_entries 0 (record { from = from; count = count })).count ≡ count
    count_is from None = refl
    count_is from (Some most) =
        let same : most - (0 - from) ≡ most = omega arith in
        ap (λ (c : ℕ). Some c) same

-- where so many entries follow, and so many of them are shown at most
pub limited_is : (count : Option ℕ) (len shown : ℕ) (xs : List TreesData) → length xs ≡ len → shown ≡ limited_len count len
    → limited count xs ≡ take shown xs
limited_is None len shown xs is all = sym (take_all shown xs (omega (arith, is, all)))
limited_is (Some most) len shown xs is few = sym (take_min most xs) ∙ ap (λ (n : ℕ). take n xs) (ap (min most) is ∙ sym few)

-- so many entries are left out, and so many shown
pub within_is : (range : EntryRange) (len from shown : ℕ) (xs : List TreesData) → length xs ≡ len → from ≡ min range.from len
    → ((ys : List TreesData) → length ys ≡ len - from → limited range.count ys ≡ take shown ys)
    → in_range range xs ≡ take shown (drop from xs)
within_is range len from shown xs is first shows =
    let same : drop range.from xs ≡ drop from xs = sym (drop_min range.from xs)
    ∙ ap (λ (n : ℕ). drop n xs) (ap (min range.from) is ∙ sym first) in
    ap (limited range.count) same ∙ shows (drop from xs) (length-drop from xs ∙ ap (λ (n : ℕ). n - from) is)

-- the lines of the first entries, and others
pub first_lines : (xs : List TreesData) (k n : ℕ) → k ≤ n
    → entry_lines (take n xs) ≡ entry_lines (take k xs) ++ entry_lines (drop k (take n xs))
first_lines xs k n low =
    ap entry_lines (sym (take-append-drop k (take n xs)) ∙ ap (λ (l : List TreesData). l ++ drop k (take n xs)) (take-take k n xs low))
    ∙ flat_map-append (λ entry. line_of entry ++ 10 ∷ []) (take k xs) (drop k (take n xs))

-- the lines of entries up to one, and from there to another
pub chunk_lines : (xs : List TreesData) (a b c : ℕ) → a ≤ b → b ≤ c
    → entry_lines (slice_range xs a c) ≡ entry_lines (slice_range xs a b) ++ entry_lines (slice_range xs b c)
chunk_lines xs a b c low high =
    let all : (b - a) + (c - b) ≡ c - a = omega arith in
    let next : a + (b - a) ≡ b = omega arith in
    let rest : drop (b - a) (drop a xs) ≡ drop b xs = drop-drop (b - a) a xs ∙ ap (λ (n : ℕ). drop n xs) next in
    let behind : drop (b - a) (take (c - a) (drop a xs)) ≡ slice_range xs b c =
    ap (λ (n : ℕ). drop (b - a) (take n (drop a xs))) (sym all)
    ∙ drop-take (b - a) (c - b) (drop a xs) ∙ ap (λ (l : List TreesData). take (c - b) l) rest in
    first_lines (drop a xs) (b - a) (c - a) (omega arith)
    ∙ ap (λ (l : List TreesData). entry_lines (slice_range xs a b) ++ entry_lines l) behind
