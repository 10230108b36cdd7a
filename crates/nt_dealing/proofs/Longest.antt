-- The file of all chunks is no shorter than that of some.
use Rattle.std.proofs.Common.{◌≡◌, ◌∙◌, ap, sym, refl, inl, inr, ℕ, zero, suc, ◌+◌, ◌*◌, ◌<◌, ◌≤◌, Bool, true, false, List, [], ◌∷◌}
use Rattle.std.proofs.Common.{◌++◌, length, map, sum_by, arith}
use Rattle.std.specs.Prelude.{nat_lt}
use Rattle.std.specs.Int.{div_ceil}
use Rattle.std.specs.List.{AllZip}
use borrow.Author.Tests.{ltb-true, ltb-false}
use Rattle.std.proofs.Math.Nat.{mul-le-mul_left, mul-le-mul_right, add-mul}
use Rattle.std.proofs.lemmas.Grind.{div_ceil_times}
use Rattle.std.proofs.lemmas.List.{length-append, map-append}
use Rattle.std.proofs.lemmas.List.Sums.{sum_by-append}
use Rattle.nt_types.specs.ShapeData.{MemberData}
use Rattle.nt_types.specs.TreeData.{TreesData}
use Rattle.nt_types.specs.ColumnTable.{code_of}
use Rattle.nt_types.specs.declared.column_type.ColumnType.{ColumnType}
use Rattle.nt_grammar.specs.declared.rows.ColumnRow.{ColumnRow}
use Rattle.nt_grammar.specs.Columns.{column_types}
use Rattle.nt_grammar.specs.Rows.{NodeData, Rows, column_row, column_rows}
use Rattle.nt_grammar.specs.Table.{Table}
use Rattle.nt_container.specs.Lengths.{anchor_part_len, key_list_part_len, free_list_part_len}
use Rattle.nt_book.specs.declared.meta.ClusterMeta.{ClusterMeta}
use Rattle.nt_column.specs.Column.{Column, elements_at}
use Rattle.nt_pages.specs.Metas.{cluster_meta}
use Rattle.nt_plans.specs.Place.{open_plans}
use Rattle.nt_trees.specs.Columns.{Cols}
use Rattle.nt_trees.specs.Described.{are_stored}
use Rattle.nt_layout.specs.Headers.{clusters_place}
use Rattle.nt_dealing.specs.Lengths.{page_list_len, page_lists_len, listed_cluster_len, group_count, footer_len, whole_len}
use Rattle.nt_dealing.specs.Limits.{AreKeptOf, put_entries, WouldBeKeptOf, IsCountedOf}

-- more clusters make no fewer groups
groups-grow : (n a b : ℕ) → 0 < n → a ≤ b → div_ceil a n ≤ div_ceil b n
groups-grow n a b some le = at (nat_lt (div_ceil b n) (div_ceil a n)) refl
  where
    at : (c : Bool) → nat_lt (div_ceil b n) (div_ceil a n) ≡ c → div_ceil a n ≤ div_ceil b n
    at true e =
        let p = div_ceil a n in
        let q = div_ceil b n in
        let less : q + 1 ≤ p = omega (arith, ltb-true q p e) in
        let more : (q + 1) * n ≤ p * n = mul-le-mul_right n less in
        let parts : (q + 1) * n ≡ q * n + 1 * n = add-mul q 1 n in
        let few = (div_ceil_times a n some).1 in
        let enough = (div_ceil_times b n some).0 in
        absurd (omega arith)
    at false e = ltb-false (div_ceil b n) (div_ceil a n) e

-- more groups make no shorter footer
footer-grows : (t : Table) (g h : ℕ) → g ≤ h → footer_len t g ≤ footer_len t h
footer-grows t g h le = let listed : 48 * g ≤ 48 * h = mul-le-mul_left 48 le in omega (arith, listed)

-- more clusters have no shorter page lists
pub lists-grow : (most : ℕ) (xs ys : List ClusterMeta) → 0 < most → page_lists_len most xs ≤ page_lists_len most (xs ++ ys)
lists-grow most xs ys some =
    both-grow (page_list_len [] * group_count most (length xs)) (page_list_len [] * group_count most (length (xs ++ ys)))
    (sum_by listed_cluster_len xs) (sum_by listed_cluster_len (xs ++ ys))
    (mul-le-mul_left (page_list_len []) (groups-grow most (length xs) (length (xs ++ ys)) some (omega (arith, length-append xs ys))))
    (omega (arith, sum_by-append listed_cluster_len xs ys))
  where
    both-grow : (a b c d : ℕ) → a ≤ b → c ≤ d → a + c ≤ b + d
    both-grow a b c d one two = omega (arith, one, two)

parts-grow : (a b b' c c' e e' f : ℕ) → b ≤ b' → c ≤ c' → e ≤ e' → a + b + c + e + f ≤ a + b' + c' + e' + f
parts-grow a b b' c c' e e' f one two three = omega (arith, one, two, three)

-- a file of more clusters is no shorter
pub whole-grows : (t : Table) (most : ℕ) (xs ys : List ClusterMeta) → 0 < most → whole_len t most xs ≤ whole_len t most (xs ++ ys)
whole-grows t most xs ys some =
    let len : ClusterMeta → ℕ = λ (m : ClusterMeta). m.len in
    parts-grow (clusters_place t) (sum_by len xs) (sum_by len (xs ++ ys)) (page_lists_len most xs) (page_lists_len most (xs ++ ys))
    (footer_len t (group_count most (length xs))) (footer_len t (group_count most (length (xs ++ ys))))
    (anchor_part_len + key_list_part_len + free_list_part_len) (omega (arith, sum_by-append len xs ys)) (lists-grow most xs ys some)
    (footer-grows t (group_count most (length xs)) (group_count most (length (xs ++ ys)))
    (groups-grow most (length xs) (length (xs ++ ys)) some (omega (arith, length-append xs ys))))

-- the types of the columns of fields
abbrev types_of : Bool → List NodeData → List ColumnType
types_of plain [] = []
types_of plain (n ∷ ns) = column_types plain n.of ++ types_of plain ns

row-codes : (id : ℕ) (kinds : List ColumnType) → map (λ (r : ColumnRow). r.code) (map (column_row id) kinds) ≡ map code_of kinds
row-codes id [] = refl
row-codes id (kind ∷ kinds) = ap (λ (l : List ℕ). code_of kind ∷ l) (row-codes id kinds)

types-codes : (plain : Bool) (id : ℕ) (ns : List NodeData)
    → map code_of (types_of plain ns) ≡ map (λ (r : ColumnRow). r.code) (column_rows plain id ns)
types-codes plain id [] = refl
types-codes plain id (n ∷ ns) =
    map-append code_of (column_types plain n.of) (types_of plain ns)
    ∙ ((λ i. sym (row-codes id (column_types plain n.of)) i ++ types-codes plain (id + 1) ns i)
    ∙ sym (map-append (λ (r : ColumnRow). r.code) (map (column_row id) (column_types plain n.of)) (column_rows plain (id + 1) ns)))

-- columns of these types, from this number on, that have these elements
abbrev filled : ℕ → Cols → List ColumnType → List Column
filled k cols [] = []
filled k cols (kind ∷ kinds) = record { kind = kind; elements = cols k; zeros = 0 } ∷ filled (suc k) cols kinds

filled-codes : (k : ℕ) (cols : Cols) (kinds : List ColumnType)
    → map (λ (c : Column). code_of c.kind) (filled k cols kinds) ≡ map code_of kinds
filled-codes k cols [] = refl
filled-codes k cols (kind ∷ kinds) = ap (λ (l : List ℕ). code_of kind ∷ l) (filled-codes (suc k) cols kinds)

filled-stored : (k : ℕ) (cols : Cols) (kinds : List ColumnType) → are_stored (filled k cols kinds) ≡ true
filled-stored k cols [] = refl
filled-stored k cols (kind ∷ kinds) = filled-stored (suc k) cols kinds

filled-at : (from k : ℕ) (cols : Cols) (kinds : List ColumnType) → k < length (filled from cols kinds)
    → elements_at (filled from cols kinds) k ≡ cols (from + k)
filled-at from k cols [] less = absurd (omega (arith, less))
filled-at from zero cols (kind ∷ kinds) less = let here : from ≡ from + 0 = omega arith in ap cols here
filled-at from (suc k) cols (kind ∷ kinds) less =
    let next : suc from + k ≡ from + suc k = omega arith in
    filled-at (suc from) k cols kinds (omega (arith, less)) ∙ ap cols next

module _ (fields : List MemberData) (plain : Bool) (t : Table) (rows : Rows fields plain t) (page : ℕ) where
  -- what would be kept of a chunk
  module _ (chunk : List TreesData) where
    abbrev cols : Cols
    cols = put_entries (open_plans t) chunk (λ j. [])

    abbrev columns : List Column
    columns = filled 0 cols (types_of plain rows.nodes)

    abbrev would-be : ClusterMeta
    would-be = cluster_meta page 0 (length chunk) columns

    would-be-kept : WouldBeKeptOf t page chunk would-be
    would-be-kept = record {
      columns = columns;
      set = record {
        described = filled-codes 0 cols (types_of plain rows.nodes)
            ∙ (types-codes plain 0 rows.nodes ∙ ap (λ (l : List ColumnRow). map (λ (r : ColumnRow). r.code) l) (sym rows.columns_by_field));
        stored = filled-stored 0 cols (types_of plain rows.nodes);
      };
      put = λ k less. filled-at 0 k cols (types_of plain rows.nodes) less ∙ (let same : 0 + k ≡ k = omega arith in ap cols same);
      meta_is = refl;
    }

  -- chunks of which something is kept, and others
  counted-with : (some : List (List TreesData)) (metas : List ClusterMeta) (others : List (List TreesData)) → AreKeptOf t page some metas
      → AllZip (IsCountedOf t page) (some ++ others) (metas ++ map would-be others)
  counted-with [] [] [] kept = tt
  counted-with [] [] (x ∷ others) kept = (inr (would-be-kept x), counted-with [] [] others kept)
  counted-with [] (m ∷ metas) others kept = absurd kept
  counted-with (x ∷ some) [] others kept = absurd kept
  counted-with (x ∷ some) (m ∷ metas) others kept = (inl kept.0, counted-with some metas others kept.1)

  -- the file of all of them
  pub longest : (most : ℕ) (some others : List (List TreesData)) (metas : List ClusterMeta) → 0 < most → AreKeptOf t page some metas
      → (all : List ClusterMeta) × AllZip (IsCountedOf t page) (some ++ others) all × (whole_len t most metas ≤ whole_len t most all)
  longest most some others metas few kept =
      (metas ++ map would-be others, counted-with some metas others kept, whole-grows t most metas (map would-be others) few)
