-- The lines of leaves, one by one.
use Rattle.std.proofs.Common.{◌≡◌, ℕ, ◌+◌, ◌<◌, ◌≤◌, List, [], ◌∷◌, ◌++◌, map, length, take, get_or, slice_get, option_map}
use Rattle.std.proofs.Common.{Option, Some, refl, sym, ap, subst, ◌∙◌, arith}
use Rattle.std.specs.List.{flat_map}
use Rattle.std.proofs.lemmas.List.{append-nil, take_more, take_all, map_push, length-take-le}
use Rattle.std.proofs.lemmas.List.Concat.{flat_map-append}
use Rattle.std.proofs.lemmas.Option.{slice_get-map, get_or_from_slice_get}
use Rattle.nt_types.specs.TreeData.{TreesData}
use Rattle.nt_event.specs.Json.{line_of}
use Rattle.nt_grammar.specs.Table.{Table}
use Rattle.nt_grammar.specs.declared.rows.FieldRow.{FieldRow}
use Rattle.nt_total.specs.declared.total.Total.{Total}
use Rattle.nt_scan.specs.declared.leaf.Leaf.{Leaf}
use Rattle.nt_scan.specs.Leaves.{leaf_columns}
use Rattle.nt_scan.specs.Scans.{field_names, total_told, totals_told, scan_lines}

-- the name of a field
pub name-at : (rows : List FieldRow) (id : ℕ) (row : FieldRow) → slice_get rows id ≡ Some row → get_or (field_names rows) id [] ≡ row.name
name-at rows id row is =
    get_or_from_slice_get (field_names rows) id row.name []
    (slice_get-map (λ (r : FieldRow). r.name) rows id ∙ ap (λ o. option_map (λ (r : FieldRow). r.name) o) is)

told-push : (t : Table) (ls : List Leaf) (xs : List Total) (l : Leaf) (x : Total) → length xs ≡ length ls
    → totals_told t (ls ++ l ∷ []) (xs ++ x ∷ []) ≡ totals_told t ls xs ++ total_told t l x ∷ []
told-push t [] [] l x same = refl
told-push t [] (y ∷ xs) l x same = absurd (omega (arith, same))
told-push t (k ∷ ls) [] l x same = absurd (omega (arith, same))
told-push t (k ∷ ls) (y ∷ xs) l x same = ap (λ told. total_told t k y ∷ told) (told-push t ls xs l x (omega (arith, same)))

-- one line more
pub lines-more : (t : Table) (leaves : List Leaf) (totals : List Total) (i : ℕ) (d : Leaf) (e : Total) → i < length leaves
    → length totals ≡ length leaves
    → scan_lines t (take (i + 1) leaves) (take (i + 1) totals)
    ≡ scan_lines t (take i leaves) (take i totals) ++ (line_of (total_told t (get_or leaves i d) (get_or totals i e)) ++ 10 ∷ [])
lines-more t leaves totals i d e lt same =
    let f = λ (told : TreesData). line_of told ++ 10 ∷ [] in
    let l = get_or leaves i d in
    let x = get_or totals i e in
    let within : i < length totals = omega (arith, lt, same) in
    let len : length (take i totals) ≡ length (take i leaves) =
    length-take-le i totals (omega (arith, within)) ∙ sym (length-take-le i leaves (omega (arith, lt))) in
    rw (take_more leaves i d lt, take_more totals i e within)
    (ap (flat_map f) (told-push t (take i leaves) (take i totals) l x len)
    ∙ flat_map-append f (totals_told t (take i leaves) (take i totals)) (total_told t l x ∷ [])
    ∙ ap (λ rest. scan_lines t (take i leaves) (take i totals) ++ rest) (append-nil (f (total_told t l x))))

pub lines-all : (t : Table) (leaves : List Leaf) (totals : List Total) (i : ℕ) → length leaves ≤ i → length totals ≡ length leaves
    → scan_lines t (take i leaves) (take i totals) ≡ scan_lines t leaves totals
lines-all t leaves totals i past same = rw (take_all i leaves past, take_all i totals (omega (arith, past, same))) refl

pub lines-next : (t : Table) (leaves : List Leaf) (totals : List Total) (i : ℕ) (d : Leaf) (e : Total) (told : TreesData)
    (lines more : List ℕ)
    → i < length leaves → length totals ≡ length leaves → told ≡ total_told t (get_or leaves i d) (get_or totals i e)
    → more ≡ lines ++ (line_of told ++ 10 ∷ []) → lines ≡ scan_lines t (take i leaves) (take i totals)
    → more ≡ scan_lines t (take (i + 1) leaves) (take (i + 1) totals)
lines-next t leaves totals i d e told lines more lt same is pushed so_far =
    pushed
    ∙ ap (λ l. l ++ (line_of told ++ 10 ∷ [])) so_far
    ∙ ap (λ (x : TreesData). scan_lines t (take i leaves) (take i totals) ++ (line_of x ++ 10 ∷ [])) is
    ∙ sym (lines-more t leaves totals i d e lt same)
