-- The last file of a name.
use Rattle.std.proofs.Common.{◌≡◌, ◌∙◌, ap, sym, ℕ, ◌+◌, ◌-◌, ◌<◌, ◌≤◌, Bool, true, false, cond, List, [], ◌∷◌, ◌++◌, length, get_or, take}
use Rattle.std.proofs.Common.{map, Some, None, arith}
use Rattle.std.proofs.lemmas.List.{reverse-append, take_more}
use Rattle.std.specs.String.{string_bytes}
use Rattle.std.specs.Ordering.{nat_cmp, eq_by_cmp}
use Rattle.std.proofs.Math.Dec.{eqb}
use Rattle.std.specs.Cmp.{unsigned_tied}
use Rattle.std.specs.Cmp.Lexicographic.{slice_cmp, nat_list_cmp_total, pointwise, lists_ties}
use Rattle.std.specs.FinMap as fin
use Rattle.std.specs.FinMap.{get-insert, get-empty}
use Rattle.nt_memory.specs.declared.named.NamedFile.{NamedFile}
use Rattle.nt_memory.specs.Named.{kept, entry, files_of, stored_in}

-- one more file
more : (files : List NamedFile) (f : NamedFile) (name : List ℕ) → stored_in (files ++ f ∷ []) name
    ≡ cond (eq_by_cmp (slice_cmp nat_cmp) name (string_bytes f.name)) (Some (kept f)) (stored_in files name)
more files f name = ap (λ (l : List NamedFile). fin.get {R = slice_cmp nat_cmp} (fin.from_entries (map entry l)) name)
    (reverse-append files (f ∷ [])) ∙ get-insert nat_list_cmp_total (files_of files) (string_bytes f.name) (kept f) name

step : (files : List NamedFile) (i : ℕ) (f : NamedFile) (name : List ℕ) → 0 < i → i ≤ length files → f ≡ get_or files (i - 1) f
    → stored_in (take i files) name ≡ cond (pointwise eqb name (string_bytes f.name)) (Some (kept f)) (stored_in (take (i - 1) files) name)
step files i f name some le is =
    let j = i - 1 in
    let one : i ≡ j + 1 = omega arith in
    ap (λ (k : ℕ). stored_in (take k files) name) one
    ∙ ap (λ (l : List NamedFile). stored_in l name) (take_more files j f (omega arith)
    ∙ ap (λ (x : NamedFile). take j files ++ x ∷ []) (sym is))
    ∙ more (take j files) f name
    ∙ ap (λ (b : Bool). cond b (Some (kept f)) (stored_in (take j files) name))
    (sym (lists_ties {E = eqb} nat_cmp (λ x y. sym (unsigned_tied x y)) name (string_bytes f.name)))

-- the file at a place has the name
pub here : (files : List NamedFile) (i : ℕ) (f : NamedFile) (name text : List ℕ) → 0 < i → i ≤ length files
    → f ≡ get_or files (i - 1) f → text ≡ string_bytes f.name → true ≡ pointwise eqb name text → stored_in (take i files)
    name ≡ Some (kept f)
here files i f name text some le is text-is hit = step files i f name some le is
    ∙ ap (λ (b : Bool). cond b (Some (kept f)) (stored_in (take (i - 1) files) name)) (ap (pointwise eqb name) (sym text-is) ∙ sym hit)

-- it has another
pub before : (files : List NamedFile) (i : ℕ) (f : NamedFile) (name text : List ℕ) → 0 < i → i ≤ length files
    → f ≡ get_or files (i - 1) f → text ≡ string_bytes f.name → false ≡ pointwise eqb name text → stored_in (take i files) name
    ≡ stored_in (take (i - 1) files) name
before files i f name text some le is text-is miss =
    step files i f name some le is ∙ ap (λ (b : Bool). cond b (Some (kept f)) (stored_in (take (i - 1) files) name))
    (ap (pointwise eqb name) (sym text-is) ∙ sym miss)

pub none_left : (files : List NamedFile) (i : ℕ) (name : List ℕ) → i ≤ 0 → None ≡ stored_in (take i files) name
none_left files i name le = let zero_is : i ≡ 0 = omega arith in sym (get-empty (slice_cmp nat_cmp) name)
    ∙ ap (λ (k : ℕ). stored_in (take k files) name) (sym zero_is)
