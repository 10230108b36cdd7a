-- A file is scanned in one way.
use Rattle.std.proofs.Common.{◌≡◌, ◌⊎◌, ℕ, ◌<◌, ◌≤◌, List, [], ◌∷◌, Option, Some, None, Result, Ok, Err, refl, sym, ap, subst}
use Rattle.std.proofs.Common.{◌∙◌, inl, inr, arith, ⊎_elim}
use Rattle.std.specs.List.{All, Contains}
use Rattle.std.proofs.lemmas.Bool.{cases_lt}
use Rattle.nt_num.specs.declared.fault.ReadError.{ReadError}
use Rattle.nt_lists.proofs.Variants.{ok_is, err_is}
use Rattle.nt_types.specs.TreeData.{TreesData}
use Rattle.nt_encode.specs.Elements.{Element}
use Rattle.nt_grammar.specs.Table.{Table}
use Rattle.nt_pagelists.specs.declared.cluster.ClusterList.{ClusterList}
use Rattle.nt_file_meaning.specs.Outlines.{Outline, outline_of}
use Rattle.nt_file_meaning.specs.Files.{HasDefect, read_file}
use Rattle.nt_scan.specs.declared.error.ScanError.TheVariants.{TooMany, Defect}
use Rattle.nt_scan.specs.Leaves.{leaves_of, leaf_columns}
use Rattle.nt_scan.specs.Counts.{HasFewEnough, IsFirstTooMany, column_counted}
use Rattle.nt_scan.specs.Clusters.{columns_over}
use Rattle.nt_scan.specs.Scans.{ScansAs}
use Rattle.nt_scan.proofs.Meaning.{over-means}

-- a column can't be counted and have too many
counted-once : (o : Outline) (c r : ℕ) → HasFewEnough o c → column_counted o c ≡ Err r → ⊥
counted-once o c r fits over =
    let bad = sym fits.1 ∙ over in
    cc

at : (P : ℕ → Type 0) (cs : List ℕ) (c : ℕ) → All P cs → Contains cs c → P c
at P cs c all in-it = subst P in-it.2 (all in-it.0 c in-it.1)

none-or-one : (o : Outline) (cs : List ℕ) (found : ℕ × ℕ) → IsFirstTooMany o cs None → IsFirstTooMany o cs (Some found) → ⊥
none-or-one o cs found none one = counted-once o found.0 found.1 (at (λ c. HasFewEnough o c) cs found.0 none one.0) one.1

lowest-once : (o : Outline) (cs : List ℕ) (c r d q : ℕ) → IsFirstTooMany o cs (Some (c, r)) → IsFirstTooMany o cs (Some (d, q)) → r ≡ q
lowest-once o cs c r d q one two = ⊎_elim
    (λ lt. absurd (counted-once o c r (at (λ e. e < d → HasFewEnough o e) cs c two.2 one.0 lt) one.1))
    (λ ge. ⊎_elim
    (λ lt. absurd (counted-once o d q (at (λ e. e < c → HasFewEnough o e) cs d one.2 two.0 lt) two.1))
    (λ le. let same : c ≡ d = omega (arith, ge, le) in
    err-is r q (sym one.1 ∙ ap (column_counted o) same ∙ two.1))
    (cases_lt d c))
    (cases_lt c d)
  where
    err-is : (x y : ℕ) → ◌≡◌ {A = Result ℕ ℕ} (Err x) (Err y) → x ≡ y
    err-is x y e = cc

one-outline : (file : List ℕ) (o p : Outline) → outline_of file ≡ Ok o → outline_of file ≡ Ok p → o ≡ p
one-outline file o p is here = ok_is o p (sym is ∙ here)

-- lines, or a fault
pub lines-no_defect : (file : List ℕ) (lines : List ℕ) (e : ReadError) → ScansAs file (Ok lines) → ScansAs file (Err (Defect e)) → ⊥
lines-no_defect file lines e scanned faulty = over-means file scanned.0 scanned.3.1.0 e scanned.2 scanned.3.1.1 faulty.0

-- lines, or too many elements
pub lines-not_over : (file : List ℕ) (lines : List ℕ) (c r : ℕ) → ScansAs file (Ok lines) → ScansAs file (Err (TooMany c r)) → ⊥
lines-not_over file lines c r scanned over =
    let same = one-outline file over.0 scanned.0 over.1 scanned.2 in
    none-or-one scanned.0 (leaf_columns (leaves_of scanned.0.table)) (c, r) scanned.3.0
    (subst (λ (o : Outline). IsFirstTooMany o (leaf_columns (leaves_of o.table)) (Some (c, r))) same over.2)

-- a fault, or too many elements
pub defect-not_over : (file : List ℕ) (e : ReadError) (c r : ℕ) → ScansAs file (Err (Defect e)) → ScansAs file (Err (TooMany c r)) → ⊥
defect-not_over file e c r faulty over =
    none-or-one over.0 (leaf_columns (leaves_of over.0.table)) (c, r) (faulty.1 over.0 over.1) over.2

-- few elements, or too many
pub few-not_over : (file : List ℕ) (c r : ℕ)
    → ((o : Outline) → outline_of file ≡ Ok o → IsFirstTooMany o (leaf_columns (leaves_of o.table)) None)
    → ScansAs file (Err (TooMany c r)) → ⊥
few-not_over file c r few over = none-or-one over.0 (leaf_columns (leaves_of over.0.table)) (c, r) (few over.0 over.1) over.2

-- one count is the first above
pub over-once : (file : List ℕ) (c r d q : ℕ) → ScansAs file (Err (TooMany c r)) → ScansAs file (Err (TooMany d q)) → r ≡ q
over-once file c r d q one two =
    let same = one-outline file two.0 one.0 two.1 one.1 in
    lowest-once one.0 (leaf_columns (leaves_of one.0.table)) c r d q one.2
    (subst (λ (o : Outline). IsFirstTooMany o (leaf_columns (leaves_of o.table)) (Some (d, q))) same two.2)

-- one fault is the first
pub defect-once : (file : List ℕ) (e f : ReadError) → ScansAs file (Err (Defect e)) → ScansAs file (Err (Defect f)) → e ≡ f
defect-once file e f one two = err_is e f (sym one.0 ∙ two.0)

-- a file that has lines means a schema and entries
pub lines-mean : (file lines : List ℕ) → ScansAs file (Ok lines)
    → (read : Table × List (List TreesData)) × (read_file file ≡ Ok read)
lines-mean file lines scanned = by_reading (read_file file) refl
  where
    by_reading : (r : Result (Table × List (List TreesData)) ReadError) → read_file file ≡ r
        → (read : Table × List (List TreesData)) × (read_file file ≡ Ok read)
    by_reading (Ok read) is = (read, is)
    by_reading (Err e) is = absurd (over-means file scanned.0 scanned.3.1.0 e scanned.2 scanned.3.1.1 is)
