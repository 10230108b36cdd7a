-- Rows in range, behind rows in range.
use Rattle.std.proofs.Common.{◌≡◌, ℕ, suc, ◌+◌, ◌<◌, ◌≤◌, List, [], ◌∷◌, ◌++◌, length, take, drop, refl, sym, subst, arith}
use Rattle.std.specs.List.{AllByRecursion}
use Rattle.std.proofs.lemmas.List.{length-append, take-append-le, drop-append-le, take-append-drop, take_all}
use Rattle.nt_grammar.specs.declared.rows.FieldRow.{FieldRow}
use Rattle.nt_grammar.specs.declared.rows.ColumnRow.{ColumnRow}
use Rattle.nt_grammar.specs.declared.part.Part.{Part}
use Rattle.nt_grammar.specs.declared.part.Part.TheVariants.{Header, Extension}
use Rattle.nt_grammar.specs.Table.{Table}
use Rattle.nt_grammar.specs.Reading.{extended}
use Rattle.nt_grammar.specs.ReadingBack.{AreFieldRows, IsColumnRow, IsDescribed, AddsRows}

AreFieldRows-append : (id : ℕ) (rs ss : List FieldRow) → AreFieldRows id rs → AreFieldRows (id + length rs) ss → AreFieldRows id (rs ++ ss)
AreFieldRows-append id [] ss are more =
    let same : id + 0 ≡ id = omega arith in
    subst (λ (k : ℕ). AreFieldRows k ss) same more
AreFieldRows-append id (r ∷ rs) ss are more =
    let same : id + suc (length rs) ≡ suc id + length rs = omega arith in
    (are.0, AreFieldRows-append (suc id) rs ss are.1 (subst (λ (k : ℕ). AreFieldRows k ss) same more))

pub each-append : (n : ℕ) (cs ds : List ColumnRow) → AllByRecursion (IsColumnRow n) cs → AllByRecursion (IsColumnRow n) ds
    → AllByRecursion (IsColumnRow n) (cs ++ ds)
each-append n [] ds p q = q
each-append n (c ∷ cs) ds p q = (p.0, each-append n cs ds p.1 q)

-- columns of some fields are columns of more
each-weaker : (n m : ℕ) (cs : List ColumnRow) → n ≤ m → AllByRecursion (IsColumnRow n) cs → AllByRecursion (IsColumnRow m) cs
each-weaker n m [] le p = tt
each-weaker n m (c ∷ cs) le p =
    let is = p.0 in
    let lt : c.field < m = omega (arith, is.field) in (
      record {
        code = is.code;
        bits = is.bits;
        field = lt;
        word = is.word;
        flags = is.flags;
        representation = is.representation;
        first = is.first;
        none = is.none;
      },
      each-weaker n m cs le p.1,
    )

pub drop_all : {X : Type 0} (xs : List X) → drop (length xs) xs ≡ []
drop_all [] = refl
drop_all (x ∷ xs) = drop_all xs

-- all columns are of the fields that there are
pub columns-of : (t : Table) → IsDescribed t → AllByRecursion (IsColumnRow (length t.fields)) t.columns
columns-of t is =
    subst (AllByRecursion (IsColumnRow (length t.fields))) (take-append-drop t.header_columns t.columns)
    (each-append (length t.fields) (take t.header_columns t.columns) (drop t.header_columns t.columns)
    (each-weaker t.header_fields (length t.fields) (take t.header_columns t.columns) is.header_fields is.header) is.extension)

extended-described : (part : Part) (t : Table) (fields : List FieldRow) (columns : List ColumnRow) → AreFieldRows (length t.fields) fields
    → AllByRecursion (IsColumnRow (length (t.fields ++ fields))) columns → IsDescribed t
    → IsDescribed (extended part t (t.fields ++ fields) (t.columns ++ columns))
extended-described Header t fields columns ids owners is =
    let more : length t.fields ≤ length (t.fields ++ fields) = omega (arith, length-append t.fields fields) in
    let none : 0 + length t.fields ≡ length t.fields = omega arith in
    let n = length (t.fields ++ fields) in
    let all = each-append n t.columns columns (each-weaker (length t.fields) n t.columns more (columns-of t is)) owners in
    record {
      fields = AreFieldRows-append 0 t.fields fields is.fields (subst (λ (k : ℕ). AreFieldRows k fields) (sym none) ids);
      header = subst (AllByRecursion (IsColumnRow n))
          (sym (take_all (length (t.columns ++ columns)) (t.columns ++ columns) (omega arith))) all;
      extension = subst (AllByRecursion (IsColumnRow n)) (sym (drop_all (t.columns ++ columns))) tt;
      header_fields = omega arith;
      header_columns = omega arith;
    }
extended-described Extension t fields columns ids owners is =
    let more : length t.fields ≤ length (t.fields ++ fields) = omega (arith, length-append t.fields fields) in
    let many : length t.columns ≤ length (t.columns ++ columns) = omega (arith, length-append t.columns columns) in
    let none : 0 + length t.fields ≡ length t.fields = omega arith in
    let n = length (t.fields ++ fields) in
    record {
      fields = AreFieldRows-append 0 t.fields fields is.fields (subst (λ (k : ℕ). AreFieldRows k fields) (sym none) ids);
      header = subst (AllByRecursion (IsColumnRow t.header_fields))
          (sym (take-append-le t.header_columns t.columns columns is.header_columns)) is.header;
      extension = subst (AllByRecursion (IsColumnRow n)) (sym (drop-append-le t.header_columns t.columns columns is.header_columns))
          (each-append n (drop t.header_columns t.columns) columns
          (each-weaker (length t.fields) n (drop t.header_columns t.columns) more is.extension) owners);
      header_fields = omega (arith, is.header_fields);
      header_columns = omega (arith, is.header_columns);
    }

pub AddsRows-described : (part : Part) (t read : Table) → AddsRows part t read → IsDescribed t → IsDescribed read
AddsRows-described part t read adds is =
    subst IsDescribed (sym adds.rows) (extended-described part t adds.fields adds.columns adds.ids adds.owners is)
