-- The columns of a schema's plans have the types of their values.
use Rattle.std.proofs.Common.{◌≡◌, ℕ, zero, suc, ◌==◌, true, if◌then◌else◌, List, [], ◌∷◌, slice_get, Some, refl, sym, ◌∙◌, ap, arith}
use Rattle.std.proofs.lemmas.Bool.{and_parts, eqb-true}
use Rattle.nt_types.specs.declared.column_type.ColumnType.{ColumnType}
use Rattle.nt_types.specs.declared.column_type.ColumnType.TheVariants.{Bit, Byte, Char, Int8, UInt8, Int16, UInt16, Int32, UInt32, Int64}
use Rattle.nt_types.specs.declared.column_type.ColumnType.TheVariants.{UInt64, Index32, Index64, Switch, SplitInt16, SplitUInt16}
use Rattle.nt_types.specs.declared.column_type.ColumnType.TheVariants.{SplitInt32, SplitUInt32, SplitInt64, SplitUInt64, SplitIndex32}
use Rattle.nt_types.specs.declared.column_type.ColumnType.TheVariants.{SplitIndex64}
use Rattle.nt_types.specs.ColumnTable.{code_of, bits_of}
use Rattle.nt_column.specs.Column.{Buffer, columns_of}
use Rattle.nt_grammar.specs.declared.rows.ColumnRow.{ColumnRow}
use Rattle.nt_plans.specs.Plan.{PlanData, PlansData, bool, number, text, list, maybe, record_of, choice, no_plans, plan}
use Rattle.nt_plans.specs.Types.{IsOfType, HasTypes, AllHaveTypes}
use Rattle.nt_trees.specs.Described.{AreDescribed, are_stored}
use Rattle.nt_shred.specs.Frame.{set_frame, Takes, AllTake}

-- the type of a code
abbrev of_code : ℕ → ColumnType
of_code n = if n == 0 then Bit else if n == 1 then Byte else if n == 2 then Char else if n == 3 then Int8 else if n == 4 then UInt8
    else if n == 5 then Int16 else if n == 6 then UInt16 else if n == 7 then Int32 else if n == 8 then UInt32 else if n == 9 then Int64
    else if n == 10 then UInt64 else if n == 14 then Index32 else if n == 15 then Index64 else if n == 16 then Switch
    else if n == 17 then SplitInt16 else if n == 18 then SplitUInt16 else if n == 19 then SplitInt32 else if n == 20 then SplitUInt32
    else if n == 21 then SplitInt64 else if n == 22 then SplitUInt64 else if n == 26 then SplitIndex32 else SplitIndex64

of_code-code : (t : ColumnType) → of_code (code_of t) ≡ t
of_code-code Bit = refl
of_code-code Byte = refl
of_code-code Char = refl
of_code-code Int8 = refl
of_code-code UInt8 = refl
of_code-code Int16 = refl
of_code-code UInt16 = refl
of_code-code Int32 = refl
of_code-code UInt32 = refl
of_code-code Int64 = refl
of_code-code UInt64 = refl
of_code-code Index32 = refl
of_code-code Index64 = refl
of_code-code Switch = refl
of_code-code SplitInt16 = refl
of_code-code SplitUInt16 = refl
of_code-code SplitInt32 = refl
of_code-code SplitUInt32 = refl
of_code-code SplitInt64 = refl
of_code-code SplitUInt64 = refl
of_code-code SplitIndex32 = refl
of_code-code SplitIndex64 = refl

same-type : (c t : ColumnType) → code_of c ≡ code_of t → c ≡ t
same-type c t is = sym (of_code-code c) ∙ ap of_code is ∙ of_code-code t

-- the column of a row is of its type, and stored
column-of : (bs : List Buffer) (rows : List ColumnRow) (k : ℕ) (row : ColumnRow) → AreDescribed (columns_of bs) rows
    → are_stored (columns_of bs) ≡ true → slice_get rows k ≡ Some row
    → (c : ColumnType) × (slice_get (set_frame bs) k ≡ Some (c, 0)) × (code_of c ≡ row.code)
column-of bs [] k row d s at = absurd (cc)
column-of [] (r ∷ rows) k row d s at = absurd (cc)
column-of (b ∷ bs) (r ∷ rows) zero row d s at =
    let q = and_parts (b.column.zeros == 0) (are_stored (columns_of bs)) s in
    let same : r ≡ row = cc in
    let head : code_of b.column.kind ≡ r.code = cc in
    let none : b.column.zeros ≡ 0 = eqb-true b.column.zeros 0 q.0 in
    (b.column.kind, ap (λ (n : ℕ). Some (b.column.kind, n)) none, head ∙ ap (λ (x : ColumnRow). x.code) same)
column-of (b ∷ bs) (r ∷ rows) (suc k) row d s at =
    let q = and_parts (b.column.zeros == 0) (are_stored (columns_of bs)) s in
    let tail : AreDescribed (columns_of bs) rows = cc in
    column-of bs rows k row tail q.1 at

module _ (bs : List Buffer) (rows : List ColumnRow) (d : AreDescribed (columns_of bs) rows) (s : are_stored (columns_of bs) ≡ true) where
  typed : (k : ℕ) (t : ColumnType) → IsOfType rows k t → slice_get (set_frame bs) k ≡ Some (t, 0)
  typed k t is =
      let c = column-of bs rows k is.row d s is.is_there in
      c.1 ∙ ap (λ (x : ColumnType). Some (x, 0)) (same-type c.0 t (c.2 ∙ is.code))

  mutual
    pub typed-takes : (p : PlanData) → HasTypes rows p → Takes p (set_frame bs)
    typed-takes (bool k) h = (Bit, typed k Bit h, (λ e. absurd (omega (arith, ap bits_of e))), refl)
    typed-takes (number k bits signed) h = ((h.of, typed k h.of h.type_is, h.no_tags, h.width), h.is_width)
    typed-takes (text e c) h = (
      (h.0.of, typed e h.0.of h.0.type_is, h.0.is_index),
      (Char, typed c Char h.1, (λ e. absurd (omega (arith, ap bits_of e))), refl),
    )
    typed-takes (list e p) h = ((h.0.of, typed e h.0.of h.0.type_is, h.0.is_index), typed-takes p h.1)
    typed-takes (maybe e p) h = ((h.0.of, typed e h.0.of h.0.type_is, h.0.is_index), typed-takes p h.1)
    typed-takes (record_of ps) h = (h.0, all-typed-take ps h.1)
    typed-takes (choice k ps) h = (typed k Switch h.0, all-typed-take ps h.2)

    pub all-typed-take : (ps : PlansData) → AllHaveTypes rows ps → AllTake ps (set_frame bs)
    all-typed-take no_plans h = tt
    all-typed-take (plan p ps) h = (typed-takes p h.0, all-typed-take ps h.1)
