use Rattle.std.proofs.Common.{◌≡◌, ℕ, ◌+◌, ◌≤◌, ◌++◌, ◌∷◌, [], ◌∙◌, List, length, map, take, get_or, slice_get, Some, sym, ap, arith}
use Rattle.std.specs.Option.{option_map}
use Rattle.std.proofs.lemmas.Option.{slice_get-map, slice_get_within, get_or_from_slice_get}
use Rattle.std.proofs.lemmas.List.{map_more, take_all, length-map}
use Rattle.nt_types.specs.ColumnTable.{code_of}
use Rattle.nt_grammar.specs.declared.rows.ColumnRow.{ColumnRow}
use Rattle.nt_column.specs.Column.{Column, Buffer, columns_of}
use Rattle.nt_trees.specs.Described.{AreDescribed}
use Rattle.test_tables.proofs.tests.images.describes.Goals as goal

-- one column more is of its type
described-next : (bs : List Buffer) (rows : List ColumnRow) (k : ℕ) (b : Buffer) (r : ColumnRow) → slice_get bs k ≡ Some b
    → slice_get rows k ≡ Some r
    → code_of b.column.kind ≡ r.code → AreDescribed (take k (columns_of bs)) (take k rows)
    → AreDescribed (take (k + 1) (columns_of bs)) (take (k + 1) rows)
described-next bs rows k b r column row same so_far =
    let at : slice_get (columns_of bs) k ≡ Some b.column = slice_get-map (λ (x : Buffer). x.column) bs k
    ∙ ap (option_map (λ (x : Buffer). x.column)) column in
    let first = map_more (λ (c : Column). code_of c.kind) (columns_of bs) k b.column (slice_get_within (columns_of bs) k b.column at) in
    let second = map_more (λ (x : ColumnRow). x.code) rows k r (slice_get_within rows k r row) in
    let left : get_or (columns_of bs) k b.column ≡ b.column = get_or_from_slice_get (columns_of bs) k b.column b.column at in
    let right : get_or rows k r ≡ r = get_or_from_slice_get rows k r r row in
    let item : code_of (get_or (columns_of bs) k b.column).kind ≡ (get_or rows k r).code =
    ap (λ (c : Column). code_of c.kind) left ∙ (same ∙ sym (ap (λ (x : ColumnRow). x.code) right)) in
    first ∙ (ap (λ (xs : List ℕ). xs ++ code_of (get_or (columns_of bs) k b.column).kind ∷ []) so_far
    ∙ (ap (λ (n : ℕ). map (λ (x : ColumnRow). x.code) (take k rows) ++ n ∷ []) item ∙ sym second))

described-all : (cs : List Column) (rows : List ColumnRow) (k : ℕ) → length cs ≤ k → length rows ≤ k
    → AreDescribed (take k cs) (take k rows) → AreDescribed cs rows
described-all cs rows k columns all so_far =
    ap (map (λ (c : Column). code_of c.kind)) (sym (take_all k cs columns))
    ∙ (so_far ∙ ap (map (λ (x : ColumnRow). x.code)) (take_all k rows all))

pub loop-k-preserved : goal.loop-k-preserved
loop-k-preserved c =
    described-next c.args.columns.now c.args.schema.now.columns c.loop-k.k _ _ c.column.ensures c.column-in-loop-k.ensures
    (ap code_of (sym c.kind.ensures) ∙ (sym c.code.ensures ∙ c.if-code-column.false)) c.loop-k.invariant

pub returns : goal.returns
returns c = λ _.
    let count : length (columns_of c.args.columns.now) ≡ length c.args.columns.now =
    length-map c.args.columns.now (λ (b : Buffer). b.column) in
    described-all (columns_of c.args.columns.now) c.args.schema.now.columns c.loop-k.k (omega arith) (omega arith) c.loop-k.invariant
