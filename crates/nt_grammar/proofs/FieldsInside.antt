-- The fields inside of a field, of rows one behind the other.
use Rattle.std.proofs.Common.{ℕ, suc, ◌≡◌, ◌<◌, ◌+◌, List, [], ◌∷◌, ◌++◌, length, take, sym, ap, ◌∙◌, ◌==◌, if◌then◌else◌, append_assoc}
use Rattle.std.proofs.Common.{add-one, add-zero, zero-add, arith}
use Rattle.std.proofs.lemmas.List.{length-take-le, append-nil}
use Rattle.std.proofs.Math.Seq.{take-suc}
use Rattle.std.proofs.Math.ListN.{get_or}
use Rattle.std.specs.Prelude.{◌&&◌, not}
use Rattle.nt_grammar.specs.declared.rows.FieldRow.{FieldRow}
use Rattle.nt_grammar.specs.Open.{ids_inside}

-- the id of this field, if it lies in that one
abbrev pub one_inside : ℕ → ℕ → FieldRow → List ℕ
one_inside parent id r = if (r.parent == parent) && not (id == parent) then id ∷ [] else []

pub ids_inside-append : (parent id : ℕ) (rows more : List FieldRow)
    → ids_inside parent id (rows ++ more) ≡ ids_inside parent id rows ++ ids_inside parent (id + length rows) more
ids_inside-append parent id [] more = ap (λ (i : ℕ). ids_inside parent i more) (sym (add-zero id))
ids_inside-append parent id (q ∷ rows) more =
    let next : (id + 1) + length rows ≡ id + suc (length rows) = omega arith in
    let later : ids_inside parent (id + 1) (rows ++ more)
    ≡ ids_inside parent (id + 1) rows ++ ids_inside parent (id + suc (length rows)) more =
    rw next at (ids_inside-append parent (id + 1) rows more) in
    ap (λ (z : List ℕ). one_inside parent id q ++ z) later
    ∙ sym (append_assoc (one_inside parent id q) (ids_inside parent (id + 1) rows) (ids_inside parent (id + suc (length rows)) more))

ids_inside-snoc : (parent id : ℕ) (rows : List FieldRow) (r : FieldRow)
    → ids_inside parent id (rows ++ r ∷ []) ≡ ids_inside parent id rows ++ one_inside parent (id + length rows) r
ids_inside-snoc parent id rows r = ids_inside-append parent id rows (r ∷ [])
    ∙ ap (λ (z : List ℕ). ids_inside parent id rows ++ z) (append-nil (one_inside parent (id + length rows) r))

-- the fields inside of a field, one field further
pub ids_inside_next : (rows : List FieldRow) (i : ℕ) (r : FieldRow) (parent : ℕ) → i < length rows → r ≡ get_or rows i r
    → ids_inside parent 0 (take (i + 1) rows) ≡ ids_inside parent 0 (take i rows) ++ one_inside parent i r
ids_inside_next rows i r parent h is =
    let cut : take (i + 1) rows ≡ take i rows ++ r ∷ [] = ap (λ (k : ℕ). take k rows) (add-one i)
    ∙ (take-suc rows i r h ∙ ap (λ (z : FieldRow). take i rows ++ z ∷ []) (sym is)) in
    let len : length (take i rows) ≡ i = length-take-le i rows (omega arith) in
    let one : ids_inside parent 0 (take i rows ++ r ∷ [])
    ≡ ids_inside parent 0 (take i rows) ++ one_inside parent (0 + length (take i rows)) r = ids_inside-snoc parent 0 (take i rows) r in
    let one' : ids_inside parent 0 (take i rows ++ r ∷ []) ≡ ids_inside parent 0 (take i rows) ++ one_inside parent i r =
    rw (zero-add, len) at one in
    ap (λ (z : List FieldRow). ids_inside parent 0 z) cut ∙ one'
