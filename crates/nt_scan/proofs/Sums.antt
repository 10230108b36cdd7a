-- Columns that are added one after the other.
use Rattle.std.proofs.Common.{get_or-set_other, get_or-set_same}
use Rattle.std.proofs.Math.ListN.{set}
use Rattle.std.proofs.lemmas.Bool.{cases_lt}
use Rattle.std.proofs.Common.{◌≡◌, ◌≢◌, refl, ⊎_elim, ℕ, ◌+◌, ◌<◌, ◌≤◌, List, [], ◌∷◌, ◌++◌, map, length, get_or, ap, subst, ◌∙◌}
use Rattle.std.proofs.Common.{sym, arith}
use Rattle.std.specs.List.{flat_map}
use Rattle.std.proofs.lemmas.List.{map-append, length-set, get_or_default, append_assoc, append-nil}
use Rattle.std.proofs.lemmas.List.Concat.{flat_map-append}
use Rattle.nt_encode.specs.Elements.{Element, numbers}
use Rattle.nt_grammar.specs.Table.{Table}
use Rattle.nt_file_meaning.specs.Clusters.{columns_by_id}
use Rattle.nt_total.specs.declared.running.Running.{Running}
use Rattle.nt_total.specs.Running.{IsSoFar, IsAdded}
use Rattle.nt_total.specs.Totals.{low_of}
use Rattle.nt_scan.specs.Leaves.{column_kind}
use Rattle.nt_scan.specs.Clusters.{column_over}
use Rattle.nt_scan.specs.Steps.{AreAdded, ArePartAdded}

pub part-none : (t : Table) (f : ℕ → List Element) (columns : List ℕ) (old : List Running) → ArePartAdded t f columns 0 old old
part-none t f columns old = record { len = refl; done = λ k d e lt. absurd (omega (arith, lt)); rest = λ k e le. refl }

-- one column more
pub part-next : (t : Table) (f : ℕ → List Element) (columns : List ℕ) (i : ℕ) (old new next : List Running) (y : Running) (d0 : ℕ)
    (e0 : Running)
    → i < length columns → length old ≡ length columns → ArePartAdded t f columns i old new → next ≡ set new i y
    → IsAdded (numbers (f (get_or columns i d0))) (low_of (column_kind t (get_or columns i d0))) (get_or new i e0) y
    → ArePartAdded t f columns (i + 1) old next
part-next t f columns i old new next y d0 e0 lt same p is a =
    let within : i < length new = omega (arith, lt, same, p.len) in
    rw is (record {
      len = length-set new i y ∙ p.len;
      done = λ k d e below. ⊎_elim
          (λ low. let other : k ≢ i = omega arith in rw (get_or-set_other new i k y e other) (p.done k d e low))
          (λ high. let here : k ≡ i = omega (arith, below, high) in
          rw (
            here,
            get_or-set_same new i y e within,
            get_or_default columns i d d0 lt,
            sym (p.rest i e
                (omega arith)),
            get_or_default new i e e0 within,
          ) a)
          (cases_lt k i);
      rest = λ k e le. let other : k ≢ i = omega (arith, le) in get_or-set_other new i k y e other ∙ p.rest k e (omega (arith, le));
    })

-- nothing was added
pub added-none : (t : Table) (columns : List ℕ) (old : List Running) → AreAdded t (column_over []) columns old old
added-none t columns old i d e lt ns so_far =
    subst (λ l. IsSoFar l (low_of (column_kind t (get_or columns i d))) (get_or old i e)) (sym (append-nil ns)) so_far

-- a cluster more
pub added-more : (t : Table) (read : List (List (List Element))) (cs : List (List Element)) (f : ℕ → List Element) (columns : List ℕ)
    (old mid new : List Running) → ((id : ℕ) → f id ≡ columns_by_id cs id) → AreAdded t (column_over read) columns old mid
    → AreAdded t f columns mid new → AreAdded t (column_over (read ++ cs ∷ [])) columns old new
added-more t read cs f columns old mid new same first second i d e lt ns so_far =
    let id = get_or columns i d in
    let low = low_of (column_kind t id) in
    let one = second i d e lt (ns ++ numbers (column_over read id)) (first i d e lt ns so_far) in
    subst (λ l. IsSoFar l low (get_or new i e)) (joined ns (column_over read id) (f id) (column_over (read ++ cs ∷ []) id) (whole id)) one
  where
    whole : (id : ℕ) → column_over (read ++ cs ∷ []) id ≡ column_over read id ++ f id
    whole id =
        flat_map-append (λ columns. columns_by_id columns id) read (cs ∷ [])
        ∙ ap (λ l. column_over read id ++ l) (append-nil (columns_by_id cs id) ∙ sym (same id))

    joined : (ns : List ℕ) (xs ys zs : List Element) → zs ≡ xs ++ ys → (ns ++ numbers xs) ++ numbers ys ≡ ns ++ numbers zs
    joined ns xs ys zs is =
        append_assoc ns (numbers xs) (numbers ys)
        ∙ ap (λ l. ns ++ l) (sym (ap numbers is ∙ map-append (λ (e : Element). e.0) xs ys))
