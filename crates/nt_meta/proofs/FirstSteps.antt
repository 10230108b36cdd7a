-- Where the columns that a cluster doesn't list begin.
use Rattle.std.proofs.Common.{◌≡◌, ◌≢◌, ℕ, suc, ◌+◌, ◌-◌, ◌<◌, ◌≤◌, ◌^◌, List, [], ◌∷◌, ◌++◌, length, take, drop, refl, sym, ap, subst, ◌∙◌}
use Rattle.std.proofs.Common.{arith, drop-cons, replicate, inl, inr}
use Rattle.std.specs.Prelude.{slice_index_or, slice_set}
use Rattle.nt_pagelists.specs.declared.column.KnownColumn.{KnownColumn}
use Rattle.nt_pagelists.specs.Columns.{least_first}
use Rattle.std.proofs.lemmas.Bool.{cases_lt}
use Rattle.std.proofs.lemmas.List.{get_or-set_same, get_or-set_other, drop_all, take_all, get_or-replicate, get_or_read_under}

set-first : (columns : List KnownColumn) (firsts : List ℕ) (id least j : ℕ) (d : KnownColumn) → id < length columns
    → length firsts ≡ length columns + 1 → least ≡ least_first (slice_index_or columns id d ∷ drop (id + 1) columns)
    → id ≡ j → slice_index_or (slice_set firsts id least) j 0 ≡ least_first (drop j columns)
set-first columns firsts id least j d lt len is same =
    let next : suc id ≡ id + 1 = omega arith in
    let there : drop id columns ≡ slice_index_or columns id d ∷ drop (id + 1) columns =
    drop-cons columns id d lt ∙ ap (λ (n : ℕ). slice_index_or columns id d ∷ drop n columns) next in
    subst (λ (i : ℕ). slice_index_or (slice_set firsts id least) i 0 ≡ least_first (drop i columns)) same
    (get_or-set_same firsts id least 0 (omega arith) ∙ (is ∙ ap least_first (sym there)))

pub firsts-next : (columns : List KnownColumn) (firsts : List ℕ) (done id before least : ℕ) (d : KnownColumn)
    → ((j : ℕ) → length columns ≤ j + done → j ≤ length columns → slice_index_or firsts j 0 ≡ least_first (drop j columns))
    → done < length columns → id ≡ length columns - 1 - done → length firsts ≡ length columns + 1
    → before ≡ slice_index_or firsts (id + 1) before → ((cs : List KnownColumn) → before ≡ least_first cs → least
    ≡ least_first (slice_index_or columns id d ∷ cs))
    → (j : ℕ) → length columns ≤ j + (done + 1) → j ≤ length columns → slice_index_or (slice_set firsts id least) j 0
    ≡ least_first (drop j columns)
firsts-next columns firsts done id before least d each lt is len was step j low high =
    elim (cases_lt id j) [
      | inl past ↦
          let ne : j ≢ id = λ (e : j ≡ id). omega (arith, e, past) in
          get_or-set_other firsts id j least 0 ne ∙ each j (omega arith) high
      | inr le ↦ set-first columns firsts id least j d (omega arith) len
          (step (drop (id + 1) columns) (get_or_read_under firsts (id + 1) (length firsts) before 0 was (omega arith) refl
          ∙ each (id + 1) (omega arith) (omega arith))) (omega arith)
    ]

-- none is set yet
pub firsts-start : (columns : List KnownColumn) (firsts : List ℕ) → firsts ≡ replicate (length columns + 1) (2 ^ 64 - 1)
    → (j : ℕ) → length columns ≤ j + 0 → j ≤ length columns → slice_index_or firsts j 0 ≡ least_first (drop j columns)
firsts-start columns firsts e j low high =
    ap (λ (l : List ℕ). slice_index_or l j 0) e ∙ (get_or-replicate (length columns + 1) j (2 ^ 64 - 1) 0 (omega arith)
    ∙ sym (ap least_first (drop_all j columns (omega arith))))

abbrev none_of : List ℕ
none_of = []

pub resized : (n len : ℕ) (old firsts : List ℕ) → old ≡ [] → len ≡ 0 → firsts ≡ take n old ++ replicate (n - len) (2 ^ 64 - 1)
    → firsts ≡ replicate n (2 ^ 64 - 1)
resized n len old firsts none zero_is e =
    let all : n - len ≡ n = omega (arith, zero_is) in
    e ∙ (ap (λ (l : List ℕ). take n l ++ replicate (n - len) (2 ^ 64 - 1)) none
    ∙ (ap (λ (l : List ℕ). l ++ replicate (n - len) (2 ^ 64 - 1)) (take_nil n) ∙ ap (λ (k : ℕ). replicate k (2 ^ 64 - 1)) all))
  where
    take_nil : (n : ℕ) → take n [] ≡ none_of
    take_nil n = take_all n none_of (omega arith)

pub ruleset first_steps = (firsts-next, firsts-start)
