-- Columns of the table that become zeros.
use Rattle.std.proofs.Common.{◌≡◌, ℕ, ◌+◌, ◌<◌, eq-eqb, ne_eqb, List, length, set, drop, get_or, sym, ap, ◌∙◌, ⊎_elim}
use Rattle.std.proofs.lemmas.List.{drop_more, get_or-set_same, get_or-set_other}
use Rattle.nt_view.specs.declared.page_place.ZeroColumn.{ZeroColumn}
use Rattle.nt_view.specs.declared.table.Held.{Held}
use Rattle.nt_view.specs.declared.table.Held.TheVariants.{Zeros}
use Rattle.nt_view.specs.Loaded.{zeros_listed}
use Rattle.nt_view.specs.Table.{held_at, zeros_held, AreZeros, HasSamePages}
use Rattle.nt_view.proofs.Held.{decide}

-- one column more that is listed
pub zero-step : (zs : List ZeroColumn) (i k : ℕ) (d : ZeroColumn) (before filled : List Held) → i < length zs
    → held_at filled k ≡ held_at before k → (get_or zs i d).column < length filled
    → zeros_listed 0 k zs ≡ zeros_listed (zeros_held (held_at before k)) k (drop i zs)
    → zeros_listed 0 k zs
    ≡ zeros_listed (zeros_held (held_at (set filled (get_or zs i d).column (Zeros (get_or zs i d).count)) k)) k (drop (i + 1) zs)
zero-step zs i k d before filled lt same there so_far =
    let z = get_or zs i d in
    so_far ∙ ap (λ (l : List ZeroColumn). zeros_listed (zeros_held (held_at before k)) k l) (drop_more zs i d lt)
    ∙ ap (λ (n : ℕ). zeros_listed n k (drop (i + 1) zs)) (⊎_elim
    (λ (is : z.column ≡ k).
    rw (eq-eqb z.column k is)
    (sym (ap zeros_held (ap (λ (m : ℕ). held_at (set filled z.column (Zeros z.count)) m) (sym is)
    ∙ get_or-set_same filled z.column (Zeros z.count) (Zeros 0) there))))
    (λ (other : z.column ≡ k → ⊥).
    rw (ne_eqb z.column k other)
    (sym (ap zeros_held (get_or-set_other filled z.column k (Zeros z.count) (Zeros 0) (λ is. other (sym is)) ∙ same))))
    (decide z.column k))

-- its pages are as before, for it has none
pub pages-step : (k c n : ℕ) (first before filled : List Held) → AreZeros (held_at first c) → held_at filled k ≡ held_at before k
    → c < length filled → HasSamePages (held_at first k) (held_at before k)
    → HasSamePages (held_at first k) (held_at (set filled c (Zeros n)) k)
pages-step k c n first before filled (m, none) same there so_far = ⊎_elim
    (λ (is : c ≡ k).
    rw (sym is, none) (n, get_or-set_same filled c (Zeros n) (Zeros 0) there))
    (λ (other : c ≡ k → ⊥).
    rw (get_or-set_other filled c k (Zeros n) (Zeros 0) (λ is. other (sym is)), same) so_far)
    (decide c k)
