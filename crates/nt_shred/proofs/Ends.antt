-- Ends that the columns of ends can hold.
use Rattle.std.proofs.Common.{◌≡◌, ℕ, zero, suc, ◌+◌, ◌<◌, ◌≤◌, ◌^◌, ◌||◌, Bool, true, false, List, [], ◌∷◌, length, drop, slice_get, Some}
use Rattle.std.proofs.Common.{refl, sym, ◌∙◌, ap, subst, arith, inl, inr, ◌⊎◌}
use Rattle.std.proofs.lemmas.Bool.{cases_Bool, cases_lt, false≢true}
use Rattle.nt_types.specs.declared.column_type.ColumnType.{ColumnType}
use Rattle.nt_types.specs.declared.column_type.ColumnType.TheVariants.{Index32, Index64, SplitIndex32, SplitIndex64, Switch}
use Rattle.nt_types.specs.ColumnTable.{bits_of}
use Rattle.nt_column.specs.Column.{Buffer, columns_of, TakesNumber}
use Rattle.nt_plans.specs.Types.{is_index_type}
use Rattle.nt_trees.specs.Views.{cols_of}
use Rattle.nt_shred.specs.Frame.{Frame, set_frame, IsEnds, is_narrow, has_narrow, ends_below, capacity_at, HasRoomIn, HasRoomFor}
use Rattle.nt_shred.proofs.Sets.{framed, capacity-here, columns-kept, cols-kept, frame-kept, elements-at, get-within}
use Rattle.std.proofs.Math.ListN.{set}

narrow-found : (fr : Frame) (k : ℕ) (c : ColumnType × ℕ) → slice_get fr k ≡ Some c → is_narrow c.0 ≡ true → has_narrow fr ≡ true
narrow-found [] k c at is = absurd (cc)
narrow-found (x ∷ fr) zero c at is =
    let same : x ≡ c = cc in
    let narrow : is_narrow x.0 ≡ true = ap (λ (y : ColumnType × ℕ). is_narrow y.0) same ∙ is in rw narrow refl
narrow-found (x ∷ fr) (suc k) c at is = or_true (is_narrow x.0) (has_narrow fr) (narrow-found fr k c at is)
  where
    or_true : (a b : Bool) → b ≡ true → (a || b) ≡ true
    or_true true b h = refl
    or_true false b h = h

ends_below-narrow : (fr : Frame) (n : ℕ) → has_narrow fr ≡ true → n < ends_below fr → n < 2 ^ 32
ends_below-narrow fr n is h = let same : ends_below fr ≡ 2 ^ 32 = rw is refl in omega (arith, h, same)

ends_below-wide : (fr : Frame) (n : ℕ) → n < ends_below fr → n < 2 ^ 64
ends_below-wide fr n h = go (cases_Bool (has_narrow fr))
  where
    go : (has_narrow fr ≡ true) ⊎ (has_narrow fr ≡ false) → n < 2 ^ 64
    go (inl is) = let low = ends_below-narrow fr n is h in omega (arith, low)
    go (inr not) = let same : ends_below fr ≡ 2 ^ 64 = rw not refl in omega (arith, h, same)

end-fits : (fr : Frame) (c : ColumnType) (n : ℕ) → is_index_type c ≡ true → (is_narrow c ≡ true → has_narrow fr ≡ true)
    → n < ends_below fr → n < 2 ^ bits_of c
end-fits fr Index32 n index narrow h = ends_below-narrow fr n (narrow refl) h
end-fits fr SplitIndex32 n index narrow h = ends_below-narrow fr n (narrow refl) h
end-fits fr Index64 n index narrow h = ends_below-wide fr n h
end-fits fr SplitIndex64 n index narrow h = ends_below-wide fr n h
end-fits fr _ n index narrow h = absurd (false≢true index)

end-fits-at : (bs : List Buffer) (k : ℕ) (b : Buffer) (n : ℕ) → IsEnds (set_frame bs) k → slice_get bs k ≡ Some b
    → n < ends_below (set_frame bs) → n < 2 ^ bits_of b.column.kind
end-fits-at bs k b n e at h =
    let same = (framed bs k b e.0 0 at e.1).0 in
    subst (λ c. n < 2 ^ bits_of c) (sym same) (end-fits (set_frame bs) e.0 n e.2
    (λ narrow. narrow-found (set_frame bs) k (e.0, 0) e.1 narrow) h)

ends-other : (c : ColumnType) → is_index_type c ≡ true → c ≡ Switch → ⊥
ends-other c index is = false≢true (sym (ap is_index_type is) ∙ index)

pub ends-take : (bs : List Buffer) (k : ℕ) (b : Buffer) (n : ℕ) → IsEnds (set_frame bs) k → slice_get bs k ≡ Some b
    → n < ends_below (set_frame bs) → TakesNumber b.column n
ends-take bs k b n e at h =
    let same = framed bs k b e.0 0 at e.1 in
    record {
      other = λ is. ends-other e.0 e.2 (sym same.0 ∙ is);
      stored = same.1;
      fits = end-fits-at bs k b n e at h;
    }

-- ---- whether some are narrow, a column at a time

drop-get : (bs : List Buffer) (k : ℕ) (b : Buffer) → slice_get bs k ≡ Some b → drop k bs ≡ b ∷ drop (suc k) bs
drop-get [] k b at = absurd (cc)
drop-get (x ∷ bs) zero b at = let same : x ≡ b = cc in ap (λ (y : Buffer). y ∷ bs) same
drop-get (x ∷ bs) (suc k) b at = drop-get bs k b at

pub narrow-step : (bs : List Buffer) (k : ℕ) (b : Buffer) → slice_get bs k ≡ Some b → has_narrow (set_frame (drop k bs))
    ≡ (is_narrow b.column.kind || has_narrow (set_frame (drop (k + 1) bs)))
narrow-step bs k b at =
    let next : suc k ≡ k + 1 = omega arith in
    ap (λ l. has_narrow (set_frame l)) (drop-get bs k b at) ∙ ap (λ n. is_narrow b.column.kind || has_narrow (set_frame (drop n bs))) next

pub narrow-here : (bs : List Buffer) (k : ℕ) (b : Buffer) → slice_get bs k ≡ Some b → is_narrow b.column.kind ≡ true
    → has_narrow (set_frame (drop k bs)) ≡ true
narrow-here bs k b at is = narrow-step bs k b at ∙ ap (λ x. x || has_narrow (set_frame (drop (k + 1) bs))) is

pub narrow-later : (bs : List Buffer) (k : ℕ) (b : Buffer) → slice_get bs k ≡ Some b → is_narrow b.column.kind ≡ false
    → has_narrow (set_frame (drop k bs)) ≡ has_narrow (set_frame (drop (k + 1) bs))
narrow-later bs k b at is = narrow-step bs k b at ∙ ap (λ x. x || has_narrow (set_frame (drop (k + 1) bs))) is

-- ---- room that is made, a column at a time

-- so many columns have room for more
pub record AreGrown (start now : List Buffer) (more n : ℕ) : Type 0 where
  pub same : columns_of now ≡ columns_of start
  pub memory : (k : ℕ) → k < n → length (cols_of now k) + more ≤ capacity_at now k
  pub ends : (k : ℕ) → k < n → length (cols_of now k) + more < ends_below (set_frame start)

pub grown-next : (start now new : List Buffer) (more n : ℕ) → AreGrown start now more n → columns_of new ≡ columns_of now
    → ((k : ℕ) → capacity_at now k ≤ capacity_at new k) → HasRoomIn new n more → AreGrown start new more (n + 1)
grown-next start now new more n g kept le here = record {
  same = kept ∙ g.same;
  memory = λ k h. step (λ k. length (cols_of new k) + more ≤ capacity_at new k)
      (λ k less. omega (arith, g.memory k less, stays k, le k)) here.memory k h;
  ends = λ k h. step (λ k. length (cols_of new k) + more < ends_below (set_frame start))
      (λ k less. omega (arith, g.ends k less, stays k))
      (omega (arith, here.ends, ap ends_below (frame-kept start new (kept ∙ g.same)))) k h;
}
  where
    stays : (k : ℕ) → length (cols_of new k) ≡ length (cols_of now k)
    stays k = ap (λ c. length (c k)) (cols-kept now new kept)

    step : (P : ℕ → Type 0) → ((k : ℕ) → k < n → P k) → P n → (k : ℕ) → k < n + 1 → P k
    step P before last k h = go (cases_lt k n)
      where
        go : (k < n) ⊎ (n ≤ k) → P k
        go (inl less) = before k less
        go (inr not) = let same : n ≡ k = omega (arith, h, not) in subst P same last

-- one column has more room, and no column has changed
pub grown-one : (bs : List Buffer) (k more : ℕ) (b new : Buffer) → slice_get bs k ≡ Some b → new.column ≡ b.column
    → more ≤ new.spare → length b.column.elements + more < ends_below (set_frame bs) → HasRoomIn (set bs k new) k more
grown-one bs k more b new at is room low = record {
  memory = omega (arith, stays, here, room, capacity-here bs k new (get-within bs k b at), ap (λ c. length c.elements) is);
  ends = omega (arith, stays, here, low, ap ends_below (frame-kept bs (set bs k new) (columns-kept bs k b new at is)));
}
  where
    stays : length (cols_of (set bs k new) k) ≡ length (cols_of bs k)
    stays = ap (λ c. length (c k)) (cols-kept bs (set bs k new) (columns-kept bs k b new at is))

    here : length (cols_of bs k) ≡ length b.column.elements
    here = ap length (elements-at bs k b at)

pub grown-ends : (start now : List Buffer) (more n : ℕ) → AreGrown start now more n → length now ≤ n → HasRoomFor now more
grown-ends start now more n g le = record {
  memory = λ k h. g.memory k (omega (arith, h, le));
  ends = λ k h. omega (arith, g.ends k (omega (arith, h, le)), ap ends_below (frame-kept start now g.same));
}
