-- Room that all columns have, and how many elements they have.
use Rattle.std.proofs.Common.{◌≡◌, ℕ, zero, suc, ◌+◌, ◌<◌, ◌≤◌, ◌^◌, ◌⊎◌, inl, inr, true, false, List, [], ◌∷◌, length, take}
use Rattle.std.proofs.Common.{slice_get, Some, refl, sym, ◌∙◌, ap, subst, arith}
use Rattle.std.proofs.Math.ListN.{set}
use Rattle.std.proofs.lemmas.Bool.{cases_Bool, cases_lt}
use Rattle.std.proofs.lemmas.List.{length-map, take_all}
use Rattle.nt_column.specs.Column.{Buffer, columns_of}
use Rattle.nt_trees.specs.Views.{cols_of}
use Rattle.nt_shred.specs.Frame.{Frame, has_narrow, ends_below, capacity_at, HasRoomIn, HasRoomFor}
use Rattle.nt_shred.specs.Places.{lengths_of}
use Rattle.nt_shred.proofs.Sets.{frame-kept, cols-kept}
use Rattle.nt_shred.proofs.LineGrowth.{room-later}

-- any ends can count what ends of 32 bits can
pub below-narrow : (fr : Frame) → 2 ^ 32 ≤ ends_below fr
below-narrow fr = go (cases_Bool (has_narrow fr))
  where
    go : (has_narrow fr ≡ true) ⊎ (has_narrow fr ≡ false) → 2 ^ 32 ≤ ends_below fr
    go (inl is) = let same : ends_below fr ≡ 2 ^ 32 = rw is refl in omega (arith, same)
    go (inr not) = let same : ends_below fr ≡ 2 ^ 64 = rw not refl in omega (arith, same)

-- the first so many columns have room for so many, where these are some
abbrev pub HaveRoom : List Buffer → ℕ → ℕ → Type 0
HaveRoom bs room n = 0 < room → (k : ℕ) → k < n → HasRoomIn bs k room

pub have-next : (now new : List Buffer) (room here next n : ℕ) → columns_of new ≡ columns_of now
    → ((k : ℕ) → capacity_at now k ≤ capacity_at new k) → HaveRoom now room n → (0 < here → HasRoomIn new n here)
    → next ≤ room → next ≤ here → HaveRoom new next (n + 1)
have-next now new room here next n kept more before last low few some k lt = go (cases_lt k n)
  where
    stays : length (cols_of new k) ≡ length (cols_of now k)
    stays = ap (λ c. length (c k)) (cols-kept now new kept)

    go : (k < n) ⊎ (n ≤ k) → HasRoomIn new k next
    go (inl less) =
        let was = before (omega (arith, some, low)) k less in
        record {
          memory = omega (arith, was.memory, stays, more k, low);
          ends = omega (arith, was.ends, stays, low, ap ends_below (frame-kept now new kept));
        }
    go (inr not) =
        let same : n ≡ k = omega (arith, lt, not) in
        let is = last (omega (arith, some, few)) in
        subst (λ j. HasRoomIn new j next) same
        (record { memory = omega (arith, is.memory, few); ends = omega (arith, is.ends, few) })

pub have-all : (bs : List Buffer) (room n : ℕ) → HaveRoom bs room n → 0 < room → length bs ≤ n → HasRoomFor bs room
have-all bs room n have some le = record {
  memory = λ k lt. (have some k (omega (arith, lt, le))).memory;
  ends = λ k lt. (have some k (omega (arith, lt, le))).ends;
}

-- one more is noted
noted-suc : (ms : List ℕ) (bs : List Buffer) (k : ℕ) (b : Buffer) (n : ℕ) → length ms ≡ length bs → slice_get bs k ≡ Some b
    → n ≡ length b.column.elements → take k ms ≡ take k (lengths_of bs) → take (suc k) (set ms k n) ≡ take (suc k) (lengths_of bs)
noted-suc ms [] k b n long at is same = absurd (cc)
noted-suc [] (x ∷ bs) k b n long at is same = absurd (omega (arith, long))
noted-suc (m ∷ ms) (x ∷ bs) zero b n long at is same =
    let here : b ≡ x = cc in
    ap (λ (l : ℕ). l ∷ []) (is ∙ ap (λ (y : Buffer). length y.column.elements) here)
noted-suc (m ∷ ms) (x ∷ bs) (suc k) b n long at is same =
    let first : m ≡ length x.column.elements = cc in
    let others : take k ms ≡ take k (lengths_of bs) = cc in
    ap (λ (l : ℕ). l ∷ take (suc k) (set ms k n)) first
    ∙ ap (λ (l : List ℕ). length x.column.elements ∷ l) (noted-suc ms bs k b n (omega (arith, long)) at is others)

pub noted-next : (ms : List ℕ) (bs : List Buffer) (k : ℕ) (b : Buffer) (n : ℕ) → length ms ≡ length bs → slice_get bs k ≡ Some b
    → n ≡ length b.column.elements → take k ms ≡ take k (lengths_of bs) → take (k + 1) (set ms k n) ≡ take (k + 1) (lengths_of bs)
noted-next ms bs k b n long at is same =
    let up : suc k ≡ k + 1 = omega arith in
    subst (λ j. take j (set ms k n) ≡ take j (lengths_of bs)) up (noted-suc ms bs k b n long at is same)

pub noted-all : (ms : List ℕ) (bs : List Buffer) (n : ℕ) → length ms ≡ length bs → length ms ≤ n → take n ms ≡ take n (lengths_of bs)
    → ms ≡ lengths_of bs
noted-all ms bs n long le same =
    sym (take_all n ms le) ∙ same
    ∙ take_all n (lengths_of bs) (omega (arith, le, long, length-map bs (λ (b : Buffer). length b.column.elements)))

-- what is known to be there is enough for a line
pub room-there : (line : List ℕ) (bs : List Buffer) (room : ℕ) → length line ≤ room → (length line ≡ 0 → ⊥)
    → (0 < room → HasRoomFor bs room) → HasRoomFor bs (length line)
room-there line bs room enough some known =
    room-later bs bs room 0 (length line) refl (λ k. omega arith) (λ k. omega arith) (omega (arith, enough))
    (known (omega (arith, enough, some)))
