-- Fronts and backs of the ranges of clusters, and where the last of them ends.
use Rattle.std.proofs.Common.{◌≡◌, ℕ, zero, suc, ◌+◌, ◌<◌, List, [], ◌∷◌, map, length, take, drop, refl}
use Rattle.std.proofs.Common.{ap, ◌∙◌, arith}
use Rattle.std.specs.Prelude.{slice_index_or}
use Rattle.std.specs.List.{concat}
use Rattle.std.proofs.lemmas.List.{length-append}
use Rattle.std.proofs.lemmas.List.Sums.{sum_by-cons}
use Rattle.nt_lists.specs.Parts.{Part, part_bytes}
use Rattle.nt_machine.specs.History.{Cluster}
use Rattle.nt_machine.specs.Legal.{spans_of}
use Rattle.nt_machine.specs.Spans.{Span, AreBehindSpans}
use Rattle.nt_book.specs.declared.meta.ClusterMeta.{ClusterMeta}
use Rattle.nt_book.specs.Books.{no_cluster}
use Rattle.nt_book.specs.Listing.{spans_len}
use Rattle.nt_layout.specs.Groups.{range_end}
use Rattle.nt_layout.specs.Finished.{range_parts}
use Rattle.nt_finished.proofs.Arranged.{parts_len}

pub range_parts-take : (n : ℕ) (cs : List (Cluster ClusterMeta)) (ranges : List (List ℕ)) → length ranges ≡ length cs
    → take n (range_parts cs ranges) ≡ range_parts (take n cs) (take n ranges)
range_parts-take zero cs ranges same = refl
range_parts-take (suc n) [] ranges same = refl
range_parts-take (suc n) (c ∷ cs) [] same = absurd (omega (arith, same))
range_parts-take (suc n) (c ∷ cs) (r ∷ ranges) same =
    ap (λ (ps : List Part). record { place = c.start; bytes = r } ∷ ps) (range_parts-take n cs ranges (omega (arith, same)))

pub range_parts-drop : (n : ℕ) (cs : List (Cluster ClusterMeta)) (ranges : List (List ℕ)) → length ranges ≡ length cs
    → drop n (range_parts cs ranges) ≡ range_parts (drop n cs) (drop n ranges)
range_parts-drop zero cs ranges same = refl
range_parts-drop (suc n) [] ranges same = refl
range_parts-drop (suc n) (c ∷ cs) [] same = absurd (omega (arith, same))
range_parts-drop (suc n) (c ∷ cs) (r ∷ ranges) same = range_parts-drop n cs ranges (omega (arith, same))

pub length-range_parts : (cs : List (Cluster ClusterMeta)) (ranges : List (List ℕ)) → length ranges ≡ length cs
    → length (range_parts cs ranges) ≡ length cs
length-range_parts [] ranges same = refl
length-range_parts (c ∷ cs) [] same = absurd (omega (arith, same))
length-range_parts (c ∷ cs) (r ∷ ranges) same = omega (arith, length-range_parts cs ranges (omega (arith, same)))

pub take-all : {A : Type 0} (n : ℕ) (xs : List A) → n ≡ length xs → take n xs ≡ xs
take-all zero [] is = refl
take-all zero (x ∷ xs) is = absurd (omega (arith, is))
take-all (suc n) [] is = absurd (omega (arith, is))
take-all (suc n) (x ∷ xs) is = ap (λ (l : List _). x ∷ l) (take-all n xs (omega (arith, is)))

pub drop-all : {A : Type 0} (n : ℕ) (xs : List A) → n ≡ length xs → drop n xs ≡ []
drop-all zero [] is = refl
drop-all zero (x ∷ xs) is = absurd (omega (arith, is))
drop-all (suc n) [] is = absurd (omega (arith, is))
drop-all (suc n) (x ∷ xs) is = drop-all n xs (omega (arith, is))

pub index-drop : (k j : ℕ) (cs : List (Cluster ClusterMeta)) → slice_index_or (drop k cs) j no_cluster
    ≡ slice_index_or cs (k + j) no_cluster
index-drop zero j cs = ap (λ (i : ℕ). slice_index_or cs i no_cluster) (omega arith)
index-drop (suc k) j [] = refl
index-drop (suc k) j (c ∷ cs) =
    let same : suc (k + j) ≡ suc k + j = omega arith in
    index-drop k j cs ∙ ap (λ (i : ℕ). slice_index_or (c ∷ cs) i no_cluster) same

pub index-take : (n j : ℕ) (cs : List (Cluster ClusterMeta)) → j < n
    → slice_index_or (take n cs) j no_cluster ≡ slice_index_or cs j no_cluster
index-take zero j cs less = absurd (omega (arith, less))
index-take (suc n) j [] less = refl
index-take (suc n) zero (c ∷ cs) less = refl
index-take (suc n) (suc j) (c ∷ cs) less = index-take n j cs (omega (arith, less))

-- ranges behind one another have so many bytes
pub spans-len : (cs : List (Cluster ClusterMeta)) (ranges : List (List ℕ))
    → map length ranges ≡ map (λ (c : Cluster ClusterMeta). c.len) cs → parts_len (range_parts cs ranges) ≡ spans_len (spans_of cs)
spans-len [] ranges lens = refl
spans-len (c ∷ cs) [] lens = cc
spans-len (c ∷ cs) (r ∷ ranges) lens =
    let here : length r ≡ c.len = cc in
    let rest : map length ranges ≡ map (λ (d : Cluster ClusterMeta). d.len) cs = cc in
    omega (
      arith,
      here,
      length-append r (concat (part_bytes (range_parts cs ranges))),
      spans-len cs ranges rest,
      sum_by-cons (λ (s : Span). s.len) (record { start = c.start; len = c.len }) (spans_of cs),
    )

-- the last one ends behind them
pub last-end : (place m : ℕ) (cs : List (Cluster ClusterMeta)) → AreBehindSpans place (spans_of cs) → length cs ≡ suc m
    → range_end (slice_index_or cs m no_cluster) ≡ place + spans_len (spans_of cs)
last-end place m [] h is = absurd (omega (arith, is))
last-end place zero (c ∷ []) h is =
    omega (arith, h.0, sum_by-cons (λ (s : Span). s.len) (record { start = c.start; len = c.len }) [])
last-end place (suc m) (c ∷ []) h is = absurd (omega (arith, is))
last-end place zero (c ∷ d ∷ cs) h is = absurd (omega (arith, is))
last-end place (suc m) (c ∷ d ∷ cs) h is =
    omega (
      arith,
      last-end (place + c.len) m (d ∷ cs) h.1 (omega (arith, is)),
      sum_by-cons (λ (s : Span). s.len) (record { start = c.start; len = c.len }) (spans_of (d ∷ cs)),
    )
