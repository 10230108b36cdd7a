-- Page lists that stand each behind the last cluster of its group, while the book grows behind them.
use Rattle.std.proofs.Common.{◌≡◌, ◌∙◌, ap, sym, refl, subst, ℕ, zero, suc, ◌+◌, ◌<◌, ◌≤◌, List, [], ◌∷◌, ◌++◌, length, map, take, drop}
use Rattle.std.proofs.Common.{Option, Some, None, arith}
use Rattle.std.specs.Prelude.{IfSome}
use Rattle.std.specs.List.{sum_by}
use Rattle.std.proofs.lemmas.List.{length-drop, take-append-drop, drop-map}
use Rattle.std.proofs.lemmas.List.Sums.{sum_by-append, sum_by-cons}
use Rattle.nt_lists.specs.Parts.{Part}
use Rattle.nt_machine.specs.History.{Cluster, ranges_of}
use Rattle.nt_machine.specs.Legal.{spans_of, ranges_end}
use Rattle.nt_machine.specs.Spans.{Span, AreBehindSpans}
use Rattle.nt_book.specs.declared.list.NotedList.{NotedList}
use Rattle.nt_book.specs.declared.list.Tear.{Tear}
use Rattle.nt_book.specs.declared.meta.ClusterMeta.{ClusterMeta}
use Rattle.nt_book.specs.Books.{BookData, book_ranges, book_end}
use Rattle.nt_book.specs.Kept.{IsBookKept}
use Rattle.nt_book.specs.Listing.{AreBeside, clusters_listed, group_size, lists_bytes, spans_len, torn_bytes}
use Rattle.nt_pagelists.specs.Staying.{without_fate}
use Rattle.nt_commit.specs.Lists.{AreBehindGroups, AreNoted}

-- where ranges end doesn't show what became of them
fateless : (place : ℕ) (cs : List (Cluster ClusterMeta)) → ranges_end place (map without_fate cs) ≡ ranges_end place cs
fateless place [] = refl
fateless place (c ∷ cs) = fateless (c.start + c.len) cs

same-end : (place : ℕ) (cs ds : List (Cluster ClusterMeta)) → map without_fate cs ≡ map without_fate ds
    → ranges_end place cs ≡ ranges_end place ds
same-end place cs ds is = sym (fateless place cs) ∙ (ap (ranges_end place) is ∙ fateless place ds)

module _ (sum most begin : ℕ) where
  -- the lists stand where they did, if the clusters before them do
  pub behind-same : (book : BookData) (n : ℕ) (old new : List (Cluster ClusterMeta))
      → ((k : ℕ) → k ≤ n → map without_fate (take k new) ≡ map without_fate (take k old))
      → (from : ℕ) (ls : List NotedList) (ps : List Part) → from + clusters_listed most ls ≤ n → AreNoted sum most book from ls ps
      → AreBehindGroups most begin old from ps → AreBehindGroups most begin new from ps
  behind-same book n old new same from [] [] le noted h = tt
  behind-same book n old new same from [] (p ∷ ps) le noted h = absurd noted
  behind-same book n old new same from (l ∷ ls) [] le noted h = tt
  behind-same book n old new same from (l ∷ ls) (p ∷ ps) le noted h = (
    h.0 ∙ sym (same-end begin (take (from + most) new) (take (from + most) old) (same (from + most) (omega (arith, le)))),
    behind-same book n old new same (from + most) ls ps (omega (arith, le)) noted.1 h.1,
  )

  -- one list more
  pub behind-snoc : (book : BookData) (cs : List (Cluster ClusterMeta)) (from : ℕ) (ls : List NotedList) (ps : List Part) (p : Part)
      → AreNoted sum most book from ls ps → AreBehindGroups most begin cs from ps
      → p.place ≡ ranges_end begin (take (from + clusters_listed most ls + most) cs) → AreBehindGroups most begin cs from (ps ++ p ∷ [])
  behind-snoc book cs from [] [] p noted h is =
      (is ∙ ap (λ (k : ℕ). ranges_end begin (take k cs)) (omega arith), tt)
  behind-snoc book cs from [] (q ∷ qs) p noted h is = absurd noted
  behind-snoc book cs from (l ∷ ls) [] p noted h is = absurd noted
  behind-snoc book cs from (l ∷ ls) (q ∷ qs) p noted h is = (
    h.0,
    behind-snoc book cs (from + most) ls qs p noted.1 h.1 (is ∙ ap (λ (k : ℕ). ranges_end begin (take k cs)) (omega arith)),
  )

-- ---- where the book ends that is due a list

bytes-of : (cs : List (Cluster ClusterMeta)) → spans_len (spans_of cs) ≡ sum_by (λ (c : Cluster ClusterMeta). c.len) cs
bytes-of [] = refl
bytes-of (c ∷ cs) =
    omega (
      arith,
      bytes-of cs,
      sum_by-cons (λ (s : Span). s.len) (record { start = c.start; len = c.len }) (spans_of cs),
      sum_by-cons (λ (d : Cluster ClusterMeta). d.len) c cs,
    )

halves : (n : ℕ) (spans : List Span) → spans_len (take n spans) + spans_len (drop n spans) ≡ spans_len spans
halves n spans = sym (sum_by-append (λ (s : Span). s.len) (take n spans) (drop n spans)) ∙ ap spans_len (take-append-drop n spans)

end-behind : (place : ℕ) (cs : List (Cluster ClusterMeta)) → AreBehindSpans place (spans_of cs)
    → ranges_end place cs ≡ place + spans_len (spans_of cs)
end-behind place [] h = omega arith
end-behind place (c ∷ cs) h =
    let first : ranges_end (c.start + c.len) cs ≡ ranges_end (place + c.len) cs = ap (λ (n : ℕ). ranges_end (n + c.len) cs) h.0 in
    omega (
      arith,
      first,
      end-behind (place + c.len) cs h.1,
      sum_by-cons (λ (s : Span). s.len) (record { start = c.start; len = c.len }) (spans_of cs),
    )

-- the last range of some ends the same, wherever those before it end
end-last : (n a b : ℕ) (cs : List (Cluster ClusterMeta)) → n < length cs → ranges_end a cs ≡ ranges_end b (drop n cs)
end-last zero a b [] less = absurd (omega (arith, less))
end-last zero a b (c ∷ cs) less = refl
end-last (suc n) a b [] less = absurd (omega (arith, less))
end-last (suc n) a b (c ∷ cs) less = end-last n (c.start + c.len) b cs (omega (arith, less))

end-beside : (most place : ℕ) (ls : List NotedList) (cs : List (Cluster ClusterMeta)) → clusters_listed most ls < length cs
    → AreBeside place most ls (spans_of cs) → ranges_end place cs ≡ place + spans_len (spans_of cs) + lists_bytes ls
end-beside most place [] cs less h = omega (arith, end-behind place cs h)
end-beside most place (l ∷ ls) cs less h =
    let back : drop most (spans_of cs) ≡ spans_of (drop most cs) =
    drop-map (λ (c : Cluster ClusterMeta). record { start = c.start; len = c.len }) most cs in
    let next = place + spans_len (take most (spans_of cs)) + l.len in
    let rest = end-beside most next ls (drop most cs) (omega (arith, less, length-drop most cs))
    (subst (λ (s : List Span). AreBeside next most ls s) back h.1) in
    omega (
      arith,
      rest,
      end-last most place next cs (omega (arith, less)),
      halves most (spans_of cs),
      ap spans_len back,
      sum_by-cons (λ (k : NotedList). k.len) l ls,
    )

take-all : {A : Type 0} (n : ℕ) (xs : List A) → n ≡ length xs → take n xs ≡ xs
take-all zero [] is = refl
take-all zero (x ∷ xs) is = absurd (omega (arith, is))
take-all (suc n) [] is = absurd (omega (arith, is))
take-all (suc n) (x ∷ xs) is = ap (λ (l : List _). x ∷ l) (take-all n xs (omega (arith, is)))

-- a book whose last group is full, and has no list yet, ends with the last cluster of it
pub due-ends : (b : BookData) (g : ℕ × ℕ) → IsBookKept b → b.group ≡ Some g → b.torn ≡ None
    → length (book_ranges b) ≡ clusters_listed g.0 b.lists + g.0
    → book_end b
    ≡ ranges_end b.begin (take (0 + clusters_listed (group_size b.group) b.lists + group_size b.group) (book_ranges b))
due-ends b g kept is whole full =
    let cs = ranges_of b.history in
    let some : 0 < g.0 = subst (λ (o : Option (ℕ × ℕ)). IfSome o (λ (k : ℕ × ℕ). 0 < k.0)) is kept.sized in
    let placed : AreBeside b.begin g.0 b.lists (spans_of cs) =
    subst (λ (o : Option (ℕ × ℕ)). AreBeside b.begin (group_size o) b.lists (spans_of cs)) is (kept.placed whole) in
    let ends = end-beside g.0 b.begin b.lists cs (omega (arith, full, some)) placed in
    let all : take (0 + clusters_listed g.0 b.lists + g.0) cs ≡ cs =
    take-all (0 + clusters_listed g.0 b.lists + g.0) cs (omega (arith, full)) in
    omega (
      arith,
      ends,
      bytes-of cs,
      ap (λ (t : Option Tear). torn_bytes t) whole,
      ap (λ (l : List (Cluster ClusterMeta)). ranges_end b.begin l) all,
      ap (λ (o : Option (ℕ × ℕ)). ranges_end b.begin (take (0 + clusters_listed (group_size o) b.lists + group_size o) cs)) is,
    )
