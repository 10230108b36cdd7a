-- The page lists that a book notes are those of its groups, each behind the last cluster that it lists.
use Rattle.std.proofs.Common.{◌≡◌, ◌∙◌, ap, sym, refl, subst, ℕ, zero, suc, ◌+◌, ◌-◌, ◌*◌, ◌<◌, ◌≤◌, min, List, [], ◌∷◌, length, map, take}
use Rattle.std.proofs.Common.{Bool, true, false, Option, Some, None, arith, suc-mul, add-one}
use Rattle.std.specs.Prelude.{IfSome, slice_index_or}
use Rattle.std.specs.Int.{div_ceil}
use Rattle.std.specs.List.{range_with_len}
use Rattle.std.proofs.Math.Nat.{le_of_mul-le-mul_right, zero-mul}
use Rattle.std.proofs.lemmas.Grind.{div_ceil_times}
use Rattle.nt_lists.specs.Parts.{Part}
use Rattle.nt_grammar.specs.Table.{Table}
use Rattle.nt_machine.specs.History.{Cluster, ranges_of}
use Rattle.nt_machine.specs.Legal.{ranges_end}
use Rattle.nt_book.specs.declared.list.NotedList.{NotedList}
use Rattle.nt_book.specs.declared.meta.ClusterMeta.{ClusterMeta}
use Rattle.nt_book.specs.Books.{BookData, book_clusters, cluster_at, no_cluster, noted_at}
use Rattle.nt_book.specs.Kept.{IsBookKept}
use Rattle.nt_book.specs.Listing.{clusters_listed, group_size, no_noted}
use Rattle.nt_pagelists.specs.Blobs.{blob}
use Rattle.nt_pagelists.specs.Due.{group_sum}
use Rattle.nt_pagelists.specs.Objects.{cluster_span, list_object}
use Rattle.nt_pagelists.proofs.Named.{clusters-unstaged, grouped-unstaged}
use Rattle.nt_commit.specs.Lists.{AreBehindGroups, AreNoted, HasListsOf, noted_list}
use Rattle.nt_layout.specs.Headers.{header_sum}
use Rattle.nt_layout.specs.Groups.{place_beside, places_beside, range_end, list_part, list_parts}
use Rattle.nt_layout.specs.Beside.{HasListsBeside, lists_noted}
use Rattle.nt_layout.specs.Arranged.{group_for, HasLists, lists_between}

-- where the last of the first ranges ends
end-of : (place k : ℕ) (cs : List (Cluster ClusterMeta)) → k < length cs
    → ranges_end place (take (suc k) cs) ≡ range_end (slice_index_or cs k no_cluster)
end-of place k [] less = absurd (omega (arith, less))
end-of place zero (c ∷ cs) less = refl
end-of place (suc k) (c ∷ cs) less = end-of (c.start + c.len) k cs (omega (arith, less))

listed-times : (most : ℕ) (ls : List NotedList) → clusters_listed most ls ≡ length ls * most
listed-times most [] = sym (zero-mul most)
listed-times most (l ∷ ls) = omega (arith, listed-times most ls, suc-mul (length ls) most)

module _ (sum most : ℕ) (book : BookData) where
  -- the page list of the full group that begins with this cluster, where it stands
  abbrev pub full_list : ℕ → NotedList
  full_list from =
      noted_list (place_beside book (record { from = from; count = most })).place
      (list_object sum book (record { from = from; count = most }))

  -- where it stands that is noted
  place-of : (begin from : ℕ) (place : ℕ) → 0 < most → from + most ≤ length (book_clusters book)
      → place ≡ ranges_end begin (take (from + most) (book_clusters book))
      → place ≡ range_end (cluster_at book (from + most - 1))
  place-of begin from place some le is =
      let listed : suc (from + most - 1) ≡ from + most = omega (arith, some) in
      is ∙ (ap (λ (k : ℕ). ranges_end begin (take k (book_clusters book))) (sym listed)
      ∙ end-of begin (from + most - 1) (book_clusters book) (omega (arith, some, le)))

  -- each is that of its group
  noted-at : (begin from : ℕ) (ls : List NotedList) (ps : List Part) → 0 < most
      → from + clusters_listed most ls ≤ length (book_clusters book)
      → AreNoted sum most book from ls ps → AreBehindGroups most begin (book_clusters book) from ps → (k : ℕ) → k < length ls
      → slice_index_or ls k no_noted ≡ full_list (from + k * most)
  noted-at begin from [] ps some le noted behind k less = absurd (omega (arith, less))
  noted-at begin from (l ∷ ls) [] some le noted behind k less = absurd noted
  noted-at begin from (l ∷ ls) (p ∷ ps) some le noted behind zero less =
      let here : from ≡ from + 0 * most = omega (arith, zero-mul most) in
      noted.0.noted
      ∙ (ap (λ (n : ℕ). noted_list n (list_object sum book (record { from = from; count = most })))
      (place-of begin from p.place some (omega (arith, le)) behind.0) ∙ ap full_list here)
  noted-at begin from (l ∷ ls) (p ∷ ps) some le noted behind (suc k) less =
      let next : from + most + k * most ≡ from + suc k * most = omega (arith, suc-mul k most) in
      noted-at begin (from + most) ls ps some (omega (arith, le)) noted.1 behind.1 k (omega (arith, less)) ∙ ap full_list next

  -- the parts that were appended are theirs
  noted-parts : (begin i m : ℕ) (ls : List NotedList) (ps : List Part) → 0 < most
      → i * most + clusters_listed most ls ≤ length (book_clusters book) → length ls ≤ m
      → AreNoted sum most book (i * most) ls ps → AreBehindGroups most begin (book_clusters book) (i * most) ps
      → ps ≡ list_parts sum book (take (length ls) (places_beside book (map (cluster_span most (length (book_clusters book)))
      (range_with_len i m))))
  noted-parts begin i m [] [] some le few noted behind = refl
  noted-parts begin i m [] (p ∷ ps) some le few noted behind = absurd noted
  noted-parts begin i m (l ∷ ls) [] some le few noted behind = absurd noted
  noted-parts begin i zero (l ∷ ls) (p ∷ ps) some le few noted behind = absurd (omega (arith, few))
  noted-parts begin i (suc m) (l ∷ ls) (p ∷ ps) some le few noted behind =
      let n = length (book_clusters book) in
      let from = i * most in
      let count : most ≡ min most (n - from) = omega (arith, le) in
      let next : from + most ≡ (i + 1) * most = rw (add-one i, suc-mul i most) refl in
      let object = list_object sum book (record { from = from; count = most }) in
      let place : p.place ≡ range_end (cluster_at book (from + most - 1)) =
      place-of begin from p.place some (omega (arith, le)) behind.0 in
      let one : p ≡ list_part sum book (place_beside book (cluster_span most n i)) =
      ap (λ (b : List ℕ). record { place = p.place; bytes = b }) noted.0.bytes
      ∙ (ap (λ (k : ℕ). record { place = k; bytes = blob k object }) place
      ∙ ap (λ (k : ℕ). list_part sum book (place_beside book (record { from = from; count = k }))) count) in
      let rest = noted-parts begin (i + 1) m ls ps some (omega (arith, le, next)) (omega (arith, few))
      (subst (λ (k : ℕ). AreNoted sum most book k ls ps) next noted.1)
      (subst (λ (k : ℕ). AreBehindGroups most begin (book_clusters book) k ps) next behind.1) in
      ap (λ (q : Part). q ∷ ps) one
      ∙ ap (λ (qs : List Part). list_part sum book (place_beside book (cluster_span most n i)) ∷ qs) rest

module _ (t : Table) (most : ℕ) (book : BookData) (kept : IsBookKept book) (group : book.group ≡ Some (most, header_sum t))
    (lists : List Part) (torn : List ℕ) (has : HasListsOf book lists torn) where
  noted-of-group : AreNoted (header_sum t) most book 0 book.lists lists
  noted-of-group =
      subst (λ (g : Option (ℕ × ℕ)). AreNoted (group_sum g) (group_size g) book 0 book.lists lists) group has.noted

  some-beside : 0 < most
  some-beside = subst (λ (g : Option (ℕ × ℕ)). IfSome g (λ (x : ℕ × ℕ). 0 < x.0)) group kept.sized

  listed-beside : clusters_listed most book.lists ≤ length (book_clusters book)
  listed-beside =
      subst (λ (g : Option (ℕ × ℕ)). clusters_listed (group_size g) book.lists ≤ length (book_clusters book)) group kept.listed

  behind-groups : AreBehindGroups most book.begin (book_clusters book) 0 lists
  behind-groups =
      subst (λ (cs : List (Cluster ClusterMeta)). AreBehindGroups most book.begin cs 0 lists)
      (sym (clusters-unstaged book (grouped-unstaged book (most, header_sum t) kept group)))
      (subst (λ (g : Option (ℕ × ℕ)). AreBehindGroups (group_size g) book.begin (ranges_of book.history) 0 lists) group has.behind)

  -- each is noted as that of its group, where it stands
  pub each-noted : (k : ℕ) → k < length book.lists → noted_at book k ≡ full_list (header_sum t) most book (k * most)
  each-noted k less =
      noted-at (header_sum t) most book book.begin 0 book.lists lists some-beside (omega (arith, listed-beside)) noted-of-group
      behind-groups k less
      ∙ ap (λ (n : ℕ). full_list (header_sum t) most book n) (omega arith)

  -- page lists stand beside its clusters
  pub beside-of : book.torn ≡ None → HasListsBeside t most book
  beside-of untorn = record {
    group = group;
    untorn = untorn;
    noted = λ k less. ap (λ (l : NotedList). l.len) (each-noted k less);
  }

  -- and these were appended
  pub lists-of : lists ≡ list_parts (header_sum t) book (lists_noted t book most)
  lists-of =
      let count = div_ceil (length (book_clusters book)) most in
      let few : length book.lists ≤ count =
      le_of_mul-le-mul_right {m = length book.lists} {n = count} {k = most}
      (omega (arith, (div_ceil_times (length (book_clusters book)) most some-beside).0, listed-beside, listed-times most book.lists))
      some-beside in
      let none : 0 ≡ 0 * most = sym (zero-mul most) in
      noted-parts (header_sum t) most book book.begin 0 count book.lists lists some-beside (omega (arith, none, listed-beside)) few
      (subst (λ (k : ℕ). AreNoted (header_sum t) most book k book.lists lists) none noted-of-group)
      (subst (λ (k : ℕ). AreBehindGroups most book.begin (book_clusters book) k lists) none behind-groups)

-- no page list is noted: none was appended
none-noted : (sum most : ℕ) (book : BookData) (ps : List Part) → AreNoted sum most book 0 [] ps → ps ≡ []
none-noted sum most book [] noted = refl
none-noted sum most book (p ∷ ps) noted = absurd noted

module _ (t : Table) (most : ℕ) (book : BookData) (kept : IsBookKept book) (lists : List Part) (torn : List ℕ)
    (has : HasListsOf book lists torn) where
  -- the page lists stand where the book has them
  pub arranged-of : (staged : Bool) → book.staged ≡ staged → book.group ≡ group_for staged most (header_sum t) → book.torn ≡ None
      → HasLists staged t most book
  arranged-of true flag group untorn = (flag, record { no_groups = group; between = kept.none_between group })
  arranged-of false flag group untorn = beside-of t most book kept group lists torn has untorn

  -- and those between the ranges were appended
  pub between-of : (staged : Bool) → book.group ≡ group_for staged most (header_sum t)
      → lists ≡ list_parts (header_sum t) book (lists_between staged t book most)
  between-of true group =
      let none = kept.none_between group in
      none-noted (group_sum book.group) (group_size book.group) book lists
      (subst (λ (ls : List NotedList). AreNoted (group_sum book.group) (group_size book.group) book 0 ls lists) none.none_noted has.noted)
  between-of false group = lists-of t most book kept group lists torn has
