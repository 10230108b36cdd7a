-- A file that passes no limit.
use Rattle.std.proofs.Common.{◌≡◌, ◌∙◌, ℕ, ◌+◌, ◌≤◌, Bool, true, false, List, [], ◌∷◌, ◌++◌, map, length, drop, Option, Some, None, refl}
use Rattle.std.proofs.Common.{ap, subst, arith}
use Rattle.std.specs.Prelude.{nat_lt, if◌then◌else◌}
use Rattle.std.specs.List.{AllByRecursion}
use Rattle.std.proofs.lemmas.Bool.Decides.{nat_tests}
use Rattle.nt_grammar.specs.Table.{Table}
use Rattle.nt_machine.specs.History.{ranges_of}
use Rattle.nt_machine.specs.Legal.{end_after}
use Rattle.nt_book.specs.declared.limits.Limits.{Limits}
use Rattle.nt_book.specs.declared.limits.LimitError.{LimitError}
use Rattle.nt_book.specs.declared.params.Params.{Params}
use Rattle.nt_book.specs.declared.list.NotedList.{NotedList}
use Rattle.nt_book.specs.Books.{BookData}
use Rattle.nt_book.specs.Kept.{IsBookKept}
use Rattle.nt_pagelists.specs.Blobs.{blob_len}
use Rattle.nt_layout.specs.Headers.{header_sum}
use Rattle.nt_pagelists.specs.Objects.{ClusterSpan, list_len}
use Rattle.nt_layout.specs.Groups.{PlacedList, places_beside, places_behind}
use Rattle.nt_layout.specs.Finished.{list_places, spans, footer_object, file_len}
use Rattle.nt_layout.specs.Arranged.{HasLists, group_for, lists_after}
use Rattle.nt_finished.proofs.BesideLists.{AreNotedOf}
use Rattle.nt_finished.proofs.Beside.{noted-beside}
use Rattle.nt_close.specs.Passing.{first_passed, passed_by_close}
use Rattle.nt_close.specs.Filled.{AreListsNoted}
use Rattle.nt_close.specs.Closing.{StaysWithin}

not_above : (most n : ℕ) (b : Bool) (l : LimitError) (more : Option LimitError) → nat_lt most n ≡ b → (if b then Some l else more)
    ≡ None → (n ≤ most) × (more ≡ None)
not_above most n true l more above none = absurd (cc none)
not_above most n false l more above none = (grind (arith, nat_tests, above), none)

within_all : {X : Type 0} (f : X → ℕ) (limits : Limits) (xs : List X) (more : List ℕ) (end : ℕ)
    → first_passed limits (map f xs ++ more) end ≡ None
    → AllByRecursion (λ (x : X). f x ≤ limits.range) xs × (first_passed limits more end ≡ None)
within_all f limits [] more end none = (tt, none)
within_all f limits (x ∷ xs) more end none =
    let first = not_above limits.range (f x) (nat_lt limits.range (f x)) _ (first_passed limits (map f xs ++ more) end) refl none in
    let others = within_all f limits xs more end first.1 in
    ((first.0, others.0), others.1)

-- the lists that are noted, and those that are left
noted_and_left : (sum : ℕ) (book : BookData) (most : ℕ) (ns : List NotedList) (ss : List ClusterSpan) → AreNotedOf sum book ns ss
    → AllByRecursion (λ (l : NotedList). l.len ≤ most) ns
    → AllByRecursion (λ (l : PlacedList). list_len sum book l.span ≤ most) (drop (length ns) (places_beside book ss))
    → AllByRecursion (λ (s : ClusterSpan). list_len sum book s ≤ most) ss
noted_and_left sum book most [] [] noted short left = tt
noted_and_left sum book most [] (s ∷ ss) noted short left = (left.0, noted_and_left sum book most [] ss tt tt left.1)
noted_and_left sum book most (n ∷ ns) [] noted short left = tt
noted_and_left sum book most (n ∷ ns) (s ∷ ss) noted short left =
    (subst (λ (k : ℕ). k ≤ most) noted.0 short.0, noted_and_left sum book most ns ss noted.1 short.1 left)

-- lists that stand one behind the other
all_left : (sum : ℕ) (book : BookData) (most start : ℕ) (ss : List ClusterSpan)
    → AllByRecursion (λ (l : PlacedList). list_len sum book l.span ≤ most) (places_behind sum book start ss)
    → AllByRecursion (λ (s : ClusterSpan). list_len sum book s ≤ most) ss
all_left sum book most start [] left = tt
all_left sum book most start (s ∷ ss) left = (left.0, all_left sum book most (start + list_len sum book s) ss left.1)

-- a book that isn't torn has its page lists behind all ranges, or beside its clusters
pub has_lists : (t : Table) (p : Params) (book : BookData) → IsBookKept book → AreListsNoted t p book → book.torn ≡ None
    → HasLists p.staged t p.group book
has_lists t p book kept noted untorn = at p.staged refl
  where
    at : (b : Bool) → p.staged ≡ b → HasLists b t p.group book
    at true is =
        let none : book.group ≡ None = noted.group ∙ ap (λ (b : Bool). group_for b p.group (header_sum t)) is in
        (noted.staged ∙ is, record { no_groups = none; between = kept.none_between none })
    at false is = record {
      group = noted.group ∙ ap (λ (b : Bool). group_for b p.group (header_sum t)) is;
      untorn = untorn;
      noted = λ k less. (noted.noted k less).len;
    }

-- no page list is too long
lists_within : (staged : Bool) (t : Table) (p : Params) (book : BookData) → IsBookKept book → AreListsNoted t p book
    → HasLists staged t p.group book
    → AllByRecursion (λ (l : PlacedList). list_len (header_sum t) book l.span ≤ p.limits.range) (lists_after staged t book p.group)
    → AllByRecursion (λ (s : ClusterSpan). list_len (header_sum t) book s ≤ p.limits.range) (spans book p.group)
lists_within true t p book kept noted has left =
    all_left (header_sum t) book p.limits.range (end_after book.begin (ranges_of book.history)) (spans book p.group) left
lists_within false t p book kept noted has left =
    noted_and_left (header_sum t) book p.limits.range book.lists (spans book p.group)
    (noted-beside t p.group book kept has) noted.short left

-- all blobs and the file are within the limits, if the header's blob is
pub within : (t : Table) (p : Params) (book : BookData) → IsBookKept book → AreListsNoted t p book → book.torn ≡ None
    → passed_by_close p t book ≡ None → StaysWithin t p book
within t p book kept noted untorn none header =
    let places = list_places p.staged t book p.group in
    let foot_len = blob_len (length (footer_object t book places)) in
    let len = file_len t book places in
    let lists = within_all (λ (l : PlacedList). list_len (header_sum t) book l.span) p.limits (lists_after p.staged t book p.group)
    (foot_len ∷ []) len none in
    let foot = not_above p.limits.range foot_len (nat_lt p.limits.range foot_len) _ (first_passed p.limits [] len) refl lists.1 in
    let file = not_above p.limits.file len (nat_lt p.limits.file len) _ None refl foot.1 in
    record {
      header = header;
      lists = lists_within p.staged t p book kept noted (has_lists t p book kept noted untorn) lists.0;
      footer = foot.0;
      file = file.0;
    }
