-- A file that contexts fill is known byte by byte.
use Rattle.std.proofs.Common.{◌≡◌, ◌∙◌, ap, sym, refl, subst, ℕ, ◌+◌, Bool, List, [], ◌∷◌, ◌++◌, length, Some, inl, inr, arith}
use Rattle.std.specs.Prelude.{◌⊎◌, Contains}
use Rattle.std.specs.List.{AllByRecursion, AllZip, concat}
use Rattle.nt_lists.specs.Parts.{Part, AreBehind, joined_len, part_bytes}
use Rattle.nt_outside.specs.Log.{Step}
use Rattle.nt_outside.specs.Reads.{IsKnown}
use Rattle.nt_grammar.specs.Table.{Table}
use Rattle.nt_machine.specs.declared.entry.Entry.{Entry}
use Rattle.nt_machine.specs.History.{Cluster, Settled, ranges_of}
use Rattle.nt_machine.specs.Legal.{IsLegal, spans_of}
use Rattle.nt_machine.specs.Spans.{Span}
use Rattle.nt_logged.specs.Logs.{IsLogOf, WasWritten, is_list, is_range}
use Rattle.nt_book.specs.declared.meta.ClusterMeta.{ClusterMeta}
use Rattle.nt_book.specs.Books.{BookData}
use Rattle.nt_layout.specs.Headers.{header_sum, clusters_place}
use Rattle.nt_layout.specs.Groups.{list_parts}
use Rattle.nt_layout.specs.Finished.{range_parts}
use Rattle.nt_layout.specs.Arranged.{lists_between, parts_filled}
use Rattle.nt_finished.specs.Filled.{FillsBook, IsArrangedBook}
use Rattle.nt_finished.proofs.Arranged.{all_among, all_from, contains-cons}
use Rattle.nt_finished.proofs.SoFar.{all_before, before-placed}

-- a log whose page lists and settled ranges leave no gap is known
abbrev pub WrittenKnown : Type 0
WrittenKnown =
    (log steps : List Step) (front : List ℕ) (end : ℕ) (history : List (Entry ClusterMeta)) (lists : List Part) (torn : List ℕ)
    (parts : List Part) → IsKnown log front → IsLegal (length front) history → IsLogOf (length front) end history lists torn steps
    → AreBehind (length front) parts → length front + joined_len parts ≡ end
    → AllByRecursion (WasWritten lists (ranges_of history)) parts → IsKnown (log ++ steps) (front ++ concat (part_bytes parts))

-- ranges that were settled are written where a book has them
settled-written : (lists : List Part) (all cs ds : List (Cluster ClusterMeta)) (ranges : List (List ℕ))
    → ((c : Cluster ClusterMeta) → Contains cs c → Contains all c) → spans_of cs ≡ spans_of ds
    → AllZip (λ (range : List ℕ) (c : Cluster ClusterMeta). c.state ≡ Settled (Some range)) ranges cs
    → AllByRecursion (WasWritten lists all) (range_parts ds ranges)
settled-written lists all cs [] ranges among same settled = tt
settled-written lists all cs (d ∷ ds) [] among same settled = tt
settled-written lists all [] (d ∷ ds) (r ∷ ranges) among same settled = absurd settled
settled-written lists all (c ∷ cs) (d ∷ ds) (r ∷ ranges) among same settled =
    let one : record { start = c.start; len = c.len } ≡ record { start = d.start; len = d.len } = cc in
    let start : c.start ≡ d.start = ap (λ (s : Span). s.start) one in
    let rest : spans_of cs ≡ spans_of ds = cc in (
      is_range c (among c (0, omega arith, refl)) start settled.0,
      settled-written lists all cs ds ranges (λ e is. among e (contains-cons cs c e is)) rest settled.1,
    )

-- all of these are written, if the ranges are and the page lists were appended
all-written : (lists rs ls ps : List Part) (cs : List (Cluster ClusterMeta)) → AllByRecursion (WasWritten lists cs) rs → lists ≡ ls
    → AllByRecursion (λ (p : Part). Contains rs p ⊎ Contains ls p) ps → AllByRecursion (WasWritten lists cs) ps
all-written lists rs ls ps cs ranges same each =
    all_from (WasWritten lists cs) ps (λ p is. at p (all_among (λ (q : Part). Contains rs q ⊎ Contains ls q) ps p each is))
  where
    at : (p : Part) → Contains rs p ⊎ Contains ls p → WasWritten lists cs p
    at p (inl is) = all_among (WasWritten lists cs) rs p ranges is
    at p (inr is) = is_list (subst (λ (l : List Part). Contains l p) (sym same) is)

pub filled-known : WrittenKnown → (staged : Bool) (t : Table) (most : ℕ) (book : BookData) (ranges : List (List ℕ)) (log steps : List Step)
    (front : List ℕ) (end : ℕ) (history : List (Entry ClusterMeta)) (lists : List Part) (torn : List ℕ)
    → IsArrangedBook staged t most book ranges → IsKnown log front → length front ≡ clusters_place t → IsLegal (length front) history
    → IsLogOf (length front) end history lists torn steps → FillsBook staged t most book ranges history end lists
    → IsKnown (log ++ steps) (front ++ concat (part_bytes (parts_filled staged t book most ranges)))
filled-known written staged t most book ranges log steps front end history lists torn of known long legal logged fills =
    let parts = parts_filled staged t book most ranges in
    let noted = list_parts (header_sum t) book (lists_between staged t book most) in
    let lie = before-placed staged t most book of.kept of.lists ranges of.begin of.lens in
    written log steps front end history lists torn parts known legal logged
    (subst (λ (n : ℕ). AreBehind n parts) (sym long) lie.0)
    (ap (λ (n : ℕ). n + joined_len parts) long ∙ (lie.1 ∙ sym fills.ends))
    (all-written lists (range_parts (ranges_of book.history) ranges) noted parts (ranges_of history)
    (settled-written lists (ranges_of history) (ranges_of history) (ranges_of book.history) ranges (λ c is. is) fills.same
    fills.settled) fills.noted (all_before staged t most book ranges))
