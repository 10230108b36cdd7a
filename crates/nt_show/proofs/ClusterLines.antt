-- The lines of a cluster's entries, gathered one by one.
use Rattle.std.proofs.Common.{◌≡◌, ◌∙◌, ap, sym, subst, ℕ, ◌+◌, ◌-◌, ◌<◌, ◌≤◌, List, [], ◌∷◌, length, take, drop, get_or, Option, Some}
use Rattle.std.proofs.Common.{arith}
use Rattle.std.specs.List.{slice_range}
use Rattle.std.proofs.lemmas.List.{length-map}
use Rattle.std.proofs.lemmas.List.FromFn.{length-range_with_len}
use Rattle.nt_types.specs.TreeData.{TreesData, no_trees}
use Rattle.nt_outside.specs.World.{World}
use Rattle.nt_reader.specs.Columns.{ClusterData, given_entries}
use Rattle.nt_show.specs.declared.entry_range.EntryRange.{EntryRange}
use Rattle.nt_show.specs.Ranges.{entry_lines, in_range}
use Rattle.nt_show.specs.Gathering.{PrintsSome, GathersPart}
use Rattle.nt_show.proofs.Ranges.{chunk_lines, first_lines}
use Rattle.nt_show.proofs.Gathering.{gathers_nothing, gathers_then, part_more, part_then}

-- a cluster gives as many entries as it has
pub length-given : (c : ClusterData) → length (given_entries c) ≡ c.entries
length-given c = length-map _ _ ∙ length-range_with_len 0 c.entries

-- no line yet
pub none_gathered : (entries : List TreesData) (from : ℕ) (world : Option World) (waiting : List ℕ)
    → PrintsSome (entry_lines (take (from - from) (drop from entries))) world waiting world waiting
none_gathered entries from world waiting =
    let none : from - from ≡ 0 = omega arith in
    subst (λ (n : ℕ). PrintsSome (entry_lines (take n (drop from entries))) world waiting world waiting) (sym none)
    (gathers_nothing world waiting)

-- some lines more
pub some_gathered : (entries : List TreesData) (from i next : ℕ) (old mid new : Option World) (waiting one two : List ℕ) → from ≤ i
    → i ≤ next
    → PrintsSome (entry_lines (take (i - from) (drop from entries))) old waiting mid one
    → PrintsSome (entry_lines (slice_range entries i next)) mid one new two
    → PrintsSome (entry_lines (take (next - from) (drop from entries))) old waiting new two
some_gathered entries from i next old mid new waiting one two low high first second =
    subst (λ (l : List ℕ). PrintsSome l old waiting new two) (sym (chunk_lines entries from i next low high))
    (gathers_then (entry_lines (take (i - from) (drop from entries))) (entry_lines (slice_range entries i next)) old mid new waiting one two
    first second)

-- some lines more in part
pub some_in_part : (entries : List TreesData) (from i next : ℕ) (old mid new : Option World) (waiting one : List ℕ) → from ≤ i → i ≤ next
    → PrintsSome (entry_lines (take (i - from) (drop from entries))) old waiting mid one
    → GathersPart (entry_lines (slice_range entries i next)) mid one new
    → GathersPart (entry_lines (take (next - from) (drop from entries))) old waiting new
some_in_part entries from i next old mid new waiting one low high first second =
    subst (λ (l : List ℕ). GathersPart l old waiting new) (sym (chunk_lines entries from i next low high))
    (part_then (entry_lines (take (i - from) (drop from entries))) (entry_lines (slice_range entries i next)) old mid new waiting one
    first second)

-- the lines of some entries are part of those of more
pub part_of_part : (entries : List TreesData) (from next to : ℕ) (old new : Option World) (waiting : List ℕ) → from ≤ next → next ≤ to
    → GathersPart (entry_lines (slice_range entries from next)) old waiting new
    → GathersPart (entry_lines (slice_range entries from to)) old waiting new
part_of_part entries from next to old new waiting low high part =
    subst (λ (l : List ℕ). GathersPart l old waiting new) (sym (chunk_lines entries from next to low high))
    (part_more (entry_lines (slice_range entries from next)) (entry_lines (slice_range entries next to)) old new waiting part)

-- the first lines are part of those of a range
pub part_of_range : (range : EntryRange) (entries : List TreesData) (from to i : ℕ) (old new : Option World) (waiting : List ℕ)
    → in_range range entries ≡ take (to - from) (drop from entries) → from ≤ i → i ≤ to
    → GathersPart (entry_lines (take (i - from) (drop from entries))) old waiting new
    → GathersPart (entry_lines (in_range range entries)) old waiting new
part_of_range range entries from to i old new waiting is low high part =
    subst (λ (l : List ℕ). GathersPart l old waiting new)
    (sym (ap entry_lines is ∙ first_lines (drop from entries) (i - from) (to - from) (omega arith)))
    (part_more (entry_lines (take (i - from) (drop from entries))) (entry_lines (drop (i - from) (take (to - from) (drop from entries))))
    old new waiting part)

-- all lines are those of the range
pub whole_range : (range : EntryRange) (entries : List TreesData) (from to i : ℕ) (old new : Option World) (waiting left : List ℕ)
    → in_range range entries ≡ take (to - from) (drop from entries) → i ≡ to
    → PrintsSome (entry_lines (take (i - from) (drop from entries))) old waiting new left
    → PrintsSome (entry_lines (in_range range entries)) old waiting new left
whole_range range entries from to i old new waiting left is end lines =
    subst (λ (l : List ℕ). PrintsSome l old waiting new left)
    (ap (λ (n : ℕ). entry_lines (take (n - from) (drop from entries))) end ∙ sym (ap entry_lines is)) lines
