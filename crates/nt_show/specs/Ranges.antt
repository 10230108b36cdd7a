-- Lines of entries, and which entries a range has.
use Rattle.std.specs.Prelude.{ℕ, ◌-◌, min, List, [], ◌∷◌, ◌++◌, take, drop, Option, Some, None, option_map}
use Rattle.std.specs.List.{flat_map}
use Rattle.nt_types.specs.TreeData.{TreesData}
use Rattle.nt_event.specs.Json.{line_of}
use Rattle.nt_show.specs.declared.entry_range.EntryRange.{EntryRange}

-- a line for each entry
abbrev pub entry_lines : List TreesData → List ℕ
entry_lines = flat_map (λ entry. line_of entry ++ 10 ∷ [])

-- at most so many of a list, all where no number is given
abbrev pub limited : {A : Type 0} → Option ℕ → List A → List A
limited None items = items
limited (Some most) items = take most items

-- how many of so many that is
abbrev pub limited_len : Option ℕ → ℕ → ℕ
limited_len None len = len
limited_len (Some most) len = min most len

-- the entries that lie in a range
abbrev pub in_range : EntryRange → List TreesData → List TreesData
in_range range entries = limited range.count (drop range.from entries)

-- the entries of clusters, one behind the other
abbrev pub all_entries : List (List TreesData) → List TreesData
all_entries = flat_map (λ entries. entries)

-- the lines of those entries of clusters that lie in a range
abbrev pub range_lines : EntryRange → List (List TreesData) → List ℕ
range_lines range clusters = entry_lines (in_range range (all_entries clusters))

-- a range, counted from behind so many entries
abbrev pub past_entries : ℕ → EntryRange → EntryRange
past_entries len range = record { from = range.from - len; count = option_map (λ most. most - (len - range.from)) range.count }
