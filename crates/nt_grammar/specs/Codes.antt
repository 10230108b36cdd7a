-- The numbers of a description (RNTuple Binary Format Specification 1.0.0.0, sections Field Description and Column Description).
use Rattle.std.specs.Prelude.{ℕ, ◌^◌}

-- the structural role of a field whose values have no fields inside
abbrev pub leaf_role : ℕ
leaf_role = 0

-- the role of a collection
abbrev pub collection_role : ℕ
collection_role = 1

-- the role of a record
abbrev pub record_role : ℕ
record_role = 2

-- the role of a variant
abbrev pub variant_role : ℕ
variant_role = 3

-- the flag of a field that has the checksum of its type
abbrev pub checksum_flag : ℕ
checksum_flag = 4

-- the flag of a column that has the index of its first element
abbrev pub deferred_flag : ℕ
deferred_flag = 1

-- a first element from here on is that of a suppressed column
abbrev pub suppressed : ℕ
suppressed = 2 ^ 63

-- the most levels of a field that is open
abbrev pub most_levels : ℕ
most_levels = 64
