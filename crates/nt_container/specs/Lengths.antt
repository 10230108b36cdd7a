-- How many bytes the parts have that a writer writes (own profile), and where a part may stand.
use Rattle.std.specs.Prelude.{ℕ, ◌+◌, ◌^◌, List, length}

-- the numbers of a key before its places
abbrev pub sizes_len : ℕ
sizes_len = 18

-- the header of a key of the file's own records
abbrev pub file_key_len : ℕ
file_key_len = 53

-- the header of a blob's key
abbrev pub blob_key_len : ℕ
blob_key_len = 42

-- the header of the anchor's key
abbrev pub anchor_key_len : ℕ
anchor_key_len = 56

-- a UUID with its version
abbrev pub uuid_len : ℕ
uuid_len = 18

-- what stands behind fNbytesName in a file header
abbrev pub header_rest_len : ℕ
header_rest_len = 35

-- what stands behind the version in it
abbrev pub header_numbers_len : ℕ
header_numbers_len = 67

-- the file header, with the zeros to the first key
abbrev pub header_part_len : ℕ
header_part_len = 100

-- what stands behind the version in a directory
abbrev pub directory_numbers_len : ℕ
directory_numbers_len = 40

-- the record at 100 up to its directory
abbrev pub record_names_len : ℕ
record_names_len = 66

-- the whole record
abbrev pub record_part_len : ℕ
record_part_len = 126

-- header and record
abbrev pub begun_len : ℕ
begun_len = 226

-- the places and lengths of both envelopes
abbrev pub envelopes_len : ℕ
envelopes_len = 48

-- the anchor with its key
abbrev pub anchor_part_len : ℕ
anchor_part_len = 134

-- the list of keys
abbrev pub key_list_part_len : ℕ
key_list_part_len = 113

-- a free piece
abbrev pub free_piece_len : ℕ
free_piece_len = 18

-- the list of free pieces
abbrev pub free_list_part_len : ℕ
free_list_part_len = 71

-- the places, the class, the name and the empty title of a key
abbrev pub names_len : List ℕ → List ℕ → ℕ
names_len class name = 19 + length class + length name

-- the last place at which a writer puts a part
abbrev pub most_place : ℕ
most_place = 2 ^ 62
