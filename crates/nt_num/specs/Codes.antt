-- The codes of the reader's faults.
use Rattle.std.specs.Prelude.{ℕ}

-- the writing was not finished
abbrev pub unfinished : ℕ
unfinished = 1

-- no file of ROOT
abbrev pub not_root : ℕ
not_root = 2

-- the file's header
abbrev pub bad_file_header : ℕ
bad_file_header = 3

-- the directory
abbrev pub bad_directory : ℕ
bad_directory = 4

-- the list of keys
abbrev pub bad_key_list : ℕ
bad_key_list = 5

-- no key of an ntuple
abbrev pub no_ntuple : ℕ
no_ntuple = 6

-- the anchor
abbrev pub bad_anchor : ℕ
bad_anchor = 7

-- another epoch of the format
abbrev pub bad_epoch : ℕ
bad_epoch = 8

-- bytes that are stored compressed
abbrev pub compressed : ℕ
compressed = 9

-- bytes past the end of the file
abbrev pub out_of_file : ℕ
out_of_file = 10

-- an envelope's size, kind or checksum
abbrev pub bad_envelope : ℕ
bad_envelope = 11

-- a frame, string or number that does not lie in what holds it
abbrev pub bad_frame : ℕ
bad_frame = 12

-- a feature flag that is not known
abbrev pub bad_flags : ℕ
bad_flags = 13

-- a field whose parent comes after it
abbrev pub bad_field : ℕ
bad_field = 14

-- a column of a field that is not there
abbrev pub bad_column : ℕ
bad_column = 15

-- the checksum of another header
abbrev pub other_header : ℕ
other_header = 16

-- a cluster group
abbrev pub bad_group : ℕ
bad_group = 17

-- a cluster
abbrev pub bad_cluster : ℕ
bad_cluster = 18

-- a page list
abbrev pub bad_page_list : ℕ
bad_page_list = 19

-- a deferred column that begins inside a cluster
abbrev pub deferred_inside : ℕ
deferred_inside = 20

-- a page's checksum
abbrev pub bad_page : ℕ
bad_page = 21

-- a value that no event has
abbrev pub bad_value : ℕ
bad_value = 22
