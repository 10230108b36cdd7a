-- ROOT's TFile: the file header and the directory, as far as a reader follows them. In a file header version 1000000 and above has
-- places of 8 bytes, in a directory version 1001 and above.
use Rattle.std.specs.Prelude.{ℕ, ◌+◌, Bool, List, length, take, codes, slice_index, nat_eq, nat_le, nat_lt, ◌&&◌, ◌||◌, if◌then◌else◌}
use Rattle.std.specs.Prelude.{Result, Ok, Err}
use Rattle.std.specs.Int.{w16, w32}
use Rattle.std.specs.Str.{bytes_eq}
use Rattle.nt_num.specs.Place.{At}
use Rattle.nt_num.specs.Cursor.{big}
use Rattle.nt_num.specs.declared.fault.ReadError.{ReadError}
use Rattle.nt_lists.specs.Chaining.{◌>>=◌}
use Rattle.nt_format.specs.Pieces.{window}
use Rattle.nt_format.specs.Demands.{bytes_at, demand, first_in}
use Rattle.nt_container.specs.declared.parts.FileHeader.{FileHeader}
use Rattle.nt_container.specs.declared.parts.Directory.{Directory}
use Rattle.nt_num.specs.Codes.{unfinished, not_root, bad_file_header, bad_directory}
use Rattle.nt_num.specs.Faults.{fault, with_values}
use Rattle.nt_container.specs.Words.{place_at}

-- the bytes of a file header with places of 8 bytes, the longer one
abbrev pub most_of_header : ℕ
most_of_header = 75

-- the same of a directory
abbrev pub most_of_directory : ℕ
most_of_directory = 42

-- where fEND stands
abbrev pub end_field : ℕ
end_field = 12

-- `r` stands first, and `root` where there are four bytes
abbrev pub begins_root : List ℕ → Bool
begins_root head = nat_eq (slice_index head 0) 0x72 && (nat_lt (length head) 4 || bytes_eq (take 4 head) (codes "root"))

-- a file that is empty or begins with 0 isn't finished (own profile)
unfoldable pub gate_of : List ℕ → Result (Unit {0}) ReadError
gate_of head =
    if nat_eq (slice_index head 0) 0 then Err (fault unfinished 0) else demand (begins_root head) (fault not_root 0)

-- the version behind `root`
unfoldable pub version_at : At → Result (ℕ × At) ℕ
version_at here = do
  root ← bytes_at 4 here
  big w32 root.1

-- fBEGIN, fEND, fSeekFree, fNbytesFree, nfree and fNbytesName; and fUnits, fCompress, fSeekInfo, fNbytesInfo and the UUID
unfoldable pub header_numbers_at : Bool → At → Result (FileHeader × At) ℕ
header_numbers_at wide here = do
  begin ← big w32 here
  end ← place_at wide begin.1
  free ← place_at wide end.1
  free_len ← big w32 free.1
  pieces ← big w32 free_len.1
  name_len ← big w32 pieces.1
  rest ← bytes_at (if wide then 35 else 31) name_len.1
  Ok (record { begin = begin.0; end = end.0; name_len = name_len.0 }, rest.1)

-- the file header's 63 or 75 bytes
unfoldable pub header_at : At → Result (FileHeader × At) ℕ
header_at here = do
  version ← version_at here
  header_numbers_at (nat_le 1000000 version.0) version.1

-- the file header in the first bytes of a file of this size, in which it ends
unfoldable pub header_in : List ℕ → ℕ → Result FileHeader ReadError
header_in head size = do
  gate ← gate_of head
  header ← first_in (fault bad_file_header 0) header_at head
  inside ← demand (nat_le header.end size) (with_values header.end size (fault bad_file_header end_field))
  Ok header

-- the header of a file
abbrev pub file_header_of : List ℕ → Result FileHeader ReadError
file_header_of file = header_in (window most_of_header file 0) (length file)

-- two times, fNbytesKeys, fNbytesName, fSeekDir, fSeekParent and fSeekKeys
unfoldable pub directory_numbers_at : Bool → At → Result (Directory × At) ℕ
directory_numbers_at wide here = do
  times ← bytes_at 8 here
  keys_len ← big w32 times.1
  name_len ← big w32 keys_len.1
  own ← place_at wide name_len.1
  parent ← place_at wide own.1
  keys ← place_at wide parent.1
  Ok (record { keys = keys.0; keys_len = keys_len.0 }, keys.1)

-- the directory's 30 or 42 bytes
unfoldable pub directory_at : At → Result (Directory × At) ℕ
directory_at here = do
  version ← big w16 here
  directory_numbers_at (nat_lt 1000 version.0) version.1

-- the directory behind the first key's header and the file's name and title
abbrev pub directory_place : FileHeader → ℕ
directory_place header = header.begin + header.name_len

-- the directory in the bytes from a place on
abbrev pub directory_in : ℕ → List ℕ → Result Directory ReadError
directory_in place bytes = first_in (fault bad_directory place) directory_at bytes

-- the directory at a place of a file
abbrev pub directory_of : List ℕ → ℕ → Result Directory ReadError
directory_of file place = directory_in place (window most_of_directory file place)
