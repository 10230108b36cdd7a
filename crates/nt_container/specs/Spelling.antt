-- The container's parts as they are written (own profile): places of 8 bytes, the ntuple `events` in the file `events.root`.
use Rattle.std.specs.Prelude.{ℕ, ◌+◌, ◌^◌, List, [], ◌∷◌, ◌++◌, length, replicate, codes, nat_lt, if◌then◌else◌, slice_set}
use Rattle.std.specs.List.{concat}
use Rattle.std.specs.Int.{w16, w32, w64, to_be_bytes}
use Rattle.nt_xxh3.specs.Sum.{xxh3}
use Rattle.nt_container.specs.declared.anchor.Anchor.{Anchor}
use Rattle.nt_container.specs.Words.{short_tstring}
use Rattle.nt_container.specs.Keys.{anchor_class}

-- a TUUID: version 1 and sixteen bytes, zeros here
unfoldable pub zero_uuid : List ℕ
zero_uuid = concat (to_be_bytes w16 1 ∷ to_be_bytes w64 0 ∷ to_be_bytes w64 0 ∷ [])

-- fUnits, fCompress, fSeekInfo, fNbytesInfo and the UUID
unfoldable pub header_rest : List ℕ
header_rest = concat ((8 ∷ []) ∷ to_be_bytes w32 0 ∷ to_be_bytes w64 0 ∷ to_be_bytes w32 0 ∷ zero_uuid ∷ [])

-- fBEGIN, fEND, fSeekFree, fNbytesFree, nfree and fNbytesName, and the rest
unfoldable pub header_numbers : ℕ → ℕ → List ℕ
header_numbers end free =
    concat (to_be_bytes w32 100 ∷ to_be_bytes w64 end ∷ to_be_bytes w64 free ∷ to_be_bytes w32 71 ∷ to_be_bytes w32 1
    ∷ to_be_bytes w32 66 ∷ header_rest ∷ [])

-- the 75 bytes of the file header, of version 1063400
unfoldable pub header_words : ℕ → ℕ → List ℕ
header_words end free = concat (codes "root" ∷ to_be_bytes w32 1063400 ∷ header_numbers end free ∷ [])

-- the file header of a file that ends there and has its list of free pieces there, and zeros to the first key
unfoldable pub header_part : ℕ → ℕ → List ℕ
header_part end free = header_words end free ++ replicate 25 0

-- the bytes of a key's header with an empty title
abbrev pub key_header_len : List ℕ → List ℕ → ℕ
key_header_len class name = 37 + length class + length name

-- Nbytes, version 1004, ObjLen, Datime, KeyLen and Cycle 1
unfoldable pub key_sizes : ℕ → ℕ → List ℕ
key_sizes header_len object_len =
    concat (to_be_bytes w32 (header_len + object_len) ∷ to_be_bytes w16 1004 ∷ to_be_bytes w32 object_len
    ∷ to_be_bytes w32 0x00420000 ∷ to_be_bytes w16 header_len ∷ to_be_bytes w16 1 ∷ [])

-- SeekKey, SeekPdir, class, name and an empty title
unfoldable pub key_names : ℕ → ℕ → List ℕ → List ℕ → List ℕ
key_names at directory class name =
    concat (to_be_bytes w64 at ∷ to_be_bytes w64 directory ∷ short_tstring class ∷ short_tstring name ∷ short_tstring [] ∷ [])

-- the header of the key at a place, of an object of so many bytes
unfoldable pub key_header : ℕ → ℕ → ℕ → List ℕ → List ℕ → List ℕ
key_header object_len at directory class name =
    concat (key_sizes (key_header_len class name) object_len ∷ key_names at directory class name ∷ [])

-- the key of a record of the file itself
unfoldable pub file_key : ℕ → ℕ → ℕ → List ℕ
file_key object_len at directory = key_header object_len at directory (codes "TFile") (codes "events.root")

-- two times, fNbytesKeys 113, fNbytesName 66, fSeekDir 100, fSeekParent 0 and fSeekKeys
unfoldable pub directory_numbers : ℕ → List ℕ
directory_numbers keys =
    concat ((to_be_bytes w32 0x00420000 ++ to_be_bytes w32 0x00420000) ∷ to_be_bytes w32 113 ∷ to_be_bytes w32 66
    ∷ to_be_bytes w64 100 ∷ to_be_bytes w64 0 ∷ to_be_bytes w64 keys ∷ [])

-- the directory of version 1005, whose list of keys stands there
unfoldable pub directory_words : ℕ → List ℕ
directory_words keys = concat (to_be_bytes w16 1005 ∷ directory_numbers keys ∷ [])

-- the beginning of the record at 100: its key, and the file's name and title
unfoldable pub record_names : List ℕ
record_names = concat (file_key 73 100 0 ∷ short_tstring (codes "events.root") ∷ short_tstring [] ∷ [])

-- the whole record, whose directory has its list of keys there
unfoldable pub record_part : ℕ → List ℕ
record_part keys = record_names ++ (directory_words keys ++ zero_uuid)

-- header and record as they are written first: with 0 for the first byte
unfoldable pub begun : ℕ → ℕ → ℕ → List ℕ
begun end free keys = slice_set (header_part end free ++ record_part keys) 0 0

-- the key of an RBlob at a place, whose object has so many bytes
unfoldable pub blob_key : ℕ → ℕ → List ℕ
blob_key object_len at = key_header object_len at 100 (codes "RBlob") []

-- SeekHeader, NBytesHeader, LenHeader, SeekFooter, NBytesFooter and LenFooter
unfoldable pub envelopes : Anchor → List ℕ
envelopes a =
    concat (to_be_bytes w64 a.header ∷ to_be_bytes w64 a.header_size ∷ to_be_bytes w64 a.header_len
    ∷ to_be_bytes w64 a.footer ∷ to_be_bytes w64 a.footer_size ∷ to_be_bytes w64 a.footer_len ∷ [])

-- version 1.0.0.0 of the format, header, footer, and the largest key
unfoldable pub anchor_fields : Anchor → List ℕ
anchor_fields a =
    concat (to_be_bytes w16 1 ∷ (to_be_bytes w16 0 ++ (to_be_bytes w16 0 ++ to_be_bytes w16 0)) ∷ envelopes a
    ∷ to_be_bytes w64 (2 ^ 30) ∷ [])

-- the anchor as ROOT streams a class: byte count and class version, the fields, and their XXH3-64
unfoldable pub anchor_object : Anchor → List ℕ
anchor_object a =
    concat ((to_be_bytes w32 0x40000042 ++ to_be_bytes w16 2) ∷ anchor_fields a ∷ to_be_bytes w64 (xxh3 (anchor_fields a)) ∷ [])

-- the header of the anchor's key at a place
unfoldable pub anchor_key : ℕ → List ℕ
anchor_key at = key_header 78 at 100 anchor_class (codes "events")

-- the anchor at a place: its key and its object
unfoldable pub anchor_part : ℕ → Anchor → List ℕ
anchor_part at a = anchor_key at ++ anchor_object a

-- the list of keys at a place, with the anchor's alone: its own key, the number of keys, and their headers
unfoldable pub key_list_part : ℕ → ℕ → List ℕ
key_list_part at anchor_at = concat (file_key 60 at 100 ∷ to_be_bytes w32 1 ∷ anchor_key anchor_at ∷ [])

-- the last byte of the free piece behind the end
abbrev pub last_free : ℕ → ℕ
last_free end = if nat_lt end 2000000000 then 2000000000 else end + 1000000000

-- a free piece of version 1001, by its first and its last byte
unfoldable pub free_piece : ℕ → ℕ → List ℕ
free_piece first last = concat (to_be_bytes w16 1001 ∷ to_be_bytes w64 first ∷ to_be_bytes w64 last ∷ [])

-- the list of free pieces at a place: its own key, and the one piece behind the end
unfoldable pub free_list_part : ℕ → ℕ → List ℕ
free_list_part at end = file_key 18 at 100 ++ free_piece end (last_free end)
