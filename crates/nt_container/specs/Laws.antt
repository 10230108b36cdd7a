-- What holds of the container's parts, and of finished files.
use Rattle.std.specs.Prelude.{◌≡◌, ℕ, ◌+◌, ◌<◌, ◌^◌, true, false, List, [], ◌++◌, length, take, map, sum, slice_index, slice_index_or}
use Rattle.std.specs.Prelude.{slice_set, Some, Ok, Err}
use Rattle.std.specs.List.{concat}
use Rattle.nt_container.specs.declared.anchor.Anchor.{Anchor}
use Rattle.std.specs.Int.{w32, w64, to_be_bytes}
use Rattle.nt_format.specs.Reading.{standing, IsBytes}
use Rattle.nt_format.specs.Relations.{Agrees}
use Rattle.nt_format.specs.Pieces.{piece}
use Rattle.nt_num.specs.Codes.{unfinished}
use Rattle.nt_num.specs.Faults.{fault}
use Rattle.nt_container.specs.Words.{place_at, tstring_at, short_tstring, long_tstring}
use Rattle.nt_container.specs.Lengths.{blob_key_len, header_part_len, record_part_len, begun_len, anchor_part_len, key_list_part_len}
use Rattle.nt_container.specs.Lengths.{free_list_part_len}
use Rattle.nt_container.specs.Spelling.{header_part, record_part, begun, key_header_len, key_header, blob_key, anchor_part, key_list_part}
use Rattle.nt_container.specs.Spelling.{free_list_part}
use Rattle.nt_container.specs.Anchors.{anchor_of}
use Rattle.nt_container.specs.Embeds.{Embeds}
use Rattle.nt_container.specs.Finished.{finished_file, IsAnchor}

-- a file of bytes is read as an anchor exactly where it embeds that anchor
abbrev pub AnchorsAreEmbedded : Type 0
AnchorsAreEmbedded = (file : List ℕ) → IsBytes file → Agrees (anchor_of file) (Embeds file)

-- a finished file is read as its anchor, whatever stands in its middle
abbrev pub FinishedIsRead : Type 0
FinishedIsRead =
    (a : Anchor) (middle : List (List ℕ)) → IsAnchor a → length (finished_file a middle) < 2 ^ 62
    → anchor_of (finished_file a middle) ≡ Ok a

-- a part of the middle stands behind header, record and the parts before it
abbrev pub MiddlesAreFound : Type 0
MiddlesAreFound =
    (a : Anchor) (middle : List (List ℕ)) (k : ℕ) → k < length middle
    → piece (finished_file a middle) (begun_len + sum (map length (take k middle))) (length (slice_index_or middle k []))
    ≡ Some (slice_index_or middle k [])

-- what is read is a blob's object, behind the blob's key
abbrev pub BlobsAreFound : Type 0
BlobsAreFound =
    (file object : List ℕ) (at : ℕ) → piece file at (blob_key_len + length object) ≡ Some (blob_key (length object) at ++ object)
    → piece file (at + blob_key_len) (length object) ≡ Some object

-- the lengths of the parts
pub record PartLengths : Type 0 where
  pub key_header : (object_len at directory : ℕ) (class name : List ℕ) → length (key_header object_len at directory class name)
      ≡ key_header_len class name
  pub blob_key : (object_len at : ℕ) → length (blob_key object_len at) ≡ blob_key_len
  pub header : (end free : ℕ) → length (header_part end free) ≡ header_part_len
  pub file_record : (keys : ℕ) → length (record_part keys) ≡ record_part_len
  pub begin : (end free keys : ℕ) → length (begun end free keys) ≡ begun_len
  pub anchor : (at : ℕ) (a : Anchor) → length (anchor_part at a) ≡ anchor_part_len
  pub key_list : (at anchor_at : ℕ) → length (key_list_part at anchor_at) ≡ key_list_part_len
  pub free_list : (at end : ℕ) → length (free_list_part at end) ≡ free_list_part_len
  pub finished : (a : Anchor) (middle : List (List ℕ)) → length (finished_file a middle) ≡ 544 + length (concat middle)

-- a file whose first byte is 0, or that has none, isn't finished, whatever else is wrong
abbrev pub UnfinishedIsFirst : Type 0
UnfinishedIsFirst = (file : List ℕ) → slice_index file 0 ≡ 0 → anchor_of file ≡ Err (fault unfinished 0)

-- what is written first has 0 for the first byte, and the first byte makes it header and record
pub record BeginIsGated : Type 0 where
  pub shut : (end free keys : ℕ) (rest : List ℕ) → slice_index (begun end free keys ++ rest) 0 ≡ 0
  pub opened : (end free keys : ℕ) (rest : List ℕ) → slice_set (begun end free keys ++ rest) 0 0x72 ≡ header_part end free
      ++ (record_part keys ++ rest)

-- strings of either form and places of either size are read, whatever follows
pub record WordsAreRead : Type 0 where
  pub short : (text rest : List ℕ) (place : ℕ) → length text < 255
      → tstring_at (standing place (short_tstring text ++ rest)) ≡ Ok (text, standing (place + length (short_tstring text)) rest)
  pub long : (text rest : List ℕ) (place : ℕ) → length text < 2 ^ 32
      → tstring_at (standing place (long_tstring text ++ rest)) ≡ Ok (text, standing (place + length (long_tstring text)) rest)
  pub wide : (n place : ℕ) (rest : List ℕ) → n < 2 ^ 64 → place_at true (standing place (to_be_bytes w64 n ++ rest))
      ≡ Ok (n, standing (place + 8) rest)
  pub narrow : (n place : ℕ) (rest : List ℕ) → n < 2 ^ 32 → place_at false (standing place (to_be_bytes w32 n ++ rest))
      ≡ Ok (n, standing (place + 4) rest)
