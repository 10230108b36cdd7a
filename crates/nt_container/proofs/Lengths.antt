-- How long the container's parts are.
use Rattle.std.proofs.Common.{◌≡◌, ℕ, ◌+◌, List, [], ◌∷◌, ◌++◌, length, replicate, codes, refl, ◌∙◌, arith}
use Rattle.std.specs.Int.{w16, w32, w64, to_be_bytes}
use Rattle.std.proofs.lemmas.List.{length-append}
use Rattle.nt_xxh3.specs.Sum.{xxh3}
use Rattle.nt_container.specs.declared.anchor.Anchor.{Anchor}
use Rattle.nt_container.specs.Words.{short_tstring}
use Rattle.nt_container.specs.Keys.{anchor_class}
use Rattle.nt_container.specs.Spelling.{zero_uuid, header_rest, header_numbers, header_words, header_part, key_header_len, key_sizes}
use Rattle.nt_container.specs.Spelling.{key_names, key_header, file_key, directory_numbers, directory_words, record_names, record_part}
use Rattle.nt_container.specs.Spelling.{blob_key, anchor_key, anchor_fields, anchor_object, anchor_part, last_free, key_list_part}
use Rattle.nt_container.specs.Spelling.{free_piece, free_list_part}
use Rattle.nt_format.proofs.Pieces.{length-concat}
use Rattle.nt_container.proofs.AnchorBack.{fields-len}

pub uuid-len : length zero_uuid ≡ 18
unfolding zero_uuid
uuid-len = refl

pub header_words-len : (end free : ℕ) → length (header_words end free) ≡ 75
unfolding header_words header_numbers header_rest zero_uuid
header_words-len end free = refl

pub header-len : (end free : ℕ) → length (header_part end free) ≡ 100
unfolding header_part
header-len end free = omega (arith, length-append (header_words end free) (replicate 25 0), header_words-len end free)

sizes-len : (header_len object_len : ℕ) → length (key_sizes header_len object_len) ≡ 18
unfolding key_sizes
sizes-len header_len object_len = refl

names-len : (at directory : ℕ) (class name : List ℕ) → length (key_names at directory class name) ≡ 19 + length class + length name
unfolding key_names short_tstring
names-len at directory class name =
    length-concat (to_be_bytes w64 at ∷ to_be_bytes w64 directory ∷ short_tstring class ∷ short_tstring name ∷ short_tstring []
    ∷ []) ∙ omega arith

pub key_header-len : (object_len at directory : ℕ) (class name : List ℕ) → length (key_header object_len at directory class name)
    ≡ key_header_len class name
unfolding key_header
key_header-len object_len at directory class name =
    length-concat (key_sizes (key_header_len class name) object_len ∷ key_names at directory class name ∷ [])
    ∙ omega (arith, sizes-len (key_header_len class name) object_len, names-len at directory class name)

pub file_key-len : (object_len at directory : ℕ) → length (file_key object_len at directory) ≡ 53
unfolding file_key
file_key-len object_len at directory = key_header-len object_len at directory (codes "TFile") (codes "events.root")

pub blob_key-len : (object_len at : ℕ) → length (blob_key object_len at) ≡ 42
unfolding blob_key
blob_key-len object_len at = key_header-len object_len at 100 (codes "RBlob") []

pub anchor_key-len : (at : ℕ) → length (anchor_key at) ≡ 56
unfolding anchor_key
anchor_key-len at = key_header-len 78 at 100 anchor_class (codes "events")

pub directory-len : (keys : ℕ) → length (directory_words keys) ≡ 42
unfolding directory_words directory_numbers
directory-len keys = refl

pub record_head-len : length record_names ≡ 66
unfolding record_names short_tstring
record_head-len = length-concat (file_key 73 100 0 ∷ short_tstring (codes "events.root") ∷ short_tstring [] ∷ [])
    ∙ omega (arith, file_key-len 73 100 0)

pub file_record-len : (keys : ℕ) → length (record_part keys) ≡ 126
unfolding record_part
file_record-len keys = omega (
  arith,
  length-append record_names (directory_words keys ++ zero_uuid),
  length-append (directory_words keys) zero_uuid,
  record_head-len,
  directory-len keys,
  uuid-len,
)

pub object-len : (a : Anchor) → length (anchor_object a) ≡ 78
unfolding anchor_object
object-len a =
    length-concat ((to_be_bytes w32 0x40000042 ++ to_be_bytes w16 2) ∷ anchor_fields a ∷ to_be_bytes w64 (xxh3 (anchor_fields a))
    ∷ []) ∙ omega (arith, fields-len a)

pub anchor-len : (at : ℕ) (a : Anchor) → length (anchor_part at a) ≡ 134
unfolding anchor_part
anchor-len at a = omega (arith, length-append (anchor_key at) (anchor_object a), anchor_key-len at, object-len a)

pub key_list-len : (at anchor_at : ℕ) → length (key_list_part at anchor_at) ≡ 113
unfolding key_list_part
key_list-len at anchor_at = length-concat (file_key 60 at 100 ∷ to_be_bytes w32 1 ∷ anchor_key anchor_at ∷ [])
    ∙ omega (arith, file_key-len 60 at 100, anchor_key-len anchor_at)

free_piece-len : (first last : ℕ) → length (free_piece first last) ≡ 18
unfolding free_piece
free_piece-len first last = refl

pub free_list-len : (at end : ℕ) → length (free_list_part at end) ≡ 71
unfolding free_list_part
free_list-len at end =
    omega (
      arith,
      length-append (file_key 18 at 100) (free_piece end (last_free end)),
      file_key-len 18 at 100,
      free_piece-len end (last_free end),
    )
