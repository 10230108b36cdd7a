-- The anchor of an ntuple in ROOT's container (TFile, TDirectory, TKey, and RNTuple Binary Format Specification 1.0.0.0, section Anchor
-- Schema): the anchor, or the first fault in the order in which they are looked for.
use Rattle.std.specs.Prelude.{ℕ, ◌+◌, ◌-◌, List, nat_eq, Result, Ok}
use Rattle.std.specs.Int.{w16, w64}
use Rattle.nt_num.specs.Place.{At}
use Rattle.nt_num.specs.Cursor.{big, part_of}
use Rattle.nt_num.specs.declared.fault.ReadError.{ReadError}
use Rattle.nt_xxh3.specs.Sum.{xxh3}
use Rattle.nt_lists.specs.Chaining.{◌>>=◌, refused_as}
use Rattle.nt_format.specs.Pieces.{piece_or}
use Rattle.nt_format.specs.Demands.{bytes_at, demand}
use Rattle.nt_container.specs.declared.anchor.Anchor.{Anchor}
use Rattle.nt_container.specs.declared.parts.Key.{Key}
use Rattle.nt_num.specs.Codes.{bad_anchor, bad_epoch, compressed, out_of_file}
use Rattle.nt_num.specs.Faults.{fault, with_values}
use Rattle.nt_container.specs.FileHeader.{file_header_of, directory_place, directory_of}
use Rattle.nt_container.specs.Keys.{anchor_key_of}

-- the bytes of an anchor's object
abbrev pub object_size : ℕ
object_size = 78

-- those of them that the checksum covers
abbrev pub fields_size : ℕ
fields_size = 64

-- the anchor's object is stored as it is, and has the length of one
unfoldable pub is_plain : Key → Result (Unit {0}) ReadError
is_plain key = do
  plain ← demand (nat_eq key.len (key.header_len + key.object_len))
      (with_values key.object_len (key.len - key.header_len) (fault compressed key.place))
  demand (nat_eq key.object_len object_size) (with_values object_size key.object_len (fault bad_anchor key.place))

-- the object behind its key's header
unfoldable pub object_of : List ℕ → Key → Result At ReadError
object_of file key = do
  plain ← is_plain key
  piece_or (fault out_of_file key.place) file (key.place + key.header_len) object_size

-- the bytes that the checksum covers, behind byte count and class version, which are ignored (own profile)
unfoldable pub covered_fields : ℕ → At → Result At ReadError
covered_fields place object = do
  head ← refused_as (fault bad_anchor place) (bytes_at 6 object)
  fields ← refused_as (fault bad_anchor place) (part_of fields_size head.1)
  kept ← refused_as (fault bad_anchor place) (big w64 fields.1)
  same ← demand (nat_eq kept.0 (xxh3 fields.0.left)) (with_values kept.0 (xxh3 fields.0.left) (fault bad_anchor place))
  Ok fields.0

-- SeekHeader, NBytesHeader, LenHeader, SeekFooter, NBytesFooter and LenFooter
unfoldable pub envelopes_at : At → Result (Anchor × At) ℕ
envelopes_at here = do
  header ← big w64 here
  header_size ← big w64 header.1
  header_len ← big w64 header_size.1
  footer ← big w64 header_len.1
  footer_size ← big w64 footer.1
  footer_len ← big w64 footer_size.1
  Ok (
    record {
      header = header.0;
      header_size = header_size.0;
      header_len = header_len.0;
      footer = footer.0;
      footer_size = footer_size.0;
      footer_len = footer_len.0;
    },
    footer_len.1,
  )

-- the anchor in those bytes: epoch 1 with any other version numbers (own profile), and where header and footer stand
unfoldable pub anchor_in : ℕ → At → Result Anchor ReadError
anchor_in place fields = do
  epoch ← refused_as (fault bad_anchor place) (big w16 fields)
  first ← demand (nat_eq epoch.0 1) (with_values 1 epoch.0 (fault bad_epoch place))
  versions ← refused_as (fault bad_anchor place) (bytes_at 6 epoch.1)
  envelopes ← refused_as (fault bad_anchor place) (envelopes_at versions.1)
  Ok envelopes.0

-- the anchor in the object of a key that stands at a place
unfoldable pub anchor_from : ℕ → At → Result Anchor ReadError
anchor_from place object = do
  fields ← covered_fields place object
  anchor_in place fields

-- the anchor of a file
unfoldable pub anchor_of : List ℕ → Result Anchor ReadError
anchor_of file = do
  header ← file_header_of file
  directory ← directory_of file (directory_place header)
  key ← anchor_key_of file directory
  object ← object_of file key
  anchor_from key.place object
