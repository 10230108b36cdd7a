-- ROOT's TKey: headers of keys, and the list of them. Version 1001 and above has places of 8 bytes.
use Rattle.std.specs.Prelude.{ℕ, zero, suc, ◌+◌, Bool, List, codes, nat_lt, if◌then◌else◌, Option, Some, None, Result, Ok}
use Rattle.std.specs.Int.{w16, w32}
use Rattle.std.specs.Str.{bytes_eq}
use Rattle.nt_num.specs.Place.{At}
use Rattle.nt_num.specs.Cursor.{big}
use Rattle.nt_num.specs.declared.fault.ReadError.{ReadError}
use Rattle.nt_lists.specs.Chaining.{◌>>=◌, refused_as}
use Rattle.nt_format.specs.Pieces.{piece_or}
use Rattle.nt_format.specs.Demands.{bytes_at, found_or}
use Rattle.nt_container.specs.declared.parts.Directory.{Directory}
use Rattle.nt_container.specs.declared.parts.Sizes.{Sizes}
use Rattle.nt_container.specs.declared.parts.Key.{Key}
use Rattle.nt_num.specs.Codes.{bad_key_list, no_ntuple}
use Rattle.nt_num.specs.Faults.{fault}
use Rattle.nt_container.specs.Words.{place_at, tstring_at}

-- the class of an anchor
abbrev pub anchor_class : List ℕ
anchor_class = codes "ROOT::RNTuple"

-- Nbytes, version, ObjLen, Datime, KeyLen and Cycle
unfoldable pub sizes_at : At → Result (Sizes × At) ℕ
sizes_at here = do
  len ← big w32 here
  version ← big w16 len.1
  object_len ← big w32 version.1
  time ← big w32 object_len.1
  header_len ← big w16 time.1
  cycle ← big w16 header_len.1
  Ok (record { len = len.0; version = version.0; object_len = object_len.0; header_len = header_len.0 }, cycle.1)

-- SeekKey, SeekPdir, class, name and title: the place and the class
unfoldable pub key_names_at : Bool → At → Result ((ℕ × List ℕ) × At) ℕ
key_names_at wide here = do
  place ← place_at wide here
  directory ← place_at wide place.1
  class ← tstring_at directory.1
  name ← tstring_at class.1
  title ← tstring_at name.1
  Ok ((place.0, class.0), title.1)

-- a key's header: the key, and the class of its object
unfoldable pub key_at : At → Result ((Key × List ℕ) × At) ℕ
key_at here = do
  sizes ← sizes_at here
  names ← key_names_at (nat_lt 1000 sizes.0.version) sizes.1
  Ok (
    (
      record {
        len = sizes.0.len;
        object_len = sizes.0.object_len;
        header_len = sizes.0.header_len;
        place = names.0.0;
      },
      names.0.1,
    ),
    names.1,
  )

-- the first key of an anchor, once there is one
abbrev pub first_anchor : Option Key → Key → List ℕ → Option Key
first_anchor (Some first) key class = Some first
first_anchor None key class = if bytes_eq class anchor_class then Some key else None

-- so many keys, one behind the other, in the list of keys at a place
abbrev pub keys_on : ℕ → ℕ → Option Key → At → Result (Option Key) ReadError
keys_on list zero first here = Ok first
keys_on list (suc n) first here =
    refused_as (fault bad_key_list (list + here.place)) (key_at here) >>= λ key. keys_on list n (first_anchor first key.0.0 key.0.1) key.1

-- the anchor's key in a list of keys that stands at a place: behind the header of the list's own key the number of keys, and their headers
unfoldable pub anchor_key_in : ℕ → At → Result Key ReadError
anchor_key_in place list = do
  own ← refused_as (fault bad_key_list place) (key_at list)
  object ← refused_as (fault bad_key_list place) (bytes_at own.0.0.header_len list)
  count ← refused_as (fault bad_key_list place) (big w32 object.1)
  first ← keys_on place count.0 None count.1
  found_or (fault no_ntuple place) first

-- the anchor's key in the list of keys of a directory
unfoldable pub anchor_key_of : List ℕ → Directory → Result Key ReadError
anchor_key_of file directory = do
  list ← piece_or (fault bad_key_list directory.keys) file directory.keys directory.keys_len
  anchor_key_in directory.keys list
