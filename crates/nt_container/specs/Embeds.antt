-- When a file embeds an anchor, told by places, in the words of ROOT's TFile and TKey layout and of the RNTuple Binary Format
-- Specification 1.0.0.0, section Anchor Schema. It says nothing of faults: the reading beside it (Anchors) gives this anchor, or the first
-- fault.
use Rattle.std.specs.Prelude.{ℕ, ◌≡◌, ◌≤◌, ◌+◌, List, [], ◌∷◌, ◌++◌, length, take, codes, if◌then◌else◌, Option, Some, None}
use Rattle.std.specs.Int.{w16, w64, to_be_bytes}
use Rattle.std.specs.Str.{bytes_eq}
use Rattle.nt_xxh3.specs.Sum.{xxh3}
use Rattle.nt_format.specs.Pieces.{piece}
use Rattle.nt_format.specs.Relations.{StandsAt}
use Rattle.nt_container.specs.declared.parts.FileHeader.{FileHeader}
use Rattle.nt_container.specs.declared.parts.Directory.{Directory}
use Rattle.nt_container.specs.declared.parts.Key.{Key}
use Rattle.nt_container.specs.declared.anchor.Anchor.{Anchor}
use Rattle.nt_container.specs.FileHeader.{directory_place}
use Rattle.nt_container.specs.Keys.{anchor_class}
use Rattle.nt_container.specs.Anchors.{object_size, fields_size}
use Rattle.nt_container.specs.Texts.{Word32, HeaderText, DirectoryText, KeyText, KeysText, EnvelopesText}

-- the first key of the anchor's class among keys and the classes of their objects
abbrev pub first_of_class : List (Key × List ℕ) → Option Key
first_of_class [] = None
first_of_class (one ∷ others) = if bytes_eq one.1 anchor_class then Some one.0 else first_of_class others

-- the directory's list of keys begins with its own key; behind that key's header stands how many keys there are, and then their
-- headers, the anchor's the first of its class
pub record Lists (file : List ℕ) (directory : Directory) (key : Key) : Type 0 where
  pub list : List ℕ
  pub own : Key × List ℕ
  pub count : ℕ
  pub keys : List (Key × List ℕ)
  pub there : piece file directory.keys directory.keys_len ≡ Some list
  pub is_own : StandsAt KeyText list 0 own
  pub counted : StandsAt Word32 list own.0.header_len count
  pub listed : StandsAt (KeysText count) list (own.0.header_len + 4) keys
  pub first : first_of_class keys ≡ Some key

-- an anchor's object: byte count and class version; epoch 1 and other version numbers, where the envelopes stand, and the largest
-- key; and the checksum of these fields
pub record AnchorText (text : List ℕ) (anchor : Anchor) : Type 0 where
  pub head : List ℕ
  pub fields : List ℕ
  pub versions : List ℕ
  pub places : List ℕ
  pub most : List ℕ
  pub parts : text ≡ head ++ (fields ++ to_be_bytes w64 (xxh3 fields))
  pub inside : fields ≡ to_be_bytes w16 1 ++ (versions ++ (places ++ most))
  pub is : EnvelopesText places anchor
  pub head_size : length head ≡ 6
  pub size : length fields ≡ fields_size
  pub versions_size : length versions ≡ 6

-- a file embeds an anchor
pub record Embeds (file : List ℕ) (anchor : Anchor) : Type 0 where
  pub header : FileHeader
  pub directory : Directory
  pub key : Key
  pub object : List ℕ
  -- the file begins with `root`, and with a file header that says where its first key stands; it doesn't end before fEND
  pub root : take 4 file ≡ codes "root"
  pub is_header : StandsAt HeaderText file 0 header
  pub ends : header.end ≤ length file
  -- the directory stands behind the first key's header and the file's name and title
  pub is_directory : StandsAt DirectoryText file (directory_place header) directory
  -- its list of keys has the anchor's key
  pub is_key : Lists file directory key
  -- the key's object is stored as it is
  pub plain : key.len ≡ key.header_len + key.object_len
  pub size : key.object_len ≡ object_size
  -- the object stands behind the key's header, and is the anchor's
  pub there : piece file (key.place + key.header_len) object_size ≡ Some object
  pub is_anchor : AnchorText object anchor
