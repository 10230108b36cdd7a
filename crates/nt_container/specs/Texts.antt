-- The grammar of the container's parts (ROOT's TFile, TDirectory and TKey; RNTuple Binary Format Specification 1.0.0.0, section Anchor
-- Schema), with all that they can say: which texts stand for which values.
use Rattle.std.specs.Prelude.{ℕ, zero, suc, ◌<◌, ◌^◌, Bool, List, [], ◌∷◌, nat_le, nat_lt, nat_eq, if◌then◌else◌}
use Rattle.std.specs.Int.{w16, w32, w64, to_be_bytes, to_le_bytes, w8}
use Rattle.nt_format.specs.Grammars.{Then, Makes, Spelled, Bytes, Choice}
use Rattle.nt_container.specs.declared.parts.FileHeader.{FileHeader}
use Rattle.nt_container.specs.declared.parts.Directory.{Directory}
use Rattle.nt_container.specs.declared.parts.Sizes.{Sizes}
use Rattle.nt_container.specs.declared.parts.Key.{Key}
use Rattle.nt_container.specs.declared.anchor.Anchor.{Anchor}

-- a byte
abbrev pub Byte : List ℕ → ℕ → Type 0
Byte = Spelled (to_le_bytes w8) (λ n. n < 256)

-- a number of two bytes, the highest first
abbrev pub Word16 : List ℕ → ℕ → Type 0
Word16 = Spelled (to_be_bytes w16) (λ n. n < 2 ^ 16)

-- a number of four bytes
abbrev pub Word32 : List ℕ → ℕ → Type 0
Word32 = Spelled (to_be_bytes w32) (λ n. n < 2 ^ 32)

-- a number of eight bytes
abbrev pub Word64 : List ℕ → ℕ → Type 0
Word64 = Spelled (to_be_bytes w64) (λ n. n < 2 ^ 64)

-- a place in the file, of 8 or 4 bytes
abbrev pub Place : Bool → List ℕ → ℕ → Type 0
Place wide = Choice wide Word64 Word32

-- what a length byte says: after 255 the length is a number of four bytes
abbrev pub TStringSize : ℕ → List ℕ → ℕ → Type 0
TStringSize byte = Choice (nat_eq byte 255) Word32 (Makes byte)

-- a TString
abbrev pub TString : List ℕ → List ℕ → Type 0
TString = Then Byte λ byte. Then (TStringSize byte) Bytes

-- fBEGIN, fEND, fSeekFree, fNbytesFree, nfree and fNbytesName; and fUnits, fCompress, fSeekInfo, fNbytesInfo and the UUID
abbrev pub HeaderNumbers : Bool → List ℕ → FileHeader → Type 0
HeaderNumbers wide =
    Then Word32 λ begin. Then (Place wide) λ end. Then (Place wide) λ free. Then Word32 λ free_len. Then Word32 λ pieces.
    Then Word32 λ name_len.
    Then (Bytes (if wide then 35 else 31)) λ rest. Makes (record { begin = begin; end = end; name_len = name_len })

-- a file header: four bytes, the version, which from 1000000 on has places of 8 bytes, and its numbers
abbrev pub HeaderText : List ℕ → FileHeader → Type 0
HeaderText = Then (Then (Bytes 4) λ root. Word32) λ version. HeaderNumbers (nat_le 1000000 version)

-- two times, fNbytesKeys, fNbytesName, fSeekDir, fSeekParent and fSeekKeys
abbrev pub DirectoryNumbers : Bool → List ℕ → Directory → Type 0
DirectoryNumbers wide =
    Then (Bytes 8) λ times. Then Word32 λ keys_len. Then Word32 λ name_len. Then (Place wide) λ own. Then (Place wide) λ parent.
    Then (Place wide) λ keys.
    Makes (record { keys = keys; keys_len = keys_len })

-- a directory: the version, which above 1000 has places of 8 bytes, and its numbers
abbrev pub DirectoryText : List ℕ → Directory → Type 0
DirectoryText = Then Word16 λ version. DirectoryNumbers (nat_lt 1000 version)

-- Nbytes, version, ObjLen, Datime, KeyLen and Cycle
abbrev pub SizesText : List ℕ → Sizes → Type 0
SizesText =
    Then Word32 λ len. Then Word16 λ version. Then Word32 λ object_len. Then Word32 λ time. Then Word16 λ header_len. Then Word16 λ cycle.
    Makes (record { len = len; version = version; object_len = object_len; header_len = header_len })

-- SeekKey, SeekPdir, class, name and title: the place and the class
abbrev pub NamesText : Bool → List ℕ → (ℕ × List ℕ) → Type 0
NamesText wide =
    Then (Place wide) λ place. Then (Place wide) λ directory. Then TString λ class. Then TString λ name. Then TString λ title.
    Makes (place, class)

-- a key's header, whose version above 1000 has places of 8 bytes: the key, and the class of its object
abbrev pub KeyText : List ℕ → (Key × List ℕ) → Type 0
KeyText =
    Then SizesText λ sizes. Then (NamesText (nat_lt 1000 sizes.version)) λ names.
    Makes (record { len = sizes.len; object_len = sizes.object_len; header_len = sizes.header_len; place = names.0 }, names.1)

-- so many keys' headers, one behind the other
abbrev pub KeysText : ℕ → List ℕ → List (Key × List ℕ) → Type 0
KeysText zero = Makes []
KeysText (suc n) = Then KeyText λ key. Then (KeysText n) λ keys. Makes (key ∷ keys)

-- SeekHeader, NBytesHeader, LenHeader, SeekFooter, NBytesFooter and LenFooter
abbrev pub EnvelopesText : List ℕ → Anchor → Type 0
EnvelopesText =
    Then Word64 λ header. Then Word64 λ header_size. Then Word64 λ header_len. Then Word64 λ footer. Then Word64 λ footer_size.
    Then Word64 λ footer_len.
    Makes (record {
      header = header;
      header_size = header_size;
      header_len = header_len;
      footer = footer;
      footer_size = footer_size;
      footer_len = footer_len;
    })
