-- A file is read as the anchor that it embeds, and no other.
use Rattle.std.proofs.Common.{◌≡◌, ℕ, ◌+◌, eqb, List, length, Some, refl}
use Rattle.std.proofs.lemmas.Bool.{eqb-true, eq-eqb}
use Rattle.nt_num.specs.Place.{At}
use Rattle.nt_format.specs.Reading.{standing, IsBytes}
use Rattle.nt_format.specs.Pieces.{piece}
use Rattle.nt_format.specs.Relations.{Agrees, With, Passes, StandsAt, IsPiece}
use Rattle.nt_format.proofs.Pieces.{piece_parts}
use Rattle.nt_format.proofs.Relations.{bind, test, part, piece_bytes, in_words}
use Rattle.nt_container.specs.declared.anchor.Anchor.{Anchor}
use Rattle.nt_container.specs.declared.parts.Key.{Key}
use Rattle.nt_container.specs.FileHeader.{directory_place}
use Rattle.nt_container.specs.Anchors.{is_plain, object_of, anchor_of}
use Rattle.nt_container.specs.Texts.{DirectoryText}
use Rattle.nt_container.specs.Embeds.{Lists, AnchorText, Embeds}
use Rattle.nt_container.proofs.Embedding.{IsHeader, header, directory}
use Rattle.nt_container.proofs.Listing.{anchor_key}
use Rattle.nt_container.proofs.Anchoring.{from_object}

-- the object of a key, in words
record IsObject (file : List ℕ) (key : Key) (object : At) : Type 0 where
  plain : key.len ≡ key.header_len + key.object_len
  size : key.object_len ≡ 78
  there : piece file (key.place + key.header_len) 78 ≡ Some object.left
  begins : object.place ≡ 0

ObjectSteps : List ℕ → Key → At → Type 0
ObjectSteps file key =
    With (With (Passes (eqb key.len (key.header_len + key.object_len))) λ u. Passes (eqb key.object_len 78)) λ v. IsPiece file
    (key.place + key.header_len) 78

object_steps : (file : List ℕ) (key : Key) → Agrees (object_of file key) (ObjectSteps file key)
unfolding object_of is_plain ObjectSteps
object_steps file key = bind _ (bind _ (test _ _) λ u p. test _ _) λ v q. part _ file (key.place + key.header_len) 78

object : (file : List ℕ) (key : Key) → Agrees (object_of file key) (IsObject file key)
unfolding ObjectSteps
object file key = in_words
    (λ here w. record {
      plain = eqb-true _ _ w.first.first;
      size = eqb-true _ _ w.first.second;
      there = w.second.is;
      begins = w.second.begins;
    })
    (λ here o. record {
      middle = tt;
      first = record { middle = tt; first = eq-eqb _ _ o.plain; second = eq-eqb _ _ o.size };
      second = record { is = o.there; begins = o.begins };
    })
    (object_steps file key)

object_size_is : (file object : List ℕ) (key : Key) → piece file (key.place + key.header_len) 78 ≡ Some object → length object ≡ 78
object_size_is file object key e = (piece_parts file object (key.place + key.header_len) 78 e).2

Steps : List ℕ → Anchor → Type 0
Steps file =
    With (IsHeader file) λ h. With (StandsAt DirectoryText file (directory_place h)) λ d. With (Lists file d) λ k.
    With (IsObject file k) λ o. AnchorText o.left

steps : (file : List ℕ) → IsBytes file → Agrees (anchor_of file) (Steps file)
unfolding anchor_of Steps
steps file bytes =
    bind _ (header file bytes) λ h hs. bind _ (directory file (directory_place h) bytes) λ d ds. bind _ (anchor_key file d bytes)
    λ k ks. bind _ (object file k) λ o os.
    from_object k.place o (piece_bytes file o.left (k.place + k.header_len) 78 bytes os.there) os.begins
    (object_size_is file o.left k os.there)

pub embedded : (file : List ℕ) → IsBytes file → Agrees (anchor_of file) (Embeds file)
unfolding Steps
embedded file bytes = in_words
    (λ a w. record {
      header = w.middle;
      directory = w.second.middle;
      key = w.second.second.middle;
      object = w.second.second.second.middle.left;
      root = w.first.root;
      is_header = w.first.is;
      ends = w.first.ends;
      is_directory = w.second.first;
      is_key = w.second.second.first;
      plain = w.second.second.second.first.plain;
      size = w.second.second.second.first.size;
      there = w.second.second.second.first.there;
      is_anchor = w.second.second.second.second;
    })
    (λ a e. record {
      middle = e.header;
      first = record { root = e.root; is = e.is_header; ends = e.ends };
      second = record {
        middle = e.directory;
        first = e.is_directory;
        second = record {
          middle = e.key;
          first = e.is_key;
          second = record {
            middle = standing 0 e.object;
            first = record { plain = e.plain; size = e.size; there = e.there; begins = refl };
            second = e.is_anchor;
          };
        };
      };
    })
    (steps file bytes)
