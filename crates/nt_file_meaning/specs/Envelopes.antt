-- The envelopes of a file, which stand where a link says (RNTuple Binary Format Specification 1.0.0.0, sections Envelopes and Locators and
-- Envelope Links).
use Rattle.std.specs.Prelude.{ℕ, ◌≡◌, ◌+◌, ◌/◌, ◌^◌, ◌<◌, List, take, length, nat_eq, nat_lt, if◌then◌else◌, Some, Result, Ok, Err}
use Rattle.std.specs.Int.{w64, from_le_bytes}
use Rattle.nt_num.specs.Codes.{compressed, out_of_file, bad_envelope}
use Rattle.nt_num.specs.Faults.{fault, with_values, moved}
use Rattle.nt_num.specs.declared.fault.ReadError.{ReadError}
use Rattle.nt_xxh3.specs.Sum.{xxh3}
use Rattle.nt_lists.specs.Chaining.{◌>>=◌}
use Rattle.nt_format.specs.declared.fault.EnvelopeFault.{EnvelopeFault}
use Rattle.nt_format.specs.declared.fault.EnvelopeFault.TheVariants.{Size, Kind, Checksum}
use Rattle.nt_format.specs.Demands.{demand, found_or}
use Rattle.nt_format.specs.Envelopes.{unsealed, envelope, payload_of}
use Rattle.nt_format.specs.Pieces.{piece}

-- the kinds of envelopes; that of a page list stands with page lists
abbrev pub header_kind : ℕ
header_kind = 1

-- a footer
abbrev pub footer_kind : ℕ
footer_kind = 2

-- the payload of an envelope begins behind its first word
abbrev pub payload_start : ℕ
payload_start = 8

-- what stands in an envelope, and the checksum at its end
pub record Sealed : Type 0 where
  pub payload : List ℕ
  pub sum : ℕ

-- an envelope of this kind, opened_envelope
abbrev pub sealed : ℕ → List ℕ → Sealed
sealed kind payload = record { payload = payload; sum = xxh3 (unsealed kind payload) }

-- where a block stands in a file: its place, its bytes there, and its bytes once they are uncompressed
pub record Block : Type 0 where
  pub place : ℕ
  pub size : ℕ
  pub len : ℕ

-- the size that an envelope's first word says
abbrev pub said_size : List ℕ → ℕ
said_size bytes = from_le_bytes w64 (take 8 bytes) / 2 ^ 16

-- what is wrong with bytes at a place that are no envelope of this kind; a size is told where there is one
abbrev pub envelope_fault : ℕ → ℕ → List ℕ → EnvelopeFault → ReadError
envelope_fault place kind bytes Size =
    if nat_lt (length bytes) 16 then fault bad_envelope place else with_values (said_size bytes) (length bytes) (fault bad_envelope place)
envelope_fault place kind bytes (Kind kept) = with_values kept kind (fault bad_envelope place)
envelope_fault place kind bytes (Checksum kept found) = with_values kept found (fault bad_envelope place)

-- the envelope that was found, or its fault
abbrev pub opened_envelope : ℕ → ℕ → List ℕ → Result (List ℕ) EnvelopeFault → Result Sealed ReadError
opened_envelope place kind bytes (Ok payload) = Ok (sealed kind payload)
opened_envelope place kind bytes (Err e) = Err (envelope_fault place kind bytes e)

-- a block is stored as it is (own profile)
abbrev pub is_stored_plain : Block → Result (Unit {0}) ReadError
is_stored_plain block = demand (nat_eq block.size block.len) (with_values block.len block.size (fault compressed block.place))

-- the bytes of a block lie in the file
abbrev pub block_bytes : List ℕ → Block → Result (List ℕ) ReadError
block_bytes file block = found_or (fault out_of_file block.place) (piece file block.place block.size)

-- the envelope of this kind that is a block of the file, or the first fault
unfoldable pub envelope_of : List ℕ → ℕ → Block → Result Sealed ReadError
envelope_of file kind block = do
  plain ← is_stored_plain block
  bytes ← block_bytes file block
  opened_envelope block.place kind bytes (payload_of kind bytes)

-- a block of the file is this envelope, stored as it is
pub record IsEnvelope (file : List ℕ) (kind : ℕ) (block : Block) (is : Sealed) : Type 0 where
  pub plain : block.size ≡ block.len
  pub there : piece file block.place block.size ≡ Some (envelope kind is.payload)
  pub sum : is.sum ≡ xxh3 (unsealed kind is.payload)
  pub small : length is.payload + 16 < 2 ^ 48

-- a fault inside of the payload of an envelope, with its place in the file
abbrev pub inside_of : {V : Type 0} → Block → Result V ReadError → Result V ReadError
inside_of block (Ok value) = Ok value
inside_of block (Err e) = Err (moved (block.place + payload_start) e)
