-- RNTuple Binary Format Specification 1.0.0.0, section Envelopes. An envelope is all of the bytes that a link leads to.
use Rattle.std.specs.Prelude.{ℕ, ◌+◌, ◌*◌, ◌-◌, ◌/◌, ◌%◌, ◌^◌, List, ◌++◌, length, take, drop, nat_lt, ◌==◌, if◌then◌else◌, Result, Ok, Err}
use Rattle.std.specs.Int.{w64, to_le_bytes, from_le_bytes}
use Rattle.nt_xxh3.specs.Sum.{xxh3}
use Rattle.nt_format.specs.declared.fault.EnvelopeFault.{EnvelopeFault}
use Rattle.nt_format.specs.declared.fault.EnvelopeFault.TheVariants.{Size, Kind, Checksum}

-- all but the checksum: a word with the kind in its low 16 bits and the size of the whole above them, and the payload
abbrev pub unsealed : ℕ → List ℕ → List ℕ
unsealed kind payload = to_le_bytes w64 ((length payload + 16) * 2 ^ 16 + kind) ++ payload

-- an envelope ends with the XXH3-64 of all bytes before it
abbrev pub envelope : ℕ → List ℕ → List ℕ
envelope kind payload = unsealed kind payload ++ to_le_bytes w64 (xxh3 (unsealed kind payload))

-- the payload of the envelope of this kind that the bytes are, or the first fault
unfoldable pub payload_of : ℕ → List ℕ → Result (List ℕ) EnvelopeFault
payload_of kind bytes =
    if nat_lt (length bytes) 16 then Err Size
    else (if word / 2 ^ 16 == length bytes then
    (if word % 2 ^ 16 == kind then
    (if kept == xxh3 covered then Ok (drop 8 covered) else Err (Checksum kept (xxh3 covered)))
    else Err (Kind (word % 2 ^ 16)))
    else Err Size)
  where
    covered : List ℕ
    covered = take (length bytes - 8) bytes

    word : ℕ
    word = from_le_bytes w64 (take 8 covered)

    kept : ℕ
    kept = from_le_bytes w64 (drop (length bytes - 8) bytes)
