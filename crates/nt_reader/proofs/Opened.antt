-- Bytes that are an envelope, as they are kept.
use Rattle.std.proofs.Common.{◌≡◌, ℕ, ◌+◌, ◌-◌, ◌*◌, ◌^◌, ◌≤◌, List, length, take, drop, Ok, refl, sym, ap, ◌∙◌, arith}
use Rattle.std.specs.Int.{w64, from_le_bytes, to_le_bytes}
use Rattle.std.proofs.lemmas.List.{drop-take, take_at, drop_at, length-append}
use Rattle.std.proofs.lemmas.Nat.{from_le_bytes-to_le_bytes_8}
use Rattle.nt_xxh3.specs.Sum.{xxh3}
use Rattle.nt_format.specs.Reading.{IsBytes}
use Rattle.nt_format.specs.Envelopes.{unsealed, envelope, payload_of}
use Rattle.nt_format.proofs.Sum.{xxh3_below}
use Rattle.nt_format.proofs.Envelopes.{payload_takes}
use Rattle.nt_file_meaning.specs.Envelopes.{Sealed, sealed, opened_envelope}
use Rattle.nt_reader.specs.Envelopes.{opened_bytes}

-- the bytes between the first word and the checksum
pub inside_of-slice : (bytes : List ℕ) → 16 ≤ length bytes → take (length bytes - 8 - 8) (drop 8 bytes) ≡ drop 8
    (take (length bytes - 8) bytes)
inside_of-slice bytes long =
    let split : length bytes - 8 ≡ 8 + (length bytes - 8 - 8) = omega (arith, long) in
    sym (ap (λ (n : ℕ). drop 8 (take n bytes)) split ∙ drop-take 8 (length bytes - 8 - 8) bytes)

word_len : (n : ℕ) → length (to_le_bytes w64 n) ≡ 8
word_len n = refl

-- what an envelope's bytes are kept as
kept_as : (kind : ℕ) (bytes payload : List ℕ) → bytes ≡ envelope kind payload
    → sealed kind payload ≡ opened_bytes bytes (from_le_bytes w64 (drop (length bytes - 8) bytes))
kept_as kind bytes payload is =
    let front : List ℕ = unsealed kind payload in
    let sum : List ℕ = to_le_bytes w64 (xxh3 (unsealed kind payload)) in
    let len : length bytes - 8 ≡ length front = omega (
      arith,
      ap (λ (l : List ℕ). length l) is,
      length-append front sum,
      word_len
          (xxh3 (unsealed kind payload)),
    ) in
    let head : take (length bytes - 8) bytes ≡ front = ap (λ (l : List ℕ). take (length bytes - 8) l) is
    ∙ take_at front sum (length bytes - 8) (sym len) in
    let last : drop (length bytes - 8) bytes ≡ sum = ap (λ (l : List ℕ). drop (length bytes - 8) l) is
    ∙ drop_at front sum (length bytes - 8) (sym len) in
    let inner : drop 8 front ≡ payload = drop_at (to_le_bytes w64 ((length payload + 16) * 2 ^ 16 + kind)) payload 8 refl in
    let number : from_le_bytes w64 (drop (length bytes - 8) bytes) ≡ xxh3 front = ap (from_le_bytes w64) last
    ∙ from_le_bytes-to_le_bytes_8 (xxh3 front) (xxh3_below front) in
    ap (λ (l : List ℕ). record { payload = l; sum = xxh3 front }) (sym (ap (λ (l : List ℕ). drop 8 l) head ∙ inner))
    ∙ ap (λ (n : ℕ). record { payload = drop 8 (take (length bytes - 8) bytes); sum = n }) (sym number)

pub opened_envelope-kept : (place kind : ℕ) (bytes payload : List ℕ) → IsBytes bytes → payload_of kind bytes ≡ Ok payload
    → opened_envelope place kind bytes (payload_of kind bytes) ≡ Ok
    (opened_bytes bytes (from_le_bytes w64 (drop (length bytes - 8) bytes)))
opened_envelope-kept place kind bytes payload fits is =
    rw is (ap (λ (s : Sealed). Ok s) (kept_as kind bytes payload (payload_takes kind bytes payload fits is).0))
