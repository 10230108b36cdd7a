-- A block of a file is read as the envelope that it is.
use Rattle.std.proofs.Common.{◌≡◌, ℕ, ◌+◌, ◌^◌, ◌<◌, List, length, Some, Result, Ok, Err, refl, sym, ap, subst, ◌∙◌, eqb}
use Rattle.std.proofs.lemmas.Bool.{eqb-true, eq-eqb}
use Rattle.nt_num.specs.declared.fault.ReadError.{ReadError}
use Rattle.nt_xxh3.specs.Sum.{xxh3}
use Rattle.nt_lists.proofs.Variants.{ok_is}
use Rattle.nt_format.specs.Reading.{IsBytes}
use Rattle.nt_format.specs.Envelopes.{unsealed, envelope, payload_of}
use Rattle.nt_format.specs.Pieces.{piece}
use Rattle.nt_format.specs.Relations.{Agrees, With, Passes, IsThere}
use Rattle.nt_format.specs.declared.fault.EnvelopeFault.{EnvelopeFault}
use Rattle.nt_format.proofs.Envelopes.{payload_again, payload_takes}
use Rattle.nt_format.proofs.Relations.{bind, test, there, piece_bytes, in_words}
use Rattle.nt_file_meaning.specs.Envelopes.{Sealed, Block, sealed, opened_envelope, envelope_of, IsEnvelope, inside_of}

-- bytes are an envelope of this kind
record IsSealed (kind : ℕ) (bytes : List ℕ) (is : Sealed) : Type 0 where
  all : bytes ≡ envelope kind is.payload
  sum : is.sum ≡ xxh3 (unsealed kind is.payload)
  small : length is.payload + 16 < 2 ^ 48

sealed_is : (kind : ℕ) (is : Sealed) → is.sum ≡ xxh3 (unsealed kind is.payload) → sealed kind is.payload ≡ is
sealed_is kind is e = ap (λ (s : ℕ). record { payload = is.payload; sum = s }) (sym e)

opened_ok : (place kind : ℕ) (bytes : List ℕ) (r : Result (List ℕ) EnvelopeFault) (is : Sealed) → opened_envelope place kind bytes r ≡ Ok is
    → (payload : List ℕ) × (r ≡ Ok payload) × (sealed kind payload ≡ is)
opened_ok place kind bytes (Ok payload) is e = (payload, refl, ok_is {E = ReadError} (sealed kind payload) is e)
opened_ok place kind bytes (Err f) is e = absurd cc

opening : (place kind : ℕ) (bytes : List ℕ) → kind < 2 ^ 16 → IsBytes bytes
    → Agrees (opened_envelope place kind bytes (payload_of kind bytes)) (IsSealed kind bytes)
opening place kind bytes low fits = record {
  reads = λ is h.
      let small : length is.payload + 16 < 2 ^ 48 = h.small in
      ap (λ (r : Result (List ℕ) EnvelopeFault). opened_envelope place kind bytes r) (ap (λ (l : List ℕ). payload_of kind l) h.all
      ∙ payload_again kind is.payload low h.small)
      ∙ ap (λ (s : Sealed). Ok s) (sealed_is kind is h.sum);
  finds = λ is e.
      let o = opened_ok place kind bytes (payload_of kind bytes) is e in
      let f = payload_takes kind bytes o.0 fits o.1 in
      subst (IsSealed kind bytes) o.2 (record { all = f.0; sum = refl; small = f.2 });
}

Steps : List ℕ → ℕ → Block → Sealed → Type 0
Steps file kind block = With (Passes (eqb block.size block.len)) λ u. With (IsThere (piece file block.place block.size)) λ bytes.
    IsSealed kind bytes

steps : (file : List ℕ) (kind : ℕ) (block : Block) → kind < 2 ^ 16 → IsBytes file
    → Agrees (envelope_of file kind block) (Steps file kind block)
unfolding envelope_of Steps
steps file kind block low fits =
    bind _ (test _ _) λ u p. bind _ (there _ _) λ bytes t. opening block.place kind bytes low
    (piece_bytes file bytes block.place block.size fits t)

pub envelope_is : (file : List ℕ) (kind : ℕ) (block : Block) → kind < 2 ^ 16 → IsBytes file
    → Agrees (envelope_of file kind block) (IsEnvelope file kind block)
unfolding Steps
envelope_is file kind block low fits = in_words
    (λ is w. record {
      plain = eqb-true _ _ w.first;
      there = w.second.first ∙ ap (λ (l : List ℕ). Some l) w.second.second.all;
      sum = w.second.second.sum;
      small = w.second.second.small;
    })
    (λ is e. record {
      middle = tt;
      first = eq-eqb _ _ e.plain;
      second = record { middle = envelope kind is.payload; first = e.there; second = record { all = refl; sum = e.sum; small = e.small } };
    })
    (steps file kind block low fits)

-- what is inside of an envelope is read as it is read by itself
inside_ok : {V : Type 0} (block : Block) (r : Result V ReadError) (value : V) → inside_of block r ≡ Ok value → r ≡ Ok value
inside_ok {V = V} block (Ok x) value e = e
inside_ok block (Err f) value e = absurd cc

pub inside : {V : Type 0} (block : Block) (r : Result V ReadError) → Agrees (inside_of block r) (λ value. r ≡ Ok value)
inside {V = V} block r = record {
  reads = λ value h. ap (λ (s : Result V ReadError). inside_of block s) h;
  finds = λ value e. inside_ok block r value e;
}
