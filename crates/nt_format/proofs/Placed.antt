-- Numbers and strings of which what can't be read is misplaced.
use Rattle.std.proofs.Common.{◌≡◌, ℕ, ◌^◌, ◌<◌, List, length, Result, Ok, Err, ap}
use Rattle.std.specs.Int.{w16, w32, w64, to_le_bytes, from_le_bytes}
use Rattle.nt_num.specs.Place.{At}
use Rattle.nt_num.specs.Cursor.{little}
use Rattle.nt_num.specs.declared.fault.ReadError.{ReadError}
use Rattle.nt_lists.proofs.Variants.{ok_is}
use Rattle.nt_format.specs.Reading.{placed, Spells, ReadsAs, Yields, AndBytes}
use Rattle.nt_format.specs.Strings.{string, string_at}
use Rattle.nt_format.proofs.Numbers.{number_spells, little_16, little_32, little_64}
use Rattle.nt_format.proofs.Strings.{string_spells}

pub placed_ok : {A : Type 0} (r : Result A ℕ) (x : A) → placed r ≡ Ok x → r ≡ Ok x
placed_ok (Ok y) x e = ap (λ (z : _). Ok z) (ok_is {E = ReadError} y x e)
placed_ok (Err at) x e = absurd cc

-- what is spelled is read
pub placed-reads : {V : Type 0} (reading : At → Result (V × At) ℕ) (spelling : V → List ℕ) (Fits : V → Type 0)
    → Spells reading spelling Fits
    → (value : V) → Fits value → ReadsAs (λ here. placed (reading here)) (spelling value) value
placed-reads {V = V} reading spelling Fits spells value fits place rest =
    ap (λ (r : Result (V × At) ℕ). placed r) (spells.reads value place rest fits)

-- what is read fits
pub placed-yields : {V : Type 0} (reading : At → Result (V × At) ℕ) (spelling : V → List ℕ) (Fits : V → Type 0)
    → Spells reading spelling Fits
    → Yields (λ here. placed (reading here)) (AndBytes Fits)
placed-yields reading spelling Fits spells here w bytes e =
    let found = spells.finds here w.1 w.0 bytes (placed_ok (reading here) w e) in
    (found.1, found.0.bytes)

-- two bytes as a number
unfoldable pub u16_at : At → Result (ℕ × At) ReadError
u16_at here = placed (little w16 here)

-- four bytes as a number
unfoldable pub u32_at : At → Result (ℕ × At) ReadError
u32_at here = placed (little w32 here)

-- eight bytes as a number
unfoldable pub u64_at : At → Result (ℕ × At) ReadError
u64_at here = placed (little w64 here)

-- a string
unfoldable pub text_at : At → Result (List ℕ × At) ReadError
text_at here = placed (string_at here)

u16_spells : Spells (little w16) (to_le_bytes w16) (λ n. n < 2 ^ 16)
u16_spells = number_spells 2 (2 ^ 16) (from_le_bytes w16) (to_le_bytes w16) little_16

u32_spells : Spells (little w32) (to_le_bytes w32) (λ n. n < 2 ^ 32)
u32_spells = number_spells 4 (2 ^ 32) (from_le_bytes w32) (to_le_bytes w32) little_32

u64_spells : Spells (little w64) (to_le_bytes w64) (λ n. n < 2 ^ 64)
u64_spells = number_spells 8 (2 ^ 64) (from_le_bytes w64) (to_le_bytes w64) little_64

pub u16-reads : (n : ℕ) → n < 2 ^ 16 → ReadsAs u16_at (to_le_bytes w16 n) n
unfolding u16_at
u16-reads = placed-reads (little w16) (to_le_bytes w16) (λ n. n < 2 ^ 16) u16_spells

pub u32-reads : (n : ℕ) → n < 2 ^ 32 → ReadsAs u32_at (to_le_bytes w32 n) n
unfolding u32_at
u32-reads = placed-reads (little w32) (to_le_bytes w32) (λ n. n < 2 ^ 32) u32_spells

pub u64-reads : (n : ℕ) → n < 2 ^ 64 → ReadsAs u64_at (to_le_bytes w64 n) n
unfolding u64_at
u64-reads = placed-reads (little w64) (to_le_bytes w64) (λ n. n < 2 ^ 64) u64_spells

pub text-reads : (t : List ℕ) → length t < 2 ^ 32 → ReadsAs text_at (string t) t
unfolding text_at
text-reads = placed-reads string_at string (λ t. length t < 2 ^ 32) string_spells

pub u16-yields : Yields u16_at (AndBytes (λ n. n < 2 ^ 16))
unfolding u16_at
u16-yields = placed-yields (little w16) (to_le_bytes w16) (λ n. n < 2 ^ 16) u16_spells

pub u32-yields : Yields u32_at (AndBytes (λ n. n < 2 ^ 32))
unfolding u32_at
u32-yields = placed-yields (little w32) (to_le_bytes w32) (λ n. n < 2 ^ 32) u32_spells

pub u64-yields : Yields u64_at (AndBytes (λ n. n < 2 ^ 64))
unfolding u64_at
u64-yields = placed-yields (little w64) (to_le_bytes w64) (λ n. n < 2 ^ 64) u64_spells

pub text-yields : Yields text_at (AndBytes (λ t. length t < 2 ^ 32))
unfolding text_at
text-yields = placed-yields string_at string (λ t. length t < 2 ^ 32) string_spells
