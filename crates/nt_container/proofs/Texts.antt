-- The container's readings agree with their grammars.
use Rattle.std.proofs.Common.{◌≡◌, ℕ, ◌%◌, ◌<◌, ◌≤◌, ◌^◌, Bool, true, false, cond, leb, ltb, eqb, List, [], ◌∷◌, length, refl, ap, arith}
use Rattle.std.specs.Int.{w8, w16, w32, w64, from_le_bytes, to_le_bytes, from_be_bytes, to_be_bytes}
use Rattle.nt_num.specs.Cursor.{little, big}
use Rattle.nt_format.proofs.Numbers.{IsCode, number_spells, big_16, big_32, big_64}
use Rattle.nt_container.specs.Words.{place_at, tstring_at}
use Rattle.nt_container.specs.FileHeader.{version_at, header_numbers_at, header_at, directory_numbers_at, directory_at}
use Rattle.nt_container.specs.Keys.{sizes_at, key_names_at, key_at}
use Rattle.nt_container.specs.Anchors.{envelopes_at}
use Rattle.nt_format.specs.Grammars.{IsRead}
use Rattle.nt_container.specs.Texts.{Byte, TString, Word16, Word32, Word64, Place, HeaderNumbers, HeaderText, DirectoryNumbers}
use Rattle.nt_container.specs.Texts.{DirectoryText, SizesText, NamesText, KeyText, EnvelopesText}
use Rattle.nt_format.specs.Reading.{IsBytes}
use Rattle.nt_format.proofs.Grammars.{spelled, plain, gives, seq, choice, IsShort, then_short, plain_short, makes_short, spelled_short}
use Rattle.nt_format.proofs.Grammars.{choice_short, less_short}

byte_is : (b : ℕ) → b < 256 → from_le_bytes w8 (b ∷ []) % 256 ≡ b
byte_is b small = omega arith

one_code : (bytes : List ℕ) → length bytes ≡ 1 → IsBytes bytes → to_le_bytes w8 (from_le_bytes w8 bytes) ≡ bytes
one_code [] e fits = absurd (omega arith)
one_code (b ∷ []) e fits = let small : b < 256 = fits 0 in ap (λ (n : ℕ). n ∷ []) (byte_is b small)
one_code (b ∷ c ∷ bs) e fits = absurd (omega arith)

little_8 : IsCode 1 256 (from_le_bytes w8) (to_le_bytes w8)
little_8 = record {
  len = λ n. refl;
  back = one_code;
  again = λ n lt. omega arith;
  below = λ bytes fits. omega (arith, fits 0);
}

pub word_16 : IsRead (big w16) Word16
word_16 = spelled (big w16) (to_be_bytes w16) (λ n. n < 2 ^ 16) (number_spells 2 (2 ^ 16) (from_be_bytes w16) (to_be_bytes w16) big_16)

pub word_32 : IsRead (big w32) Word32
word_32 = spelled (big w32) (to_be_bytes w32) (λ n. n < 2 ^ 32) (number_spells 4 (2 ^ 32) (from_be_bytes w32) (to_be_bytes w32) big_32)

pub word_64 : IsRead (big w64) Word64
word_64 = spelled (big w64) (to_be_bytes w64) (λ n. n < 2 ^ 64) (number_spells 8 (2 ^ 64) (from_be_bytes w64) (to_be_bytes w64) big_64)

pub place : (wide : Bool) → IsRead (place_at wide) (Place wide)
unfolding place_at
place wide = choice wide word_64 word_32

pub sizes : IsRead sizes_at SizesText
unfolding sizes_at
sizes = seq _ word_32 λ len. seq _ word_16 λ version. seq _ word_32 λ object_len. seq _ word_32 λ time. seq _ word_16 λ header_len.
    seq _ word_16 λ cycle. gives _

pub byte : IsRead (little w8) Byte
byte = spelled (little w8) (to_le_bytes w8) (λ n. n < 256) (number_spells 1 256 (from_le_bytes w8) (to_le_bytes w8) little_8)

pub tstring : IsRead tstring_at TString
unfolding tstring_at
tstring = seq _ byte λ b. seq _ (choice (eqb b 255) word_32 (gives b)) λ size. plain size

pub header_numbers : (wide : Bool) → IsRead (header_numbers_at wide) (HeaderNumbers wide)
unfolding header_numbers_at
header_numbers wide =
    seq _ word_32 λ begin. seq _ (place wide) λ end. seq _ (place wide) λ free. seq _ word_32 λ free_len. seq _ word_32 λ pieces.
    seq _ word_32 λ name_len.
    seq _ (plain (cond wide 35 31)) λ rest. gives _

pub header_text : IsRead header_at HeaderText
unfolding header_at version_at
header_text = seq _ (seq _ (plain 4) λ root. word_32) λ version. header_numbers (leb 1000000 version)

pub directory_numbers : (wide : Bool) → IsRead (directory_numbers_at wide) (DirectoryNumbers wide)
unfolding directory_numbers_at
directory_numbers wide =
    seq _ (plain 8) λ times. seq _ word_32 λ keys_len. seq _ word_32 λ name_len. seq _ (place wide) λ own. seq _ (place wide)
    λ parent. seq _ (place wide) λ keys. gives _

pub directory_text : IsRead directory_at DirectoryText
unfolding directory_at
directory_text = seq _ word_16 λ version. directory_numbers (ltb 1000 version)

pub names : (wide : Bool) → IsRead (key_names_at wide) (NamesText wide)
unfolding key_names_at
names wide = seq _ (place wide) λ at. seq _ (place wide) λ parent. seq _ tstring λ class. seq _ tstring λ name.
    seq _ tstring λ title. gives _

pub key : IsRead key_at KeyText
unfolding key_at
key = seq _ sizes λ s. seq _ (names (ltb 1000 s.version)) λ n. gives _

pub envelopes : IsRead envelopes_at EnvelopesText
unfolding envelopes_at
envelopes = seq _ word_64 λ header. seq _ word_64 λ header_size. seq _ word_64 λ header_len. seq _ word_64 λ footer. seq _ word_64
    λ footer_size. seq _ word_64 λ footer_len. gives _

word_16-short : IsShort 2 Word16
word_16-short = spelled_short 2 (to_be_bytes w16) (λ n. n < 2 ^ 16) (λ n. refl)

word_32-short : IsShort 4 Word32
word_32-short = spelled_short 4 (to_be_bytes w32) (λ n. n < 2 ^ 32) (λ n. refl)

word_64-short : IsShort 8 Word64
word_64-short = spelled_short 8 (to_be_bytes w64) (λ n. n < 2 ^ 64) (λ n. refl)

place-short : (wide : Bool) → IsShort 8 (Place wide)
place-short wide = choice_short wide 8 word_64-short (less_short 4 8 (omega arith) word_32-short)

rest-len : (wide : Bool) → cond wide 35 31 ≤ 35
rest-len true = omega arith
rest-len false = omega arith

numbers-short : (wide : Bool) → IsShort 67 (HeaderNumbers wide)
numbers-short wide =
    then_short 4 63 word_32-short λ begin. then_short 8 55 (place-short wide) λ end. then_short 8 47 (place-short wide) λ free.
    then_short 4 43 word_32-short λ free_len.
    then_short 4 39 word_32-short λ pieces. then_short 4 35 word_32-short λ name_len.
    then_short 35 0 (less_short (cond wide 35 31) 35 (rest-len wide) (plain_short (cond wide 35 31))) λ rest. makes_short _

pub header-short : IsShort 75 HeaderText
header-short = then_short 8 67 (then_short 4 4 (plain_short 4) λ root. word_32-short) λ version. numbers-short (leb 1000000 version)

directory_numbers-short : (wide : Bool) → IsShort 40 (DirectoryNumbers wide)
directory_numbers-short wide =
    then_short 8 32 (plain_short 8) λ times. then_short 4 28 word_32-short λ keys_len. then_short 4 24 word_32-short λ name_len.
    then_short 8 16 (place-short wide) λ own. then_short 8 8 (place-short wide) λ parent. then_short 8 0 (place-short wide)
    λ keys. makes_short _

pub directory-short : IsShort 42 DirectoryText
directory-short = then_short 2 40 word_16-short λ version. directory_numbers-short (ltb 1000 version)
