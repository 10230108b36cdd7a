-- File header and directory are read back.
use Rattle.std.proofs.Common.{◌≡◌, ℕ, ◌<◌, ◌^◌, true, leb, List, [], ◌∷◌, length, refl, arith, codes}
use Rattle.std.specs.List.{concat}
use Rattle.std.specs.Int.{w32, w64, to_be_bytes}
use Rattle.nt_format.specs.Reading.{ReadsAs}
use Rattle.nt_num.specs.Cursor.{big}
use Rattle.nt_container.specs.declared.parts.FileHeader.{FileHeader}
use Rattle.nt_format.specs.Demands.{bytes_at}
use Rattle.nt_container.specs.Words.{place_at}
use Rattle.nt_container.specs.FileHeader.{version_at, header_numbers_at, header_at}
use Rattle.nt_container.specs.Spelling.{zero_uuid, header_rest, header_numbers, header_words}
use Rattle.nt_format.proofs.Chains.{spread, total, of_parts}
use Rattle.nt_container.proofs.Words.{word_32, wide_place, plain_bytes}

-- any seven parts that are read
numbers-chain : (a b c d e f g : List ℕ) (begin end free free_len pieces name_len : ℕ) → ReadsAs (big w32) a begin
    → ReadsAs (place_at true) b end
    → ReadsAs (place_at true) c free → ReadsAs (big w32) d free_len → ReadsAs (big w32) e pieces → ReadsAs (big w32) f name_len
    → ReadsAs (bytes_at 35) g g
    → ReadsAs (header_numbers_at true) (concat (a ∷ b ∷ c ∷ d ∷ e ∷ f ∷ g ∷ [])) (record { begin = begin; end = end; name_len = name_len })
unfolding header_numbers_at
numbers-chain a b c d e f g begin end free free_len pieces name_len p q r s t u v =
    of_parts (header_numbers_at true) (a ∷ b ∷ c ∷ d ∷ e ∷ f ∷ g ∷ []) (record {
      begin = begin;
      end = end;
      name_len = name_len;
    }) λ place rest.
    rw (
      p place (spread (b ∷ c ∷ d ∷ e ∷ f ∷ g ∷ []) rest),
      q (total place (a ∷ [])) (spread (c ∷ d ∷ e ∷ f ∷ g ∷ []) rest),
      r (total place (a ∷ b ∷ [])) (spread (d ∷ e ∷ f ∷ g ∷ []) rest),
      s (total place (a ∷ b ∷ c ∷ [])) (spread (e ∷ f ∷ g ∷ []) rest),
      t (total place (a ∷ b ∷ c ∷ d ∷ [])) (spread (f ∷ g ∷ []) rest),
      u (total place (a ∷ b ∷ c ∷ d ∷ e ∷ [])) (spread (g ∷ []) rest),
      v (total place (a ∷ b ∷ c ∷ d ∷ e ∷ f ∷ [])) rest,
    ) refl

header_rest-len : length header_rest ≡ 35
unfolding header_rest zero_uuid
header_rest-len = refl

numbers_read : (end free : ℕ) → end < 2 ^ 64 → free < 2 ^ 64
    → ReadsAs (header_numbers_at true) (header_numbers end free) (record { begin = 100; end = end; name_len = 66 })
unfolding header_numbers
numbers_read end free small smaller =
    numbers-chain (to_be_bytes w32 100) (to_be_bytes w64 end) (to_be_bytes w64 free) (to_be_bytes w32 71) (to_be_bytes w32 1)
    (to_be_bytes w32 66) header_rest 100 end free 71 1 66
    (word_32 100 (omega arith)) (wide_place end small) (wide_place free smaller) (word_32 71 (omega arith))
    (word_32 1 (omega arith)) (word_32 66 (omega arith)) (plain_bytes 35 header_rest header_rest-len)

header-chain : (a b c : List ℕ) (version : ℕ) (header : FileHeader) → ReadsAs (bytes_at 4) a a → ReadsAs (big w32) b version
    → leb 1000000 version ≡ true
    → ReadsAs (header_numbers_at true) c header → ReadsAs header_at (concat (a ∷ b ∷ c ∷ [])) header
unfolding header_at version_at
header-chain a b c version header p q wide r =
    of_parts header_at (a ∷ b ∷ c ∷ []) header λ place rest.
    rw (
      p place (spread (b ∷ c ∷ []) rest),
      q (total place (a ∷ [])) (spread (c ∷ []) rest),
      wide,
      r (total place (a ∷ b ∷ [])) rest,
    ) refl

pub header_reads : (end free : ℕ) → end < 2 ^ 64 → free < 2 ^ 64 → ReadsAs header_at (header_words end free) (record {
  begin = 100;
  end = end;
  name_len = 66;
})
unfolding header_words
header_reads end free small smaller =
    header-chain (codes "root") (to_be_bytes w32 1063400) (header_numbers end free) 1063400 (record {
      begin = 100;
      end = end;
      name_len = 66;
    })
    (plain_bytes 4 (codes "root") refl) (word_32 1063400 (omega arith)) refl (numbers_read end free small smaller)
