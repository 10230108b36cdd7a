-- What is written in front of a finished file is read back: the file header and the directory.
use Rattle.std.proofs.Common.{◌≡◌, ℕ, take, ◌<◌, ◌≤◌, ◌^◌, true, false, leb, ltb, List, [], ◌∷◌, ◌++◌}
use Rattle.std.proofs.Common.{length, Ok, Some, refl, ap, ◌∙◌, arith, codes}
use Rattle.std.specs.List.{concat}
use Rattle.std.specs.Int.{w16, w32, w64, to_be_bytes}
use Rattle.std.proofs.lemmas.Bool.{le-leb, le-ltb}
use Rattle.std.proofs.lemmas.List.{take_at, length-append}
use Rattle.nt_num.specs.Cursor.{big}
use Rattle.nt_format.specs.Reading.{ReadsAs}
use Rattle.nt_container.specs.declared.parts.Directory.{Directory}
use Rattle.nt_format.specs.Pieces.{piece, window}
use Rattle.nt_format.specs.Demands.{bytes_at}
use Rattle.nt_container.specs.Words.{place_at}
use Rattle.nt_container.specs.FileHeader.{gate_of, header_at, header_in, file_header_of, directory_numbers_at, directory_at}
use Rattle.nt_container.specs.FileHeader.{directory_in, directory_of}
use Rattle.nt_container.specs.Spelling.{header_numbers, header_words, directory_numbers, directory_words}
use Rattle.nt_format.proofs.Pieces.{piece_window}
use Rattle.nt_format.proofs.Chains.{spread, total, of_parts, alone}
use Rattle.nt_container.proofs.Words.{word_16, word_32, wide_place, plain_bytes}
use Rattle.nt_container.proofs.HeaderBack.{header_reads}
use Rattle.nt_container.proofs.Lengths.{header_words-len}

gate_again : (rest : List ℕ) → gate_of (codes "root" ++ rest) ≡ Ok tt
unfolding gate_of
gate_again rest =
    let long : ltb (length (codes "root" ++ rest)) 4 ≡ false = le-ltb _ _ (omega (arith, length-append (codes "root") rest)) in
    rw long refl

gate_is : (end free : ℕ) → gate_of (header_words end free) ≡ Ok tt
unfolding header_words
gate_is end free = gate_again (concat (to_be_bytes w32 1063400 ∷ header_numbers end free ∷ []))

header_inside : (end free size : ℕ) → end < 2 ^ 64 → free < 2 ^ 64 → end ≤ size → header_in (header_words end free) size
    ≡ Ok (record { begin = 100; end = end; name_len = 66 })
unfolding header_in
header_inside end free size small smaller inside =
    let test : leb end size ≡ true = le-leb _ _ inside in
    rw (
      gate_is end free,
      alone header_at (header_words end free) (record {
        begin = 100;
        end = end;
        name_len = 66;
      }) (header_reads end free small smaller) 0,
      test,
    ) refl

pub header_is : (file : List ℕ) (end free : ℕ) (rest : List ℕ) → file ≡ header_words end free ++ rest → end < 2 ^ 64 → free < 2 ^ 64
    → end ≤ length file
    → file_header_of file ≡ Ok (record { begin = 100; end = end; name_len = 66 })
header_is file end free rest whole small smaller inside =
    let front : window 75 file 0 ≡ header_words end free =
    ap (λ (l : List ℕ). take 75 l) whole ∙ take_at (header_words end free) rest 75 (header_words-len end free) in
    ap (λ (l : List ℕ). header_in l (length file)) front ∙ header_inside end free (length file) small smaller inside

numbers-chain : (b c d e f g : List ℕ) (keys_len name_len own parent keys : ℕ) → ReadsAs (bytes_at 8) b b
    → ReadsAs (big w32) c keys_len → ReadsAs (big w32) d name_len
    → ReadsAs (place_at true) e own → ReadsAs (place_at true) f parent → ReadsAs (place_at true) g keys
    → ReadsAs (directory_numbers_at true) (concat (b ∷ c ∷ d ∷ e ∷ f ∷ g ∷ [])) (record { keys = keys; keys_len = keys_len })
unfolding directory_numbers_at
numbers-chain b c d e f g keys_len name_len own parent keys q r s t u v =
    of_parts (directory_numbers_at true) (b ∷ c ∷ d ∷ e ∷ f ∷ g ∷ []) (record { keys = keys; keys_len = keys_len }) λ place rest.
    rw (
      q place (spread (c ∷ d ∷ e ∷ f ∷ g ∷ []) rest),
      r (total place (b ∷ [])) (spread (d ∷ e ∷ f ∷ g ∷ []) rest),
      s (total place (b ∷ c ∷ [])) (spread (e ∷ f ∷ g ∷ []) rest),
      t (total place (b ∷ c ∷ d ∷ [])) (spread (f ∷ g ∷ []) rest),
      u (total place (b ∷ c ∷ d ∷ e ∷ [])) (spread (g ∷ []) rest),
      v (total place (b ∷ c ∷ d ∷ e ∷ f ∷ [])) rest,
    ) refl

directory-chain : (a b : List ℕ) (version : ℕ) (directory : Directory) → ReadsAs (big w16) a version → ltb 1000 version ≡ true
    → ReadsAs (directory_numbers_at true) b directory
    → ReadsAs directory_at (concat (a ∷ b ∷ [])) directory
unfolding directory_at
directory-chain a b version directory p wide q =
    of_parts directory_at (a ∷ b ∷ []) directory λ place rest. rw (p place (spread (b ∷ []) rest), wide, q (total place (a ∷ [])) rest) refl

directory_reads : (keys : ℕ) → keys < 2 ^ 64 → ReadsAs directory_at (directory_words keys) (record { keys = keys; keys_len = 113 })
unfolding directory_words directory_numbers
directory_reads keys small =
    directory-chain (to_be_bytes w16 1005) (directory_numbers keys) 1005 (record {
      keys = keys;
      keys_len = 113;
    }) (word_16 1005 (omega arith)) refl
    (numbers-chain (to_be_bytes w32 0x00420000 ++ to_be_bytes w32 0x00420000) (to_be_bytes w32 113) (to_be_bytes w32 66)
    (to_be_bytes w64 100) (to_be_bytes w64 0) (to_be_bytes w64 keys)
    113 66 100 0 keys (plain_bytes 8 (to_be_bytes w32 0x00420000 ++ to_be_bytes w32 0x00420000) refl) (word_32 113 (omega arith))
    (word_32 66 (omega arith)) (wide_place 100 (omega arith)) (wide_place 0 (omega arith)) (wide_place keys small))

pub directory_is : (file : List ℕ) (place keys : ℕ) → keys < 2 ^ 64 → piece file place 42 ≡ Some (directory_words keys)
    → directory_of file place ≡ Ok (record { keys = keys; keys_len = 113 })
directory_is file place keys small e =
    let read = alone directory_at (directory_words keys) (record { keys = keys; keys_len = 113 }) (directory_reads keys small) 0 in
    ap (λ (l : List ℕ). directory_in place l) (piece_window file (directory_words keys) place 42 e) ∙ rw read refl
