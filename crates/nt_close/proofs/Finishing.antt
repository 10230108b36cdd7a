-- What the last steps make of a file that was filled.
use Rattle.std.proofs.Common.{◌≡◌, ◌∙◌, ℕ, suc, ◌+◌, Bool, List, [], ◌∷◌, ◌++◌, length, drop, refl, ap, sym, arith, append_assoc}
use Rattle.std.specs.List.{concat}
use Rattle.std.proofs.Math.Seq.{drop-append_seam}
use Rattle.std.proofs.lemmas.List.{length-append}
use Rattle.nt_lists.specs.Parts.{part_bytes}
use Rattle.nt_lists.specs.Places.{put_at}
use Rattle.nt_outside.specs.Held.{Held}
use Rattle.nt_container.specs.Spelling.{header_words, header_part, record_part, begun}
use Rattle.nt_container.proofs.Gate.{begin-len}
use Rattle.nt_container.proofs.Lengths.{header-len, file_record-len}
use Rattle.nt_grammar.specs.Table.{Table}
use Rattle.nt_book.specs.Books.{BookData}
use Rattle.nt_layout.specs.Headers.{header_blob}
use Rattle.nt_layout.specs.Groups.{PlacedList}
use Rattle.nt_layout.specs.Finished.{list_places, list_blobs, ending, front, finished, keys_start, free_start, file_len}
use Rattle.nt_layout.specs.Arranged.{lists_after, parts_filled}
use Rattle.nt_finished.specs.Filled.{IsArrangedBook}
use Rattle.nt_finished.proofs.LaidArranged.{middle_arranged}
use Rattle.nt_finished.proofs.Parts.{parts_written}
use Rattle.nt_close.specs.Steps.{first_byte, closed_on}
use Rattle.nt_close.specs.Filled.{filled_file, closing_tail, closing_front}

-- bytes of which there are some, as their first and the others
pub first_and_others : (xs : List ℕ) (n : ℕ) → length xs ≡ suc n → (x : ℕ) × (others : List ℕ) × (xs ≡ x ∷ others) × (length others ≡ n)
first_and_others [] n long = absurd (omega arith)
first_and_others (x ∷ xs) n long = (x, xs, refl, omega arith)

put_behind_first : (x : ℕ) (others rest over : List ℕ) → length others ≡ length over
    → drop 1 (put_at ((x ∷ others) ++ rest) 1 over) ≡ over ++ rest
put_behind_first x others rest over same =
    let next : 1 + length over ≡ suc (length others) = omega arith in
    ap (λ (n : ℕ). over ++ drop n ((x ∷ others) ++ rest)) next ∙ ap (λ (l : List ℕ). over ++ l) (drop-append_seam others rest)

-- the bytes behind the first one of a head are put in place, and then the first
put_over : (head rest over : List ℕ) (b : ℕ) → length head ≡ suc (length over) → put_at (put_at (head ++ rest) 1 over) 0 (b ∷ [])
    ≡ b ∷ (over ++ rest)
put_over head rest over b long =
    let parts = first_and_others head (length over) long in
    ap (λ (l : List ℕ). b ∷ drop 1 (put_at (l ++ rest) 1 over)) parts.2
    ∙ ap (λ (l : List ℕ). b ∷ l) (put_behind_first parts.0 parts.1 rest over parts.3)

-- the file header begins with the byte that is written last
header_begins : (end free : ℕ) → header_part end free ≡ 0x72 ∷ drop 1 (header_part end free)
unfolding header_part header_words
header_begins end free = refl

length-front : (end free keys : ℕ) → length (drop 1 (header_part end free) ++ record_part keys) ≡ 225
length-front end free keys =
    omega (
      arith,
      ap length (header_begins end free),
      header-len end free,
      file_record-len keys,
      length-append (drop 1 (header_part end free)) (record_part keys),
    )

module _ (staged : Bool) (t : Table) (book : BookData) (most : ℕ) where
  -- the page lists, where they stand
  abbrev ls : List PlacedList
  ls = list_places staged t book most

  -- those that are left
  abbrev left : List (List ℕ)
  left = list_blobs t book (lists_after staged t book most)

  pub front_len : length (closing_front staged t book most) ≡ 225
  unfolding front
  front_len = length-front (file_len t book ls) (free_start t book ls) (keys_start t book ls)

  -- the ranges, and the page lists that stand between them
  abbrev pub stands : List (List ℕ) → List ℕ
  stands ranges = concat (part_bytes (parts_filled staged t book most ranges))

  -- the finished file, with what closing writes apart
  pub finished-apart : (ranges : List (List ℕ)) → IsArrangedBook staged t most book ranges
      → finished staged t book most ranges
      ≡ 0x72 ∷ (closing_front staged t book most ++ (header_blob t ++ (stands ranges ++ closing_tail staged t book most)))
  finished-apart ranges is =
      parts_written t most ranges book is.begin is.lens staged
      ∙ ap (λ (l : List ℕ). 0x72 ∷ (closing_front staged t book most ++ (header_blob t ++ l)))
      (ap (λ (l : List ℕ). l ++ ending t book ls) (middle_arranged staged t most book ranges is)
      ∙ append_assoc (stands ranges) (concat left) (ending t book ls))

  -- what the last steps make of a file that was filled
  pub closed-is : (ranges : List (List ℕ)) (h : Held) → IsArrangedBook staged t most book ranges
      → h.image ≡ filled_file staged t book most ranges
      → (closed_on (closing_tail staged t book most) (closing_front staged t book most) h).image ≡ finished staged t book most ranges
  closed-is ranges h is was =
      let last = closing_tail staged t book most in
      let rest = header_blob t ++ (stands ranges ++ last) in
      let joined : h.image ++ last ≡ begun 0 0 0 ++ rest =
      ap (λ (l : List ℕ). l ++ last) was
      ∙ (append_assoc (begun 0 0 0 ++ header_blob t) (stands ranges) last
      ∙ append_assoc (begun 0 0 0) (header_blob t) (stands ranges ++ last)) in
      ap (λ (l : List ℕ). put_at (put_at l 1 (closing_front staged t book most)) 0 first_byte) joined
      ∙ (put_over (begun 0 0 0) rest (closing_front staged t book most) 0x72 (omega (arith, begin-len 0 0 0, front_len))
      ∙ sym (finished-apart ranges is))
