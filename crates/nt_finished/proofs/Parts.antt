-- A finished file as it is written: its first byte, the rest of its front, the header's blob, the ranges and page lists, and what
-- stands behind them.
use Rattle.std.proofs.Common.{◌≡◌, ℕ, ◌+◌, Bool, true, List, [], ◌∷◌, ◌++◌, map, length, drop, refl, sym, ap, ◌∙◌, append_assoc, append-nil}
use Rattle.std.proofs.Common.{arith}
use Rattle.std.specs.List.{concat}
use Rattle.std.proofs.lemmas.List.{map-append, length-map}
use Rattle.nt_format.proofs.Pieces.{concat-append}
use Rattle.nt_lists.specs.Parts.{Part, part_bytes}
use Rattle.nt_machine.specs.History.{Cluster, ranges_of}
use Rattle.nt_book.specs.declared.meta.ClusterMeta.{ClusterMeta}
use Rattle.nt_book.specs.Books.{BookData}
use Rattle.nt_grammar.specs.Table.{Table}
use Rattle.nt_container.specs.declared.anchor.Anchor.{Anchor}
use Rattle.nt_container.specs.Spelling.{header_words, header_part, record_part, anchor_part, key_list_part, free_list_part}
use Rattle.nt_container.specs.Finished.{finished_file, parts_behind, keys_place, free_place, end_place}
use Rattle.nt_layout.specs.Headers.{header_blob, header_sum, clusters_place}
use Rattle.nt_layout.specs.Groups.{PlacedList, list_parts}
use Rattle.nt_layout.specs.Finished.{list_places, lists_behind, list_blobs, range_parts, middle, footer_blob, footer_place, anchor_of_file}
use Rattle.nt_layout.specs.Finished.{blobs, finished_with, finished, anchor_start, keys_start, free_start, file_len, ending, tail, front}
use Rattle.nt_finished.proofs.Lengths.{blobs-are, length-blobs}
use Rattle.nt_finished.proofs.Arranged.{middle-end}
use Rattle.nt_layout.proofs.Middles.{concat-range_parts}

-- a file header begins with its first byte
first-byte : (end free : ℕ) → header_part end free ≡ 0x72 ∷ drop 1 (header_part end free)
unfolding header_part header_words
first-byte end free = refl

-- the parts of a file around its middle
around : (a : Anchor) (middle : List (List ℕ)) → finished_file a middle
    ≡ header_part (end_place (length (concat middle))) (free_place (length (concat middle)))
    ++ (record_part (keys_place (length (concat middle))) ++ (concat middle ++ concat (parts_behind (length (concat middle)) a)))
unfolding finished_file
around a middle =
    ap (λ (l : List ℕ). header_part (end_place (length (concat middle))) (free_place (length (concat middle)))
    ++ (record_part (keys_place (length (concat middle))) ++ l))
    (concat-append middle (parts_behind (length (concat middle)) a))

grouped : (byte : ℕ) (h r b m f a k e : List ℕ)
    → (byte ∷ h) ++ (r ++ ((b ++ (m ++ f)) ++ (a ++ (k ++ (e ++ []))))) ≡ byte ∷ ((h ++ r) ++ (b ++ (m ++ (f ++ (a ++ (k ++ e))))))
grouped byte h r b m f a k e = simp (append_assoc, append-nil) refl

ending-is : (t : Table) (book : BookData) (ls : List PlacedList) → ending t book ls
    ≡ footer_blob t book ls
    ++ (anchor_part (anchor_start t book ls) (anchor_of_file t book ls)
    ++ (key_list_part (keys_start t book ls) (anchor_start t book ls)
    ++ free_list_part (free_start t book ls) (file_len t book ls)))
unfolding ending
ending-is t book ls = refl

front-is : (t : Table) (book : BookData) (ls : List PlacedList)
    → front t book ls ≡ drop 1 (header_part (file_len t book ls) (free_start t book ls)) ++ record_part (keys_start t book ls)
unfolding front
front-is t book ls = refl

-- a file of these parts, whose places are counted from where the anchor begins
placed : (m : List ℕ) (a : Anchor) (n at : ℕ) → 226 + n ≡ at
    → header_part (end_place n) (free_place n) ++ (record_part (keys_place n) ++ (m ++ concat (parts_behind n a)))
    ≡ header_part (at + 134 + 113 + 71) (at + 134 + 113) ++ (record_part (at + 134) ++ (m ++ (anchor_part at a
    ++ (key_list_part (at + 134) at ++ (free_list_part (at + 134 + 113) (at + 134 + 113 + 71) ++ [])))))
placed m a n at is =
    let keys : keys_place n ≡ at + 134 = omega (arith, is) in
    let free : free_place n ≡ at + 134 + 113 = omega (arith, is) in
    let end : end_place n ≡ at + 134 + 113 + 71 = omega (arith, is) in
    rw (is, keys, free, end) refl

-- any parts between header and footer
parts_between : (t : Table) (book : BookData) (ls : List PlacedList) (parts : List Part)
    → clusters_place t + length (concat (part_bytes parts)) ≡ footer_place t book ls
    → finished_with t book ls parts
    ≡ 0x72 ∷ (front t book ls ++ (header_blob t ++ (concat (part_bytes parts) ++ ending t book ls)))
parts_between t book ls parts ends =
    let m = concat (part_bytes parts) in
    around (anchor_of_file t book ls) (blobs t book ls parts)
    ∙ (placed (concat (blobs t book ls parts)) (anchor_of_file t book ls) (length (concat (blobs t book ls parts)))
    (anchor_start t book ls)
    (length-blobs t book ls parts ends)
    ∙ (ap (λ (l : List ℕ). header_part (file_len t book ls) (free_start t book ls) ++ (record_part (keys_start t book ls)
    ++ (l ++ (anchor_part (anchor_start t book ls) (anchor_of_file t book ls)
    ++ (key_list_part (keys_start t book ls) (anchor_start t book ls)
    ++ (free_list_part (free_start t book ls) (file_len t book ls) ++ []))))))
    (blobs-are t book ls parts)
    ∙ (ap (λ (l : List ℕ). l ++ (record_part (keys_start t book ls)
    ++ ((header_blob t ++ (m ++ footer_blob t book ls))
    ++ (anchor_part (anchor_start t book ls) (anchor_of_file t book ls)
    ++ (key_list_part (keys_start t book ls) (anchor_start t book ls)
    ++ (free_list_part (free_start t book ls) (file_len t book ls) ++ []))))))
    (first-byte (file_len t book ls) (free_start t book ls))
    ∙ (grouped 0x72 (drop 1 (header_part (file_len t book ls) (free_start t book ls))) (record_part (keys_start t book ls))
    (header_blob t) m (footer_blob t book ls) (anchor_part (anchor_start t book ls) (anchor_of_file t book ls))
    (key_list_part (keys_start t book ls) (anchor_start t book ls)) (free_list_part (free_start t book ls) (file_len t book ls))
    ∙ (ap (λ (l : List ℕ). 0x72 ∷ (l ++ (header_blob t ++ (m ++ (footer_blob t book ls
    ++ (anchor_part (anchor_start t book ls) (anchor_of_file t book ls)
    ++ (key_list_part (keys_start t book ls) (anchor_start t book ls)
    ++ free_list_part (free_start t book ls) (file_len t book ls))))))))
    (sym (front-is t book ls))
    ∙ ap (λ (l : List ℕ). 0x72 ∷ (front t book ls ++ (header_blob t ++ (m ++ l)))) (sym (ending-is t book ls)))))))

module _ (t : Table) (most : ℕ) (ranges : List (List ℕ)) (book : BookData) (begin : book.begin ≡ clusters_place t)
    (lens : map length ranges ≡ map (λ (c : Cluster ClusterMeta). c.len) (ranges_of book.history)) where
  -- ranges and page lists, wherever these stand
  pub parts_written : (staged : Bool) → finished staged t book most ranges
      ≡ 0x72 ∷ (front t book (list_places staged t book most)
      ++ (header_blob t ++ (concat (part_bytes (middle staged t book most ranges)) ++ ending t book (list_places staged t book most))))
  parts_written staged =
      parts_between t book (list_places staged t book most) (middle staged t book most ranges)
      (middle-end t book most ranges staged begin lens)

  -- page lists behind all ranges
  pub ranges_written : finished true t book most ranges
      ≡ 0x72 ∷ (front t book (lists_behind t book most) ++ (header_blob t ++ (concat ranges ++ tail t book (lists_behind t book most))))
  ranges_written =
      let cs = ranges_of book.history in
      let ls = lists_behind t book most in
      let same : length ranges ≡ length cs =
      sym (length-map ranges length) ∙ (ap length lens ∙ length-map cs (λ (c : Cluster ClusterMeta). c.len)) in
      let bytes : concat (part_bytes (middle true t book most ranges)) ≡ concat ranges ++ concat (list_blobs t book ls) =
      ap (λ (l : List (List ℕ)). concat l)
      (map-append (λ (p : Part). p.bytes) (range_parts cs ranges) (list_parts (header_sum t) book ls))
      ∙ (concat-append (part_bytes (range_parts cs ranges)) (list_blobs t book ls)
      ∙ ap (λ (l : List ℕ). l ++ concat (list_blobs t book ls)) (concat-range_parts cs ranges same)) in
      parts_written true
      ∙ ap (λ (l : List ℕ). 0x72 ∷ (front t book ls ++ (header_blob t ++ l)))
      (ap (λ (l : List ℕ). l ++ ending t book ls) bytes
      ∙ append_assoc (concat ranges) (concat (list_blobs t book ls)) (ending t book ls))
