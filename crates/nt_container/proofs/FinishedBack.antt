-- A finished file is read as its anchor.
use Rattle.std.proofs.Common.{◌≡◌, ℕ, suc, sum, map, take, drop, get_or, ◌+◌, ◌<◌, ◌≤◌, ◌^◌, List, [], ◌∷◌, ◌++◌}
use Rattle.std.proofs.Common.{length, replicate, Ok, Some, refl, ap, ◌∙◌, append_assoc, arith, codes}
use Rattle.std.specs.List.{concat}
use Rattle.std.specs.Int.{w32, to_be_bytes}
use Rattle.std.proofs.lemmas.List.{length-append}
use Rattle.nt_num.specs.Place.{At}
use Rattle.nt_num.specs.Cursor.{big}
use Rattle.nt_format.specs.Reading.{ReadsAs, standing}
use Rattle.nt_container.specs.declared.anchor.Anchor.{Anchor}
use Rattle.nt_container.specs.declared.parts.FileHeader.{FileHeader}
use Rattle.nt_container.specs.declared.parts.Directory.{Directory}
use Rattle.nt_container.specs.declared.parts.Key.{Key}
use Rattle.nt_format.specs.Pieces.{piece}
use Rattle.nt_format.specs.Demands.{bytes_at}
use Rattle.nt_container.specs.FileHeader.{file_header_of}
use Rattle.nt_container.specs.FileHeader.{directory_place, directory_of}
use Rattle.nt_container.specs.Keys.{anchor_class, key_at, anchor_key_in, anchor_key_of}
use Rattle.nt_container.specs.Anchors.{is_plain, object_of, anchor_from, anchor_of}
use Rattle.nt_container.specs.Spelling.{zero_uuid, header_words, header_part, directory_words}
use Rattle.nt_container.specs.Spelling.{record_names, record_part, file_key, anchor_key, anchor_object, anchor_part, key_list_part}
use Rattle.nt_container.specs.Spelling.{free_list_part}
use Rattle.nt_container.specs.Finished.{anchor_place, keys_place, free_place, end_place, parts_behind, finished_file, IsAnchor}
use Rattle.nt_format.proofs.Pieces.{piece_at, split_at, length-concat, part_from, concat-append}
use Rattle.nt_container.proofs.Words.{word_32, plain_bytes}
use Rattle.nt_container.proofs.KeysBack.{key_of, anchor_key_reads, file_key_reads}
use Rattle.nt_container.proofs.AnchorBack.{object_reads}
use Rattle.nt_container.proofs.Lengths.{header-len, file_record-len, uuid-len, header_words-len, file_key-len, anchor_key-len}
use Rattle.nt_container.proofs.Lengths.{directory-len, record_head-len, object-len, key_list-len, free_list-len}
use Rattle.nt_container.proofs.OutlineBack.{directory_is, header_is}

list-chain : (file a b c : List ℕ) (place len : ℕ) (own first : Key) (class : List ℕ)
    → piece file place len ≡ Some (concat (a ∷ b ∷ c ∷ []))
    → ReadsAs key_at a (own, class) → ReadsAs (bytes_at own.header_len) a a → ReadsAs (big w32) b 1 → ReadsAs key_at c (first, anchor_class)
    → anchor_key_of file (record { keys = place; keys_len = len }) ≡ Ok first
unfolding anchor_key_of anchor_key_in
list-chain file a b c place len own first class e p q r s =
    rw (
      e,
      p 0 (concat (b ∷ c ∷ [])),
      q 0 (concat (b ∷ c ∷ [])),
      r (0 + length a) (concat (c ∷ [])),
      s (0 + length a + length b) [],
    ) refl

pub anchor_key_is : (file : List ℕ) (place anchor_at : ℕ) → place < 2 ^ 64 → anchor_at < 2 ^ 64
    → piece file place 113 ≡ Some (key_list_part place anchor_at)
    → anchor_key_of file (record { keys = place; keys_len = 113 }) ≡ Ok (key_of 56 78 anchor_at)
unfolding key_list_part
anchor_key_is file place anchor_at small smaller e =
    list-chain file (file_key 60 place 100) (to_be_bytes w32 1) (anchor_key anchor_at) place 113 (key_of 53 60 place)
    (key_of 56 78 anchor_at) (codes "TFile") e
    (file_key_reads 60 place 100 (omega arith) small (omega arith))
    (plain_bytes 53 (file_key 60 place 100) (file_key-len 60 place 100)) (word_32 1 (omega arith)) (anchor_key_reads anchor_at smaller)

pub object_is : (file object : List ℕ) (at : ℕ) → piece file (at + 56) 78 ≡ Some object → object_of file (key_of 56 78 at)
    ≡ Ok (standing 0 object)
unfolding object_of is_plain
object_is file object at e = rw e refl

anchor-steps : (file : List ℕ) (header : FileHeader) (directory : Directory) (key : Key) (object : At) (a : Anchor)
    → file_header_of file ≡ Ok header
    → directory_of file (directory_place header) ≡ Ok directory → anchor_key_of file directory ≡ Ok key → object_of file key ≡ Ok object
    → anchor_from key.place object ≡ Ok a → anchor_of file ≡ Ok a
unfolding anchor_of
anchor-steps file header directory key object a q r s t u = rw (q, r, s, t) u

regroup : (h z r d u m k o l f : List ℕ) → (h ++ z) ++ ((r ++ (d ++ u)) ++ (m ++ ((k ++ o) ++ (l ++ (f ++ [])))))
    ≡ concat (h ∷ z ∷ r ∷ d ∷ u ∷ m ∷ k ∷ o ∷ l ∷ f ∷ [])
regroup h z r d u m k o l f = simp append_assoc

-- the parts and what they consist of, one behind the other
abbrev pieces : Anchor → List ℕ → List (List ℕ)
pieces a m =
    header_words (end_place (length m)) (free_place (length m)) ∷ replicate 25 0 ∷ record_names
    ∷ directory_words (keys_place (length m)) ∷ zero_uuid ∷ m
    ∷ anchor_key (anchor_place (length m)) ∷ anchor_object a ∷ key_list_part (keys_place (length m)) (anchor_place (length m))
    ∷ free_list_part (free_place (length m)) (end_place (length m)) ∷ []

pub finished-pieces : (a : Anchor) (middle : List (List ℕ)) → finished_file a middle ≡ concat (pieces a (concat middle))
unfolding finished_file header_part record_part anchor_part
finished-pieces a middle =
    let n : ℕ = length (concat middle) in
    ap (λ (l : List ℕ). header_part (end_place (length (concat middle))) (free_place (length (concat middle)))
    ++ (record_part (keys_place (length (concat middle))) ++ l)) (concat-append middle (parts_behind (length (concat middle)) a))
    ∙ regroup (header_words (end_place (length (concat middle))) (free_place (length (concat middle)))) (replicate 25 0)
    record_names (directory_words (keys_place (length (concat middle)))) zero_uuid (concat middle)
    (anchor_key (anchor_place (length (concat middle)))) (anchor_object a)
    (key_list_part (keys_place (length (concat middle))) (anchor_place (length (concat middle))))
    (free_list_part (free_place (length (concat middle))) (end_place (length (concat middle))))

pub pieces-len : (a : Anchor) (m : List ℕ) → length (concat (pieces a m)) ≡ end_place (length m)
pieces-len a m =
    let n : ℕ = length m in
    length-concat (pieces a m)
    ∙ omega (
      arith,
      header_words-len (end_place (length m)) (free_place (length m)),
      record_head-len,
      directory-len (keys_place (length m)),
      uuid-len,
      anchor_key-len (anchor_place (length m)),
      object-len a,
      key_list-len (keys_place (length m)) (anchor_place (length m)),
      free_list-len (free_place (length m)) (end_place (length m)),
    )

-- a file of these pieces is read
read_pieces : (a : Anchor) (m file : List ℕ) → IsAnchor a → end_place (length m) < 2 ^ 64 → file ≡ concat (pieces a m)
    → anchor_of file ≡ Ok a
read_pieces a m file is small whole =
    let n : ℕ = length m in
    let words = header_words-len (end_place (length m)) (free_place (length m)) in
    let list = key_list-len (keys_place (length m)) (anchor_place (length m)) in
    let long : end_place (length m) ≤ length file = omega (arith, ap (λ (l : List ℕ). length l) whole, pieces-len a m) in
    let directory_piece : piece file 166 42 ≡ Some (directory_words (keys_place (length m))) =
    part_from file (pieces a m) 3 166 42 (directory_words (keys_place (length m))) whole (omega arith) refl
    (omega (arith, words, record_head-len)) (directory-len (keys_place (length m))) in
    let list_piece : piece file (keys_place (length m)) 113 ≡ Some (key_list_part (keys_place (length m)) (anchor_place (length m))) =
    part_from file (pieces a m) 8 (keys_place (length m)) 113 (key_list_part (keys_place (length m)) (anchor_place (length m)))
    whole (omega arith) refl
    (omega (
      arith,
      words,
      record_head-len,
      directory-len (keys_place (length m)),
      uuid-len,
      anchor_key-len (anchor_place (length m)),
      object-len a,
    )) list in
    let object_piece : piece file (anchor_place (length m) + 56) 78 ≡ Some (anchor_object a) =
    part_from file (pieces a m) 7 (anchor_place (length m) + 56) 78 (anchor_object a) whole (omega arith) refl
    (omega (
      arith,
      words,
      record_head-len,
      directory-len (keys_place (length m)),
      uuid-len,
      anchor_key-len (anchor_place (length m)),
    )) (object-len a) in
    anchor-steps file (record { begin = 100; end = end_place (length m); name_len = 66 }) (record {
      keys = keys_place (length m);
      keys_len = 113;
    }) (key_of 56 78 (anchor_place (length m)))
    (standing 0 (anchor_object a)) a
    (header_is file (end_place (length m)) (free_place (length m)) _ whole small (omega arith) long)
    (directory_is file 166 (keys_place (length m)) (omega arith) directory_piece)
    (anchor_key_is file (keys_place (length m)) (anchor_place (length m)) (omega arith) (omega arith) list_piece)
    (object_is file (anchor_object a) (anchor_place (length m)) object_piece)
    (object_reads (anchor_place (length m)) 0 a is)

pub finished_back : (a : Anchor) (middle : List (List ℕ)) → IsAnchor a → length (finished_file a middle) < 2 ^ 62
    → anchor_of (finished_file a middle) ≡ Ok a
finished_back a middle is small =
    let len : length (finished_file a middle) ≡ end_place (length (concat middle)) =
    ap (λ (l : List ℕ). length l) (finished-pieces a middle) ∙ pieces-len a (concat middle) in
    read_pieces a (concat middle) (finished_file a middle) is (omega (arith, len, small)) (finished-pieces a middle)

pub finished-len : (a : Anchor) (middle : List (List ℕ)) → length (finished_file a middle) ≡ 544 + length (concat middle)
finished-len a middle = ap (λ (l : List ℕ). length l) (finished-pieces a middle) ∙ pieces-len a (concat middle)

around : (h r b p e t : List ℕ) → h ++ (r ++ ((b ++ (p ++ e)) ++ t)) ≡ (h ++ (r ++ b)) ++ (p ++ (e ++ t))
around h r b p e t = simp append_assoc

pub middle_found : (a : Anchor) (middle : List (List ℕ)) (k : ℕ) → k < length middle
    → piece (finished_file a middle) (226 + sum (map length (take k middle))) (length (get_or middle k [])) ≡ Some (get_or middle k [])
unfolding finished_file
middle_found a middle k h =
    let n : ℕ = length (concat middle) in
    let head : List ℕ = header_part (end_place (length (concat middle))) (free_place (length (concat middle))) in
    let record_part : List ℕ = record_part (keys_place (length (concat middle))) in
    let tail : List (List ℕ) = parts_behind (length (concat middle)) a in
    let whole = split_at middle k h in
    piece_at (head ++ (record_part ++ concat (middle ++ tail))) (head ++ (record_part ++ concat (take k middle)))
    (get_or middle k []) (concat (drop (suc k) middle) ++ concat tail)
    (226 + sum (map length (take k middle))) (length (get_or middle k []))
    (ap (λ (l : List ℕ). head ++ (record_part ++ l)) (concat-append middle tail ∙ ap (λ (l : List ℕ). l ++ concat tail) whole)
    ∙ around head record_part (concat (take k middle)) (get_or middle k []) (concat (drop (suc k) middle)) (concat tail))
    (omega (
      arith,
      length-append head (record_part ++ concat (take k middle)),
      length-append record_part (concat (take k middle)),
      length-concat (take k middle),
      header-len (end_place (length (concat middle))) (free_place (length (concat middle))),
      file_record-len (keys_place (length (concat middle))),
    ))
    refl
