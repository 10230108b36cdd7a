-- How many bytes stand between header and footer.
use Rattle.std.proofs.Common.{◌≡◌, ℕ, List, [], ◌∷◌, ◌++◌, length, refl, ap, arith}
use Rattle.std.specs.List.{concat, sum_by}
use Rattle.std.proofs.lemmas.List.{length-append}
use Rattle.std.proofs.lemmas.List.Sums.{sum_by-cons}
use Rattle.nt_lists.specs.Parts.{part_bytes}
use Rattle.nt_container.specs.Spelling.{blob_key}
use Rattle.nt_container.proofs.Lengths.{blob_key-len}
use Rattle.nt_machine.specs.History.{Cluster}
use Rattle.nt_book.specs.declared.meta.ClusterMeta.{ClusterMeta}
use Rattle.nt_book.specs.Books.{BookData}
use Rattle.nt_pagelists.specs.Blobs.{blob, blob_len}
use Rattle.nt_pagelists.specs.Objects.{list_object, list_len}
use Rattle.nt_layout.specs.Groups.{PlacedList, list_part, list_parts}
use Rattle.nt_layout.specs.Finished.{range_parts}

-- a blob is so long
length-blob : (place : ℕ) (object : List ℕ) → length (blob place object) ≡ blob_len (length object)
length-blob place object = omega (arith, length-append (blob_key (length object) place) object, blob_key-len (length object) place)

-- the parts of ranges have the bytes of the ranges
pub concat-range_parts : (cs : List (Cluster ClusterMeta)) (ranges : List (List ℕ)) → length ranges ≡ length cs
    → concat (part_bytes (range_parts cs ranges)) ≡ concat ranges
concat-range_parts [] [] same = refl
concat-range_parts [] (r ∷ ranges) same = absurd (omega (arith, same))
concat-range_parts (c ∷ cs) [] same = absurd (omega (arith, same))
concat-range_parts (c ∷ cs) (r ∷ ranges) same = ap (λ (l : List ℕ). r ++ l) (concat-range_parts cs ranges (omega (arith, same)))

-- and those of page lists as many as these are long
pub length-list_parts : (sum : ℕ) (book : BookData) (ls : List PlacedList)
    → length (concat (part_bytes (list_parts sum book ls))) ≡ sum_by (λ (l : PlacedList). list_len sum book l.span) ls
length-list_parts sum book [] = refl
length-list_parts sum book (l ∷ ls) =
    omega (
      arith,
      length-append (list_part sum book l).bytes (concat (part_bytes (list_parts sum book ls))),
      length-blob l.place (list_object sum book l.span),
      length-list_parts sum book ls,
      sum_by-cons (λ (k : PlacedList). list_len sum book k.span) l ls,
    )
