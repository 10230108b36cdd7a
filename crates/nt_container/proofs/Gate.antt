-- What is written first, and the byte that shuts it.
use Rattle.std.proofs.Common.{◌≡◌, ℕ, suc, take, ◌+◌, List, [], ◌∷◌, ◌++◌, length, get_or, set, Err, Some, refl, sym, ap, ◌∙◌, append_assoc}
use Rattle.std.proofs.Common.{arith}
use Rattle.std.proofs.lemmas.List.{length-append, length-set, append-nil}
use Rattle.nt_format.specs.Pieces.{piece}
use Rattle.nt_num.specs.Codes.{unfinished}
use Rattle.nt_num.specs.Faults.{fault}
use Rattle.nt_container.specs.FileHeader.{gate_of, header_in}
use Rattle.nt_container.specs.Anchors.{anchor_of}
use Rattle.nt_container.specs.Spelling.{header_words, header_part, record_part, begun, blob_key}
use Rattle.nt_format.proofs.Pieces.{inside_at}
use Rattle.nt_container.proofs.Lengths.{header-len, file_record-len, blob_key-len}

first_of : (n : ℕ) (file : List ℕ) → get_or (take (suc n) file) 0 0 ≡ get_or file 0 0
first_of n [] = refl
first_of n (b ∷ bs) = refl

gate_shut : (head : List ℕ) (size : ℕ) → get_or head 0 0 ≡ 0 → header_in head size ≡ Err (fault unfinished 0)
unfolding header_in gate_of
gate_shut head size e = rw e refl

pub unfinished_is : (file : List ℕ) → get_or file 0 0 ≡ 0 → anchor_of file ≡ Err (fault unfinished 0)
unfolding anchor_of
unfinished_is file e = rw (gate_shut (take 75 file) (length file) (first_of 74 file ∙ e)) refl

-- header and record begin with `r`
first_byte : (end free keys : ℕ) → (rest : List ℕ) × (header_part end free ++ record_part keys ≡ 0x72 ∷ rest)
unfolding header_part header_words
first_byte end free keys = (_, refl)

shut_first : (text more rest : List ℕ) → text ≡ 0x72 ∷ more → get_or (set text 0 0 ++ rest) 0 0 ≡ 0
shut_first text more rest e = rw e refl

open_again : (text more rest : List ℕ) → text ≡ 0x72 ∷ more → set (set text 0 0 ++ rest) 0 0x72 ≡ text ++ rest
open_again text more rest e = rw e refl

pub begin-shut : (end free keys : ℕ) (rest : List ℕ) → get_or (begun end free keys ++ rest) 0 0 ≡ 0
unfolding begun
begin-shut end free keys rest =
    let first = first_byte end free keys in
    shut_first (header_part end free ++ record_part keys) first.0 rest first.1

pub begin-opened : (end free keys : ℕ) (rest : List ℕ) → set (begun end free keys ++ rest) 0 0x72 ≡ header_part end free
    ++ (record_part keys ++ rest)
unfolding begun
begin-opened end free keys rest =
    let first = first_byte end free keys in
    open_again (header_part end free ++ record_part keys) first.0 rest first.1 ∙ append_assoc (header_part end free) (record_part keys) rest

pub begin-len : (end free keys : ℕ) → length (begun end free keys) ≡ 226
unfolding begun
begin-len end free keys =
    length-set (header_part end free ++ record_part keys) 0 0
    ∙ omega (arith, length-append (header_part end free) (record_part keys), header-len end free, file_record-len keys)

pub blob_found : (file object : List ℕ) (at : ℕ) → piece file at (42 + length object) ≡ Some (blob_key (length object) at ++ object)
    → piece file (at + 42) (length object) ≡ Some object
blob_found file object at e =
    inside_at file (blob_key (length object) at ++ object) (blob_key (length object) at) object [] at (42 + length object) (at + 42)
    (length object) e
    (ap (λ (l : List ℕ). blob_key (length object) at ++ l) (sym (append-nil object)))
    (ap (λ (k : ℕ). at + k) (blob_key-len (length object) at)) refl
