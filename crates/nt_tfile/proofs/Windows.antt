-- Windows of a file, gathered piece by piece.
use Rattle.std.proofs.Common.{◌≡◌, ℕ, ◌+◌, ◌-◌, ◌*◌, ◌<◌, ◌≤◌, ◌≢◌, min, true, false, leb, Ok, Err, List, ◌++◌, length, take, drop, refl}
use Rattle.std.proofs.Common.{sym, ap, ◌∙◌, Result, append_assoc, arith, inl, inr}
use Rattle.std.proofs.lemmas.Bool.{cases_lt, le-leb, lt-leb}
use Rattle.std.proofs.Math.Seq.{take-append-add}
use Rattle.std.proofs.lemmas.List.{length-append, length-take, length-drop, take-take, take-append-drop, take_at, take_min, drop-drop}
use Rattle.std.proofs.lemmas.List.{drop-take, take_all}
use Rattle.nt_num.specs.Place.{At}
use Rattle.nt_num.specs.declared.fault.ReadError.{ReadError}
use Rattle.nt_container.specs.declared.anchor.Anchor.{Anchor}
use Rattle.nt_container.specs.declared.parts.FileHeader.{FileHeader}
use Rattle.nt_container.specs.declared.parts.Directory.{Directory}
use Rattle.nt_container.specs.declared.parts.Key.{Key}
use Rattle.nt_num.specs.Codes.{bad_key_list, out_of_file}
use Rattle.nt_num.specs.Faults.{fault}
use Rattle.nt_container.specs.FileHeader.{header_in, file_header_of, directory_in, directory_of}
use Rattle.nt_container.specs.Keys.{anchor_key_in, anchor_key_of}
use Rattle.nt_container.specs.Anchors.{is_plain, object_of, anchor_from}
use Rattle.nt_tfile.specs.Calls.{anchor_at}
use Rattle.nt_format.specs.Reading.{standing}
use Rattle.nt_format.specs.Pieces.{piece, window, piece_or}

take_least : (n m : ℕ) (l : List ℕ) → n ≡ min m (length l) → take n l ≡ take m l
take_least n m l e = ap (λ (k : ℕ). take k l) e ∙ take_min m l

take-both : (n m : ℕ) (l : List ℕ) → take (n + m) l ≡ take n l ++ take m (drop n l)
take-both n m l =
    sym (take-append-drop n (take (n + m) l)) ∙ ap (λ (b : List ℕ). b ++ drop n (take (n + m) l))
    (take-take n (n + m) l (omega arith)) ∙ ap (λ (b : List ℕ). take n l ++ b) (drop-take n m l)

take_twice : (n m : ℕ) (l : List ℕ) → take (min n m) l ≡ take n (take m l)
take_twice n m l =
    elim (cases_lt n m) [
      | inl lt ↦ ap (λ (k : ℕ). take k l) (omega (arith, lt)) ∙ sym (take-take n m l (omega (arith, lt)))
      | inr le ↦ ap (λ (k : ℕ). take k l) (omega (arith, le)) ∙ sym (take_all n (take m l) (omega (arith, le, length-take m l)))
    ]

next_place : (i most : ℕ) → (i + 1) * most ≡ i * most + most
next_place i most = omega arith

-- a piece that was read stands behind what there was
pub more_read : (old buf told items : List ℕ) (at step n : ℕ) → n ≡ min (length buf) (length told - at) → length buf ≡ step
    → take n buf ≡ take n (drop at told)
    → items ≡ old ++ take n buf → items ≡ old ++ take step (drop at told)
more_read old buf told items at step n count size same is =
    is ∙ ap (λ (l : List ℕ). old ++ l) (same ∙ take_least n step (drop at told) (omega (arith, count, size, length-drop at told)))

-- what stands in a list that grew, was written behind its old length, and was cut
pub cut_read : (old buf items now pad post tail : List ℕ) (k n step len : ℕ)
    → items ≡ take (k + n) (take len ((take k now ++ (buf ++ post)) ++ tail))
    → now ≡ take (k + step) old ++ pad → k ≡ length old → length buf ≡ step → len ≡ k + step → items ≡ old ++ take n buf
cut_read old buf items now pad post tail k n step len cut grown count size long =
    let front : take k now ≡ old =
    ap (λ (l : List ℕ). take k l) (grown ∙ ap (λ (l : List ℕ). l ++ pad) (take_all (k + step) old (omega (arith, count))))
    ∙ take_at old pad k (sym count) in
    let whole : len ≡ length (old ++ buf) = omega (arith, long, count, size, length-append old buf) in
    let inner : take len ((take k now ++ (buf ++ post)) ++ tail) ≡ old ++ buf =
    ap (λ (l : List ℕ). take len ((l ++ (buf ++ post)) ++ tail)) front ∙ ap (λ (l : List ℕ). take len (l ++ tail))
    (sym (append_assoc old buf post))
    ∙ ap (λ (l : List ℕ). take len l) (append_assoc (old ++ buf) post tail) ∙ take_at (old ++ buf) (post ++ tail) len (sym whole) in
    cut ∙ ap (λ (l : List ℕ). take (k + n) l) inner ∙ ap (λ (j : ℕ). take (j + n) (old ++ buf)) count ∙ take-append-add old buf n

-- one more piece of a window
pub next_piece : (told before now : List ℕ) (at count i most : ℕ) → before ≡ take (i * most) (window count told at) → i * most ≤ count
    → now ≡ before ++ take (min (count - i * most) most) (drop (at + i * most) told) → now ≡ take ((i + 1) * most) (window count told at)
next_piece told before now at count i most so_far inside is =
    let l : List ℕ = drop at told in
    let start : take (i * most) (window count told at) ≡ take (i * most) l = take-take (i * most) count l inside in
    let rest : drop (at + i * most) told ≡ drop (i * most) l = sym (drop-drop (i * most) at told) in
    let end : i * most + min (count - i * most) most ≡ min ((i + 1) * most) count = omega (arith, inside, next_place i most) in
    is ∙ ap (λ (b : List ℕ). b ++ take (min (count - i * most) most) (drop (at + i * most) told)) (so_far ∙ start)
    ∙ ap (λ (b : List ℕ). take (i * most) l ++ take (min (count - i * most) most) b) rest
    ∙ sym (take-both (i * most) (min (count - i * most) most) l)
    ∙ ap (λ (k : ℕ). take k l) end ∙ take_twice ((i + 1) * most) count l

-- all pieces of a window
pub all_pieces : (told bytes : List ℕ) (at size count turns most limit : ℕ) → bytes ≡ take (turns * most) (window count told at)
    → count ≤ turns * most
    → size ≡ length told → count ≡ min (size - at) limit → bytes ≡ window limit told at
all_pieces told bytes at size count turns most limit is enough sized counted =
    is ∙ take_all (turns * most) (window count told at) (omega (arith, enough, length-take count (drop at told)))
    ∙ take_least count limit (drop at told) (omega (arith, sized, counted, length-drop at told))

-- what ends behind the file is no piece of it
pub piece_past : {E : Type 0} (fault : E) (told : List ℕ) (at len size : ℕ) → size ≡ length told → size < at + len
    → piece_or fault told at len ≡ Err fault
unfolding piece
piece_past fault told at len size sized past =
    let test : leb (at + len) (length told) ≡ false = lt-leb _ _ (omega (arith, sized, past)) in
    rw test refl

-- a window in which so many bytes are missing ends behind the file
pub piece_missing : {E : Type 0} (fault : E) (told bytes : List ℕ) (at len : ℕ) → bytes ≡ window len told at → length bytes ≢ len
    → piece_or fault told at len ≡ Err fault
piece_missing fault told bytes at len is few =
    elim (cases_lt (length told) (at + len)) [
      | inl lt ↦ piece_past fault told at len (length told) refl lt
      | inr le ↦ absurd (few (omega (arith, le, ap (λ (l : List ℕ). length l) is, length-take len (drop at told), length-drop at told)))
    ]

-- a window that lies in the file is a piece of it
pub piece_there : {E : Type 0} (fault : E) (told bytes : List ℕ) (at len size : ℕ) → size ≡ length told → at + len ≤ size
    → bytes ≡ window len told at
    → piece_or fault told at len ≡ Ok (standing 0 bytes)
unfolding piece
piece_there fault told bytes at len size sized inside is =
    let test : leb (at + len) (length told) ≡ true = le-leb _ _ (omega (arith, sized, inside)) in
    rw (test, is) refl

pub header-read : (told head : List ℕ) (size : ℕ) (r : Result FileHeader ReadError) → size ≡ length told → head ≡ window 75 told 0
    → header_in head size ≡ r → file_header_of told ≡ r
header-read told head size r sized is read = ap (λ (l : List ℕ). header_in l (length told)) (sym is)
    ∙ ap (header_in head) (sym sized) ∙ read

pub directory-read : (told bytes : List ℕ) (at place : ℕ) (r : Result Directory ReadError) → at ≡ place → bytes ≡ window 42 told at
    → directory_in at bytes ≡ r → directory_of told place ≡ r
directory-read told bytes at place r there is read =
    ap (directory_of told) (sym there) ∙ ap (directory_in at) (sym is) ∙ read

pub key-read : (told : List ℕ) (directory : Directory) (list : At) (r : Result Key ReadError)
    → piece_or (fault bad_key_list directory.keys) told directory.keys directory.keys_len ≡ Ok list
    → anchor_key_in directory.keys list ≡ r → anchor_key_of told directory ≡ r
unfolding anchor_key_of
key-read told directory list r is read = rw is read

pub key-outside : (told : List ℕ) (directory : Directory) (e : ReadError)
    → piece_or (fault bad_key_list directory.keys) told directory.keys directory.keys_len ≡ Err e → anchor_key_of told directory ≡ Err e
unfolding anchor_key_of
key-outside told directory e is = rw is refl

pub object-plain : (told : List ℕ) (key : Key) (e : ReadError) → is_plain key ≡ Err e → anchor_at key told ≡ Err e
unfolding object_of
object-plain told key e is = rw is refl

pub object-outside : (told : List ℕ) (key : Key) (u : Unit {0}) (out e : ReadError) (at : ℕ) → is_plain key ≡ Ok u
    → out ≡ fault out_of_file key.place → at ≡ key.place + key.header_len
    → piece_or out told at 78 ≡ Err e → anchor_at key told ≡ Err e
unfolding object_of
object-outside told key u out e at plain named there is =
    let piece_is : piece_or (fault out_of_file key.place) told (key.place + key.header_len) 78 ≡ Err e =
    ap (λ (f : ReadError). piece_or f told (key.place + key.header_len) 78) (sym named) ∙ ap (λ (k : ℕ). piece_or out told k 78)
    (sym there) ∙ is in
    rw (plain, piece_is) refl

pub object-read : (told : List ℕ) (key : Key) (u : Unit {0}) (out : ReadError) (at : ℕ) (object : At) (r : Result Anchor ReadError)
    → is_plain key ≡ Ok u → out ≡ fault out_of_file key.place
    → at ≡ key.place + key.header_len → piece_or out told at 78 ≡ Ok object → anchor_from key.place object ≡ r → anchor_at key told ≡ r
unfolding object_of
object-read told key u out at object r plain named there is read =
    let piece_is : piece_or (fault out_of_file key.place) told (key.place + key.header_len) 78 ≡ Ok object =
    ap (λ (f : ReadError). piece_or f told (key.place + key.header_len) 78) (sym named) ∙ ap (λ (k : ℕ). piece_or out told k 78)
    (sym there) ∙ is in
    rw (plain, piece_is) read

pub object-far : (told : List ℕ) (key : Key) (u : Unit {0}) (out : ReadError) (size : ℕ) → is_plain key ≡ Ok u
    → out ≡ fault out_of_file key.place → size ≡ length told
    → size < key.place + key.header_len → anchor_at key told ≡ Err out
object-far told key u out size plain named sized far =
    object-outside told key u out out (key.place + key.header_len) plain named refl
    (piece_past out told (key.place + key.header_len) 78 size sized (omega (arith, far)))

-- the steps of the anchor's reading
pub ruleset read_steps = (header-read, directory-read, key-read, key-outside, object-plain, object-outside, object-read, object-far)
