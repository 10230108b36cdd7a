-- A file is read as the anchor that it embeds, and no other.
use Rattle.std.proofs.Common.{◌≡◌, ℕ, ◌≤◌, Bool, true, false, ◌&&◌, ◌||◌, leb, ltb, eqb, List, ◌++◌, length, take, drop, get_or, codes, Ok}
use Rattle.std.proofs.Common.{refl, sym, ap, subst, ◌∙◌, arith}
use Rattle.std.proofs.lemmas.Bool.{leb-true, le-leb, le-ltb}
use Rattle.std.proofs.lemmas.List.{length-append, length-take, take-append-drop, take-take}
use Rattle.std.specs.Str.{bytes_eq}
use Rattle.std.proofs.lemmas.Slice.Eq.{bytes_eq-Decides}
use Rattle.nt_format.specs.Reading.{IsBytes}
use Rattle.nt_format.specs.Pieces.{window}
use Rattle.nt_format.specs.Demands.{demand}
use Rattle.nt_format.specs.Relations.{Agrees, With, Is, Passes, StandsAt}
use Rattle.nt_lists.proofs.Chaining.{guard_ok, guard_passed}
use Rattle.nt_format.proofs.Relations.{bind, exactly, test, located}
use Rattle.nt_container.specs.declared.parts.FileHeader.{FileHeader}
use Rattle.nt_num.specs.Codes.{unfinished, not_root, bad_file_header}
use Rattle.nt_num.specs.Faults.{fault}
use Rattle.nt_container.specs.FileHeader.{begins_root, gate_of, header_in, file_header_of, directory_of}
use Rattle.nt_container.specs.Texts.{HeaderText, DirectoryText}
use Rattle.nt_container.proofs.Texts.{header_text, header-short, directory_text, directory-short}

-- the gate of a file that is finished
pub record IsOpen (head : List ℕ) (u : Unit {0}) : Type 0 where
  pub finished : eqb (get_or head 0 0) 0 ≡ false
  pub root : begins_root head ≡ true

gate : (head : List ℕ) → Agrees (gate_of head) (IsOpen head)
unfolding gate_of
gate head = record {
  reads = λ u h. rw (h.finished, h.root) refl;
  finds = λ u e.
      let first = guard_ok (eqb (get_or head 0 0) 0) (fault unfinished 0) (demand (begins_root head) (fault not_root 0)) u e in
      record { finished = first.0; root = (guard_passed (begins_root head) (fault not_root 0) (Ok tt) u first.1).0 };
}

gate_opens : (rest : List ℕ) → gate_of (codes "root" ++ rest) ≡ Ok tt
unfolding gate_of
gate_opens rest =
    let long : ltb (length (codes "root" ++ rest)) 4 ≡ false = le-ltb _ _ (omega (arith, length-append (codes "root") rest)) in
    rw long refl

decided : (xs ys : List ℕ) → bytes_eq xs ys ≡ true → xs ≡ ys
decided xs ys e = (bytes_eq-Decides xs ys).0 e

both : (a b : Bool) → (a && b) ≡ true → b ≡ true
both true b e = e
both false b e = absurd cc

other : (a b : Bool) → (a || b) ≡ true → a ≡ false → b ≡ true
other true b e f = absurd cc
other false b e f = e

-- where there are four bytes, they are `root`
root_of : (head : List ℕ) → 4 ≤ length head → begins_root head ≡ true → take 4 head ≡ codes "root"
root_of head long e =
    let short : ltb (length head) 4 ≡ false = le-ltb _ _ long in
    let same : bytes_eq (take 4 head) (codes "root") ≡ true =
    other (ltb (length head) 4) (bytes_eq (take 4 head) (codes "root")) (both (eqb (get_or head 0 0) 0x72) _ e) short in
    decided (take 4 head) (codes "root") same

-- the file header of a file, in words
pub record IsHeader (file : List ℕ) (header : FileHeader) : Type 0 where
  pub root : take 4 file ≡ codes "root"
  pub is : StandsAt HeaderText file 0 header
  pub ends : header.end ≤ length file

HeaderSteps : List ℕ → FileHeader → Type 0
HeaderSteps file = With (IsOpen (window 75 file 0)) λ u. With (StandsAt HeaderText file 0) λ h.
    With (Passes (leb h.end (length file))) λ v. Is h

header_steps : (file : List ℕ) → IsBytes file → Agrees (file_header_of file) (HeaderSteps file)
unfolding header_in HeaderSteps
header_steps file bytes = bind _ (gate (window 75 file 0)) λ u o. bind _ (located _ header_text 75 header-short file 0 bytes)
    λ h is. bind _ (test _ _) λ v p. exactly h

-- a file header has four bytes at least
header_long : (text : List ℕ) (header : FileHeader) → HeaderText text header → 4 ≤ length text
header_long text header t =
    omega (
      arith,
      ap (λ (l : List ℕ). length l) t.parts,
      length-append t.first t.second,
      ap (λ (l : List ℕ). length l) t.is_first.parts,
      length-append t.is_first.first t.is_first.second,
      ap (λ (l : List ℕ). length l) t.is_first.is_first.is,
      t.is_first.is_first.fits,
    )

header_words : (file : List ℕ) (header : FileHeader) → HeaderSteps file header → IsHeader file header
unfolding HeaderSteps
header_words file header w =
    let s = w.second.first in
    let same : header ≡ w.second.middle = w.second.second.second in
    let long : 4 ≤ length file = omega (
      arith,
      ap (λ (l : List ℕ). length l) s.there,
      length-take (length s.text) file,
      header_long s.text w.second.middle s.is,
    ) in
    let long_window : 4 ≤ length (window 75 file 0) = omega (arith, long, length-take 75 file) in
    record {
      root = sym (take-take 4 75 file (omega arith)) ∙ root_of (window 75 file 0) long_window w.first.root;
      is = subst (λ (h : FileHeader). StandsAt HeaderText file 0 h) (sym same) s;
      ends = subst (λ (h : FileHeader). h.end ≤ length file) (sym same) (leb-true _ _ w.second.second.first);
    }

header_reads : (file : List ℕ) (header : FileHeader) → IsBytes file → IsHeader file header → file_header_of file ≡ Ok header
unfolding header_in
header_reads file header bytes h =
    let root : window 75 file 0 ≡ codes "root" ++ drop 4 (window 75 file 0) =
    sym (take-append-drop 4 (window 75 file 0)) ∙ ap (λ (l : List ℕ). l ++ drop 4 (window 75 file 0))
    (take-take 4 75 file (omega arith) ∙ h.root) in
    let open-is : gate_of (window 75 file 0) ≡ Ok tt = ap gate_of root ∙ gate_opens (drop 4 (window 75 file 0)) in
    let read = (located (fault bad_file_header 0) header_text 75 header-short file 0 bytes).reads header h.is in
    let test_is : leb header.end (length file) ≡ true = le-leb _ _ h.ends in
    rw (open-is, read, test_is) refl

pub header : (file : List ℕ) → IsBytes file → Agrees (file_header_of file) (IsHeader file)
header file bytes = record {
  reads = λ h is. header_reads file h bytes is;
  finds = λ h e. header_words file h ((header_steps file bytes).finds h e);
}

pub directory : (file : List ℕ) (place : ℕ) → IsBytes file → Agrees (directory_of file place) (StandsAt DirectoryText file place)
directory file place bytes = located _ directory_text 42 directory-short file place bytes
