-- A block of a file that is read as an envelope.
use Rattle.std.proofs.Common.{◌≡◌, ◌≢◌, ℕ, eqb, false, true, List, Option, Some, None, Result, Ok, Err, refl, sym, ap, ◌∙◌}
use Rattle.std.proofs.lemmas.Bool.{eq-eqb, ne_eqb}
use Rattle.nt_num.specs.Place.{At}
use Rattle.nt_num.specs.Codes.{compressed, out_of_file}
use Rattle.nt_num.specs.Faults.{fault, with_values}
use Rattle.nt_num.specs.declared.fault.ReadError.{ReadError}
use Rattle.nt_lists.proofs.Variants.{ok_is, err_is}
use Rattle.nt_format.specs.Reading.{standing}
use Rattle.nt_format.specs.Pieces.{piece, standing_or, piece_or}
use Rattle.nt_format.specs.Demands.{found_or}
use Rattle.nt_format.specs.Envelopes.{payload_of}
use Rattle.nt_file_meaning.specs.Envelopes.{Sealed, Block, opened_envelope, envelope_of}
use Rattle.nt_tfile.specs.declared.failure.ReadFailure.{ReadFailure}
use Rattle.nt_tfile.specs.declared.failure.ReadFailure.TheVariants.{Defect, Fault, Memory}
use Rattle.nt_tfile.specs.Calls.{IsReadOrFails}

-- a block whose size isn't its length is compressed
pub compressed_is : (file : List ℕ) (kind : ℕ) (block : Block) → block.size ≢ block.len
    → envelope_of file kind block ≡ Err (with_values block.len block.size (fault compressed block.place))
unfolding envelope_of
compressed_is file kind block differ =
    let test : eqb block.size block.len ≡ false = ne_eqb _ _ differ in
    rw test refl

piece_found : (e : ReadError) (o : Option (List ℕ)) (bytes : List ℕ) → standing_or e o ≡ Ok (standing 0 bytes) → found_or e o ≡ Ok bytes
piece_found e (Some found) bytes h = ap (λ (l : List ℕ). Ok l)
    (ap (λ (a : At). a.left) (ok_is {E = ReadError} (standing 0 found) (standing 0 bytes) h))
piece_found e None bytes h = absurd cc

piece_lost : (e f : ReadError) (o : Option (List ℕ)) → standing_or e o ≡ Err f → found_or {A = List ℕ} e o ≡ Err f
piece_lost e f (Some found) h = absurd cc
piece_lost e f None h = ap (λ (x : ReadError). Err x) (err_is {A = At} e f h)

-- a block of which no bytes are found is no envelope
pub lost_is : (file : List ℕ) (kind : ℕ) (block : Block) (e : ReadError) → block.size ≡ block.len
    → piece_or (fault out_of_file block.place) file block.place block.size ≡ Err e → envelope_of file kind block ≡ Err e
unfolding envelope_of
lost_is file kind block e same h =
    let test : eqb block.size block.len ≡ true = eq-eqb _ _ same in
    let lost : found_or (fault out_of_file block.place) (piece file block.place block.size) ≡ Err e = piece_lost _ e _ h in
    rw (test, lost) refl

-- a block whose bytes are found is the envelope that they are
pub found_is : (file : List ℕ) (kind : ℕ) (block : Block) (bytes : List ℕ) → block.size ≡ block.len
    → piece_or (fault out_of_file block.place) file block.place block.size ≡ Ok (standing 0 bytes)
    → envelope_of file kind block ≡ opened_envelope block.place kind bytes (payload_of kind bytes)
unfolding envelope_of
found_is file kind block bytes same h =
    let test : eqb block.size block.len ≡ true = eq-eqb _ _ same in
    let found : found_or (fault out_of_file block.place) (piece file block.place block.size) ≡ Ok bytes = piece_found _ _ bytes h in
    rw (test, found) refl

-- where no bytes are found, the answer is the one that says so
pub lost-fails : (told : List ℕ) (kind : ℕ) (block : Block) (out : ReadError) (e : ReadFailure) → block.size ≡ block.len
    → out ≡ with_values 0 0 (fault out_of_file block.place)
    → IsReadOrFails {V = At} (λ l. l) (Err e) (piece_or out told block.place block.size)
    → IsReadOrFails {V = Sealed} {W = Sealed} (λ s. s) (Err e) (envelope_of told kind block)
lost-fails told kind block out (Defect d) same named h = lost_is told kind block d same
    (ap (λ (o : ReadError). piece_or o told block.place block.size) (sym named) ∙ h)
lost-fails told kind block out Fault same named h = tt
lost-fails told kind block out Memory same named h = tt

-- where they are found, the envelope is what they are
pub found-opened_envelope : (told : List ℕ) (kind : ℕ) (block : Block) (bytes text : List ℕ) (out : ReadError)
    (r : Result Sealed ReadError) → text ≡ bytes → block.size ≡ block.len
    → out ≡ with_values 0 0 (fault out_of_file block.place) → piece_or out told block.place block.size ≡ Ok (standing 0 bytes)
    → opened_envelope block.place kind text (payload_of kind text) ≡ r → envelope_of told kind block ≡ r
found-opened_envelope told kind block bytes text out r there same named h is =
    found_is told kind block bytes same (ap (λ (o : ReadError). piece_or o told block.place block.size) (sym named) ∙ h)
    ∙ ap (λ (l : List ℕ). opened_envelope block.place kind l (payload_of kind l)) (sym there) ∙ is
