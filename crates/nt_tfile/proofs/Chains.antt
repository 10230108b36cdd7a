-- The steps of the anchor's reading, as the calls that make them answer.
use Rattle.std.proofs.Common.{◌≡◌, ℕ, List, Result, Ok, Err, refl, ap, subst}
use Rattle.nt_num.specs.declared.fault.ReadError.{ReadError}
use Rattle.nt_num.specs.Place.{At}
use Rattle.nt_lists.specs.Chaining.{◌>>=◌}
use Rattle.nt_format.specs.Pieces.{piece_or}
use Rattle.nt_num.specs.Codes.{bad_key_list}
use Rattle.nt_num.specs.Faults.{fault}
use Rattle.nt_container.specs.declared.anchor.Anchor.{Anchor}
use Rattle.nt_container.specs.declared.parts.FileHeader.{FileHeader}
use Rattle.nt_container.specs.declared.parts.Directory.{Directory}
use Rattle.nt_container.specs.declared.parts.Key.{Key}
use Rattle.nt_container.specs.FileHeader.{file_header_of, directory_place, directory_of}
use Rattle.nt_container.specs.Keys.{anchor_key_of}
use Rattle.nt_container.specs.Anchors.{object_of, anchor_from, anchor_of}
use Rattle.nt_tfile.specs.declared.failure.ReadFailure.{ReadFailure}
use Rattle.nt_tfile.specs.declared.failure.ReadFailure.TheVariants.{Defect, Fault, Memory}
use Rattle.nt_tfile.specs.Calls.{IsReadOrFails, anchor_at}

-- what fails in a step fails in all
fails : {U V W X : Type 0} (one : U → V) (all : W → X) (e : ReadFailure) (r : Result V ReadError) (f : V → Result X ReadError)
    → IsReadOrFails one (Err e) r → IsReadOrFails all (Err e) (r >>= f)
fails {V = V} one all (Defect d) r f h = ap (λ (s : Result V ReadError). s >>= f) h
fails one all Fault r f h = tt
fails one all Memory r f h = tt

after_key : Directory → List ℕ → Result Anchor ReadError
after_key d told = anchor_key_of told d >>= λ key. object_of told key >>= λ object. anchor_from key.place object

after_header : FileHeader → List ℕ → Result Anchor ReadError
after_header h told = directory_of told (directory_place h) >>= λ d. after_key d told

header_done : (told : List ℕ) (h : FileHeader) → file_header_of told ≡ Ok h → anchor_of told ≡ after_header h told
unfolding anchor_of after_header after_key
header_done told h e = rw e refl

directory_done : (told : List ℕ) (h : FileHeader) (d : Directory) → directory_of told (directory_place h) ≡ Ok d
    → after_header h told ≡ after_key d told
unfolding after_header after_key
directory_done told h d e = rw e refl

key_done : (told : List ℕ) (d : Directory) (k : Key) → anchor_key_of told d ≡ Ok k → after_key d told ≡ anchor_at k told
unfolding after_key
key_done told d k e = rw e refl

pub header-fails : (told : List ℕ) (e : ReadFailure) → IsReadOrFails {V = FileHeader} (λ h. h) (Err e) (file_header_of told)
    → IsReadOrFails {V = Anchor} (λ a. a) (Err e) (anchor_of told)
unfolding anchor_of
header-fails told e h = fails (λ h. h) (λ a. a) e (file_header_of told) _ h

pub directory-fails : (told : List ℕ) (e : ReadFailure) (h : FileHeader) → file_header_of told ≡ Ok h → IsReadOrFails {V =
    Directory} (λ d. d) (Err e) (directory_of told (directory_place h))
    → IsReadOrFails {V = Anchor} (λ a. a) (Err e) (anchor_of told)
unfolding after_header
directory-fails told e h one f = rw (header_done told h one) (fails (λ d. d) (λ a. a) e (directory_of told (directory_place h)) _ f)

pub key-fails : (told : List ℕ) (e : ReadFailure) (h : FileHeader) (d : Directory) → file_header_of told ≡ Ok h
    → directory_of told (directory_place h) ≡ Ok d
    → IsReadOrFails {V = Key} (λ k. k) (Err e) (anchor_key_of told d) → IsReadOrFails {V = Anchor} (λ a. a) (Err e) (anchor_of told)
unfolding after_key
key-fails told e h d one two f = rw (header_done told h one, directory_done told h d two)
    (fails (λ k. k) (λ a. a) e (anchor_key_of told d) _ f)

pub anchor-done : (told : List ℕ) (r : Result Anchor ReadFailure) (h : FileHeader) (d : Directory) (k : Key)
    → file_header_of told ≡ Ok h → directory_of told (directory_place h) ≡ Ok d → anchor_key_of told d ≡ Ok k
    → IsReadOrFails (λ a. a) r (anchor_at k told) → IsReadOrFails (λ a. a) r (anchor_of told)
anchor-done told r h d k one two three f = rw (header_done told h one, directory_done told h d two, key_done told d k three) f

pub list-fails : (told : List ℕ) (d : Directory) (e : ReadFailure) (out : ReadError) → out ≡ fault bad_key_list d.keys
    → IsReadOrFails {V = At} (λ l. l) (Err e) (piece_or out told d.keys d.keys_len)
    → IsReadOrFails {V = Key} (λ k. k) (Err e) (anchor_key_of told d)
unfolding anchor_key_of
list-fails told d e out named f =
    fails (λ l. l) (λ k. k) e (piece_or (fault bad_key_list d.keys) told d.keys d.keys_len) _
    (subst (λ (o : ReadError). IsReadOrFails {V = At} (λ l. l) (Err e) (piece_or o told d.keys d.keys_len)) named f)

pub ruleset chain_steps = (header-fails, directory-fails, key-fails, anchor-done)
