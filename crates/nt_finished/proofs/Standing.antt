-- Bytes that stand at a place of a file, and the blobs and envelopes among them.
use Rattle.std.proofs.Common.{◌≡◌, ℕ, ◌+◌, ◌*◌, ◌<◌, ◌≤◌, ◌^◌, List, [], ◌∷◌, ◌++◌, length, eqb, true, Some, Ok, refl, sym, ap, subst, ◌∙◌}
use Rattle.std.proofs.Common.{append_assoc, append-nil, arith}
use Rattle.std.specs.List.{AllByRecursion, concat}
use Rattle.std.specs.Int.{w64, to_le_bytes}
use Rattle.std.proofs.lemmas.Bool.{eq-eqb}
use Rattle.std.proofs.lemmas.List.{length-append}
use Rattle.nt_xxh3.specs.Sum.{xxh3}
use Rattle.nt_format.specs.Envelopes.{unsealed, envelope, payload_of}
use Rattle.nt_format.specs.Pieces.{piece}
use Rattle.nt_format.proofs.Envelopes.{payload_again}
use Rattle.nt_format.proofs.Pieces.{piece_at, inside_at, concat-append}
use Rattle.nt_container.specs.declared.anchor.Anchor.{Anchor}
use Rattle.nt_container.specs.Lengths.{begun_len}
use Rattle.nt_container.specs.Spelling.{header_part, record_part, blob_key}
use Rattle.nt_container.specs.Finished.{finished_file, parts_behind, end_place, free_place, keys_place}
use Rattle.nt_container.proofs.Lengths.{header-len, file_record-len, blob_key-len}
use Rattle.nt_container.proofs.Gate.{blob_found}
use Rattle.nt_file_meaning.specs.Envelopes.{sealed, envelope_of}
use Rattle.nt_pagelists.specs.Blobs.{blob, blob_len, object_place}
use Rattle.nt_lists.specs.Parts.{Part, AreBehind, part_bytes}

-- these bytes stand at this place
abbrev pub StandsThere : List ℕ → ℕ → List ℕ → Type 0
StandsThere file at bytes = piece file at (length bytes) ≡ Some bytes

-- the first part of what stands there
pub front_stands : (file a b : List ℕ) (at : ℕ) → StandsThere file at (a ++ b) → StandsThere file at a
front_stands file a b at e = inside_at file (a ++ b) [] a b at (length (a ++ b)) at (length a) e refl (omega arith) refl

-- and the part behind it
pub back_stands : (file a b : List ℕ) (at from : ℕ) → at + length a ≡ from → StandsThere file at (a ++ b) → StandsThere file from b
back_stands file a b at from place e =
    inside_at file (a ++ b) a b [] at (length (a ++ b)) from (length b) e (ap (λ (l : List ℕ). a ++ l) (sym (append-nil b))) place refl

-- parts that lie in order stand each at its place
pub stand_parts : (file : List ℕ) (place : ℕ) (parts : List Part) → AreBehind place parts
    → StandsThere file place (concat (part_bytes parts)) → AllByRecursion (λ (p : Part). StandsThere file p.place p.bytes) parts
stand_parts file place [] behind there = tt
stand_parts file place (p ∷ ps) behind there = (
  subst (λ (n : ℕ). StandsThere file n p.bytes) (sym behind.0) (front_stands file p.bytes (concat (part_bytes ps)) place there),
  stand_parts file (place + length p.bytes) ps behind.1
      (back_stands file p.bytes (concat (part_bytes ps)) place (place + length p.bytes) refl there),
)

-- and end where all of them end, or before
pub low_parts : (place : ℕ) (parts : List Part) → AreBehind place parts
    → AllByRecursion (λ (p : Part). p.place + length p.bytes ≤ place + length (concat (part_bytes parts))) parts
low_parts place [] behind = tt
low_parts place (p ∷ ps) behind =
    let long = length-append p.bytes (concat (part_bytes ps)) in (
      omega (arith, behind.0, long),
      lower (place + length p.bytes + length (concat (part_bytes ps))) (place + length (p.bytes ++ concat (part_bytes ps))) ps
          (omega (arith, long)) (low_parts (place + length p.bytes) ps behind.1),
    )
  where
    lower : (a b : ℕ) (qs : List Part) → a ≤ b → AllByRecursion (λ (q : Part). q.place + length q.bytes ≤ a) qs
        → AllByRecursion (λ (q : Part). q.place + length q.bytes ≤ b) qs
    lower a b [] le h = tt
    lower a b (q ∷ qs) le h = (omega (arith, le, h.0), lower a b qs le h.1)

-- the middle of a finished file
pub middle_stands : (a : Anchor) (middle : List (List ℕ)) → StandsThere (finished_file a middle) begun_len (concat middle)
unfolding finished_file
middle_stands a middle =
    let head : List ℕ = header_part (end_place (length (concat middle))) (free_place (length (concat middle))) in
    let names : List ℕ = record_part (keys_place (length (concat middle))) in
    let tail : List (List ℕ) = parts_behind (length (concat middle)) a in
    piece_at (head ++ (names ++ concat (middle ++ tail))) (head ++ names) (concat middle) (concat tail) 226 (length (concat middle))
    (ap (λ (l : List ℕ). head ++ (names ++ l)) (concat-append middle tail) ∙ sym (append_assoc head names (concat middle ++ concat tail)))
    (omega (
      arith,
      length-append head names,
      header-len (end_place (length (concat middle))) (free_place (length (concat middle))),
      file_record-len (keys_place (length (concat middle))),
    ))
    refl

pub length-blob : (at : ℕ) (object : List ℕ) → length (blob at object) ≡ blob_len (length object)
length-blob at object = omega (arith, length-append (blob_key (length object) at) object, blob_key-len (length object) at)

-- the object of a blob
pub object_stands : (file object : List ℕ) (at : ℕ) → StandsThere file at (blob at object) → StandsThere file (object_place at) object
object_stands file object at e =
    blob_found file object at (ap (λ (k : ℕ). piece file at k) (sym (length-blob at object)) ∙ e)

length-sealed : (head payload sum : List ℕ) → length head ≡ 8 → length sum ≡ 8 → length ((head ++ payload) ++ sum) ≡ length payload + 16
length-sealed head payload sum h s = omega (arith, length-append (head ++ payload) sum, length-append head payload, h, s)

pub length-envelope : (kind : ℕ) (payload : List ℕ) → length (envelope kind payload) ≡ length payload + 16
length-envelope kind payload =
    length-sealed (to_le_bytes w64 ((length payload + 16) * 2 ^ 16 + kind)) payload
    (to_le_bytes w64 (xxh3 (unsealed kind payload))) refl refl

-- an envelope that stands there is opened
pub opened : (file : List ℕ) (kind : ℕ) (payload object : List ℕ) (place : ℕ) → kind < 2 ^ 16 → object ≡ envelope kind payload
    → length object ≤ 2 ^ 30
    → StandsThere file place object
    → envelope_of file kind (record { place = place; size = length object; len = length object }) ≡ Ok (sealed kind payload)
unfolding envelope_of
opened file kind payload object place low is short e =
    let long : length object ≡ length payload + 16 = ap length is ∙ length-envelope kind payload in
    let same : eqb (length object) (length object) ≡ true = eq-eqb _ _ refl in
    let read : payload_of kind object ≡ Ok payload =
    ap (λ (l : List ℕ). payload_of kind l) is ∙ payload_again kind payload low (omega (arith, long, short)) in
    rw (same, e, read) refl
