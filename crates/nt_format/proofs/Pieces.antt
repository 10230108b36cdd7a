-- Where the parts of a file stand.
use Rattle.std.proofs.Common.{◌≡◌, ℕ, zero, suc, ◌+◌, ◌<◌, ◌≤◌, Bool, true, false, cond, leb, List, [], ◌∷◌, ◌++◌, length, get_or, take}
use Rattle.std.proofs.Common.{drop, map, sum, Some, None, refl, sym, ap, ◌∙◌, append_assoc, arith}
use Rattle.std.specs.List.{concat}
use Rattle.std.proofs.lemmas.Bool.{leb-true, le-leb}
use Rattle.std.proofs.lemmas.List.{take_at, drop_at, drop-drop, take-append-drop, length-append, length-take, length-drop}
use Rattle.std.proofs.lemmas.List.Sums.{sum_by-cons}
use Rattle.nt_format.specs.Pieces.{piece, window}

-- bytes that stand somewhere are a piece
pub piece_at : (file before part after : List ℕ) (at size : ℕ) → file ≡ before ++ (part ++ after) → length before ≡ at → length part ≡ size
    → piece file at size ≡ Some part
unfolding piece
piece_at file before part after at size whole place sized =
    let within : at + size ≤ length (before ++ (part ++ after)) =
    omega (arith, length-append before (part ++ after), length-append part after) in
    let test : leb (at + size) (length (before ++ (part ++ after))) ≡ true = le-leb _ _ within in
    rw (whole, test, drop_at before (part ++ after) at place, take_at part after size sized) refl

-- a test that passed
passed : {A : Type 0} (b : Bool) (x y : A) → cond b (Some x) None ≡ Some y → (b ≡ true) × (x ≡ y)
passed true x y e = (refl, cc)
passed false x y e = absurd cc

-- a piece stands somewhere
pub piece_parts : (file part : List ℕ) (at size : ℕ) → piece file at size ≡ Some part
    → (file ≡ take at file ++ (part ++ drop (at + size) file)) × (length (take at file) ≡ at) × (length part ≡ size)
unfolding piece
piece_parts file part at size e =
    let both = passed (leb (at + size) (length file)) (take size (drop at file)) part e in
    let within : at + size ≤ length file = leb-true _ _ both.0 in
    let whole : file ≡ take at file ++ (take size (drop at file) ++ drop (at + size) file) =
    sym (take-append-drop at file) ∙ ap (λ (l : List ℕ). take at file ++ l) (sym (take-append-drop size (drop at file))
    ∙ ap (λ (l : List ℕ). take size (drop at file) ++ l) (drop-drop size at file)) in (
      whole ∙ ap (λ (l : List ℕ). take at file ++ (l ++ drop (at + size) file)) both.1,
      omega (arith, length-take at file),
      sym (ap (λ (l : List ℕ). length l) both.1) ∙ omega (arith, length-take size (drop at file), length-drop at file),
    )

-- a piece is what stands in a window of its size
pub piece_window : (file part : List ℕ) (at size : ℕ) → piece file at size ≡ Some part → window size file at ≡ part
unfolding piece
piece_window file part at size e = (passed (leb (at + size) (length file)) (take size (drop at file)) part e).1

-- what stands inside of a piece is a piece
pub inside_at : (file part front middle rest : List ℕ) (at size from count : ℕ) → piece file at size ≡ Some part
    → part ≡ front ++ (middle ++ rest)
    → at + length front ≡ from → length middle ≡ count → piece file from count ≡ Some middle
inside_at file part front middle rest at size from count e inside place sized =
    let split = piece_parts file part at size e in
    let whole : file ≡ (take at file ++ front) ++ (middle ++ (rest ++ drop (at + size) file)) =
    split.0 ∙ ap (λ (p : List ℕ). take at file ++ (p ++ drop (at + size) file)) inside
    ∙ ap (λ (l : List ℕ). take at file ++ l) (append_assoc front (middle ++ rest) (drop (at + size) file)
    ∙ ap (λ (l : List ℕ). front ++ l) (append_assoc middle rest (drop (at + size) file)))
    ∙ sym (append_assoc (take at file) front (middle ++ (rest ++ drop (at + size) file))) in
    piece_at file (take at file ++ front) middle (rest ++ drop (at + size) file) from count whole
    (omega (arith, length-append (take at file) front, split.1)) sized

pub inside_is : (file part front middle rest : List ℕ) (at : ℕ) → front ++ (middle ++ rest) ≡ part
    → piece file at (length part) ≡ Some part → piece file (at + length front) (length middle) ≡ Some middle
inside_is file part front middle rest at inside e =
    inside_at file part front middle rest at (length part) (at + length front) (length middle) e (sym inside) refl refl

-- the parts before one, it, and those behind it
pub split_at : (parts : List (List ℕ)) (k : ℕ) → k < length parts → concat parts ≡ concat (take k parts)
    ++ (get_or parts k [] ++ concat (drop (suc k) parts))
split_at [] k h = absurd (omega arith)
split_at (p ∷ ps) zero h = refl
split_at (p ∷ ps) (suc k) h =
    ap (λ (l : List ℕ). p ++ l) (split_at ps k (omega arith))
    ∙ sym (append_assoc p (concat (take k ps)) (get_or ps k [] ++ concat (drop (suc k) ps)))

pub length-concat : (parts : List (List ℕ)) → length (concat parts) ≡ sum (map length parts)
length-concat [] = refl
length-concat (p ∷ ps) =
    length-append p (concat ps) ∙ ap (λ (k : ℕ). length p + k) (length-concat ps) ∙ sym (sum_by-cons (λ x. x) (length p) (map length ps))

pub part_is : (parts : List (List ℕ)) (k : ℕ) → k < length parts
    → piece (concat parts) (sum (map length (take k parts))) (length (get_or parts k [])) ≡ Some (get_or parts k [])
part_is parts k h =
    piece_at (concat parts) (concat (take k parts)) (get_or parts k []) (concat (drop (suc k) parts))
    (sum (map length (take k parts))) (length (get_or parts k []))
    (split_at parts k h) (length-concat (take k parts)) refl

-- the same of a file that is these parts
pub part_from : (file : List ℕ) (parts : List (List ℕ)) (k at size : ℕ) (part : List ℕ) → file ≡ concat parts → k < length parts
    → get_or parts k [] ≡ part
    → sum (map length (take k parts)) ≡ at → length part ≡ size → piece file at size ≡ Some part
part_from file parts k at size part whole h is place sized =
    piece_at file (concat (take k parts)) part (concat (drop (suc k) parts)) at size
    (whole ∙ split_at parts k h ∙ ap (λ (p : List ℕ). concat (take k parts) ++ (p ++ concat (drop (suc k) parts))) is)
    (length-concat (take k parts) ∙ place) sized

pub concat-append : (xs ys : List (List ℕ)) → concat (xs ++ ys) ≡ concat xs ++ concat ys
concat-append [] ys = refl
concat-append (x ∷ xs) ys = ap (λ (l : List ℕ). x ++ l) (concat-append xs ys) ∙ sym (append_assoc x (concat xs) (concat ys))
