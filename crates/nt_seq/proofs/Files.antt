-- A file that isn't closed: its bytes, its first byte, and the order of its steps.
use Rattle.std.proofs.Common.{◌≡◌, ◌∙◌, ◌⊎◌, ap, sym, refl, subst, ℕ, ◌<◌, List, [], ◌∷◌, ◌++◌, map, length, inl, inr, arith}
use Rattle.std.proofs.Common.{append-nil, append_assoc}
use Rattle.std.proofs.lemmas.List.{length-append, length-map}
use Rattle.std.specs.List.{concat}
use Rattle.nt_outside.specs.Log.{Step, Append}
use Rattle.nt_outside.specs.Held.{Held, IsTornAppend, nothing_held, appended}
use Rattle.nt_outside.specs.Order.{FirstByteLast}
use Rattle.nt_outside.specs.Reads.{Known, exactly, after_step, known_from, known_of}
use Rattle.nt_outside.proofs.Order.{one_follows, torn_append_follows}
use Rattle.nt_container.specs.Lengths.{begun_len}
use Rattle.nt_container.specs.Spelling.{begun}
use Rattle.nt_container.proofs.Gate.{begin-len}
use Rattle.nt_grammar.specs.Table.{Table}
use Rattle.nt_pagelists.specs.Blobs.{blob}
use Rattle.nt_layout.specs.Headers.{header_blob, header_object, file_begun}
use Rattle.nt_close.specs.Steps.{begun_on, begun_whole}
use Rattle.nt_close.specs.Laws.{IsShut}
use Rattle.nt_close.proofs.FirstByte.{begins_shut, begins_in_order}
use Rattle.nt_append.specs.Appending.{all_appended}
use Rattle.nt_seq.specs.Written.{file_so_far, IsUnclosedOf}

-- a file with the same header
pub file-kept : (t new : Table) → header_object new ≡ header_object t → (blobs : List (List ℕ))
    → file_so_far new blobs ≡ file_so_far t blobs
file-kept t new same blobs =
    ap (λ (object : List ℕ). all_appended blobs (begun_on (begun 0 0 0) (blob begun_len object) nothing_held)) same

-- one that isn't closed is just as well the file of a schema with the same header
pub unclosed-kept : (t new : Table) → header_object new ≡ header_object t → (h : Held) → IsUnclosedOf new h → IsUnclosedOf t h
unclosed-kept t new same h is = record {
  blobs = is.blobs;
  steps = subst (λ (f : Held). (h ≡ f) ⊎ ((most : ℕ) × IsTornAppend most f h)) (file-kept t new same is.blobs) is.steps;
}

-- the blobs stand behind what was there
image-all_appended : (blobs : List (List ℕ)) (h : Held) → (all_appended blobs h).image ≡ h.image ++ concat blobs
image-all_appended [] h = sym (append-nil h.image)
image-all_appended (r ∷ blobs) h = image-all_appended blobs (appended r h) ∙ append_assoc h.image r (concat blobs)

pub image-file : (t : Table) (blobs : List (List ℕ)) → (file_so_far t blobs).image ≡ file_begun t ++ concat blobs
image-file t blobs = image-all_appended blobs (begun_on (begun 0 0 0) (header_blob t) nothing_held)

-- ---- its first byte

shut-behind : (xs ys image : List ℕ) → IsShut xs → image ≡ xs ++ ys → IsShut image
shut-behind xs ys image shut is = (shut.0 ++ ys, is ∙ ap (λ (l : List ℕ). l ++ ys) shut.1)

shut-begun : (blob : List ℕ) → IsShut (begun_on (begun 0 0 0) blob nothing_held).image
shut-begun blob =
    elim (begins_shut blob (begun_on (begun 0 0 0) blob nothing_held) (begun_whole refl)) [
      | inl shut ↦ shut
      | inr failed ↦ absurd (cc failed.1)
    ]

shut-file : (t : Table) (blobs : List (List ℕ)) → IsShut (file_so_far t blobs).image
shut-file t blobs =
    shut-behind (begun_on (begun 0 0 0) (header_blob t) nothing_held).image (concat blobs) (file_so_far t blobs).image
    (shut-begun (header_blob t)) (image-all_appended blobs (begun_on (begun 0 0 0) (header_blob t) nothing_held))

pub shut-unclosed : (t : Table) (h : Held) → IsUnclosedOf t h → IsShut h.image
shut-unclosed t h is =
    elim is.steps [
      | inl whole ↦ subst (λ (k : Held). IsShut k.image) (sym whole) (shut-file t is.blobs)
      | inr torn ↦ shut-behind (file_so_far t is.blobs).image torn.1.junk h.image (shut-file t is.blobs) torn.1.image
    ]

-- ---- the order of its steps

known_from-push : (known : List Known) (log : List Step) (s : Step)
    → known_from known (log ++ s ∷ []) ≡ after_step (known_from known log) s
known_from-push known [] s = refl
known_from-push known (x ∷ log) s = known_from-push (after_step known x) log s

order-all_appended : (blobs : List (List ℕ)) (h : Held) → 0 < length (known_of h.log) → FirstByteLast h.log
    → FirstByteLast (all_appended blobs h).log
order-all_appended [] h some order = order
order-all_appended (r ∷ blobs) h some order =
    let more : length (known_of (h.log ++ Append r ∷ [])) ≡ length (known_of h.log ++ map exactly r) =
    ap length (known_from-push [] h.log (Append r)) in
    let long = length-append (known_of h.log) (map exactly r) in
    order-all_appended blobs (appended r h) (omega (arith, some, more, long))
    (one_follows h.log (Append r) order (λ none. absurd (omega (arith, some, ap length none))))

order-file : (t : Table) (blobs : List (List ℕ)) → FirstByteLast (file_so_far t blobs).log
order-file t blobs =
    let h = begun_on (begun 0 0 0) (header_blob t) nothing_held in
    let head = length-append (map exactly (begun 0 0 0)) (map exactly (header_blob t)) in
    let long = length-map (begun 0 0 0) exactly in
    order-all_appended blobs h (omega (arith, head, long, begin-len 0 0 0)) (begins_in_order (header_blob t) h (begun_whole refl))

pub order-unclosed : (t : Table) (h : Held) → IsUnclosedOf t h → FirstByteLast h.log
order-unclosed t h is =
    elim is.steps [
      | inl whole ↦ subst (λ (k : Held). FirstByteLast k.log) (sym whole) (order-file t is.blobs)
      | inr torn ↦ torn_append_follows torn.0 (file_so_far t is.blobs) h torn.1 (order-file t is.blobs)
    ]
