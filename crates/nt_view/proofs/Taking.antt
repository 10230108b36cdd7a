-- Pages that are taken one behind the other, and bytes that are read behind others.
use Rattle.std.proofs.Common.{◌≡◌, ℕ, ◌+◌, ◌-◌, ◌<◌, ◌≤◌, min, List, [], ◌∷◌, ◌++◌, length, take, drop, Result, Ok, Err, get_or, refl, sym}
use Rattle.std.proofs.Common.{ap, ◌∙◌, arith}
use Rattle.std.proofs.Math.Seq.{take-append-add}
use Rattle.std.proofs.lemmas.List.{take_at, take_all, take_min, length-drop, length-append, take-append-le, drop-append-le, append_assoc}
use Rattle.std.proofs.lemmas.List.{append-nil, take_more, drop_more, drop_all, length-take-le}
use Rattle.nt_lists.specs.Chaining.{◌>>=◌}
use Rattle.nt_lists.proofs.Variants.{ok_is}
use Rattle.nt_view.specs.declared.page_place.PagePlace.{PagePlace}
use Rattle.nt_view.specs.declared.fault.ViewFault.{ViewFault}
use Rattle.nt_view.specs.Loads.{loaded_len, page_found, pages_found}
use Rattle.nt_view.specs.declared.reading.PageStore.{PageStore}
use Rattle.nt_view.specs.Stores.{taken_bytes, with_page, lens_of, cut_up}

-- as much of a list as there is of it
take_least : (n m : ℕ) (l : List ℕ) → n ≡ min m (length l) → take n l ≡ take m l
take_least n m l e = ap (λ (k : ℕ). take k l) e ∙ take_min m l

-- what a file gave into a list is what it has there
pub read-given : (buf told : List ℕ) (at len n : ℕ) → n ≡ min (length buf) (length told - at) → length buf ≡ len
    → take n buf ≡ take n (drop at told) → take n buf ≡ take len (drop at told)
read-given buf told at len n count size same =
    same ∙ take_least n len (drop at told) (omega (arith, count, size, length-drop at told))

-- what stands in a list that grew, was written behind its old length, and was cut
pub cut-read : (old buf items now pad post tail : List ℕ) (k n step len : ℕ)
    → items ≡ take (k + n) (take len ((take k now ++ (buf ++ post)) ++ tail))
    → now ≡ take (k + step) old ++ pad → k ≡ length old → length buf ≡ step → len ≡ k + step → items ≡ old ++ take n buf
cut-read old buf items now pad post tail k n step len cut grown count size long =
    let front : take k now ≡ old =
    ap (λ (l : List ℕ). take k l) (grown ∙ ap (λ (l : List ℕ). l ++ pad) (take_all (k + step) old (omega (arith, count))))
    ∙ take_at old pad k (sym count) in
    let whole : len ≡ length (old ++ buf) = omega (arith, long, count, size, length-append old buf) in
    let inner : take len ((take k now ++ (buf ++ post)) ++ tail) ≡ old ++ buf =
    ap (λ (l : List ℕ). take len ((l ++ (buf ++ post)) ++ tail)) front ∙ ap (λ (l : List ℕ). take len (l ++ tail))
    (sym (append_assoc old buf post))
    ∙ ap (λ (l : List ℕ). take len l) (append_assoc (old ++ buf) post tail) ∙ take_at (old ++ buf) (post ++ tail) len (sym whole) in
    cut ∙ ap (λ (l : List ℕ). take (k + n) l) inner ∙ ap (λ (j : ℕ). take (j + n) (old ++ buf)) count ∙ take-append-add old buf n

-- the bytes of one page more
pub cut-more : (ps : List PagePlace) (p : PagePlace) (before b : List ℕ) → length before ≡ lens_of ps → length b ≡ loaded_len p
    → cut_up (ps ++ p ∷ []) (before ++ b) ≡ cut_up ps before ++ b ∷ []
cut-more [] p [] b e f = ap (λ (l : List ℕ). l ∷ []) (take_all (loaded_len p) b (omega (arith, f)))
cut-more [] p (x ∷ before) b e f = absurd (omega (arith, e))
cut-more (q ∷ ps) p before b e f =
    let n = loaded_len q in
    let le : n ≤ length before = omega (arith, e) in
    let rest : length (drop n before) ≡ lens_of ps = omega (arith, length-drop n before, e) in
    ap (λ (l : List ℕ). l ∷ cut_up (ps ++ p ∷ []) (drop n (before ++ b))) (take-append-le n before b le)
    ∙ ap (λ (l : List ℕ). take n before ∷ cut_up (ps ++ p ∷ []) l) (drop-append-le n before b le)
    ∙ ap (λ (l : List (List ℕ)). take n before ∷ l) (cut-more ps p (drop n before) b rest f)

pub lens-more : (ps : List PagePlace) (p : PagePlace) → lens_of (ps ++ p ∷ []) ≡ lens_of ps + loaded_len p
lens-more [] p = omega arith
lens-more (q ∷ ps) p = omega (arith, lens-more ps p)

-- no page so far
pub pages-first : (told : List ℕ) (ps : List PagePlace) → pages_found told 0 ps ≡ (pages_found told 0 ps >>= λ bs. Ok ([] ++ bs))
pages-first told ps = one (pages_found told 0 ps)
  where
    one : (r : Result (List (List ℕ)) ViewFault) → r ≡ (r >>= λ bs. Ok ([] ++ bs))
    one (Ok bs) = refl
    one (Err e) = refl

-- what is left of pages, behind those so far
abbrev pub left_of : List ℕ → ℕ → List PagePlace → List ℕ → Result (List (List ℕ)) ViewFault
left_of told i ps before = pages_found told i (drop i ps) >>= λ bs. Ok (cut_up (take i ps) before ++ bs)

-- one page more
pub pages-more : (told : List ℕ) (i : ℕ) (ps : List PagePlace) (any : PagePlace) (before now : List ℕ) → i < length ps
    → length before ≡ lens_of (take i ps) → length now ≡ length before + loaded_len (get_or ps i any)
    → with_page told i (get_or ps i any) before ≡ Ok now → left_of told i ps before ≡ left_of told (i + 1) ps now
pages-more told i ps any before now lt first long h = by (page_found told i p) refl h
  where
    p : PagePlace
    p = get_or ps i any

    rest : Result (List (List ℕ)) ViewFault
    rest = pages_found told (i + 1) (drop (i + 1) ps)

    joined : (r : Result (List (List ℕ)) ViewFault) (bs : List (List ℕ)) (b : List ℕ)
        → ((r >>= λ others. Ok (b ∷ others)) >>= λ all. Ok (bs ++ all)) ≡ (r >>= λ all. Ok ((bs ++ b ∷ []) ++ all))
    joined (Ok others) bs b = ap (λ (l : List (List ℕ)). Ok l) (sym (append_assoc bs (b ∷ []) others))
    joined (Err e) bs b = refl

    by : (r : Result (List ℕ) ViewFault) → page_found told i p ≡ r → (r >>= λ b. Ok (before ++ b)) ≡ Ok now
        → left_of told i ps before ≡ left_of told (i + 1) ps now
    by (Ok b) is e =
        let same : before ++ b ≡ now = ok_is {E = ViewFault} (before ++ b) now e in
        let size : length b ≡ loaded_len p = omega (arith, long, length-append before b, ap (λ (l : List ℕ). length l) same) in
        let cut : cut_up (take i ps) before ++ b ∷ [] ≡ cut_up (take (i + 1) ps) now =
        sym (cut-more (take i ps) p before b first size) ∙ ap (λ (l : List PagePlace). cut_up l (before ++ b)) (sym (take_more ps i any lt))
        ∙ ap (λ (l : List ℕ). cut_up (take (i + 1) ps) l) same in
        ap (λ (l : List PagePlace). pages_found told i l >>= λ bs. Ok (cut_up (take i ps) before ++ bs)) (drop_more ps i any lt)
        ∙ ap (λ (r : Result (List ℕ) ViewFault). (r >>= λ first. rest >>= λ others. Ok (first ∷ others)) >>= λ bs. Ok
        (cut_up (take i ps) before ++ bs)) is
        ∙ joined rest (cut_up (take i ps) before) b
        ∙ ap (λ (l : List (List ℕ)). rest >>= λ all. Ok (l ++ all)) cut
    by (Err f) is e = absurd cc

-- a page that fails
pub pages-fail : (told : List ℕ) (i : ℕ) (ps : List PagePlace) (any : PagePlace) (before : List ℕ) (f : ViewFault) → i < length ps
    → with_page told i (get_or ps i any) before ≡ Err f → left_of told i ps before ≡ Err f
pages-fail told i ps any before f lt h =
    ap (λ (l : List PagePlace). pages_found told i l >>= λ bs. Ok (cut_up (take i ps) before ++ bs)) (drop_more ps i any lt)
    ∙ by (page_found told i (get_or ps i any)) h
  where
    by : (r : Result (List ℕ) ViewFault) → (r >>= λ b. Ok (before ++ b)) ≡ Err f
        → ((r >>= λ first. pages_found told (i + 1) (drop (i + 1) ps) >>= λ others. Ok (first ∷ others)) >>= λ bs. Ok
        (cut_up (take i ps) before ++ bs)) ≡ Err f
    by (Ok b) e = absurd cc
    by (Err g) e = cc

-- no page more
pub pages-done : (told : List ℕ) (i : ℕ) (ps : List PagePlace) (before : List ℕ) → length ps ≤ i
    → left_of told i ps before ≡ Ok (cut_up ps before)
pages-done told i ps before le =
    ap (λ (l : List PagePlace). pages_found told i l >>= λ bs. Ok (cut_up (take i ps) before ++ bs)) (drop_all i ps le)
    ∙ ap (λ (l : List (List ℕ)). Ok l) (append-nil (cut_up (take i ps) before))
    ∙ ap (λ (l : List PagePlace). Ok (cut_up l before)) (take_all i ps le)

-- how many bytes the pages so far have
pub count-taken : (ps : List PagePlace) (i : ℕ) (any : PagePlace) (old new : ℕ) → i < length ps → old ≡ lens_of (take i ps)
    → new ≡ old + loaded_len (get_or ps i any) → new ≡ lens_of (take (i + 1) ps)
count-taken ps i any old new lt before more =
    omega (arith, before, more, lens-more (take i ps) (get_or ps i any), ap lens_of (take_more ps i any lt))

pub length-taken : (s : PageStore) → s.taken ≤ length s.bytes.items → length (taken_bytes s) ≡ s.taken
length-taken s le = length-take-le s.taken s.bytes.items le

pub grown-by : (before now : List ℕ) (a b n : ℕ) → length before ≡ a → length now ≡ b → b ≡ a + n → length now ≡ length before + n
grown-by before now a b n first second more = omega (arith, first, second, more)

-- no bytes are those of any file
pub nothing-ahead : (bytes told : List ℕ) → bytes ≡ [] → drop 0 bytes ≡ take (length bytes - 0) (drop 0 told)
nothing-ahead bytes told e = e ∙ ap (λ (l : List ℕ). take (length l - 0) (drop 0 told)) (sym e)
