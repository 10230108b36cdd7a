-- Pairs of two lists of one length.
use Rattle.std.proofs.Common.{◌≡◌, ℕ, zero, suc, ◌<◌, List, [], ◌∷◌, ◌++◌, length, take, get_or, refl, sym, ◌∙◌, ap, arith}
use Rattle.std.specs.List.{zip, slice_range}
use Rattle.std.proofs.lemmas.List.{get_or_read}
use Rattle.nt_encode.specs.Switch.{switch_bytes}
use Rattle.std.proofs.lemmas.Slice.Zip.{firsts-zip, seconds-zip, length-zip}
use Rattle.nt_column.specs.Elements.{Element, numbers, tags}
use Rattle.nt_column.proofs.Numbers.{numbers-range, tags-range}

pub length-pairs : (is ts : List ℕ) → length ts ≡ length is → length (zip is ts) ≡ length is
length-pairs is ts same = length-zip is ts ∙ omega arith

-- one pair more
pub zip-push : (is ts : List ℕ) (i t : ℕ) → length ts ≡ length is → zip (is ++ i ∷ []) (ts ++ t ∷ []) ≡ zip is ts ++ (i, t) ∷ []
zip-push [] [] i t same = refl
zip-push [] (u ∷ ts) i t same = absurd (omega arith)
zip-push (j ∷ is) [] i t same = absurd (omega arith)
zip-push (j ∷ is) (u ∷ ts) i t same = ap (λ (es : List Element). (j, u) ∷ es) (zip-push is ts i t (omega arith))

-- the indices and the tags of a part
pub indices-range : (is ts : List ℕ) (a b : ℕ) → length ts ≡ length is → numbers (slice_range (zip is ts) a b) ≡ slice_range is a b
indices-range is ts a b same =
    numbers-range (zip is ts) a b ∙ ap (λ (xs : List ℕ). slice_range xs a b) (firsts-zip is ts same)

pub tags_of-range : (is ts : List ℕ) (a b : ℕ) → length ts ≡ length is → tags (slice_range (zip is ts) a b) ≡ slice_range ts a b
tags_of-range is ts a b same =
    tags-range (zip is ts) a b ∙ ap (λ (xs : List ℕ). slice_range xs a b) (seconds-zip is ts same)

-- elements es that are seen as the pairs of two lists
pub length-seen : (is ts : List ℕ) (es : List Element) → zip is ts ≡ es → length ts ≡ length is → length es ≡ length is
length-seen is ts es seen same = ap length (sym seen) ∙ length-pairs is ts same

pub number-seen : (is ts : List ℕ) (es : List Element) (i x : ℕ) → zip is ts ≡ es → length ts ≡ length is → i < length is
    → x ≡ get_or is i x → x ≡ get_or (numbers es) i 0
number-seen is ts es i x seen same within read =
    get_or_read is i x within read 0 ∙ ap (λ (xs : List ℕ). get_or xs i 0) (sym (firsts-zip is ts same) ∙ ap numbers seen)

pub tag-seen : (is ts : List ℕ) (es : List Element) (i x : ℕ) → zip is ts ≡ es → length ts ≡ length is → i < length ts
    → x ≡ get_or ts i x → x ≡ get_or (tags es) i 0
tag-seen is ts es i x seen same within read =
    get_or_read ts i x within read 0 ∙ ap (λ (xs : List ℕ). get_or xs i 0) (sym (seconds-zip is ts same) ∙ ap tags seen)

pub push-seen : (is ts : List ℕ) (es : List Element) (i t : ℕ) (js us : List ℕ) → zip is ts ≡ es → length ts ≡ length is → js ≡ is ++ i ∷ []
    → us ≡ ts ++ t ∷ [] → zip js us ≡ es ++ (i, t) ∷ []
push-seen is ts es i t js us seen same more_is more_ts =
    rw (more_is, more_ts) (zip-push is ts i t same ∙ ap (λ (xs : List Element). xs ++ (i, t) ∷ []) seen)

pub page-seen : (is ts : List ℕ) (es : List Element) (a b : ℕ) (page : List ℕ) → zip is ts ≡ es → length ts ≡ length is
    → page ≡ switch_bytes (slice_range is a b) (slice_range ts a b)
    → page ≡ switch_bytes (numbers (slice_range es a b)) (tags (slice_range es a b))
page-seen is ts es a b page seen same written =
    rw (← seen, indices-range is ts a b same, tags_of-range is ts a b same) written

-- pairs of lists that grow
pub zip-append : (is js ts us : List ℕ) → length ts ≡ length is → zip (is ++ js) (ts ++ us) ≡ zip is ts ++ zip js us
zip-append [] js [] us same = refl
zip-append [] js (t ∷ ts) us same = absurd (omega arith)
zip-append (i ∷ is) js [] us same = absurd (omega arith)
zip-append (i ∷ is) js (t ∷ ts) us same = ap (λ (es : List Element). (i, t) ∷ es) (zip-append is js ts us (omega arith))

-- the first pairs are those of the first indices and tags
pub zip-take : (n : ℕ) (is ts : List ℕ) → zip (take n is) (take n ts) ≡ take n (zip is ts)
zip-take zero is ts = refl
zip-take (suc n) [] ts = refl
zip-take (suc n) (i ∷ is) [] = refl
zip-take (suc n) (i ∷ is) (t ∷ ts) = ap (λ (es : List Element). (i, t) ∷ es) (zip-take n is ts)
