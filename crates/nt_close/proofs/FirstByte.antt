-- The first byte, until all steps are taken.
use Rattle.std.proofs.Common.{◌≡◌, ◌⊎◌, ◌∙◌, inl, inr, ℕ, ◌+◌, ◌<◌, List, [], ◌∷◌, ◌++◌, length, drop, get_or, refl, ap, sym, subst, arith}
use Rattle.nt_lists.specs.Places.{put_at}
use Rattle.nt_outside.specs.Log.{Append, FailedAppend, Write, FailedWrite, Sync}
use Rattle.nt_outside.specs.Held.{Held, nothing_held, appended, synced}
use Rattle.nt_outside.specs.Order.{FirstByteLast, BeginsOpen}
use Rattle.nt_outside.specs.Reads.{Reads}
use Rattle.nt_outside.proofs.Order.{append_follows, first_append_follows, torn_append_follows, write_follows, torn_write_follows}
use Rattle.nt_outside.proofs.Order.{sync_follows, first_byte_follows, torn_first_byte_follows}
use Rattle.nt_container.specs.Spelling.{begun}
use Rattle.nt_container.proofs.Gate.{begin-len, begin-shut}
use Rattle.nt_close.specs.Steps.{IsBegunSoFar, begun_partly, torn_head, torn_blob, not_kept, begun_whole, first_byte, shut_on, closed_on}
use Rattle.nt_close.specs.Steps.{IsClosedPartly, IsClosedSoFar, closed_partly, torn_tail, torn_front, not_kept_shut, torn_first}
use Rattle.nt_close.specs.Steps.{not_kept_open, closed_whole}
use Rattle.nt_close.specs.Laws.{IsShut, EndsOverFirst}
use Rattle.nt_close.proofs.Finishing.{first_and_others}

-- what is written first begins with 0
begun_zero : IsShut (begun 0 0 0)
begun_zero =
    let parts = first_and_others (begun 0 0 0) 225 (begin-len 0 0 0) in
    let zero : parts.0 ≡ 0 = sym (ap (λ (l : List ℕ). get_or (l ++ []) 0 0) parts.2) ∙ begin-shut 0 0 0 [] in
    (parts.1, parts.2 ∙ ap (λ (k : ℕ). k ∷ parts.1) zero)

-- bytes behind the first one leave it
zero_appended : (xs ys image : List ℕ) → IsShut xs → image ≡ xs ++ ys → IsShut image
zero_appended xs ys image zero is = (zero.0 ++ ys, is ∙ ap (λ (l : List ℕ). l ++ ys) zero.1)

-- and so do bytes over those behind it
zero_behind : (xs over image : List ℕ) → IsShut xs → image ≡ put_at xs 1 over → IsShut image
zero_behind xs over image zero is = (over ++ drop (1 + length over) (0 ∷ zero.0), is ∙ ap (λ (l : List ℕ). put_at l 1 over) zero.1)

pub begins_shut : (blob : List ℕ) (left : Held) → IsBegunSoFar (begun 0 0 0) blob nothing_held left
    → IsShut left.image ⊎ ((n : ℕ) × (left.log ≡ FailedAppend n ∷ []))
begins_shut blob left (begun_partly (torn_head torn)) = inr (length torn.junk, torn.log)
begins_shut blob left (begun_partly (torn_blob torn)) = inl (zero_appended (begun 0 0 0) torn.junk left.image begun_zero torn.image)
begins_shut blob left (begun_partly (not_kept is)) =
    inl (zero_appended (begun 0 0 0) blob left.image begun_zero (ap (λ (k : Held). k.image) is))
begins_shut blob left (begun_whole is) = inl (zero_appended (begun 0 0 0) blob left.image begun_zero (ap (λ (k : Held). k.image) is))

-- where a step failed and the file stands there whole, that was the last but one, or the last
pub cut_shut : (tail front : List ℕ) (h left : Held) → IsShut h.image → IsClosedPartly tail front h left
    → IsShut left.image ⊎ ((left.image ≡ (closed_on tail front h).image) × EndsOverFirst left.log)
cut_shut tail front h left zero (torn_tail torn) = inl (zero_appended h.image torn.junk left.image zero torn.image)
cut_shut tail front h left zero (torn_front torn) =
    inl (zero_behind (h.image ++ tail) torn.junk left.image (zero_appended h.image tail (h.image ++ tail) zero refl) torn.image)
cut_shut tail front h left zero (not_kept_shut is) =
    inl (zero_behind (h.image ++ tail) front left.image (zero_appended h.image tail (h.image ++ tail) zero refl)
    (ap (λ (k : Held). k.image) is))
cut_shut tail front h left zero (torn_first torn) =
    elim (torn.single refl) [
      | inl same ↦ inl (zero_behind (h.image ++ tail) front left.image (zero_appended h.image tail (h.image ++ tail) zero refl) same)
      | inr written ↦ inr (
        written,
        record {
          before = (synced (shut_on tail front h)).log;
          step = FailedWrite 0 first_byte;
          is = torn.log;
          over = refl;
        },
      )
    ]
cut_shut tail front h left zero (not_kept_open is) = inr (
  ap (λ (k : Held). k.image) is,
  record {
    before = (synced (shut_on tail front h)).log;
    step = Write 0 first_byte;
    is = ap (λ (k : Held). k.log) is;
    over = refl;
  },
)

pub closes_shut : (tail front : List ℕ) (h left : Held) → IsShut h.image → IsClosedSoFar tail front h left
    → IsShut left.image ⊎ (left.image ≡ (closed_on tail front h).image)
closes_shut tail front h left zero (closed_partly cut) = elim (cut_shut tail front h left zero cut) [
  | inl shut ↦ inl shut
  | inr whole ↦ inr whole.0
]
closes_shut tail front h left zero (closed_whole is) = inr (ap (λ (k : Held). k.image) is)

begins_first : FirstByteLast (Append (begun 0 0 0) ∷ [])
begins_first = first_append_follows (begun 0 0 0) (subst BeginsOpen (sym begun_zero.1) refl)

begins_next : (blob : List ℕ) → FirstByteLast (Append (begun 0 0 0) ∷ Append blob ∷ [])
begins_next blob =
    subst (λ (l : List ℕ). FirstByteLast (Append l ∷ Append blob ∷ [])) (sym begun_zero.1)
    ((λ none. refl), ((λ none. absurd (cc none)), tt))

pub begins_in_order : (blob : List ℕ) (left : Held) → IsBegunSoFar (begun 0 0 0) blob nothing_held left → FirstByteLast left.log
begins_in_order blob left (begun_partly (torn_head torn)) = torn_append_follows (length (begun 0 0 0)) nothing_held left torn tt
begins_in_order blob left (begun_partly (torn_blob torn)) =
    torn_append_follows (length blob) (appended (begun 0 0 0) nothing_held) left torn begins_first
begins_in_order blob left (begun_partly (not_kept is)) = subst (λ (k : Held). FirstByteLast k.log) (sym is) (begins_next blob)
begins_in_order blob left (begun_whole is) =
    subst (λ (k : Held). FirstByteLast k.log) (sym is) (sync_follows (Append (begun 0 0 0) ∷ Append blob ∷ []) (begins_next blob))

module _ (tail front : List ℕ) (h : Held) (some : 0 < length h.image) (reads : Reads h.log h.image) (order : FirstByteLast h.log) where
  tail_order : FirstByteLast (h.log ++ Append tail ∷ [])
  tail_order = append_follows h tail some reads order

  front_order : FirstByteLast ((h.log ++ Append tail ∷ []) ++ Write 1 front ∷ [])
  front_order = write_follows (h.log ++ Append tail ∷ []) 1 front (omega arith) tail_order

  shut_order : FirstByteLast (((h.log ++ Append tail ∷ []) ++ Write 1 front ∷ []) ++ Sync ∷ [])
  shut_order = sync_follows ((h.log ++ Append tail ∷ []) ++ Write 1 front ∷ []) front_order

  open_order : FirstByteLast ((((h.log ++ Append tail ∷ []) ++ Write 1 front ∷ []) ++ Sync ∷ []) ++ Write 0 first_byte ∷ [])
  open_order = first_byte_follows ((h.log ++ Append tail ∷ []) ++ Write 1 front ∷ []) first_byte shut_order

  pub closes_in_order : (left : Held) → IsClosedSoFar tail front h left → FirstByteLast left.log
  closes_in_order left (closed_partly (torn_tail torn)) = torn_append_follows (length tail) h left torn order
  closes_in_order left (closed_partly (torn_front torn)) = torn_write_follows 1 front (appended tail h) left (omega arith) torn tail_order
  closes_in_order left (closed_partly (not_kept_shut is)) = subst (λ (k : Held). FirstByteLast k.log) (sym is) front_order
  closes_in_order left (closed_partly (torn_first torn)) =
      torn_first_byte_follows ((h.log ++ Append tail ∷ []) ++ Write 1 front ∷ []) first_byte _ left refl torn shut_order
  closes_in_order left (closed_partly (not_kept_open is)) = subst (λ (k : Held). FirstByteLast k.log) (sym is) open_order
  closes_in_order left (closed_whole is) = subst (λ (k : Held). FirstByteLast k.log) (sym is) (sync_follows _ open_order)
