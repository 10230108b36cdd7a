-- The anchor's object is read back.
use Rattle.std.proofs.Common.{◌≡◌, ℕ, ◌+◌, ◌^◌, true, eqb, List, [], ◌∷◌, ◌++◌, length, Ok, refl, arith, eq-eqb}
use Rattle.std.specs.List.{concat}
use Rattle.std.specs.Int.{w16, w32, w64, to_be_bytes}
use Rattle.nt_num.specs.Cursor.{big}
use Rattle.nt_xxh3.specs.Sum.{xxh3}
use Rattle.nt_format.specs.Reading.{ReadsAs, standing}
use Rattle.nt_format.proofs.Steps.{part_again}
use Rattle.nt_format.proofs.Sum.{xxh3_below}
use Rattle.nt_container.specs.declared.anchor.Anchor.{Anchor}
use Rattle.nt_format.specs.Demands.{bytes_at}
use Rattle.nt_container.specs.Anchors.{covered_fields, envelopes_at, anchor_in, anchor_from}
use Rattle.nt_container.specs.Spelling.{envelopes, anchor_fields, anchor_object}
use Rattle.nt_container.specs.Finished.{IsAnchor}
use Rattle.nt_format.proofs.Chains.{spread, total, of_parts}
use Rattle.nt_container.proofs.Words.{word_16, word_64, plain_bytes}

envelopes-chain : (a b c d e f : List ℕ) (header header_size header_len footer footer_size footer_len : ℕ)
    → ReadsAs (big w64) a header → ReadsAs (big w64) b header_size → ReadsAs (big w64) c header_len
    → ReadsAs (big w64) d footer → ReadsAs (big w64) e footer_size → ReadsAs (big w64) f footer_len
    → ReadsAs envelopes_at (concat (a ∷ b ∷ c ∷ d ∷ e ∷ f ∷ [])) (record {
      header = header;
      header_size = header_size;
      header_len = header_len;
      footer = footer;
      footer_size = footer_size;
      footer_len = footer_len;
    })
unfolding envelopes_at
envelopes-chain a b c d e f header header_size header_len footer footer_size footer_len p q r s t u =
    of_parts envelopes_at (a ∷ b ∷ c ∷ d ∷ e ∷ f ∷ []) (record {
      header = header;
      header_size = header_size;
      header_len = header_len;
      footer = footer;
      footer_size = footer_size;
      footer_len = footer_len;
    }) λ place rest.
    rw (
      p place (spread (b ∷ c ∷ d ∷ e ∷ f ∷ []) rest),
      q (total place (a ∷ [])) (spread (c ∷ d ∷ e ∷ f ∷ []) rest),
      r (total place (a ∷ b ∷ [])) (spread (d ∷ e ∷ f ∷ []) rest),
      s (total place (a ∷ b ∷ c ∷ [])) (spread (e ∷ f ∷ []) rest),
      t (total place (a ∷ b ∷ c ∷ d ∷ [])) (spread (f ∷ []) rest),
      u (total place (a ∷ b ∷ c ∷ d ∷ e ∷ [])) rest,
    ) refl

pub envelopes_read : (a : Anchor) → IsAnchor a → ReadsAs envelopes_at (envelopes a) a
unfolding envelopes
envelopes_read a is =
    envelopes-chain (to_be_bytes w64 a.header) (to_be_bytes w64 a.header_size) (to_be_bytes w64 a.header_len)
    (to_be_bytes w64 a.footer) (to_be_bytes w64 a.footer_size) (to_be_bytes w64 a.footer_len)
    a.header a.header_size a.header_len a.footer a.footer_size a.footer_len
    (word_64 a.header is.header) (word_64 a.header_size is.header_size) (word_64 a.header_len is.header_len)
    (word_64 a.footer is.footer) (word_64 a.footer_size is.footer_size) (word_64 a.footer_len is.footer_len)

pub anchor-chain : (at place : ℕ) (a b c rest : List ℕ) (anchor : Anchor) → ReadsAs (big w16) a 1 → ReadsAs (bytes_at 6) b b
    → ReadsAs envelopes_at c anchor
    → anchor_in at (standing place (spread (a ∷ b ∷ c ∷ []) rest)) ≡ Ok anchor
unfolding anchor_in
anchor-chain at place a b c rest anchor p q r =
    rw (
      p place (spread (b ∷ c ∷ []) rest),
      q (total place (a ∷ [])) (spread (c ∷ []) rest),
      r (total place (a ∷ b ∷ [])) rest,
    ) refl

pub anchor_reads : (at place : ℕ) (a : Anchor) → IsAnchor a → anchor_in at (standing place (anchor_fields a)) ≡ Ok a
unfolding anchor_fields
anchor_reads at place a is =
    anchor-chain at place (to_be_bytes w16 1) (to_be_bytes w16 0 ++ (to_be_bytes w16 0 ++ to_be_bytes w16 0)) (envelopes a)
    (to_be_bytes w64 (2 ^ 30) ++ []) a
    (word_16 1 (omega arith)) (plain_bytes 6 (to_be_bytes w16 0 ++ (to_be_bytes w16 0 ++ to_be_bytes w16 0)) refl) (envelopes_read a is)

pub fields-chain : (at place sum : ℕ) (a b c : List ℕ) → ReadsAs (bytes_at 6) a a → length b ≡ 64 → ReadsAs (big w64) c sum → sum ≡ xxh3 b
    → covered_fields at (standing place (concat (a ∷ b ∷ c ∷ []))) ≡ Ok (standing (place + length a) b)
unfolding covered_fields
fields-chain at place sum a b c p len q same =
    let test : eqb sum (xxh3 b) ≡ true = eq-eqb _ _ same in
    rw (
      p place (concat (b ∷ c ∷ [])),
      part_again 64 (place + length a) b (concat (c ∷ [])) len,
      q (place + length a + 64) [],
      test,
    ) refl

pub fields-len : (a : Anchor) → length (anchor_fields a) ≡ 64
unfolding anchor_fields envelopes
fields-len a = refl

pub fields_read : (at place : ℕ) (a : Anchor) → covered_fields at (standing place (anchor_object a))
    ≡ Ok (standing (place + 6) (anchor_fields a))
unfolding anchor_object
fields_read at place a =
    fields-chain at place (xxh3 (anchor_fields a)) (to_be_bytes w32 0x40000042 ++ to_be_bytes w16 2) (anchor_fields a)
    (to_be_bytes w64 (xxh3 (anchor_fields a)))
    (plain_bytes 6 (to_be_bytes w32 0x40000042 ++ to_be_bytes w16 2) refl) (fields-len a)
    (word_64 (xxh3 (anchor_fields a)) (xxh3_below (anchor_fields a))) refl

-- the anchor's object is read whole
pub object_reads : (at place : ℕ) (a : Anchor) → IsAnchor a → anchor_from at (standing place (anchor_object a)) ≡ Ok a
unfolding anchor_from
object_reads at place a is = rw (fields_read at place a) (anchor_reads at (place + 6) a is)
