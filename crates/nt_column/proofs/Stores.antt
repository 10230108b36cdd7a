-- Elements by the width at which they are kept.
use Rattle.std.proofs.Common.{◌≡◌, ℕ, get_or, refl, sym}
use Rattle.nt_column.specs.declared.store.Store.{Store}
use Rattle.nt_column.specs.declared.store.Store.TheVariants.{Bits, Bytes, Words16, Words32, Words64, Pairs}
use Rattle.nt_column.specs.declared.pairs.PairList.{PairList}
use Rattle.nt_column.specs.Elements.{tags}
use Rattle.nt_column.specs.Bits.{bit_of}
use Rattle.nt_column.specs.Store.{elements_of}
use Rattle.nt_column.proofs.Numbers.{tag-plain}

-- only pairs have tags
pub no_tag : (s : Store) (i : ℕ) → ((p : PairList) → s ≡ Pairs p → ⊥) → 0 ≡ get_or (tags (elements_of s)) i 0
no_tag (Bits v) i other = sym (tag-plain bit_of v.items i)
no_tag (Bytes v) i other = sym (tag-plain (λ (n : ℕ). n) v.items i)
no_tag (Words16 v) i other = sym (tag-plain (λ (n : ℕ). n) v.items i)
no_tag (Words32 v) i other = sym (tag-plain (λ (n : ℕ). n) v.items i)
no_tag (Words64 v) i other = sym (tag-plain (λ (n : ℕ). n) v.items i)
no_tag (Pairs p) i other = absurd (other p refl)
