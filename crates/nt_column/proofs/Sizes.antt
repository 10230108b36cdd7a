-- The sizes of pages.
use Rattle.std.proofs.Common.{◌≡◌, ◌≢◌, ℕ, ◌+◌, ◌*◌, ◌/◌, List, length, refl, ◌∙◌, ap, arith}
use Rattle.std.proofs.lemmas.List.{length-map}
use Rattle.std.proofs.lemmas.List.FromFn.{length-map-range_with_len}
use Rattle.nt_types.specs.declared.column_type.ColumnType.{ColumnType}
use Rattle.nt_types.specs.declared.column_type.ColumnType.TheVariants.{Bit, Byte, Char, Int8, UInt8, Int16, UInt16, Int32, UInt32, Int64}
use Rattle.nt_types.specs.declared.column_type.ColumnType.TheVariants.{UInt64, Index32, Index64, Switch, SplitInt16, SplitUInt16}
use Rattle.nt_types.specs.declared.column_type.ColumnType.TheVariants.{SplitInt32, SplitUInt32, SplitInt64, SplitUInt64, SplitIndex32}
use Rattle.nt_types.specs.declared.column_type.ColumnType.TheVariants.{SplitIndex64}
use Rattle.nt_encode.specs.Bits.{bit_byte}
use Rattle.nt_encode.specs.Plain.{plain_byte, plain_bytes}
use Rattle.nt_encode.specs.Split.{split_byte, split_bytes}
use Rattle.nt_encode.specs.Zigzag.{zigzag_word, zigzag_words}
use Rattle.nt_encode.specs.Delta.{delta_word, delta_words}
use Rattle.nt_encode.specs.Switch.{switch_byte}
use Rattle.nt_encode.specs.Pages.{page_size, page_bytes}
use Rattle.nt_column.specs.Elements.{Element, numbers, tags, page_of}
use Rattle.nt_column.proofs.Numbers.{length-numbers}

length-plain : (k : ℕ) (ns : List ℕ) → length (plain_bytes k ns) ≡ k * length ns
length-plain k ns = length-map-range_with_len (plain_byte k ns) 0 (k * length ns)

length-split : (k : ℕ) (ns : List ℕ) → length (split_bytes k ns) ≡ k * length ns
length-split k ns = length-map-range_with_len (split_byte ns) 0 (k * length ns)

length-zigzag : (k m : ℕ) (ns : List ℕ) → length (split_bytes k (zigzag_words m ns)) ≡ k * length ns
length-zigzag k m ns = length-split k (zigzag_words m ns) ∙ ap (λ (n : ℕ). k * n) (length-map ns (zigzag_word m))

length-delta : (k m : ℕ) (ns : List ℕ) → length (split_bytes k (delta_words m ns)) ≡ k * length ns
length-delta k m ns = length-split k (delta_words m ns) ∙ ap (λ (n : ℕ). k * n) (length-map-range_with_len (delta_word m ns) 0 (length ns))

-- the bytes of a page of numbers
length-page_bytes : (kind : ColumnType) (ns : List ℕ) → kind ≢ Switch → length (page_bytes kind ns) ≡ page_size kind (length ns)
length-page_bytes Switch ns other = absurd (other refl)
length-page_bytes Bit ns other = length-map-range_with_len (bit_byte ns) 0 ((length ns + 7) / 8) ∙ omega arith
length-page_bytes Byte ns other = length-plain 1 ns ∙ omega arith
length-page_bytes Char ns other = length-plain 1 ns ∙ omega arith
length-page_bytes Int8 ns other = length-plain 1 ns ∙ omega arith
length-page_bytes UInt8 ns other = length-plain 1 ns ∙ omega arith
length-page_bytes Int16 ns other = length-plain 2 ns ∙ omega arith
length-page_bytes UInt16 ns other = length-plain 2 ns ∙ omega arith
length-page_bytes Int32 ns other = length-plain 4 ns ∙ omega arith
length-page_bytes UInt32 ns other = length-plain 4 ns ∙ omega arith
length-page_bytes Index32 ns other = length-plain 4 ns ∙ omega arith
length-page_bytes Int64 ns other = length-plain 8 ns ∙ omega arith
length-page_bytes UInt64 ns other = length-plain 8 ns ∙ omega arith
length-page_bytes Index64 ns other = length-plain 8 ns ∙ omega arith
length-page_bytes SplitInt16 ns other = length-zigzag 2 16 ns ∙ omega arith
length-page_bytes SplitUInt16 ns other = length-split 2 ns ∙ omega arith
length-page_bytes SplitInt32 ns other = length-zigzag 4 32 ns ∙ omega arith
length-page_bytes SplitUInt32 ns other = length-split 4 ns ∙ omega arith
length-page_bytes SplitInt64 ns other = length-zigzag 8 64 ns ∙ omega arith
length-page_bytes SplitUInt64 ns other = length-split 8 ns ∙ omega arith
length-page_bytes SplitIndex32 ns other = length-delta 4 32 ns ∙ omega arith
length-page_bytes SplitIndex64 ns other = length-delta 8 64 ns ∙ omega arith

-- a page of pairs
length-pairs : (es : List Element) → length (page_of Switch es) ≡ page_size Switch (length es)
length-pairs es =
    length-map-range_with_len (switch_byte (numbers es) (tags es)) 0 (12 * length (numbers es))
    ∙ (ap (λ (n : ℕ). 12 * n) (length-numbers es) ∙ omega arith)

pub length-page_of : (kind : ColumnType) (es : List Element) → length (page_of kind es) ≡ page_size kind (length es)
length-page_of Switch es = length-pairs es
length-page_of kind es = length-page_bytes kind (numbers es) (λ same. cc same) ∙ ap (page_size kind) (length-numbers es)
