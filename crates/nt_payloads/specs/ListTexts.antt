-- The payload of a page list, as a grammar (RNTuple Binary Format Specification 1.0.0.0, sections Page List Envelope, Cluster Summary
-- Record Frame and Page Locations).
use Rattle.std.specs.Prelude.{ℕ, ℤ, ◌≡◌, ◌+◌, ◌^◌, ◌<◌, ◌≤◌, List, ◌++◌, length, FitsSigned}
use Rattle.std.specs.Int.{w32, w64, to_le_bytes, cast_unsigned}
use Rattle.nt_format.specs.Numbers.{signed}
use Rattle.nt_pagelists.specs.declared.cluster.ColumnList.{ColumnList}
use Rattle.nt_pagelists.specs.declared.cluster.ClusterList.{ClusterList}
use Rattle.nt_pagelists.specs.Writing.{page_item_texts}
use Rattle.nt_pagelists.specs.ReadingBack.{ArePageItems}
use Rattle.nt_payloads.specs.Framed.{InRecord, InList, Items}

-- an index in two's complement; it is negative from 2 ^ 63 on
abbrev pub index_word : ℤ → ℕ
index_word = cast_unsigned w64

-- the index of a column's first element in a cluster, a number with a sign, and behind it the compression setting; behind a negative index,
-- by which the column is suppressed there, no setting stands
pub data IndexText : List ℕ → ℤ → Type 0 where
  with_setting : {index : ℤ} {setting : ℕ} → FitsSigned w64 index → index_word index < 2 ^ 63 → setting < 2 ^ 32
      → IndexText (signed w64 index ++ to_le_bytes w32 setting) index
  suppressed : {index : ℤ} → FitsSigned w64 index → 2 ^ 63 ≤ index_word index → IndexText (signed w64 index) index

-- so many pages of a column, of each the number of elements, below zero where a checksum follows the page, its size and its place; then the
-- index of the column's first element
pub record PagesText (count place : ℕ) (text : List ℕ) (column : ColumnList) : Type 0 where
  pub index : List ℕ
  pub parts : text ≡ page_item_texts column.pages ++ index
  pub len : length column.pages ≡ count
  pub items : ArePageItems column.pages
  pub is_index : IndexText index column.offset

-- the list frame of a column's pages in a cluster
pub record ColumnText (place : ℕ) (text : List ℕ) (column : ColumnList) : Type 0 where
  pub begins : column.inner ≡ place
  pub pages : InList PagesText place text column

-- the list frame of a cluster's columns
pub record ClusterText (place : ℕ) (text : List ℕ) (k : ClusterList) : Type 0 where
  pub begins : k.outer ≡ place
  pub columns : InList (Items ColumnText) place text k.columns

-- the first entry of a cluster and the number of its entries, which has 56 bits: of the flags above it none is set
pub record SummaryText (place : ℕ) (text : List ℕ) (k : ClusterList) : Type 0 where
  pub parts : text ≡ to_le_bytes w64 k.first ++ to_le_bytes w64 k.entries
  pub first : k.first < 2 ^ 64
  pub entries : k.entries < 2 ^ 56

-- the payload of a page list: the checksum of the header, the list frame of the clusters' summaries, each a record frame, the list frame of
-- the clusters, and then any bytes
pub record PageListText (sum place : ℕ) (payload : List ℕ) (ks : List ClusterList) : Type 0 where
  pub summaries : List ℕ
  pub clusters : List ℕ
  pub more : List ℕ
  pub parts : payload ≡ to_le_bytes w64 sum ++ (summaries ++ (clusters ++ more))
  pub fits : sum < 2 ^ 64
  pub are_summaries : InList (Items (InRecord SummaryText)) (place + 8) summaries ks
  pub are_clusters : InList (Items ClusterText) (place + 8 + length summaries) clusters ks
