-- Clusters as their pages are stored, whoever cut and coded them (RNTuple Binary Format Specification 1.0.0.0, sections Pages and Page
-- Locations).
use Rattle.std.specs.Prelude.{ℕ, ◌+◌, ◌*◌, ◌<◌, ◌≤◌, ◌^◌, List, [], ◌∷◌, ◌++◌, length}
use Rattle.std.specs.List.{AllByRecursion, flat_map}
use Rattle.std.specs.Int.{w64, to_le_bytes}
use Rattle.nt_xxh3.specs.Sum.{xxh3}
use Rattle.nt_book.specs.declared.meta.PageMeta.{PageMeta}
use Rattle.nt_book.specs.declared.meta.ClusterMeta.{ClusterMeta}
use Rattle.nt_pagelists.specs.Blobs.{blob_len}

-- a page as it is stored, without its checksum, and how many elements it has
pub record StoredPage : Type 0 where
  pub count : ℕ
  pub bytes : List ℕ

-- its bytes, with their checksum behind them
abbrev pub with_sum : StoredPage → List ℕ
with_sum p = p.bytes ++ to_le_bytes w64 (xxh3 p.bytes)

-- the pages of a column, one behind the other
abbrev pub stored_column : List StoredPage → List ℕ
stored_column ps = flat_map with_sum ps

-- the payload of a cluster of these columns
abbrev pub stored_payload : List (List StoredPage) → List ℕ
stored_payload cs = flat_map stored_column cs

-- pages from a place of the payload on, each behind the one before
abbrev pub stored_page_metas : ℕ → List StoredPage → List PageMeta
stored_page_metas place [] = []
stored_page_metas place (p ∷ ps) =
    record { count = p.count; place = place; size = length p.bytes } ∷ stored_page_metas (place + length (with_sum p)) ps

-- the pages of columns from a place on
abbrev pub stored_metas : ℕ → List (List StoredPage) → List (List PageMeta)
stored_metas place [] = []
stored_metas place (c ∷ cs) = stored_page_metas place c ∷ stored_metas (place + length (stored_column c)) cs

-- what is kept of the cluster of these columns
abbrev pub stored_meta : ℕ → ℕ → List (List StoredPage) → ClusterMeta
stored_meta context entries cs = record {
  context = context;
  entries = entries;
  len = blob_len (length (stored_payload cs));
  pages = stored_metas 0 cs;
}

-- a page has a bit for each element, and its count is signed in 32 bits
pub record IsSoundPage (p : StoredPage) : Type 0 where
  pub count : p.count < 2 ^ 31
  pub bits : p.count ≤ 8 * length p.bytes

-- pages are such
abbrev pub AreSoundPages : List StoredPage → Type 0
AreSoundPages ps = AllByRecursion (λ (p : StoredPage). IsSoundPage p) ps

-- those of columns are
abbrev pub AreSoundColumns : List (List StoredPage) → Type 0
AreSoundColumns cs = AllByRecursion (λ (ps : List StoredPage). AreSoundPages ps) cs
