-- How long a finished file is.
use Rattle.std.proofs.Common.{◌≡◌, ℕ, suc, ◌+◌, ◌<◌, List, [], ◌∷◌, ◌++◌, length, map, replicate, refl, sym, ap, ◌∙◌, append-nil}
use Rattle.std.proofs.Common.{arith}
use Rattle.std.specs.Prelude.{slice_index_or}
use Rattle.std.specs.List.{concat, AllByRecursion}
use Rattle.std.proofs.lemmas.List.{length-append, length-replicate}
use Rattle.nt_format.proofs.Pieces.{concat-append}
use Rattle.nt_types.specs.TreeData.{TreesData}
use Rattle.nt_grammar.specs.Table.{Table}
use Rattle.nt_machine.specs.History.{Cluster}
use Rattle.nt_book.specs.declared.meta.ClusterMeta.{ClusterMeta}
use Rattle.nt_book.specs.Books.{BookData, book_clusters, no_cluster}
use Rattle.nt_book.specs.Kept.{IsBookKept}
use Rattle.nt_container.proofs.FinishedBack.{finished-len}
use Rattle.nt_pages.specs.Image.{payload, image}
use Rattle.nt_column.specs.Column.{Column}
use Rattle.nt_pagelists.specs.Blobs.{blob_len}
use Rattle.nt_layout.specs.Headers.{header_object, header_blob, clusters_place}
use Rattle.nt_lists.specs.Parts.{Part, part_bytes}
use Rattle.nt_layout.specs.Groups.{PlacedList}
use Rattle.nt_layout.specs.Finished.{footer_object, footer_place, footer_blob, anchor_of_file, blobs, finished_with, anchor_start}
use Rattle.nt_layout.specs.Finished.{file_len}
use Rattle.nt_layout.specs.Laid.{IsBlobOfEntries, AreBlobsOf, none_left, and_blob}
use Rattle.nt_finished.proofs.Standing.{length-blob}

-- each cluster is as long as what is kept of it says
abbrev pub AreTold : List (Cluster ClusterMeta) → Type 0
AreTold cs = AllByRecursion (λ (c : Cluster ClusterMeta). c.len ≡ c.meta.len) cs

told-from : (cs : List (Cluster ClusterMeta))
    → ((k : ℕ) → k < length cs → (slice_index_or cs k no_cluster).len ≡ (slice_index_or cs k no_cluster).meta.len) → AreTold cs
told-from [] h = tt
told-from (c ∷ cs) h = (h 0 (omega arith), told-from cs (λ k less. h (suc k) (omega (arith, less))))

pub clusters_told : (book : BookData) → IsBookKept book → AreTold (book_clusters book)
clusters_told book kept = told-from (book_clusters book) (λ k less. (kept.clusters k less).len)

-- an image has its room and its payload
length-image : (page : ℕ) (cs : List Column) → length (image page cs) ≡ 42 + length (payload page cs)
length-image page cs = length-append (replicate {A = ℕ} 42 0) (payload page cs) ∙ rw (length-replicate {A = ℕ} 42 0) refl

-- the range of a cluster is as long as the cluster
pub range-len : (t : Table) (page : ℕ) (entries : List TreesData) (place : ℕ) (range : List ℕ) (meta : ClusterMeta)
    → IsBlobOfEntries t page entries place range meta
    → length range ≡ meta.len
range-len t page entries place range meta is =
    let bytes : length range ≡ 42 + length (payload page is.columns) =
    ap length is.bytes_are ∙ length-blob place (payload page is.columns) in
    bytes ∙ (sym (length-image page is.columns) ∙ sym (ap (λ (m : ClusterMeta). m.len) is.meta_is))

pub ranges-len : (t : Table) (page : ℕ) (clusters : List (List TreesData)) (ranges : List (List ℕ)) (cs : List (Cluster ClusterMeta))
    → AreBlobsOf t page clusters ranges cs → AreTold cs → map length ranges ≡ map (λ (c : Cluster ClusterMeta). c.len) cs
ranges-len t page clusters ranges cs none_left told = refl
ranges-len t page clusters ranges cs
    (and_blob {entries = entries} {others = others} {range = range} {ranges = left} {c = c} {cs = ds} first more) told =
    let here : length range ≡ c.len = range-len t page entries c.start range c.meta first ∙ sym told.0 in
    ap (λ (n : ℕ). n ∷ map length left) here ∙ ap (λ (ns : List ℕ). c.len ∷ ns) (ranges-len t page others left ds more told.1)

-- what the blobs of a file are, one behind the other
pub blobs-are : (t : Table) (book : BookData) (ls : List PlacedList) (parts : List Part)
    → concat (blobs t book ls parts) ≡ header_blob t ++ (concat (part_bytes parts) ++ footer_blob t book ls)
blobs-are t book ls parts =
    let last : concat (footer_blob t book ls ∷ []) ≡ footer_blob t book ls = append-nil (footer_blob t book ls) in
    ap (λ (l : List ℕ). header_blob t ++ l)
    (concat-append (part_bytes parts) (footer_blob t book ls ∷ []) ∙ ap (λ (l : List ℕ). concat (part_bytes parts) ++ l) last)

pub anchor_start-is : (t : Table) (book : BookData) (ls : List PlacedList)
    → anchor_start t book ls ≡ footer_place t book ls + blob_len (length (footer_object t book ls))
unfolding anchor_start
anchor_start-is t book ls = refl

-- parts stand behind the header, and the footer behind them
module _ (t : Table) (book : BookData) (ls : List PlacedList) (parts : List Part)
    (ends : clusters_place t + length (concat (part_bytes parts)) ≡ footer_place t book ls) where
  -- the bytes between the container's parts
  pub length-blobs : 226 + length (concat (blobs t book ls parts)) ≡ anchor_start t book ls
  length-blobs =
      omega (
        arith,
        ap length (blobs-are t book ls parts),
        length-append (header_blob t) (concat (part_bytes parts) ++ footer_blob t book ls),
        length-append (concat (part_bytes parts)) (footer_blob t book ls),
        length-blob (footer_place t book ls) (footer_object t book ls),
        length-blob 226 (header_object t),
        ends,
        anchor_start-is t book ls,
      )

  pub length-finished : length (finished_with t book ls parts) ≡ file_len t book ls
  length-finished = omega (arith, finished-len (anchor_of_file t book ls) (blobs t book ls parts), length-blobs)
