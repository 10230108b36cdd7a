-- The whole file that is written of others.
use Rattle.std.specs.Prelude.{◌≡◌, ℕ, List, [], ◌∷◌, Option, None, Some, option_map, length, Ok, Err}
use Rattle.std.specs.List.{flat_map}
use Rattle.nt_num.specs.declared.fault.ReadError.{ReadError}
use Rattle.nt_types.specs.TreeData.{TreesData}
use Rattle.nt_grammar.specs.Table.{Table}
use Rattle.nt_book.specs.declared.params.Params.{Params}
use Rattle.nt_file_meaning.specs.Files.{Means}
use Rattle.nt_file_meaning.specs.Outlines.{Outline}
use Rattle.nt_copied.specs.Copies.{IsCopied, HasStoredPages}
use Rattle.nt_close.specs.Passing.{measures_of}
use Rattle.nt_merge_limits.specs.Limits.{MergeOver, MergeFits}
use Rattle.nt_merge.specs.declared.place.SchemaPlace.{SchemaPlace}
use Rattle.nt_merge.specs.Comparing.{schema_error}
use Rattle.nt_merge.specs.Mergeable.{AreMergeable}
use Rattle.nt_merge.specs.Planning.{ArePlanned, outlines_from, tables_of}
use Rattle.nt_merge.specs.Merging.{Numbered, all_numbered, readings, sound_numbered, sources, copied_metas, merged_table, merged_entries}
use Rattle.nt_merge.specs.Merging.{first_refusal}
use Rattle.nt_script.specs.declared.storing.Counts.{Counts}
use Rattle.nt_merge_files.specs.declared.error.MergeStoreError.{MergeStoreError}
use Rattle.nt_merge_files.specs.declared.error.MergeStoreError.TheVariants.{Defect, Limit}
use Rattle.nt_merge_files.specs.Errors.{error_of_merge}

-- each of these files means its own list of clusters, under the schema of its outline
abbrev pub MeanEach : List (List ℕ) → List Outline → List (List (List TreesData)) → Type 0
MeanEach [] [] [] = Unit {0}
MeanEach (b ∷ bs) (o ∷ os) (k ∷ ks) = Means b o.table k × MeanEach bs os ks
MeanEach [] [] (k ∷ ks) = ⊥
MeanEach [] (o ∷ os) ks = ⊥
MeanEach (b ∷ bs) [] ks = ⊥
MeanEach (b ∷ bs) (o ∷ os) [] = ⊥

-- all fields of files with these outlines are open, no column is deferred, and the schemas are alike the first one
abbrev pub AreAlike : List Outline → Type 0
AreAlike [] = ⊥
AreAlike (o ∷ os) = AreMergeable o.table (tables_of (o ∷ os))

-- the clusters of one file after the other
abbrev pub clusters_together : List (List (List TreesData)) → List (List TreesData)
clusters_together each = flat_map (λ (clusters : List (List TreesData)). clusters) each

-- what is refused first where clusters are merged, in the order of the work
abbrev pub refused_first : Table → Params → List Numbered → Option MergeStoreError
refused_first t p ns = option_map (error_of_merge p.limits.clusters) (first_refusal t p ns)

-- where files with these bytes and outlines are merged: a limit that the header passes; then, of one cluster after the other, its first
-- fault, and a limit that its copy passes; and behind all of them a limit that the file passes where it is closed
abbrev pub refused_of : Params → List (List ℕ) → List Outline → Option MergeStoreError
refused_of p bytes outlines = refused_first (merged_table outlines) p (all_numbered 0 bytes outlines)

-- a file is the whole one of files with these bytes, which have these clusters together
pub record IsMergeOf (p : Params) (bytes : List (List ℕ)) (clusters : List (List TreesData)) (image : List ℕ) : Type 0 where
  -- the files, whose schemas are alike, and what each means
  pub outlines : List Outline
  pub planned : ArePlanned bytes outlines
  pub alike : AreAlike outlines
  pub each : List (List (List TreesData))
  pub mean : MeanEach bytes outlines each
  pub are_all : clusters ≡ clusters_together each
  -- it means the schema of the first without the flags of fields, and all their clusters
  pub means : Means image (merged_table outlines) clusters
  -- by cluster, column and page it has byte for byte the pages that are stored in them
  pub pages : HasStoredPages image (merged_table outlines) (sources (all_numbered 0 bytes outlines))
  -- it is laid out for copies of these clusters, which pass no limit
  pub laid : IsCopied image (merged_table outlines) (sources (all_numbered 0 bytes outlines)) clusters (measures_of p)
  pub fits : MergeFits (merged_table outlines) p (copied_metas (all_numbered 0 bytes outlines))
  -- so nothing is refused
  pub none_refused : refused_of p bytes outlines ≡ None

-- these bytes are the whole file of files with those
abbrev pub IsWholeMerge : Params → List (List ℕ) → List ℕ → Type 0
IsWholeMerge p bytes image = (clusters : List (List TreesData)) × IsMergeOf p bytes clusters image

-- these are the numbers of the clusters and the entries
pub record AreMergeNumbers (clusters : List (List TreesData)) (counts : Counts) : Type 0 where
  pub clusters_are : counts.clusters ≡ length clusters
  pub entries_are : counts.entries ≡ merged_entries clusters

-- files with these bytes can be merged: they have outlines, and nothing stands against merging their schemas
abbrev pub HavePlan : List (List ℕ) → Type 0
HavePlan bytes = (outlines : List Outline) × ArePlanned bytes outlines

-- files with these bytes have outlines, and this is the first place of their schemas that stands against merging them
pub record HasSchemaError (bytes : List (List ℕ)) (place : SchemaPlace) : Type 0 where
  pub outlines : List Outline
  pub outlines_are : outlines_from 0 bytes ≡ Ok outlines
  pub against : schema_error (tables_of outlines) ≡ Some place

-- they can be merged, this is the first fault of a cluster, file by file, and nothing is refused before it
pub record IsFirstClusterFault (p : Params) (bytes : List (List ℕ)) (file : ℕ) (e : ReadError) : Type 0 where
  pub outlines : List Outline
  pub planned : ArePlanned bytes outlines
  pub fault : readings (all_numbered 0 bytes outlines) ≡ Err (file, e)
  pub first : refused_of p bytes outlines ≡ Some (Defect file e)

-- they can be merged, the file of their clusters before the first fault passes this limit, with what was reached, and nothing is refused
-- before that
pub record PassesMerge (p : Params) (bytes : List (List ℕ)) (reached limit : ℕ) : Type 0 where
  pub outlines : List Outline
  pub planned : ArePlanned bytes outlines
  pub over : MergeOver (merged_table outlines) p (copied_metas (sound_numbered (all_numbered 0 bytes outlines))) reached limit
  pub first : refused_of p bytes outlines ≡ Some (Limit reached limit)
