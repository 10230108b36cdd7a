-- A loaded cluster whose copy stands behind a book.
use Rattle.std.proofs.Common.{◌≡◌, ◌∙◌, ap, sym, refl, subst, ℕ, ◌++◌, List, length, replicate, Option, Some, Ok}
use Rattle.nt_types.specs.TreeData.{TreesData}
use Rattle.nt_grammar.specs.Table.{Table}
use Rattle.nt_machine.specs.History.{Cluster}
use Rattle.nt_book.specs.declared.limits.LimitError.{LimitError}
use Rattle.nt_book.specs.declared.meta.ClusterMeta.{ClusterMeta}
use Rattle.nt_book.specs.Books.{BookData, book_ranges, book_clusters, book_end}
use Rattle.nt_book.specs.Limiting.{limit_error_with}
use Rattle.nt_commit.specs.Appending.{due_bytes}
use Rattle.nt_pages.specs.declared.image.ClusterImage.{ClusterImage}
use Rattle.nt_pages.specs.Image.{key_room}
use Rattle.nt_pagelists.specs.declared.cluster.ClusterList.{ClusterList}
use Rattle.nt_file_meaning.specs.Clusters.{cluster_of, entries_of_columns}
use Rattle.nt_file_meaning.specs.Holds.{HoldsCluster}
use Rattle.nt_file_meaning.specs.Outlines.{Outline}
use Rattle.nt_file_meaning.proofs.ClustersBack.{cluster}
use Rattle.nt_encode.specs.Elements.{Element}
use Rattle.nt_reader.specs.Columns.{ClusterData, given_entries, IsClusterFrom}
use Rattle.nt_reader.specs.Outlines.{numbered_cluster}
use Rattle.nt_view.specs.Loaded.{Loaded, AreLoadable}
use Rattle.nt_listing.specs.Listings.{columns_listed, columns_of_loaded}
use Rattle.nt_listing.specs.Loading.{IsLoadedFrom}
use Rattle.nt_listing.proofs.ColumnsRead.{listed-loadable}
use Rattle.nt_copied.specs.Copies.{Source, ReadAlike, NoneDeferred, IsCopyOf, stored_columns}
use Rattle.nt_copied.specs.Stored.{StoredPage, stored_payload, stored_meta}
use Rattle.nt_container.specs.Spelling.{blob_key}
use Rattle.nt_copying.specs.Copied.{copied_columns, IsImageOf}
use Rattle.nt_append.specs.Appending.{settled_cluster, with_due_list}
use Rattle.std.specs.Prelude.{◌-◌, drop}
use Rattle.nt_outside.specs.Disk.{DiskState}
use Rattle.nt_merge.specs.Copying.{CopiesCluster, CopiesLoaded, IsCopyImage, IsReadCopy, IsReadOver, limit_of_copy, source_at}
use Rattle.nt_merge.specs.Merging.{copied_meta}

-- the entries that loaded columns give
abbrev loaded_entries : Table → ClusterList → Loaded → List TreesData
loaded_entries t k l = entries_of_columns t (columns_of_loaded 0 (length t.columns) l) k.entries

pub can-load : (file : Option (List ℕ)) (number : ℕ) (k : ClusterList) (t : Table) (l : Loaded) → IsLoadedFrom file number k t l
    → AreLoadable l.pages l.zeros
can-load file number k t l from =
    listed-loadable number k t (columns_listed number k t 0 t.columns) l.pages l.zeros refl from.pages from.zeros

-- the laws of nt_copying
abbrev pub AreStored : Type 0
AreStored =
    (file : List ℕ) (number : ℕ) (k : ClusterList) (t : Table) (l : Loaded) → IsLoadedFrom (Some file) number k t l
    → copied_columns l 0 (length t.columns) ≡ stored_columns (record { file = file; table = t; list = k })

abbrev pub AreKeyedCopies : Type 0
AreKeyedCopies =
    (t : Table) (s : Source) (entries : List TreesData) (number : ℕ) (l : Loaded) (c : Cluster ClusterMeta) (bytes : List ℕ)
    → ReadAlike t s.table → NoneDeferred s.table.columns → HoldsCluster s.file s.table s.list entries
    → IsLoadedFrom (Some s.file) number s.list s.table l → IsImageOf s.table s.list.entries l bytes c.meta
    → IsCopyOf t s entries c (blob_key (length bytes - key_room) c.start ++ drop key_room bytes)

module _ (stored : AreStored) (b : List ℕ) (o : Outline) (k columns : ℕ) (l : Loaded) (book : BookData)
    (from : IsLoadedFrom (Some b) k (numbered_cluster o k) o.table l) (as_many : columns ≡ length o.table.columns)
    (read : cluster_of b o.table k (numbered_cluster o k) ≡ Ok (loaded_entries o.table (numbered_cluster o k) l)) where
  abbrev s : Source
  s = source_at b o k

  abbrev entries : List TreesData
  entries = loaded_entries o.table (numbered_cluster o k) l

  meta-same : stored_meta 0 s.list.entries (copied_columns l 0 columns) ≡ copied_meta s
  meta-same =
      ap (λ (n : ℕ). stored_meta 0 s.list.entries (copied_columns l 0 n)) as_many
      ∙ ap (λ (cs : List (List StoredPage)). stored_meta 0 s.list.entries cs) (stored b k (numbered_cluster o k) o.table l from)

  pub read-over : (passed : Option LimitError) → limit_of_copy l columns (numbered_cluster o k).entries book ≡ passed
      → IsReadOver s k book passed
  read-over passed is = record {
    entries = entries;
    read = read;
    passes =
        ap (λ (m : ClusterMeta). limit_error_with book.limits (book_end book) (length (book_ranges book)) m.len (length (due_bytes book)))
        (sym meta-same)
        ∙ is;
  }

  pub read-copy : AreKeyedCopies → (image : ClusterImage) → IsCopyImage l columns (numbered_cluster o k).entries image
      → IsReadCopy s k image book
  read-copy copies image is = record {
    entries = entries;
    read = read;
    meta_is = is.meta_is ∙ meta-same;
    copy = λ t alike none.
        copies t s entries k l
        (settled_cluster (length (book_clusters book)) (book_end (with_due_list book)) image.meta) image.bytes alike none
        ((cluster b o.table k (numbered_cluster o k)).finds entries read) from
        (record {
          bytes_are = λ sums. is.bytes_are sums
              ∙ ap (λ (n : ℕ). replicate key_room 0 ++ stored_payload (copied_columns l 0 n)) as_many;
          meta_is = is.meta_is ∙ ap (λ (n : ℕ). stored_meta 0 s.list.entries (copied_columns l 0 n)) as_many;
        });
  }

-- ---- as a cluster that was read

pub from-read : (file : Option (List ℕ)) (k : ℕ) (o : Outline) (l : Loaded) (d : ClusterData) → l ≡ d.loaded
    → IsClusterFrom file k (numbered_cluster o k) o.table d → IsLoadedFrom file k (numbered_cluster o k) o.table l
from-read file k o l d is from =
    subst (λ (x : Loaded). IsLoadedFrom file k (numbered_cluster o k) o.table x) (sym is) from.loaded

pub read-given : (file : Option (List ℕ)) (b : List ℕ) (k : ℕ) (o : Outline) (l : Loaded) (d : ClusterData) → l ≡ d.loaded
    → IsClusterFrom file k (numbered_cluster o k) o.table d → cluster_of b o.table k (numbered_cluster o k) ≡ Ok (given_entries d)
    → cluster_of b o.table k (numbered_cluster o k) ≡ Ok (loaded_entries o.table (numbered_cluster o k) l)
read-given file b k o l d is from read =
    let own : List (List Element) = columns_of_loaded 0 (length o.table.columns) l in
    let same : d.columns ≡ own =
    from.columns ∙ ap (λ (x : Loaded). columns_of_loaded 0 (length o.table.columns) x) (sym is) in
    read ∙ ap (λ (t : Table). Ok (entries_of_columns t d.columns d.entries)) from.table
    ∙ ap (λ (cs : List (List Element)). Ok (entries_of_columns o.table cs d.entries)) same
    ∙ ap (λ (n : ℕ). Ok (entries_of_columns o.table own n)) from.entries

module _ (stored : AreStored) (file : Option (List ℕ)) (o : Outline) (k columns : ℕ) (l : Loaded) (book : BookData)
    (from : IsLoadedFrom file k (numbered_cluster o k) o.table l)
    (read : (b : List ℕ) → file ≡ Some b
    → cluster_of b o.table k (numbered_cluster o k) ≡ Ok (loaded_entries o.table (numbered_cluster o k) l)) where
  from-told : (b : List ℕ) → file ≡ Some b → IsLoadedFrom (Some b) k (numbered_cluster o k) o.table l
  from-told b told = subst (λ (f : Option (List ℕ)). IsLoadedFrom f k (numbered_cluster o k) o.table l) told from

  pub over-left : (passed : Option LimitError) → limit_of_copy l columns (numbered_cluster o k).entries book ≡ passed → (b : List ℕ)
      → file ≡ Some b → columns ≡ length o.table.columns → IsReadOver (source_at b o k) k book passed
  over-left passed is b told as_many =
      read-over stored b o k columns l book (from-told b told) as_many (read b told) passed is

  pub copies-left : AreKeyedCopies → (old new : DiskState) (book' : BookData)
      → CopiesLoaded l columns (numbered_cluster o k).entries old new book book' → CopiesCluster file o k columns old new book book'
  copies-left keyed old new book' left = record {
    image = left.image;
    fits =
        ap (λ (m : ClusterMeta). limit_error_with book.limits (book_end book) (length (book_ranges book)) m.len (length (due_bytes book)))
        left.image_is.meta_is
        ∙ left.fits;
    next = left.next;
    told = λ b told as_many.
        read-copy stored b o k columns l book (from-told b told) as_many (read b told) keyed left.image left.image_is;
  }
