-- A cluster that is put behind the others on a disk and in its book, and the page list that is due in front of it.
use Rattle.std.specs.Prelude.{◌≡◌, ◌⊎◌, ℕ, ◌+◌, ◌-◌, ◌<◌, ◌≤◌, true, false, List, [], ◌∷◌, ◌++◌, length, drop, if◌then◌else◌, Some, None}
use Rattle.nt_outside.specs.Faults.{Rose}
use Rattle.nt_outside.specs.Held.{Held, Becomes, BecomesSome, IsTornAppend, appended}
use Rattle.nt_outside.specs.Disk.{DiskState}
use Rattle.nt_container.specs.Spelling.{blob_key}
use Rattle.nt_grammar.specs.Table.{Table}
use Rattle.nt_machine.specs.History.{Cluster, Settled}
use Rattle.nt_book.specs.declared.list.NotedList.{NotedList}
use Rattle.nt_book.specs.declared.meta.ClusterMeta.{ClusterMeta}
use Rattle.nt_book.specs.Books.{BookData, book_clusters, book_ranges, book_end, is_due, noted_at}
use Rattle.nt_book.specs.Entries.{faulted_entry}
use Rattle.nt_book.specs.Limiting.{limit_error}
use Rattle.nt_pages.specs.declared.image.ClusterImage.{ClusterImage}
use Rattle.nt_pages.specs.Image.{key_room}
use Rattle.nt_pagelists.specs.Blobs.{blob}
use Rattle.nt_pagelists.specs.Due.{due_len, due_object}
use Rattle.nt_pagelists.specs.Objects.{list_object}
use Rattle.nt_layout.specs.Headers.{header_sum}
use Rattle.nt_layout.specs.Beside.{full_span}
use Rattle.nt_commit.specs.Appending.{due_bytes}
use Rattle.nt_commit.specs.Images.{IsImageFor}
use Rattle.nt_commit.specs.Lists.{noted_list}

-- ---- the page list that is due

-- its blob, at the end of the book; none where none is due
abbrev pub due_blobs : BookData → List (List ℕ)
due_blobs book = if is_due book then blob (book_end book) (due_object book) ∷ [] else []

-- the page lists that are noted with it
abbrev pub lists_with_due : BookData → List NotedList
lists_with_due book = if is_due book then book.lists ++ noted_list (book_end book) (due_object book) ∷ [] else book.lists

-- the book with it
abbrev pub with_due_list : BookData → BookData
with_due_list book = record book { lists = lists_with_due book }

-- ---- what is appended

-- these bytes are appended, one behind the other
abbrev pub all_appended : List (List ℕ) → Held → Held
all_appended [] h = h
all_appended (bytes ∷ more) h = all_appended more (appended bytes h)

-- the cluster of this number at a place, whose range is filled
abbrev pub settled_cluster : ℕ → ℕ → ClusterMeta → Cluster ClusterMeta
settled_cluster n start meta =
    record { context = meta.context; number = n; start = start; len = meta.len; meta = meta; state = Settled None }

-- the bytes of an image with the key of a blob that starts there
abbrev pub keyed : List ℕ → ℕ → List ℕ
keyed bytes start = blob_key (length bytes - key_room) start ++ drop key_room bytes

-- the range of an image behind the end of a book, and behind the page list that is due
abbrev pub range_behind : ClusterImage → BookData → List ℕ
range_behind image book = keyed image.bytes (book_end (with_due_list book))

-- a settled cluster stands behind the others, and nothing else of the book changes but for its memory
pub record GainsCluster (meta : ClusterMeta) (old new : BookData) : Type 0 where
  pub clusters : book_clusters new ≡ book_clusters old ++ settled_cluster (length (book_clusters old)) (book_end old) meta ∷ []
  pub same : new ≡ record old { history = new.history; spare = new.spare }

-- each page list that is noted is noted with the size of its group's, of so many clusters
abbrev pub AreSizesNoted : Table → ℕ → BookData → Type 0
AreSizesNoted t most book =
    (k : ℕ) → k < length book.lists
    → (noted_at book k).at.size ≡ length (list_object (header_sum t) book (full_span most k))

-- ---- what is asked, and what each answer leaves

-- an image can be put behind the clusters of a book that ends where the disk does and isn't staged: it has room for its key, and a list of
-- pages for each column
pub record MayAppend (disk : DiskState) (book : BookData) (image : ClusterImage) : Type 0 where
  pub not_staged : book.staged ≡ false
  pub image_is : IsImageFor (length book.firsts) image.meta.context image
  pub end : disk.end ≡ book_end book

-- disk and book are as before but for their memory
pub record KeepsDiskAndBook (old new : DiskState) (book book' : BookData) : Type 0 where
  pub held : new.held ≡ old.held
  pub end : new.end ≡ old.end
  pub out : new.out ≡ old.out
  pub faults : new.faults ≡ old.faults
  pub book_is : book' ≡ record book { spare = book'.spare }

-- the page list that was due stands at the end of the disk and is noted; behind it the image stands with the key of its place, and its
-- cluster in the book, which ends where the disk does
pub record AppendsImage (image : ClusterImage) (old new : DiskState) (book book' : BookData) : Type 0 where
  pub held : Becomes old.held new.held (all_appended (due_blobs book ++ range_behind image book ∷ []))
  pub end : new.end ≡ book_end book'
  pub out : new.out ≡ old.out
  pub later : old.faults ≤ new.faults
  pub gains : GainsCluster image.meta (with_due_list book) book'

-- the page list that was due failed: a part of it stands at the end, where the book is torn, and the fault is entered
pub record TearsList (context : ℕ) (old new : DiskState) (book book' : BookData) : Type 0 where
  pub due : is_due book ≡ true
  pub held : BecomesSome old.held new.held (IsTornAppend (due_len book))
  pub book_is : book' ≡ record book {
    history = book.history ++ faulted_entry context new.faults ∷ [];
    spare = book'.spare;
    torn = Some (record { group = length book.lists; faults = new.faults; len = new.end - old.end });
  }

-- the image failed behind the page list that was due, which is noted: a part of it stands at the end, and the fault is entered
pub record CutsImage (image : ClusterImage) (old new : DiskState) (book book' : BookData) : Type 0 where
  pub held : BecomesSome old.held new.held (λ h left. IsTornAppend image.meta.len (all_appended (due_blobs book) h) left)
  pub book_is : book' ≡ record (with_due_list book) {
    history = book.history ++ faulted_entry image.meta.context new.faults ∷ [];
    spare = book'.spare;
  }

-- the disk failed, in the append of the page list or in that of the image
pub record FailsOnDisk (image : ClusterImage) (old new : DiskState) (book book' : BookData) : Type 0 where
  pub rose : Rose old.faults new.faults
  pub out : new.out ≡ old.out
  pub how : TearsList image.meta.context old new book book' ⊎ CutsImage image old new book book'

-- ---- on the way

-- there is memory for so many steps with so many bytes, and for a cluster in the book
pub record HasMemoryFor (steps bytes : ℕ) (book : BookData) (disk : DiskState) : Type 0 where
  pub book_room : 0 < book.spare
  pub steps_left : steps ≤ disk.spare_steps
  pub bytes_left : bytes ≤ disk.spare_bytes

-- a page list can be put behind a book: it is the one that is due, behind room for its key, passes no limit and has room
pub record MayAppendList (disk : DiskState) (book : BookData) (list : List ℕ) : Type 0 where
  pub list_is : list ≡ due_bytes book
  pub short : length list ≤ book.limits.range
  pub within : book_end book + length list ≤ book.limits.file
  pub memory : HasMemoryFor 1 (length list) book disk
  pub end : disk.end ≡ book_end book

-- the page list that was due stands at the end of the disk and is noted
pub record AppendsDue (old new : DiskState) (book book' : BookData) : Type 0 where
  pub held : Becomes old.held new.held (all_appended (due_blobs book))
  pub end : new.end ≡ book_end (with_due_list book)
  pub out : new.out ≡ old.out
  pub later : old.faults ≤ new.faults
  pub steps : old.spare_steps ≤ new.spare_steps + 1
  pub bytes : old.spare_bytes ≤ new.spare_bytes + length (due_bytes book)
  pub book_is : book' ≡ with_due_list book

-- the page list failed
pub record FailsAtList (context : ℕ) (old new : DiskState) (book book' : BookData) : Type 0 where
  pub rose : Rose old.faults new.faults
  pub out : new.out ≡ old.out
  pub tears : TearsList context old new book book'

-- an image can be put behind a book that is due no page list: it passes no limit and has room
pub record MayAppendRange (disk : DiskState) (book : BookData) (image : ClusterImage) : Type 0 where
  pub may : MayAppend disk book image
  pub limits : limit_error book.limits (book_end book) (length (book_ranges book)) image.meta.len ≡ None
  pub not_due : is_due book ≡ false
  pub memory : HasMemoryFor 1 image.meta.len book disk

-- an image stands at the end of the disk with the key of its place, and its cluster in the book
pub record AppendsRange (image : ClusterImage) (old new : DiskState) (book book' : BookData) : Type 0 where
  pub held : Becomes old.held new.held (appended (keyed image.bytes (book_end book)))
  pub end : new.end ≡ old.end + image.meta.len
  pub out : new.out ≡ old.out
  pub later : old.faults ≤ new.faults
  pub gains : GainsCluster image.meta book book'

-- the image failed: a part of it stands at the end, and the fault is entered
pub record FailsAtRange (image : ClusterImage) (old new : DiskState) (book book' : BookData) : Type 0 where
  pub held : BecomesSome old.held new.held (IsTornAppend image.meta.len)
  pub rose : Rose old.faults new.faults
  pub out : new.out ≡ old.out
  pub book_is : book' ≡ record book {
    history = book.history ++ faulted_entry image.meta.context new.faults ∷ [];
    spare = book'.spare;
  }
