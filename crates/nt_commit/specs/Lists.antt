-- Page lists beside the clusters, and where the next cluster may begin behind them.
use Rattle.std.specs.Prelude.{◌≡◌, ◌⊎◌, ℕ, zero, suc, ◌+◌, ◌*◌, ◌/◌, ◌≤◌, List, [], ◌∷◌, length, take, Option, Some, None, IfSome}
use Rattle.std.specs.List.{AllByRecursion}
use Rattle.nt_lists.specs.Parts.{Part}
use Rattle.nt_machine.specs.declared.entry.Entry.{Entry}
use Rattle.nt_machine.specs.History.{Cluster, IsFaulted, ranges_of}
use Rattle.nt_machine.specs.Legal.{end_after, ranges_end}
use Rattle.nt_book.specs.declared.limits.LimitError.{LimitError}
use Rattle.nt_book.specs.declared.list.NotedList.{NotedList}
use Rattle.nt_book.specs.declared.list.Tear.{Tear}
use Rattle.nt_book.specs.declared.meta.ClusterMeta.{ClusterMeta}
use Rattle.nt_book.specs.Books.{BookData, book_ranges, book_clusters}
use Rattle.nt_book.specs.Limiting.{limit_error_with}
use Rattle.nt_book.specs.Listing.{clusters_listed, group_size}
use Rattle.nt_pagelists.specs.Blobs.{blob, blob_len, object_place}
use Rattle.nt_pagelists.specs.Due.{due_len, group_sum}
use Rattle.nt_pagelists.specs.Objects.{list_object, list_len}

-- what is noted of a page list whose blob stands at a place
abbrev pub noted_list : ℕ → List ℕ → NotedList
noted_list place object =
    record { at = record { length = length object; size = length object; place = object_place place }; len = blob_len (length object) }

-- the blob of a page list was appended at a place, and noted there
pub record IsNoted (object : List ℕ) (l : NotedList) (p : Part) : Type 0 where
  pub noted : l ≡ noted_list p.place object
  pub bytes : p.bytes ≡ blob p.place object

-- and those of groups of so many clusters of a book, the first of which begins with this cluster
abbrev pub AreNoted : ℕ → ℕ → BookData → ℕ → List NotedList → List Part → Type 0
AreNoted sum most book from [] [] = Unit {0}
AreNoted sum most book from [] (p ∷ ps) = ⊥
AreNoted sum most book from (l ∷ ls) [] = ⊥
AreNoted sum most book from (l ∷ ls) (p ∷ ps) =
    IsNoted (list_object sum book (record { from = from; count = most })) l p × AreNoted sum most book (from + most) ls ps

-- page lists were appended each where the last range of its group ends, of so many ranges; the first group begins with this one
abbrev pub AreBehindGroups : ℕ → ℕ → List (Cluster ClusterMeta) → ℕ → List Part → Type 0
AreBehindGroups most begin ranges from [] = Unit {0}
AreBehindGroups most begin ranges from (p ∷ ps) =
    (p.place ≡ ranges_end begin (take (from + most) ranges)) × AreBehindGroups most begin ranges (from + most) ps

-- the lengths of appends that failed, by what is kept of that
abbrev pub torn_lens : Option Tear → List ℕ
torn_lens None = []
torn_lens (Some t) = t.len ∷ []

-- the page list of a full group failed, and no more is left of it than its blob has
pub record IsTornList (book : BookData) (t : Tear) : Type 0 where
  pub full : clusters_listed (group_size book.group) book.lists + group_size book.group ≤ length (book_clusters book)
  pub short : t.len ≤ due_len book

-- the page lists that were appended are those that the book notes, each of its group, behind it, and no longer than a range may get; and
-- what failed is what the book keeps of that
pub record HasListsOf (book : BookData) (lists : List Part) (torn : List ℕ) : Type 0 where
  pub noted : AreNoted (group_sum book.group) (group_size book.group) book 0 book.lists lists
  pub behind : AreBehindGroups (group_size book.group) book.begin (book_ranges book) 0 lists
  pub short : AllByRecursion (λ (l : NotedList). l.len ≤ book.limits.range) book.lists
  pub torn_is : torn ≡ torn_lens book.torn
  pub torn_short : IfSome book.torn (λ t. IsTornList book t)

-- the bytes of the page lists of so many groups, the first of which begins with this cluster
abbrev pub groups_len : ℕ → BookData → ℕ → ℕ → ℕ → ℕ
groups_len sum book most from zero = 0
groups_len sum book most from (suc n) =
    list_len sum book (record { from = from; count = most }) + groups_len sum book most (from + most) n

-- the bytes of the page lists of all full groups
abbrev pub full_lists_len : Option (ℕ × ℕ) → BookData → ℕ
full_lists_len None book = 0
full_lists_len (Some g) book = groups_len g.1 book g.0 0 (length (book_clusters book) / g.0)

-- where a file ends whose full groups all have their page lists
abbrev pub listed_end : BookData → ℕ
listed_end book = end_after book.begin (ranges_of book.history) + full_lists_len book.group book

-- no entry tells of a call that failed outside the ranges
abbrev pub HasNoFault : List (Entry ClusterMeta) → Type 0
HasNoFault history = AllByRecursion (λ (e : Entry ClusterMeta). IsFaulted e.kind → ⊥) history

-- the blob of the page list of the last group, which is full, has so many bytes
pub record IsLastList (sum most : ℕ) (book : BookData) (len : ℕ) : Type 0 where
  pub groups : ℕ
  pub full : groups * most + most ≡ length (book_clusters book)
  pub len_is : len ≡ list_len sum book (record { from = groups * most; count = most })

-- no page list is due, or that of the last group
abbrev pub IsDueLen : Option (ℕ × ℕ) → BookData → ℕ → Type 0
IsDueLen None book due = due ≡ 0
IsDueLen (Some g) book due = (due ≡ 0) ⊎ IsLastList g.1 g.0 book due

-- a file ends there behind the ranges of a book, and so long is the page list that comes before the next of them. With it all full groups
-- have their lists, unless one failed: then the file may be shorter
pub record IsNextPlace (book : BookData) (before due : ℕ) : Type 0 where
  pub due_is : IsDueLen book.group book due
  pub least : end_after book.begin (ranges_of book.history) ≤ before
  pub most : before + due ≤ listed_end book
  pub exact : HasNoFault book.history → before + due ≡ listed_end book

-- such a place, for the next cluster of a book
pub record NextPlace (book : BookData) : Type 0 where
  pub before : ℕ
  pub due : ℕ
  pub is : IsNextPlace book before due

-- the limit that a range of this length passes there
abbrev pub limit_at : (book : BookData) → NextPlace book → ℕ → Option LimitError
limit_at book place len = limit_error_with book.limits place.before (length (book_ranges book)) len place.due
