-- The steps of a disk by which a file is begun and closed, in their order. A step that fails ends them.
use Rattle.std.specs.Prelude.{ℕ, ◌≡◌, ◌+◌, ◌≤◌, ◌^◌, List, [], ◌∷◌, length}
use Rattle.nt_outside.specs.Held.{Held, Becomes, WhereHeld, nothing_held, appended, written, synced, IsTornAppend, IsTornWrite}
use Rattle.nt_outside.specs.Disk.{DiskState}

-- head and header blob are appended, and stay
abbrev pub begun_on : List ℕ → List ℕ → Held → Held
begun_on head blob h = synced (appended blob (appended head h))

-- what stands where one of these steps failed
pub data IsBegunPartly (head blob : List ℕ) (h left : Held) : Type 0 where
  -- the head: of a file that wasn't there nothing is known
  torn_head : IsTornAppend (length head) h left → IsBegunPartly head blob h left
  -- the header blob
  torn_blob : IsTornAppend (length blob) (appended head h) left → IsBegunPartly head blob h left
  -- the sync
  not_kept : left ≡ appended blob (appended head h) → IsBegunPartly head blob h left

-- what stands where one of them failed, or after all of them
pub data IsBegunSoFar (head blob : List ℕ) (h left : Held) : Type 0 where
  begun_partly : IsBegunPartly head blob h left → IsBegunSoFar head blob h left
  begun_whole : left ≡ begun_on head blob h → IsBegunSoFar head blob h left

-- an empty disk has room for these steps, with so many bytes in head and header blob
pub record HasRoomToBegin (disk : DiskState) (len : ℕ) : Type 0 where
  pub empty : WhereHeld disk.held (λ (h : Held). h ≡ nothing_held)
  pub sum : disk.end + len ≤ 2 ^ 63
  pub steps : 3 ≤ disk.spare_steps
  pub bytes : len ≤ disk.spare_bytes

-- a disk on which they were taken
pub record IsBegunWith (head blob : List ℕ) (old new : DiskState) : Type 0 where
  pub held : Becomes old.held new.held (begun_on head blob)
  pub end : new.end ≡ old.end + length head + length blob

-- the byte that a finished file begins with
abbrev pub first_byte : List ℕ
first_byte = 0x72 ∷ []

-- all but the first byte is written: what stands behind the clusters, and what stands behind that byte
abbrev pub shut_on : List ℕ → List ℕ → Held → Held
shut_on tail front h = written 1 front (appended tail h)

-- and stays, and then the first byte is written, and stays
abbrev pub closed_on : List ℕ → List ℕ → Held → Held
closed_on tail front h = synced (written 0 first_byte (synced (shut_on tail front h)))

-- what stands where one of these steps failed
pub data IsClosedPartly (tail front : List ℕ) (h left : Held) : Type 0 where
  -- what stands behind the clusters
  torn_tail : IsTornAppend (length tail) h left → IsClosedPartly tail front h left
  -- what stands behind the first byte
  torn_front : IsTornWrite 1 front (appended tail h) left → IsClosedPartly tail front h left
  -- the sync before the first byte
  not_kept_shut : left ≡ shut_on tail front h → IsClosedPartly tail front h left
  -- the first byte
  torn_first : IsTornWrite 0 first_byte (synced (shut_on tail front h)) left → IsClosedPartly tail front h left
  -- the last sync
  not_kept_open : left ≡ written 0 first_byte (synced (shut_on tail front h)) → IsClosedPartly tail front h left

-- what stands where one of them failed, or after all of them
pub data IsClosedSoFar (tail front : List ℕ) (h left : Held) : Type 0 where
  closed_partly : IsClosedPartly tail front h left → IsClosedSoFar tail front h left
  closed_whole : left ≡ closed_on tail front h → IsClosedSoFar tail front h left

-- a disk of which no range is out has room for these steps, with so many bytes behind the clusters and behind the first byte
pub record HasRoomToEnd (disk : DiskState) (tail front : ℕ) : Type 0 where
  pub steps : 5 ≤ disk.spare_steps
  pub bytes : tail + front + 1 ≤ disk.spare_bytes
  pub sum : disk.end + tail ≤ 2 ^ 63
  pub inside : 1 + front ≤ disk.end
  pub out : disk.out ≡ []

-- a disk on which they were taken
pub record IsEndedWith (tail front : List ℕ) (old new : DiskState) : Type 0 where
  pub held : Becomes old.held new.held (closed_on tail front)
  pub end : new.end ≡ old.end + length tail
