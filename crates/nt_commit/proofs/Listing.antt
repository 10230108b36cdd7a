-- A disk and its book to which the page list that was due is appended, or a part of it.
use Rattle.std.proofs.Common.{◌≡◌, ◌∙◌, ap, sym, refl, subst, ℕ, ◌+◌, ◌-◌, ◌^◌, ◌<◌, ◌≤◌, true, List, [], ◌∷◌, ◌++◌, length, drop}
use Rattle.std.proofs.Common.{replicate}
use Rattle.std.proofs.Common.{Some, arith}
use Rattle.std.specs.Prelude.{Ok, Err}
use Rattle.std.proofs.lemmas.List.Sums.{sum_by_push}
use Rattle.nt_outside.specs.Held.{Held, appended, Becomes, BecomesSome, IsTornAppend}
use Rattle.nt_outside.specs.Reads.{Reads}
use Rattle.nt_outside.specs.Disk.{DiskState}
use Rattle.nt_outside.specs.Faults.{Rose}
use Rattle.nt_container.specs.Lengths.{blob_key_len}
use Rattle.nt_book.specs.declared.list.ListPlace.{ListPlace}
use Rattle.nt_book.specs.declared.list.NotedList.{NotedList}
use Rattle.nt_book.specs.declared.list.Tear.{Tear}
use Rattle.nt_book.specs.Books.{BookData, book_end, is_due}
use Rattle.nt_book.specs.Entries.{faulted_entry}
use Rattle.nt_book.specs.Kept.{IsBookKept}
use Rattle.nt_pagelists.specs.Blobs.{blob}
use Rattle.nt_pagelists.specs.Due.{due_len, due_object}
use Rattle.nt_commit.specs.declared.error.CommitError.TheVariants.{Fault}
use Rattle.nt_commit.specs.Appending.{AppendsList}
use Rattle.nt_commit.specs.Holds.{IsLater}
use Rattle.nt_commit.specs.Locked.{LockedState, IsInStep}
use Rattle.nt_commit.proofs.Appended.{due-length, item-count, blob-is, link-noted, blob-length}
use Rattle.nt_commit.proofs.Listed.{noted-once}
use Rattle.nt_commit.proofs.Placing.{due_or_none}
use Rattle.nt_commit.proofs.Standing.{locked_of}
use Rattle.nt_commit.proofs.ListSteps.{noted, torn_off}

module _ {D : Type 0} (state : D → DiskState) (begun d : D) (contexts : ℕ) (b : BookData)
    (was : IsInStep state (locked_of begun d contexts b)) (kept : IsBookKept b) (i : ℕ) (items : List ℕ)
    (items_are : items ≡ replicate blob_key_len 0 ++ due_object b) (due : is_due b ≡ true) (start len : ℕ)
    (start_is : start ≡ (state d).end)
    (len_is : len ≡ length items) (bytes : List ℕ) (bytes_are : bytes ≡ blob start (drop blob_key_len items)) (room : DiskState)
    (held : room.held ≡ (state d).held) (end : room.end ≡ (state d).end) (out : room.out ≡ (state d).out)
    (faults : room.faults ≡ (state d).faults) where
  abbrev old : LockedState D
  old = locked_of begun d contexts b

  blob_bytes : bytes ≡ blob (state d).end (due_object b)
  blob_bytes = blob-is items (due_object b) items_are start (state d).end bytes bytes_are start_is

  due_is : due_len b ≡ len
  due_is = omega (arith, len_is, item-count items (due_object b) items_are)

  pub bytes_long : length bytes ≡ len
  bytes_long = ap (λ (l : List ℕ). length l) blob_bytes ∙ (blob-length (state d).end (due_object b) ∙ due_is)

  module _ (d' : D) (b' : BookData) where
    abbrev new : LockedState D
    new = locked_of begun d' contexts b'

    -- it was appended, and is noted
    pub list_appended : (link : ListPlace)
        → length items ≤ b.limits.range
        → link ≡ record { length = len - blob_key_len; size = len - blob_key_len; place = start + blob_key_len }
        → b' ≡ record b { lists = b.lists ++ record { at = link; len = len } ∷ [] }
        → Becomes room.held (state d').held (appended bytes) → (state d').end ≡ room.end + length bytes
        → (state d').out ≡ room.out → room.faults ≤ (state d').faults
        → IsLater state old new × AppendsList state i old new (Ok tt)
    list_appended link fits link_is is log grew left later =
        let l : NotedList = record { at = link; len = len } in
        let told : Becomes (state d).held (state d').held (appended (blob (state d).end (due_object b))) =
        subst (λ (x : List ℕ). Becomes (state d).held (state d').held (appended x)) blob_bytes (λ h was. log h (held ∙ was)) in
        let done = noted state begun d contexts b was d' b' kept l is due
        (link-noted items (due_object b) items_are link start len (state d).end len_is start_is link_is) (omega (arith, fits, len_is)) told
        (omega (arith, grew, end, bytes_long)) (omega (arith, grew, end, ap (λ (x : List ℕ). length x) blob_bytes)) (left ∙ out)
        (omega (arith, later, faults)) in (
          done.0,
          record {
            added = [];
            grows = done.1;
            adds = refl;
            later = omega (arith, later, faults);
            listed = record {
              limits = ap (λ (x : BookData). x.limits) is;
              history = ap (λ (x : BookData). x.history) is;
              end = ap (λ (x : BookData). book_end x) is
                  ∙ omega (
                    arith,
                    sum_by_push (λ (k : NotedList). k.len) b.lists l,
                    due-length b,
                    ap (λ (x : _). due_or_none x (due_len b)) due,
                    due_is,
                  );
              spare = ap (λ (x : BookData). x.spare) is;
              not_due = ap (λ (x : BookData). is_due x) is ∙ noted-once b l kept.sized due;
            };
          },
        )

    -- it failed: the book is torn there, and the fault is entered
    pub list_torn : ((x : D) (h : Held) → (state x).held ≡ Some h → ((state x).end ≡ length h.image) × Reads h.log h.image)
        → (count to group spare : ℕ) → to ≡ (state d').end
        → b' ≡ record b {
          history = b.history ++ faulted_entry i count ∷ [];
          spare = spare;
          torn = Some (record { group = group; faults = count; len = to - book_end b });
        }
        → BecomesSome room.held (state d').held (IsTornAppend (length bytes)) → room.end ≤ (state d').end
        → (state d').end ≤ room.end + length bytes → (state d').out ≡ room.out → i ≤ contexts
        → room.faults ≤ (state d').faults → Rose room.faults (state d').faults → count ≡ (state d').faults → count < 2 ^ 64
        → IsLater state old new × AppendsList state i old new (Err Fault)
    list_torn tells count to group spare to_is is log least most left context later rose count_is fits =
        let t : Tear = record { group = group; faults = count; len = to - book_end b } in
        let told : BecomesSome (state d).held (state d').held (IsTornAppend (due_len b)) =
        subst (λ (n : ℕ). BecomesSome (state d).held (state d').held (IsTornAppend n)) (bytes_long ∙ sym due_is)
        (λ h was. log h (held ∙ was)) in
        let rises : Rose (state d).faults (state d').faults = subst (λ (n : ℕ). Rose n (state d').faults) faults rose in
        let done = torn_off state begun d contexts b was d' b' tells kept i count spare t is due
        (ap (λ (n : ℕ). n - book_end b) to_is) told (omega (arith, least, end))
        (omega (arith, most, end, bytes_long, due_is)) (left ∙ out) context (omega (arith, later, faults)) rises count_is fits in (
          done.0,
          record {
            added = faulted_entry i (state d').faults ∷ [];
            grows = done.1;
            adds = (rises, refl);
            later = omega (arith, later, faults);
            listed = tt;
          },
        )
