-- The page list that was due, as it was appended or failed.
use Rattle.std.proofs.Common.{◌≡◌, ◌∙◌, ap, sym, refl, subst, ℕ, ◌+◌, ◌-◌, ◌≤◌, ◌^◌, List, [], ◌∷◌, ◌++◌, length, drop, Some, arith}
use Rattle.nt_outside.specs.Faults.{Rose}
use Rattle.nt_outside.specs.Held.{Becomes, BecomesSome, IsTornAppend, appended}
use Rattle.nt_outside.specs.Disk.{DiskState, HasSpare, Spends}
use Rattle.nt_container.specs.Lengths.{blob_key_len}
use Rattle.nt_book.specs.declared.list.ListPlace.{ListPlace}
use Rattle.nt_book.specs.declared.list.NotedList.{NotedList}
use Rattle.nt_book.specs.Books.{BookData, book_end, is_due}
use Rattle.nt_book.specs.Entries.{faulted_entry}
use Rattle.nt_pagelists.specs.Blobs.{blob}
use Rattle.nt_pagelists.specs.Due.{due_len, due_object}
use Rattle.nt_commit.specs.Appending.{IsDueList, due_bytes}
use Rattle.nt_commit.proofs.Appended.{item-count, blob-is, link-noted, blob-length, due-nothing}
use Rattle.nt_append.specs.Appending.{MayAppendList, AppendsDue, FailsAtList, TearsList, all_appended, with_due_list}
use Rattle.nt_append.proofs.Due.{blobs-due, bytes-due, lists-due, blobs-none, lists-none, end-with}

module _ (d : DiskState) (b : BookData) (items : List ℕ) (may : MayAppendList d b items) (due : IsDueList b items)
    (start len : ℕ) (start_is : start ≡ d.end) (len_is : len ≡ length items) (bytes : List ℕ)
    (bytes_are : bytes ≡ blob start (drop blob_key_len items)) where
  bytes_is : bytes ≡ blob (book_end b) (due_object b)
  bytes_is = blob-is items (due_object b) due.is start (book_end b) bytes bytes_are (start_is ∙ may.end)

  due_long : due_len b ≡ length items
  due_long = sym (item-count items (due_object b) due.is)

  pub bytes_long : length bytes ≡ length items
  bytes_long = ap (λ (l : List ℕ). length l) bytes_is ∙ (blob-length (book_end b) (due_object b) ∙ due_long)

  pub list-sum : d.end + length bytes ≤ 2 ^ 63
  list-sum = omega (arith, bytes_long, may.end, may.within, b.limits.file_bound)

  pub list-spare : HasSpare d (length bytes)
  list-spare = record { step = may.memory.steps_left; bytes = omega (arith, bytes_long, may.memory.bytes_left) }

  module _ (d' : DiskState) (b' : BookData) where
    -- it was appended, and is noted
    pub due-appended : (link : ListPlace)
        → link ≡ record { length = len - blob_key_len; size = len - blob_key_len; place = start + blob_key_len }
        → b' ≡ record b { lists = b.lists ++ record { at = link; len = len } ∷ [] }
        → Becomes d.held d'.held (appended bytes) → d'.end ≡ d.end + length bytes
        → d'.out ≡ d.out → d.faults ≤ d'.faults → Spends d d' (length bytes) → AppendsDue d d' b b'
    due-appended link link_is is log grew out later spends =
        let noted = link-noted items (due_object b) due.is link start len (book_end b) len_is (start_is ∙ may.end) link_is in
        record {
          held = subst (λ (bs : List (List ℕ)). Becomes d.held d'.held (all_appended bs)) (sym (blobs-due b due.due))
              (subst (λ (l : List ℕ). Becomes d.held d'.held (appended l)) bytes_is log);
          end = omega (arith, grew, may.end, bytes_long, end-with b, ap (λ (l : List ℕ). length l) may.list_is);
          out = out;
          later = later;
          steps = spends.steps;
          bytes = omega (arith, spends.bytes, bytes_long, ap (λ (l : List ℕ). length l) may.list_is);
          book_is = is
              ∙ (ap (λ (l : NotedList). record b { lists = b.lists ++ l ∷ [] }) noted
              ∙ ap (λ (ls : List NotedList). record b { lists = ls }) (sym (lists-due b due.due)));
        }

    -- where the tear may be
    pub tear-fits : d'.end ≤ d.end + length bytes → d'.end ≤ b.limits.file
    tear-fits most = omega (arith, most, bytes_long, may.end, may.within)

    -- it failed: the book is torn there, and the fault is entered
    pub due-torn : (context count to spare : ℕ) → count ≡ d'.faults → to ≡ d'.end
        → b' ≡ record b {
          history = b.history ++ faulted_entry context count ∷ [];
          spare = spare;
          torn = Some (record { group = length b.lists; faults = count; len = to - book_end b });
        }
        → BecomesSome d.held d'.held (IsTornAppend (length bytes)) → d'.out ≡ d.out → Rose d.faults d'.faults
        → FailsAtList context d d' b b'
    due-torn context count to spare count_is to_is is log out rose = record {
      rose = rose;
      out = out;
      tears = record {
        due = due.due;
        held = subst (λ (n : ℕ). BecomesSome d.held d'.held (IsTornAppend n)) (bytes_long ∙ sym due_long) log;
        book_is = is
            ∙ (ap (λ (n : ℕ). record b {
              history = b.history ++ faulted_entry context n ∷ [];
              spare = spare;
              torn = Some (record { group = length b.lists; faults = n; len = to - book_end b });
            }) count_is
            ∙ (ap (λ (n : ℕ). record b {
              history = b.history ++ faulted_entry context d'.faults ∷ [];
              spare = spare;
              torn = Some (record { group = length b.lists; faults = d'.faults; len = n - book_end b });
            }) to_is
            ∙ (ap (λ (n : ℕ). record b {
              history = b.history ++ faulted_entry context d'.faults ∷ [];
              spare = spare;
              torn = Some (record { group = length b.lists; faults = d'.faults; len = d'.end - n });
            }) (sym may.end)
            ∙ ap (λ (n : ℕ). record b {
              history = b.history ++ faulted_entry context d'.faults ∷ [];
              spare = n;
              torn = Some (record { group = length b.lists; faults = d'.faults; len = d'.end - d.end });
            }) (sym (ap (λ (x : BookData). x.spare) is)))));
      };
    }

-- none was due
pub none-appended : (d : DiskState) (b : BookData) (items : List ℕ) → MayAppendList d b items → length items ≡ 0 → AppendsDue d d b b
none-appended d b items may none =
    let long = ap (λ (l : List ℕ). length l) may.list_is in
    let due = due-nothing b (omega (arith, long, none)) in
    record {
      held = subst (λ (bs : List (List ℕ)). Becomes d.held d.held (all_appended bs)) (sym (blobs-none b due)) (λ h told. told);
      end = omega (arith, may.end, end-with b, long, none);
      out = refl;
      later = omega arith;
      steps = omega arith;
      bytes = omega arith;
      book_is = ap (λ (ls : List NotedList). record b { lists = ls }) (sym (lists-none b due));
    }
