-- An image that was put behind a book, and the page list in front of it.
use Rattle.std.proofs.Common.{◌≡◌, ◌∙◌, ap, sym, refl, subst, ℕ, ◌+◌, ◌-◌, ◌<◌, ◌≤◌, false, List, [], ◌∷◌, ◌++◌, length, None, Some, inl}
use Rattle.std.proofs.Common.{inr, arith}
use Rattle.std.specs.Prelude.{IfSome}
use Rattle.nt_outside.specs.Faults.{Rose}
use Rattle.nt_outside.specs.Held.{Held, Becomes, BecomesSome, IsTornAppend, appended}
use Rattle.nt_outside.specs.Disk.{DiskState}
use Rattle.nt_book.specs.declared.list.NotedList.{NotedList}
use Rattle.nt_book.specs.Books.{BookData, book_clusters, book_ranges, book_end, is_due}
use Rattle.nt_book.specs.Entries.{faulted_entry}
use Rattle.nt_book.specs.Limiting.{limit_error, limit_error_with}
use Rattle.nt_pages.specs.declared.image.ClusterImage.{ClusterImage}
use Rattle.nt_pagelists.specs.Due.{due_len, due_object}
use Rattle.nt_pagelists.specs.Objects.{list_object}
use Rattle.nt_commit.specs.Appending.{due_bytes}
use Rattle.nt_commit.specs.Images.{IsImageFor}
use Rattle.nt_commit.proofs.Appended.{due-room, with-behind}
use Rattle.nt_append.specs.Appending.{AppendsDue, AppendsImage, AppendsRange, CutsImage, FailsAtList, FailsAtRange, FailsOnDisk}
use Rattle.nt_append.specs.Appending.{GainsCluster}
use Rattle.nt_append.specs.Appending.{HasMemoryFor, KeepsDiskAndBook, MayAppend, MayAppendList, MayAppendRange, TearsList, all_appended}
use Rattle.nt_append.specs.Appending.{due_blobs, keyed, lists_with_due, range_behind, settled_cluster, with_due_list}
use Rattle.nt_append.proofs.Due.{blobs-room, lists-room, end-with, due-once}
use Rattle.nt_append.proofs.Entered.{end-gained}

-- appends behind appends
pub appended-behind : (first more : List (List ℕ)) (h : Held) → all_appended more (all_appended first h) ≡ all_appended (first ++ more) h
appended-behind [] more h = refl
appended-behind (bytes ∷ first) more h = appended-behind first more (appended bytes h)

rose-later : (was mid now : ℕ) → was ≤ mid → Rose mid now → Rose was now
rose-later was mid now later rose = omega (arith, later, rose)

len-room : (b : BookData) (spare : ℕ) → due_len (record b { spare = spare }) ≡ due_len b
unfolding due_object list_object
len-room b spare = refl

module _ (d : DiskState) (b : BookData) (i : ClusterImage) (may : MayAppend d b i) (m : DiskState) (r : BookData)
    (kept : KeepsDiskAndBook d m b r) (sized : IfSome b.group (λ g. 0 < g.0)) (items : List ℕ) (items_are : items ≡ due_bytes b)
    (len : ℕ) (len_is : len ≡ length items)
    (passes : limit_error_with b.limits (book_end b) (length (book_ranges b)) i.meta.len len ≡ None)
    (memory : HasMemoryFor 2 (len + i.meta.len) r m) where
  behind : (limit_error b.limits (book_end b + len) (length (book_ranges b)) i.meta.len ≡ None)
      × ((len ≤ b.limits.range) × (book_end b + len ≤ b.limits.file))
  behind = with-behind b.limits (book_end b) (length (book_ranges b)) i.meta.len len passes

  bytes-same : due_bytes r ≡ due_bytes b
  bytes-same = ap due_bytes kept.book_is ∙ due-room b r.spare

  counted : len ≡ length (due_bytes b)
  counted = len_is ∙ ap (λ (l : List ℕ). length l) items_are

  -- the list may be put behind
  pub may-list : MayAppendList m r items
  may-list = record {
    list_is = items_are ∙ sym bytes-same;
    short = omega (arith, behind.1.0, len_is, ap (λ (x : BookData). x.limits.range) kept.book_is);
    within =
        omega (
          arith,
          behind.1.1,
          len_is,
          ap (λ (x : BookData). book_end x) kept.book_is,
          ap (λ (x : BookData). x.limits.file) kept.book_is,
        );
    memory = record {
      book_room = memory.book_room;
      steps_left = omega (arith, memory.steps_left);
      bytes_left = omega (arith, memory.bytes_left, len_is);
    };
    end = kept.end ∙ (may.end ∙ sym (ap (λ (x : BookData). book_end x) kept.book_is));
  }

  -- it failed
  pub tears : (new : DiskState) (next : BookData) → FailsAtList i.meta.context m new r next → FailsOnDisk i d new b next
  tears new next torn = record {
    rose = subst (λ (n : ℕ). Rose n new.faults) kept.faults torn.rose;
    out = torn.out ∙ kept.out;
    how = inl (record {
      due = sym (ap (λ (x : BookData). is_due x) kept.book_is) ∙ torn.tears.due;
      held = λ h told. subst (λ (n : ℕ). (left : Held) × (new.held ≡ Some left) × IsTornAppend n h left)
          (ap (λ (x : BookData). due_len x) kept.book_is ∙ len-room b r.spare) (torn.tears.held h (kept.held ∙ told));
      book_is = torn.tears.book_is
          ∙ (ap (λ (x : BookData). record x {
            history = x.history ++ faulted_entry i.meta.context new.faults ∷ [];
            spare = next.spare;
            torn = Some (record { group = length x.lists; faults = new.faults; len = new.end - m.end });
          }) kept.book_is
          ∙ ap (λ (n : ℕ). record b {
            history = b.history ++ faulted_entry i.meta.context new.faults ∷ [];
            spare = next.spare;
            torn = Some (record { group = length b.lists; faults = new.faults; len = new.end - n });
          }) kept.end);
    });
  }

  module _ (d2 : DiskState) (b2 : BookData) (list : AppendsDue m d2 r b2) where
    b2-is : b2 ≡ record (with_due_list b) { spare = r.spare }
    b2-is =
        list.book_is
        ∙ (ap (λ (x : BookData). with_due_list x) kept.book_is
        ∙ ap (λ (ls : List NotedList). record b { spare = r.spare; lists = ls }) (lists-room b r.spare))

    blobs-same : due_blobs r ≡ due_blobs b
    blobs-same = ap (λ (x : BookData). due_blobs x) kept.book_is ∙ blobs-room b r.spare

    end-same : book_end b2 ≡ book_end (with_due_list b)
    end-same = ap (λ (x : BookData). book_end x) b2-is

    ends-there : d2.end ≡ book_end b2
    ends-there = list.end ∙ sym (ap (λ (x : BookData). book_end x) list.book_is)

    plain-same : b2.staged ≡ false
    plain-same = ap (λ (x : BookData). x.staged) b2-is ∙ may.not_staged

    -- then the image may
    pub may-range : MayAppendRange d2 b2 i
    may-range = record {
      may = record {
        not_staged = plain-same;
        image_is = subst (λ (x : BookData). IsImageFor (length x.firsts) i.meta.context i) (sym b2-is) may.image_is;
        end = ends-there;
      };
      limits = ap (λ (x : BookData). limit_error x.limits (book_end x) (length (book_ranges x)) i.meta.len) b2-is
          ∙ (ap (λ (n : ℕ). limit_error b.limits n (length (book_ranges b)) i.meta.len) (omega (arith, end-with b, counted))
          ∙ behind.0);
      not_due = ap (λ (x : BookData). is_due x) b2-is ∙ due-once b sized;
      memory = record {
        book_room = omega (arith, memory.book_room, ap (λ (x : BookData). x.spare) b2-is);
        steps_left = omega (arith, memory.steps_left, list.steps);
        bytes_left = omega (arith, memory.bytes_left, list.bytes, counted, ap (λ (l : List ℕ). length l) bytes-same);
      };
    }

    module _ (new : DiskState) (next : BookData) where
      -- both stand there
      pub appends : AppendsRange i d2 new b2 next → AppendsImage i d new b next
      appends range = record {
        held = λ h told.
            range.held (all_appended (due_blobs r) h) (list.held h (kept.held ∙ told))
            ∙ ap (λ (k : Held). Some k)
            (ap (λ (n : ℕ). appended (keyed i.bytes n) (all_appended (due_blobs r) h)) end-same
            ∙ (ap (λ (bs : List (List ℕ)). appended (range_behind i b) (all_appended bs h)) blobs-same
            ∙ appended-behind (due_blobs b) (range_behind i b ∷ []) h));
        end = omega (arith, range.end, ends-there, end-gained i.meta b2 next plain-same range.gains);
        out = range.out ∙ (list.out ∙ kept.out);
        later = omega (arith, range.later, list.later, kept.faults);
        gains = record {
          clusters = range.gains.clusters
              ∙ ap (λ (x : BookData). book_clusters x ++ settled_cluster (length (book_clusters x)) (book_end x) i.meta ∷ []) b2-is;
          same = range.gains.same ∙ ap (λ (x : BookData). record x { history = next.history; spare = next.spare }) b2-is;
        };
      }

      -- the list alone does
      pub cuts : FailsAtRange i d2 new b2 next → FailsOnDisk i d new b next
      cuts range = record {
        rose = rose-later d.faults d2.faults new.faults (omega (arith, list.later, kept.faults)) range.rose;
        out = range.out ∙ (list.out ∙ kept.out);
        how = inr (record {
          held = λ h told. subst (λ (bs : List (List ℕ)). (left : Held) × (new.held ≡ Some left)
              × IsTornAppend i.meta.len (all_appended bs h) left) blobs-same
              (range.held (all_appended (due_blobs r) h) (list.held h (kept.held ∙ told)));
          book_is = range.book_is
              ∙ ap (λ (x : BookData). record x {
                history = x.history ++ faulted_entry i.meta.context new.faults ∷ [];
                spare = next.spare;
              }) b2-is;
        });
      }
