-- A book without groups.
use Rattle.std.proofs.Common.{◌≡◌, ap, subst, ℕ, false, List, length, arith}
use Rattle.std.specs.Prelude.{Option}
use Rattle.nt_machine.specs.History.{ranges_of}
use Rattle.nt_machine.specs.Legal.{spans_of, end_after}
use Rattle.nt_machine.specs.Spans.{AreBehindSpans}
use Rattle.nt_book.specs.declared.list.NotedList.{NotedList}
use Rattle.nt_book.specs.Books.{BookData, IsUngrouped, book_clusters, book_end, is_due}
use Rattle.nt_book.specs.Kept.{IsBookKept}
use Rattle.nt_book.specs.Listing.{AreBeside, group_size, is_due_after, lists_bytes, torn_bytes}

-- its ranges end it
pub end-ungrouped : (book : BookData) → IsUngrouped book → book_end book ≡ end_after book.begin (ranges_of book.history)
end-ungrouped book is = omega (arith, ap lists_bytes is.between.none_noted, ap torn_bytes is.between.none_torn)

-- no page list is due
pub due-ungrouped : (book : BookData) → IsUngrouped book → is_due book ≡ false
due-ungrouped book is =
    ap (λ (g : Option (ℕ × ℕ)). is_due_after g book.lists book.torn (length (book_clusters book))) is.no_groups

-- its ranges stand behind one another
pub placed-ungrouped : (book : BookData) → IsBookKept book → IsUngrouped book
    → AreBehindSpans book.begin (spans_of (ranges_of book.history))
placed-ungrouped book kept is =
    subst (λ (l : List NotedList). AreBeside book.begin (group_size book.group) l (spans_of (ranges_of book.history)))
    is.between.none_noted (kept.placed is.between.none_torn)
