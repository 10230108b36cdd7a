-- The line of an order, printed before a filled file is closed.
use Rattle.std.proofs.Common.{◌≡◌, ◌∙◌, inl, inr, ap, sym, ℕ, List, [], take, drop, Option, Some, Result, Ok, Err}
use Rattle.std.proofs.lemmas.List.{append-nil, take-append-drop}
use Rattle.nt_types.specs.ShapeData.{MemberData}
use Rattle.nt_outside.specs.declared.stream.Stream.TheVariants.{ToOut}
use Rattle.nt_outside.specs.Held.{Held}
use Rattle.nt_outside.specs.World.{World, prints}
use Rattle.nt_book.specs.declared.params.Params.{Params}
use Rattle.nt_book.specs.Books.{BookData}
use Rattle.nt_dealing.specs.Dealt.{commit_order}
use Rattle.nt_store.specs.declared.error.StoreError.{StoreError}
use Rattle.nt_store.specs.declared.error.StoreError.TheVariants.{Outside, Memory, Schema, Line, Limit}
use Rattle.nt_store.specs.Orders.{order_line, IsOrderOf}
use Rattle.nt_store.specs.Whole.{IsStored}
use Rattle.nt_store.specs.Writing.{HoldsNow, PrintsOrderPart, PrintsOrder, FileTold}
use Rattle.nt_store.specs.Crashes.{CrashLeaves, EndsAsWhole, CrashesTo}
use Rattle.nt_store.specs.Filling.{WhyUnfilled, FillLeaves, CloseLeaves}
use Rattle.nt_store.proofs.Crashing.{leaves_as}

module _ (fields : List MemberData) (p : Params) (texts : List (List ℕ)) (w : World) (new : Option World) where
  -- the front of the line of an order is printed
  pub front_printed : (order line : List ℕ) (n : ℕ) → IsOrderOf p fields texts order → line ≡ order_line order
      → new ≡ Some (prints ToOut (take n line) w) → PrintsOrderPart fields p texts w new (take n line) (drop n line)
  front_printed order line n of line-is is =
      record { order = order; of = of; line = sym line-is ∙ sym (take-append-drop n line); is = is }

  -- or all of it
  whole_printed : (book : BookData) → IsOrderOf p fields texts (commit_order book) → PrintsOrder book w new
      → PrintsOrderPart fields p texts w new (order_line (commit_order book)) []
  whole_printed book of is =
      record { order = commit_order book; of = of; line = sym (append-nil (order_line (commit_order book))); is = is }

-- the whole line is printed
pub line_printed : (book : BookData) (line : List ℕ) (w : World) (new : Option World) → line ≡ order_line (commit_order book)
    → new ≡ Some (prints ToOut line w) → PrintsOrder book w new
line_printed book line w new line-is is = is ∙ ap (λ (l : List ℕ). Some (prints ToOut l w)) line-is

module _ (fields : List MemberData) (p : Params) (texts : List (List ℕ)) (w : World) (new : Option World) (held : Option Held) where
  -- a file that isn't filled
  pub unfilled_told : (e : StoreError) → new ≡ Some w → WhyUnfilled {T = Unit {0}} fields p texts (Err e)
      → FillLeaves fields p texts held (Err e) → FileTold fields p texts w new held (Err e)
  unfilled_told Outside is why left = inl (is, left)
  unfilled_told Memory is why left = inl (is, left)
  unfilled_told (Limit reached most) is why left = inl (why, is, left)
  unfilled_told (Line input line kind) is why left = (why, is, left)
  unfilled_told (Schema line kind) is why left = absurd why

  -- one that is closed behind its line
  pub closed_told : (book : BookData) (result : Result Unit StoreError) → IsOrderOf p fields texts (commit_order book)
      → PrintsOrder book w new
      → CloseLeaves fields p texts (commit_order book) held result → FileTold fields p texts w new held result
  closed_told book (Ok value) of printed (h, is, stored) =
      record { order = commit_order book; file = (h, is, stored.0); printed = printed }
  closed_told book (Err Outside) of printed (h, is, inl begins) =
      inr (inl (order_line (commit_order book), [], whole_printed fields p texts w new book of printed, (h, is, begins)))
  closed_told book (Err Outside) of printed (h, is, inr stored) =
      inr (inr (record { order = commit_order book; file = (h, is, stored.0); printed = printed }, stored.1))
  closed_told book (Err Memory) of printed left =
      inr (order_line (commit_order book), whole_printed fields p texts w new book of printed, left)
  closed_told book (Err (Limit reached most)) of printed (passes, left) =
      inr (order_line (commit_order book), passes, whole_printed fields p texts w new book of printed, left)
  closed_told book (Err (Line input line kind)) of printed left = absurd left
  closed_told book (Err (Schema line kind)) of printed left = absurd left

  -- what a crash leaves of that
  pub closed_crashes : (book : BookData) (result : Result Unit StoreError) → PrintsOrder book w new
      → HoldsNow held (λ h. CrashLeaves (IsStored p fields texts (commit_order book)) h.log result)
      → CrashesTo fields p texts w new held result
  closed_crashes book result printed (h, is, leaves) = (
    h,
    is,
    leaves_as (IsStored p fields texts (commit_order book)) (EndsAsWhole fields p texts w new) h.log result
        (λ bytes stored. record { order = commit_order book; stored = stored; printed = printed }) leaves,
  )
