use Rattle.std.proofs.Common.{◌≡◌, ◌∙◌, ap, sym, subst, ℕ, ◌+◌, List, true, length, arith}
use Rattle.std.specs.Prelude.{vec_capacity}
use Rattle.nt_book.specs.declared.list.NotedList.{NotedList}
use Rattle.nt_book.specs.Books.{BookData, book_end}
use Rattle.nt_book.specs.Keeping.{KeepsLists}
use Rattle.nt_book.specs.Listing.{is_due_after}
use Rattle.nt_book.proofs.Telling.{due-book, end-book}
use Rattle.nt_book.proofs.Noted.{IsCounted-later, KeepsLists-noted}
use Rattle.nt_book.proofs.book.Book.note_list.Goals as goal

pub push_reserved-requires : goal.push_reserved-requires
push_reserved-requires c =
    let h = c.self.invariant.0 in
    let told = ap (λ (b : BookData). b.history) c.self.view_is in
    let kept = c.self.invariant.5 in
    let stages = ap (λ (b : BookData). b.staged) c.self.view_is in
    let due : is_due_after c.self.inside.group c.self.inside.lists.items c.self.inside.torn (length c.self.inside.rows.items) ≡ true =
    sym (due-book _ _ _ h c.args.self.now told _ _ _ _ kept stages _ _ (sym (ap (λ (b : BookData). b.group) c.self.view_is))
    (sym (ap (λ (b : BookData). b.lists) c.self.view_is)) (sym (ap (λ (b : BookData). b.torn) c.self.view_is))) ∙ c.requires.due in
    omega (
      arith,
      c.self.invariant.4.for_list (omega (arith, c.requires.spare, ap (λ (b : BookData). b.spare) c.self.view_is)) due,
      c.self.inside.lists.ok,
    )

pub invariant_of-self : goal.invariant_of-self
invariant_of-self c =
    let h = c.self.invariant.0 in
    let told = ap (λ (b : BookData). b.history) c.self.view_is in
    let kept = c.self.invariant.5 in
    let stages = ap (λ (b : BookData). b.staged) c.self.view_is in
    let due : is_due_after c.self.inside.group c.self.inside.lists.items c.self.inside.torn (length c.self.inside.rows.items) ≡ true =
    sym (due-book _ _ _ h c.args.self.now told _ _ _ _ kept stages _ _ (sym (ap (λ (b : BookData). b.group) c.self.view_is))
    (sym (ap (λ (b : BookData). b.lists) c.self.view_is)) (sym (ap (λ (b : BookData). b.torn) c.self.view_is))) ∙ c.requires.due in
    let ends : book_end c.args.self.now ≡ c.self.inside.end =
    end-book _ _ _ h c.args.self.now told _ _ (sym (ap (λ (b : BookData). b.begin) c.self.view_is))
    (sym (ap (λ (b : BookData). b.lists) c.self.view_is)) (sym (ap (λ (b : BookData). b.torn) c.self.view_is))
    ∙ sym c.self.invariant.4.ends in
    let i = c.self.inside in
    let l : NotedList = record { at = c.args.at; len = c.args.len } in
    let space = vec_capacity c.push_reserved.new.self in
    let count : c.len-self-inside.result ≡ length i.rows.items = omega (arith, c.len-self-inside.ensures, i.rows.ok) in
    let limits = ap (λ (b : BookData). b.limits.file) c.self.view_is in (
      h,
      IsCounted-later _ _ _ _ _ _ _ (omega arith) (omega (arith, c.requires.fits, ends, limits, i.limits.file_bound))
          c.self.invariant.1,
      c.self.invariant.2,
      c.self.invariant.3,
      subst (λ (n : ℕ). KeepsLists i.begin (i.end + c.args.len) i.spare i.group c.push_reserved.new.self.items i.torn n space i.rows.items)
          (sym count)
          (subst (λ (ls : List NotedList). KeepsLists i.begin (i.end + c.args.len) i.spare i.group ls i.torn (length i.rows.items) space
          i.rows.items) (sym c.push_reserved.ensures.items)
          (KeepsLists-noted _ _ _ _ _ _ _ _ _ c.self.invariant.4 due l space)),
      c.self.invariant.5,
      c.self.invariant.6,
    )
