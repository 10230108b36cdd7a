use Rattle.std.proofs.Common.{◌≡◌, ◌∙◌, ap, sym, ℕ, ◌+◌, nat_eq, length, None, arith}
use Rattle.std.specs.Prelude.{Option}
use Rattle.nt_book.specs.Books.{BookData}
use Rattle.nt_book.specs.Listing.{clusters_listed, group_size, is_due_after}
use Rattle.nt_book.proofs.Telling.{due-book}
use Rattle.nt_book.proofs.book.Book.due.Goals as goal

pub returns-in-Some-None : goal.returns-in-Some-None
returns-in-Some-None c =
    let h = c.self.invariant.0 in
    let told = ap (λ (b : BookData). b.history) c.self.view_is in
    let kept = c.self.invariant.5 in
    let stages = ap (λ (b : BookData). b.staged) c.self.view_is in
    let most = c.in-Some-None.most in
    let lists = c.self.inside.lists.items in
    let len : c.len.result ≡ length c.self.inside.rows.items = omega (arith, c.len.ensures, c.self.inside.rows.ok) in
    let counted : c.self.inside.listed ≡ clusters_listed most lists =
    c.self.invariant.4.counted ∙ ap (λ (g : Option (ℕ × ℕ)). clusters_listed (group_size g) lists) c.in-Some-None.is-0 in
    ap (λ (n : ℕ). nat_eq n (c.self.inside.listed + most)) len
    ∙ (ap (λ (k : ℕ). nat_eq (length c.self.inside.rows.items) (k + most)) counted
    ∙ (ap (λ (g : Option (ℕ × ℕ)). is_due_after g lists None (length c.self.inside.rows.items)) (sym c.in-Some-None.is-0)
    ∙ sym (due-book _ _ _ h c.args.self.now told _ _ _ _ kept stages lists None
    (sym (ap (λ (b : BookData). b.group) c.self.view_is)) (sym (ap (λ (b : BookData). b.lists) c.self.view_is))
    (sym (ap (λ (b : BookData). b.torn) c.self.view_is) ∙ c.in-Some-None.is-1))))
