use Rattle.std.proofs.Common.{◌≡◌, ◌∙◌, ap, sym, subst, arith, ℕ, false, List, [], length, None, Some}
use Rattle.std.specs.Prelude.{Option, vec_capacity}
use Rattle.nt_book.specs.declared.list.NotedList.{NotedList}
use Rattle.nt_book.specs.declared.list.Tear.{Tear}
use Rattle.nt_book.specs.declared.row.ClusterRow.{ClusterRow}
use Rattle.nt_book.specs.Books.{BookData}
use Rattle.nt_book.specs.Keeping.{KeepsLists, listed_rows}
use Rattle.nt_book.proofs.Telling.{length-clusters-book}
use Rattle.nt_book.proofs.Noted.{KeepsLists-grouped, no-items, none-yet}
use Rattle.nt_book.proofs.book.Book.group_by.Goals as goal

pub invariant_of-self : goal.invariant_of-self
invariant_of-self c =
    let h = c.self.invariant.0 in
    let told = ap (λ (b : BookData). b.history) c.self.view_is in
    let kept = c.self.invariant.5 in
    let stages = ap (λ (b : BookData). b.staged) c.self.view_is in
    let i = c.self.inside in
    let unstaged : i.staged ≡ false = ap (λ (b : BookData). b.staged) c.self.view_is ∙ c.requires.not_staged in
    let rows : i.rows.items ≡ [] =
    no-items i.rows.items
    (omega (
      arith,
      length-clusters-book _ _ _ h c.args.self.now told _ _ _ _ kept stages,
      ap length c.requires.none_yet,
      ap (λ b. length (listed_rows b i.order.items i.rows.items)) unstaged,
    )) in
    let g : ℕ × ℕ = (c.args.group, c.args.header_sum) in
    let listed = subst (λ (rs : List ClusterRow). KeepsLists i.begin i.end i.spare i.group i.lists.items i.torn i.listed
    (vec_capacity i.lists) rs) rows c.self.invariant.4 in
    let none = none-yet _ _ _ _ _ _ _ _ listed in
    let bare = subst (λ (t : Option Tear). KeepsLists i.begin i.end i.spare i.group [] t i.listed (vec_capacity i.lists) []) none.1
    (subst (λ (ls : List NotedList). KeepsLists i.begin i.end i.spare i.group ls i.torn i.listed (vec_capacity i.lists) []) none.0
    listed) in (
      h,
      c.self.invariant.1,
      c.self.invariant.2,
      c.self.invariant.3,
      subst (λ (rs : List ClusterRow). KeepsLists i.begin i.end i.spare (Some g) i.lists.items i.torn 0 (vec_capacity i.lists) rs)
          (sym rows)
          (subst (λ (t : Option Tear). KeepsLists i.begin i.end i.spare (Some g) i.lists.items t 0 (vec_capacity i.lists) []) (sym none.1)
          (subst (λ (ls : List NotedList). KeepsLists i.begin i.end i.spare (Some g) ls None 0 (vec_capacity i.lists) []) (sym none.0)
          (KeepsLists-grouped _ _ _ _ _ _ g bare c.requires.some))),
      record {
        staging = c.self.invariant.5.staging;
        numbers = c.self.invariant.5.numbers;
        lists_all = c.self.invariant.5.lists_all;
        no_groups = λ yes. absurd (cc (sym unstaged ∙ yes));
      },
      c.self.invariant.6,
    )
