use Rattle.std.proofs.Common.{◌≡◌, ℕ, ◌+◌, ◌*◌, ◌/◌, ◌%◌, ◌<◌, ◌∙◌, length, arith}
use Rattle.nt_encode.specs.Pages.{page_size}
use Rattle.nt_pages.proofs.Sizes.{size-full, size-short, full-least, none-is, none-of, sum-is}
use Rattle.nt_pages.proofs.size.column_size.Goals as goal

pub returns-then-count-page-eq0-clause-some : goal.returns-then-count-page-eq0-clause-some
returns-then-count-page-eq0-clause-some c =
    let is : c.in_ok-whole.whole ≡ length c.args.buffer.now.column.elements / c.args.page *
    (page_size c.args.buffer.now.column.kind c.args.page + 8) =
    cc (c.in_ok-whole.ensures.1, c.len.ensures, c.from-page.ensures, c.size_of.ensures, c.kind-kind.ensures) in
    let none : length c.args.buffer.now.column.elements % c.args.page ≡ 0 =
    cc (c.if-count-page-eq0.true, c.len.ensures, c.from-page.ensures) in
    size-full c.args.buffer.now.column.kind (c.pages_have_their_size.ensures c.args.buffer.now.column.kind) c.args.page
    c.args.buffer.now.column.elements _ c.requires.some none is

pub returns-else-count-page-eq0 : goal.returns-else-count-page-eq0
returns-else-count-page-eq0 c =
    let is : c.in_ok-whole.whole + (c.size_of-else-count-page-eq0.result + 8)
    ≡ length c.args.buffer.now.column.elements / c.args.page * (page_size c.args.buffer.now.column.kind c.args.page + 8)
    + (page_size c.args.buffer.now.column.kind (length c.args.buffer.now.column.elements % c.args.page) + 8) =
    cc (
      c.in_ok-whole.ensures.1,
      c.len.ensures,
      c.from-page.ensures,
      c.size_of.ensures,
      c.size_of-else-count-page-eq0.ensures,
      c.kind-kind.ensures,
    ) in
    let same : c.len.result % c.from-page.result ≡ length c.args.buffer.now.column.elements % c.args.page =
    cc (c.len.ensures, c.from-page.ensures) in
    let some : 0 < length c.args.buffer.now.column.elements % c.args.page =
    pos_of (length c.args.buffer.now.column.elements % c.args.page) (λ h. c.if-count-page-eq0.false (same ∙ h)) in
    let all = size-short c.args.buffer.now.column.kind (c.pages_have_their_size.ensures c.args.buffer.now.column.kind) c.args.page
    c.args.buffer.now.column.elements _ c.requires.some some is in
    record {
      some = sum-is c.checked_add.result _ _ _ c.checked_add.ensures all;
      none = none-of c.checked_add.result _ _ c.checked_add.ensures all;
    }
  where
    pos_of : (n : ℕ) → (n ≡ 0 → ⊥) → 0 < n
    pos_of n other = omega arith

pub returns-in_err-whole-clause-none : goal.returns-in_err-whole-clause-none
returns-in_err-whole-clause-none c is =
    let column = c.args.buffer.now.column in
    let same : c.len.result / c.from-page.result * (c.size_of.result + 8)
    ≡ length column.elements / c.args.page * (page_size column.kind c.args.page + 8) =
    cc (c.len.ensures, c.from-page.ensures, c.size_of.ensures, c.kind-kind.ensures) in
    let least = full-least column.kind (c.pages_have_their_size.ensures column.kind) c.args.page column.elements c.requires.some in
    none-is _ _ c.in_err-whole.ensures (rw same least)
