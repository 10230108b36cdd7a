use Rattle.std.proofs.Common.{◌≡◌, ◌∙◌, ap, subst, ℕ, ◌+◌, ◌-◌, ◌*◌, ◌≤◌, min, length, drop, arith}
use Rattle.std.proofs.lemmas.Result.{err_from_is_err_and}
use Rattle.std.specs.Int.{div_ceil}
use Rattle.nt_book.specs.Books.{book_clusters}
use Rattle.nt_pagelists.specs.Objects.{ClusterSpan, list_len}
use Rattle.nt_layout.specs.Finished.{spans}
use Rattle.nt_close.specs.Making.{IsPassedBy, AddsList, spans_left}
use Rattle.nt_close.proofs.ListsLeft.{span_from, next-group, no-group, one-more, next-passed, all-added, all-fit}
use Rattle.nt_close.proofs.lists.put_lists.Goals as goal

pub returns-in_err-put_list-clause-err : goal.returns-in_err-put_list-clause-err
returns-in_err-put_list-clause-err c =
    let most = c.args.params.now.group in
    let n = length (book_clusters c.args.book.now) in
    let from = c.loop-k.k * most in
    let end : c.div_ceil-groups.result ≡ div_ceil n most =
    c.div_ceil-groups.ensures ∙ ap (λ (i : ℕ). div_ceil i most) c.clusters-clusters.ensures in
    let next = next-group most n c.loop-k.k (omega (arith, end, c.loop-k-test.true)) in
    let count : c.min.result ≡ min most (n - from) = c.min.ensures ∙ ap (λ (i : ℕ). min most (i - from)) c.clusters-clusters.ensures in
    let span : record { from = from; count = from + c.min.result - from } ≡ span_from most n from =
    ap (λ (i : ℕ). record { from = from; count = from + i - from }) count in
    let p = err_from_is_err_and c.from_residual.result c.from_residual.ensures.1 in
    rw (p.1, p.2) (next-passed c.args.header_sum c.args.book.now c.args.params.now.limits (spans_left c.args.book.now most)
    c.args.lists.now.bytes.items c.args.lists.now.groups.items c.loop-k.lists.bytes.items c.loop-k.lists.groups.items
    (span_from most n from) (drop c.loop-k.k (spans c.args.book.now most)) (drop (c.loop-k.k + 1) (spans c.args.book.now most)) next
    c.loop-k.invariant c.in_err-put_list.field-0.0
    (subst (λ (s : ClusterSpan). IsPassedBy c.args.params.now.limits (list_len c.args.header_sum c.args.book.now s)
    c.in_err-put_list.field-0.0) span c.in_err-put_list.ensures.err))

pub loop-k-preserved : goal.loop-k-preserved
loop-k-preserved c =
    let most = c.args.params.now.group in
    let n = length (book_clusters c.args.book.now) in
    let from = c.loop-k.k * most in
    let end : c.div_ceil-groups.result ≡ div_ceil n most =
    c.div_ceil-groups.ensures ∙ ap (λ (i : ℕ). div_ceil i most) c.clusters-clusters.ensures in
    let next = next-group most n c.loop-k.k (omega (arith, end, c.loop-k-test.true)) in
    let count : c.min.result ≡ min most (n - from) = c.min.ensures ∙ ap (λ (i : ℕ). min most (i - from)) c.clusters-clusters.ensures in
    let span : record { from = from; count = from + c.min.result - from } ≡ span_from most n from =
    ap (λ (i : ℕ). record { from = from; count = from + i - from }) count in
    one-more c.args.header_sum c.args.book.now c.args.params.now.limits (spans_left c.args.book.now most)
    c.args.lists.now.bytes.items c.args.lists.now.groups.items c.loop-k.lists.bytes.items c.loop-k.lists.groups.items
    (span_from most n from) (drop c.loop-k.k (spans c.args.book.now most)) (drop (c.loop-k.k + 1) (spans c.args.book.now most)) next
    c.loop-k.invariant c.put_list.new.lists.bytes.items c.put_list.new.lists.groups.items
    (subst (λ (s : ClusterSpan). AddsList c.args.header_sum c.args.book.now s c.loop-k.lists.bytes.items
    c.put_list.new.lists.bytes.items c.loop-k.lists.groups.items c.put_list.new.lists.groups.items) span c.in_ok-put_list.ensures.ok)
    (subst (λ (s : ClusterSpan). list_len c.args.header_sum c.args.book.now s ≤ c.args.params.now.limits.range) span
    c.in_ok-put_list.ensures.fits)

pub returns-clause-ok : goal.returns-clause-ok
returns-clause-ok c =
    let most = c.args.params.now.group in
    let n = length (book_clusters c.args.book.now) in
    let end : c.div_ceil-groups.result ≡ div_ceil n most =
    c.div_ceil-groups.ensures ∙ ap (λ (i : ℕ). div_ceil i most) c.clusters-clusters.ensures in
    all-added c.args.header_sum c.args.book.now c.args.params.now.limits (spans_left c.args.book.now most)
    c.args.lists.now.bytes.items c.args.lists.now.groups.items c.loop-k.lists.bytes.items c.loop-k.lists.groups.items
    (drop c.loop-k.k (spans c.args.book.now most)) (no-group most n c.loop-k.k (omega (arith, end, c.loop-k-test.false))) c.loop-k.invariant

pub returns-clause-fit : goal.returns-clause-fit
returns-clause-fit c =
    let most = c.args.params.now.group in
    let n = length (book_clusters c.args.book.now) in
    let end : c.div_ceil-groups.result ≡ div_ceil n most =
    c.div_ceil-groups.ensures ∙ ap (λ (i : ℕ). div_ceil i most) c.clusters-clusters.ensures in
    all-fit c.args.header_sum c.args.book.now c.args.params.now.limits (spans_left c.args.book.now most)
    c.args.lists.now.bytes.items c.args.lists.now.groups.items c.loop-k.lists.bytes.items c.loop-k.lists.groups.items
    (drop c.loop-k.k (spans c.args.book.now most)) (no-group most n c.loop-k.k (omega (arith, end, c.loop-k-test.false))) c.loop-k.invariant
