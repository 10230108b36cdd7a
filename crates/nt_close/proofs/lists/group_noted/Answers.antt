use Rattle.std.proofs.Common.{◌≡◌, ◌∙◌, ap, sym, ℕ, ◌+◌, ◌-◌, ◌*◌, ◌<◌, length, arith}
use Rattle.nt_book.specs.Books.{book_clusters, cluster_at, first_entry, noted_at}
use Rattle.nt_book.specs.declared.list.ListPlace.{ListPlace}
use Rattle.nt_book.specs.declared.meta.ClusterMeta.{ClusterMeta}
use Rattle.nt_layout.specs.Groups.{range_end}
use Rattle.nt_pagelists.specs.declared.group.Group.{Group}
use Rattle.nt_pagelists.proofs.Named.{starts-there}
use Rattle.nt_close.proofs.lists.group_noted.Goals as goal

pub returns : goal.returns
returns c =
    let book = c.args.book.now in
    let most = c.args.most in
    let from = c.args.k * most in
    let last = from + most - 1 in
    let made : ℕ → ℕ → ℕ → Group = λ clusters size place. record {
      first = first_entry book from;
      span = first_entry book (from + most) - first_entry book from;
      clusters = clusters;
      link = record { length = size; at = record { size = size; place = place + 42 } };
    } in
    let less : last < length (book_clusters book) = omega (arith, c.requires.some, c.requires.inside) in
    let starts : c.start.result ≡ (cluster_at book last).start =
    c.start.ensures ∙ starts-there book c.keeps.ensures last c.range_of.result less c.range_of.ensures in
    let len : c.meta.result.now.len ≡ (cluster_at book last).len =
    ap (λ (m : ClusterMeta). m.len) c.meta.ensures.meta ∙ sym (c.keeps.ensures.clusters last less).len in
    let place : c.start.result + c.meta.result.now.len ≡ range_end (cluster_at book last) = omega (arith, starts, len) in
    let count : from + most - from ≡ most = omega arith in
    c.group_of.ensures
    ∙ (ap (λ (n : ℕ). made n c.list.result.size (c.start.result + c.meta.result.now.len)) count
    ∙ (ap (λ (n : ListPlace). made most n.size (c.start.result + c.meta.result.now.len)) c.list.ensures
    ∙ ap (λ (n : ℕ). made most (noted_at book c.args.k).at.size n) place))
