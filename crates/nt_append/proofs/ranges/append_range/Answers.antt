use Rattle.std.proofs.Common.{◌≡◌, ◌∙◌, ap, sym, subst}
use Rattle.nt_book.specs.declared.meta.ClusterMeta.{ClusterMeta}
use Rattle.nt_book.specs.Appending.{IsAppendable}
use Rattle.nt_book.specs.Books.{book_end}
use Rattle.nt_pages.specs.declared.image.ClusterImage.{ClusterImage}
use Rattle.nt_append.specs.Appending.{keyed, GainsCluster}
use Rattle.nt_append.proofs.RangeAppended.{appendable, range-sum, range-spare, range-appended, range-failed}
use Rattle.nt_append.proofs.ranges.append_range.Goals as goal

pub append-requires-clause-sum : goal.append-requires-clause-sum
append-requires-clause-sum g c =
    let bytes : c.as_slice.result.now ≡ keyed c.args.image.now.bytes (book_end c.args.book.now) =
    c.as_slice.ensures ∙ (ap (λ (x : ClusterImage). x.bytes) c.write_key.ensures ∙ ap (keyed c.args.image.now.bytes) c.end.ensures) in
    range-sum (g.D.Disk.state c.args.disk.now) c.args.book.now c.args.image.now c.requires c.as_slice.result.now bytes

pub append-requires-clause-spare : goal.append-requires-clause-spare
append-requires-clause-spare g c =
    let bytes : c.as_slice.result.now ≡ keyed c.args.image.now.bytes (book_end c.args.book.now) =
    c.as_slice.ensures ∙ (ap (λ (x : ClusterImage). x.bytes) c.write_key.ensures ∙ ap (keyed c.args.image.now.bytes) c.end.ensures) in
    range-spare (g.D.Disk.state c.args.disk.now) c.args.book.now c.args.image.now c.requires c.as_slice.result.now bytes

pub enter-requires : goal.enter-requires
enter-requires g c =
    subst (IsAppendable c.args.book.now) (ap (λ (x : ClusterImage). x.meta) (sym c.write_key.ensures))
    (appendable (g.D.Disk.state c.args.disk.now) c.args.book.now c.args.image.now c.requires)

pub returns-in-Ok-clause-ok : goal.returns-in-Ok-clause-ok
returns-in-Ok-clause-ok g c =
    let bytes : c.as_slice.result.now ≡ keyed c.args.image.now.bytes (book_end c.args.book.now) =
    c.as_slice.ensures ∙ (ap (λ (x : ClusterImage). x.bytes) c.write_key.ensures ∙ ap (keyed c.args.image.now.bytes) c.end.ensures) in
    let told = c.in-Ok.ensures in
    range-appended (g.D.Disk.state c.args.disk.now) c.args.book.now c.args.image.now c.requires c.as_slice.result.now bytes
    (g.D.Disk.state c.append.new.self) c.enter.new.book told.ok told.end_ok told.out told.cause.later
    (subst (λ (m : ClusterMeta). GainsCluster m c.args.book.now c.enter.new.book)
    (ap (λ (x : ClusterImage). x.meta) c.write_key.ensures) c.enter.ensures)

pub returns-in-Err-clause-err : goal.returns-in-Err-clause-err
returns-in-Err-clause-err g c =
    let bytes : c.as_slice.result.now ≡ keyed c.args.image.now.bytes (book_end c.args.book.now) =
    c.as_slice.ensures ∙ (ap (λ (x : ClusterImage). x.bytes) c.write_key.ensures ∙ ap (keyed c.args.image.now.bytes) c.end.ensures) in
    let told = c.in-Err.ensures in
    range-failed (g.D.Disk.state c.args.disk.now) c.args.book.now c.args.image.now c.requires c.as_slice.result.now bytes
    (g.D.Disk.state c.append.new.self) c.fault.new.self _ c.faults.result _
    (ap (λ (x : ClusterImage). x.meta.context) c.write_key.ensures) c.faults.ensures c.fault.ensures.book told.err told.cause.failed
    told.out
