use Rattle.std.proofs.Common.{◌≡◌, ◌∙◌, Ok, ap, sym, subst, arith, ℕ, List, length}
use Rattle.std.specs.List.{All}
use Rattle.std.proofs.lemmas.Result.{err_from_is_err_and}
use Rattle.std.proofs.lemmas.List.{length-map}
use Rattle.nt_scan.specs.declared.leaf.Leaf.{Leaf}
use Rattle.nt_scan.specs.Leaves.{IsNumberColumn, leaves_of, leaf_columns}
use Rattle.nt_scan.specs.Totals.{IsScanOf}
use Rattle.nt_scan.specs.Scans.{scan_lines}
use Rattle.nt_scan.proofs.Leaves.{columns-numbers, leaves-in}
use Rattle.nt_scan.proofs.Ended.{attach-fails, scan-fails}
use Rattle.nt_scan.proofs.lines.scan_file.Goals as goal

pub returns-in_err-reader-clause-scans : goal.returns-in_err-reader-clause-scans
returns-in_err-reader-clause-scans g c told is =
    let p = err_from_is_err_and c.from_residual.result c.from_residual.ensures.1 in
    rw (p.1, p.2) (attach-fails told c.in_err-reader.field-0.0 (c.in_err-reader.ensures.read told is))

pub scan-requires-after_bounds : goal.scan-requires-after_bounds
scan-requires-after_bounds g c κs within =
    let t = c.in_ok-reader.reader.table in
    let leaves : c.in_ok-leaves.leaves.items ≡ leaves_of t = c.in_ok-leaves.ensures ∙ ap leaves_of c.schema.ensures in
    let columns : c.deref-2.result.now ≡ leaf_columns (leaves_of t) =
    c.deref-2.ensures.value ∙ c.in_ok-columns.ensures ∙ ap leaf_columns (c.deref.ensures.value ∙ leaves) in
    subst (All (λ n. IsNumberColumn t n)) (sym columns) (columns-numbers t (leaves_of t) (leaves-in t))

pub returns-in_err-totals-clause-scans : goal.returns-in_err-totals-clause-scans
returns-in_err-totals-clause-scans g c told is =
    let p = err_from_is_err_and c.from_residual-in_err-totals.result c.from_residual-in_err-totals.ensures.1 in
    let o = c.in_ok-reader.reader in
    let leaves : c.in_ok-leaves.leaves.items ≡ leaves_of o.table = c.in_ok-leaves.ensures ∙ ap leaves_of c.schema.ensures in
    let columns : c.deref-2.result.now ≡ leaf_columns (leaves_of o.table) =
    c.deref-2.ensures.value ∙ c.in_ok-columns.ensures ∙ ap leaf_columns (c.deref.ensures.value ∙ leaves) in
    rw (p.1, p.2)
    (scan-fails told o c.deref-2.result.now c.in_err-totals.field-0.0 (c.in_ok-reader.ensures.read told is) columns
    (c.in_err-totals.ensures.scan told (c.in_ok-reader.ensures.file.same ∙ is)))

pub lines_of-requires-clause-len : goal.lines_of-requires-clause-len
lines_of-requires-clause-len g c =
    rw (c.as_slice.ensures, c.deref-3.ensures.value)
    (c.in_ok-totals.ensures.len ∙ ap length (c.deref-2.ensures.value ∙ c.in_ok-columns.ensures)
    ∙ ap (λ (l : List Leaf). length (leaf_columns l)) c.deref.ensures.value
    ∙ length-map c.in_ok-leaves.leaves.items (λ (l : Leaf). l.column))

pub returns-clause-scans : goal.returns-clause-scans
returns-clause-scans g c told is =
    let o = c.in_ok-reader.reader in
    let leaves : c.in_ok-leaves.leaves.items ≡ leaves_of o.table = c.in_ok-leaves.ensures ∙ ap leaves_of c.schema.ensures in
    let columns : c.deref-2.result.now ≡ leaf_columns (leaves_of o.table) =
    c.deref-2.ensures.value ∙ c.in_ok-columns.ensures ∙ ap leaf_columns (c.deref.ensures.value ∙ leaves) in
    let totals = c.in_ok-totals.totals in
    let lines = rw (c.schema-2.ensures, c.deref-3.ensures.value, c.as_slice.ensures) at c.in_ok-lines_of.ensures in (
      o,
      totals,
      c.in_ok-reader.ensures.read told is,
      subst (λ l. IsScanOf told o l (Ok totals)) columns (c.in_ok-totals.ensures.scan told (c.in_ok-reader.ensures.file.same ∙ is)),
      lines ∙ ap (λ l. scan_lines o.table l totals) leaves,
    )
