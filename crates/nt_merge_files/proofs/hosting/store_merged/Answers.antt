use Rattle.std.proofs.Common.{List, ℕ, map, Bor}
use Rattle.std.proofs.lemmas.Result.{err_from_is_err_and}
use Rattle.nt_merge_files.proofs.Stored.{stored, unwritten, untold}
use Rattle.nt_merge_files.proofs.hosting.store_merged.Goals as goal

abbrev names-of : List (Bor (List ℕ)) → List (List ℕ)
names-of names = map (λ (name : Bor (List ℕ)). name.now) names

pub returns-in_err-counts : goal.returns-in_err-counts
returns-in_err-counts g c =
    let p = err_from_is_err_and c.from_residual.result c.from_residual.ensures.1 in
    rw (p.1, p.2) (unwritten c.args.names.out.now (names-of c.args.names.files.now) c.args.params.now _ _ c.in_err-counts.field-0.0
    c.in_err-counts.ensures)

pub returns-in_err-print_counts : goal.returns-in_err-print_counts
returns-in_err-print_counts g c =
    let p = err_from_is_err_and c.from_residual-in_err-print_counts.result c.from_residual-in_err-print_counts.ensures.1 in
    rw (p.1, p.2) (untold c.args.names.out.now (names-of c.args.names.files.now) c.args.params.now _ _ _ c.in_ok-counts.counts
    c.in_err-print_counts.field-0.0 c.in_ok-counts.ensures c.in_err-print_counts.ensures)

pub returns : goal.returns
returns g c =
    stored c.args.names.out.now (names-of c.args.names.files.now) c.args.params.now _ _ _ c.in_ok-counts.counts c.in_ok-counts.ensures
    c.in_ok-print_counts.ensures
