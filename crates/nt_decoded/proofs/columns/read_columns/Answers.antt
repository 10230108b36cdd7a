use Rattle.std.proofs.Common.{◌≡◌, List, [], ◌++◌, Result, Ok, Err, refl, ◌∙◌, arith}
use Rattle.std.proofs.lemmas.Result.{err_from_is_err_and}
use Rattle.nt_lists.specs.Chaining.{◌>>=◌}
use Rattle.nt_num.specs.declared.fault.ReadError.{ReadError}
use Rattle.nt_encode.specs.Elements.{Element}
use Rattle.nt_file_meaning.specs.Clusters.{columns_from}
use Rattle.nt_listing.proofs.Chains.{fails-as}
use Rattle.nt_decoded.proofs.Changes.{none-read, read-more, held-more, row-there, inside-more}
use Rattle.nt_decoded.proofs.KeptTypes.{types-of_empty}
use Rattle.nt_decoded.proofs.ColumnSteps.{columns-more, columns-fail}
use Rattle.nt_decoded.proofs.columns.read_columns.Goals as goal

behind-none : (r : Result (List (List Element)) ReadError) → r ≡ (r >>= λ others. Ok ([] ++ others))
behind-none (Ok others) = refl
behind-none (Err e) = refl

pub loop-id-init : goal.loop-id-init
loop-id-init g c = record {
  same = refl;
  later = omega arith;
  window = c.requires;
  types = types-of_empty c.args.schema.now.columns _ c.in_ok-columns.ensures;
  done = none-read c.args.schema.now.columns c.in_ok-columns.columns c.in_ok-columns.ensures;
  read = λ told is.
      behind-none (columns_from told c.args.cluster.now.number c.args.cluster.now.list.now c.args.schema.now 0 c.args.schema.now.columns);
}

pub returns-in_err-read_column-clause-read : goal.returns-in_err-read_column-clause-read
returns-in_err-read_column-clause-read g c told is =
    let p = err_from_is_err_and c.from_residual-in_err-read_column.result c.from_residual-in_err-read_column.ensures.1 in
    rw (p.1, p.2)
    (fails-as (λ (l : List (List Element)). l) (λ (l : List (List Element)). l) _ _ _ (c.loop-id.invariant.read told is)
    (columns-fail (λ (l : List Element). l) (λ (l : List
    (List Element)). l) told c.args.cluster.now.number c.args.cluster.now.list.now c.args.schema.now
    c.loop-id.id _ _ _ (omega arith)
    (row-there c.args.schema.now.columns c.loop-id.id (omega arith))
    (c.in_err-read_column.ensures.read _ (row-there c.args.schema.now.columns c.loop-id.id (omega arith)) told (c.loop-id.invariant.same
    ∙ is))))

pub loop-id-preserved : goal.loop-id-preserved
loop-id-preserved g c = record {
  same = c.in_ok-read_column.ensures.file.same ∙ c.loop-id.invariant.same;
  later = omega (arith, c.in_ok-read_column.ensures.file.later, c.loop-id.invariant.later);
  window = c.in_ok-read_column.ensures.window;
  types = c.in_ok-read_column.ensures.others.types ∙ c.loop-id.invariant.types;
  done = read-more c.args.schema.now.columns _ _ c.loop-id.id c.loop-id.invariant.done c.in_ok-read_column.ensures.others.one;
  read = λ told is.
      c.loop-id.invariant.read told is
      ∙ columns-more told c.args.cluster.now.number c.args.cluster.now.list.now c.args.schema.now c.loop-id.id _ _ _ _ (omega arith)
      (row-there c.args.schema.now.columns c.loop-id.id (omega arith))
      (c.in_ok-read_column.ensures.read _ (row-there c.args.schema.now.columns c.loop-id.id (omega arith)) told (c.loop-id.invariant.same
      ∙ is))
      (held-more c.loop-id.columns c.read_column.new.columns c.loop-id.id
      (inside-more c.args.schema.now.columns _ _ c.loop-id.id c.loop-id.invariant.done c.in_ok-read_column.ensures.others.one (omega arith))
      c.in_ok-read_column.ensures.others.one);
}
