use Rattle.std.proofs.Common.{◌∙◌, ◌++◌, ◌+◌, ℕ, ap, List}
use Rattle.std.specs.Prelude.{drop}
use Rattle.nt_seq.specs.Widening.{first_elements}
use Rattle.nt_seq.proofs.AddedRows.{firsts-next}
use Rattle.nt_seq.proofs.widening.first_elements.Goals as goal

pub loop-k-preserved : goal.loop-k-preserved
loop-k-preserved c =
    let rows = c.args.schema.now.columns in
    ap (λ (l : List ℕ). l ++ first_elements (drop (c.loop-k.k + 1) rows)) c.in_ok-push.ensures.items
    ∙ firsts-next rows c.loop-k.k c.column.result.now c.loop-k.firsts.items _ c.column.ensures c.loop-k.invariant
