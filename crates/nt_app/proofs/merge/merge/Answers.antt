use Rattle.std.proofs.Common.{ℕ, List, subst}
use Rattle.std.specs.Borrow.{Bor}
use Rattle.nt_command_line.specs.Commands.{names_of}
use Rattle.nt_merge_files.specs.Storing.{StoresMerged}
use Rattle.nt_app.proofs.merge.merge.Goals as goal

pub returns : goal.returns
returns g c = record {
  stored = c.store_merged-stored.result;
  answer_is = c.status_of_merge.ensures;
  stores = subst (λ (l : List (Bor (List ℕ))). StoresMerged c.args.words.now.out.now (names_of l) c.args.words.now.params
      (g.H.Host.state c.args.host.now) (g.H.Host.state c.store_merged-stored.new.host) c.store_merged-stored.result)
      c.as_slice.ensures.value c.store_merged-stored.ensures;
}
