-- What is stored of the texts that are made.
use Rattle.std.proofs.Common.{subst, ℕ, List}
use Rattle.nt_types.specs.TreeData.{TreesData}
use Rattle.nt_machine.specs.Deal.{Uses, IsDeal}
use Rattle.nt_book.specs.declared.params.Params.{Params}
use Rattle.nt_dealing.specs.Texts.{joined_chunks}
use Rattle.nt_dealing.specs.Limits.{IsOver}
use Rattle.nt_draws.specs.declared.making.Making.{Making}
use Rattle.nt_draws.specs.Events.{event_fields}
use Rattle.nt_store.specs.Whole.{IsStored}
use Rattle.nt_store.specs.Writing.{LimitBy, PassesLimitOf}
use Rattle.nt_generate.specs.Made.{made_texts, IsMade, PassesMade, MadeAreRead}

module _ (p : Params) (m : Making) (read : MadeAreRead m) where
  -- a file that is stored is made
  pub made_stored : (order bytes : List ℕ) → IsStored p event_fields (made_texts m) order bytes → IsMade p m order bytes
  made_stored order bytes stored = record {
    uses = subst (λ (l : List (List (List TreesData))). Uses order l) (read.chunks p.cluster) stored.uses.uses;
    dealt = stored.dealt;
    is_deal = subst (λ (l : List (List (List TreesData))). IsDeal l order stored.dealt) (read.chunks p.cluster) stored.is_deal;
    table = stored.table;
    rows = stored.rows;
    laid = stored.laid;
    short = stored.short;
    means = stored.means;
  }

  -- and a limit that the texts pass is one that the events pass
  pub made_passes : {By : LimitBy} (reached most : ℕ) → PassesLimitOf By event_fields p (made_texts m) reached most
      → PassesMade p m reached most
  made_passes reached most passes = record {
    table = passes.table;
    rows = passes.rows;
    over = subst (λ (l : List (List (List TreesData))). IsOver passes.table p (joined_chunks l) reached most) (read.chunks p.cluster)
        passes.over;
  }
