-- Where a writer of many contexts began.
use Rattle.std.specs.Prelude.{◌≡◌}
use Rattle.nt_grammar.specs.Table.{Table}
use Rattle.nt_outside.specs.Disk.{DiskState}
use Rattle.nt_book.specs.declared.params.Params.{Params}
use Rattle.nt_commit.specs.declared.locked.Birth.{Birth}
use Rattle.nt_layout.specs.Headers.{header_sum, clusters_place}
use Rattle.nt_layout.specs.Arranged.{group_for}

-- a file of these parameters and rows was begun there: its ranges begin behind the header, and its clusters are staged where the parameters
-- say so, or else page lists stand beside them, in groups of so many
pub record IsBornFor {D : Type 0} (state : D → DiskState) (birth : Birth D) (t : Table) (p : Params) : Type 0 where
  pub limits : birth.limits ≡ p.limits
  pub end : (state birth.begun).end ≡ clusters_place t
  pub group : birth.group ≡ group_for p.staged p.group (header_sum t)
  pub staged : birth.staged ≡ p.staged
