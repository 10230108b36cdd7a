-- What a writer does with an entry that is put.
use Rattle.std.specs.Prelude.{◌≡◌, ◌<◌, ◌≤◌, true, List, [], ◌∷◌, ◌++◌, length, Result, Ok, Err, OnOk, IsErrOf}
use Rattle.nt_types.specs.TreeData.{TreesData}
use Rattle.nt_outside.specs.Disk.{DiskState}
use Rattle.nt_commit.specs.declared.error.CommitError.{CommitError}
use Rattle.nt_commit.specs.declared.error.CommitError.TheVariants as commit
use Rattle.nt_seq.specs.Writer.{SeqState, gathered_by}
use Rattle.nt_script.specs.Taking.{HasTakenLines, HaltsAt, MakesWhole}
use Rattle.nt_script.specs.Running.{error_of_commit}

-- a writer that can take entries: it is alive, and no more than one cluster is gathered
pub record IsTaking {D : Type 0} (w : SeqState D) : Type 0 where
  pub alive : w.alive ≡ true
  pub few : length (gathered_by w) ≤ w.params.cluster

-- the disk as it was given, the schema and the parameters are as before, and no more than one cluster is gathered; the writer is alive
-- after Ok, and a fault comes only where the disk has failed
pub record StaysWriter {D : Type 0} (state : D → DiskState) (old new : SeqState D) (result : Result Unit CommitError) : Type 0 where
  pub given : new.given ≡ old.given
  pub table : new.table ≡ old.table
  pub params : new.params ≡ old.params
  pub few : length (gathered_by new) ≤ new.params.cluster
  pub alive : OnOk result (new.alive ≡ true)
  pub failed : IsErrOf result commit.Fault → 0 < (state new.disk).faults

module _ {D : Type 0} (state : D → DiskState) where
  -- of a writer that has taken these entries: there is room for one more, or why not
  abbrev pub MakesEntryRoom : List TreesData → SeqState D → SeqState D → Result Unit CommitError → Type 0
  MakesEntryRoom es old new (Ok done) = HasTakenLines state [] es new
  MakesEntryRoom es old new (Err e) = HaltsAt state (MakesWhole old.params) old.table old.params [] es new (error_of_commit e)

  -- one entry more was taken, or why not
  abbrev pub TakesPut : List TreesData → TreesData → SeqState D → SeqState D → Result Unit CommitError → Type 0
  TakesPut es entry old new (Ok done) = HasTakenLines state [] (es ++ entry ∷ []) new
  TakesPut es entry old new (Err e) = HaltsAt state (MakesWhole old.params) old.table old.params [] es new (error_of_commit e)
