-- A sink that writes what is put as the clusters of a file.
use Rattle.std.specs.Prelude.{◌≡◌, ◌<◌, ◌≤◌, true, List, [], length, Option, Some, None}
use Rattle.nt_types.specs.declared.shape.Members.{Members}
use Rattle.nt_types.specs.Views.{members_view}
use Rattle.nt_types.specs.TreeData.{TreesData}
use Rattle.nt_outside.specs.Disk.{DiskState}
use Rattle.nt_commit.specs.declared.error.CommitError.{CommitError}
use Rattle.nt_commit.specs.declared.error.CommitError.TheVariants as commit
use Rattle.nt_seq.specs.Writer.{SeqState, gathered_by}
use Rattle.nt_script.specs.Taking.{HasTakenLines, HasJustFields, HaltsAt, MakesWhole}
use Rattle.nt_script.specs.Running.{error_of_commit}
use Rattle.nt_skim.specs.Skimming.{SinkState}
use Rattle.nt_skim_file.specs.declared.birth.SinkBirth.{SinkBirth}

-- a sink: its writer, the fields of its entries, and the answer of a put that it refused
pub record FileSinkState (D : Type 0) : Type 0 where
  pub writer : SeqState D
  pub fields : Members
  pub refused : Option CommitError

module _ {D : Type 0} (state : D → DiskState) where
  -- these entries were put: whole clusters of them are written, and the rest is gathered; where one more was refused, its answer says why
  abbrev pub TookEntries : List TreesData → SeqState D → Option CommitError → Type 0
  TookEntries es w None = HasTakenLines state [] es w
  TookEntries es w (Some e) = HaltsAt state (MakesWhole w.params) w.table w.params [] es w (error_of_commit e)

  -- the writer has just the fields of the sink, and no more than one cluster is gathered; it is alive until a put is refused; where that
  -- was for a fault, the disk has failed
  pub record IsFileSink (s : FileSinkState D) : Type 0 where
    pub just : HasJustFields (members_view s.fields) s.writer.table
    pub few : length (gathered_by s.writer) ≤ s.writer.params.cluster
    pub alive : s.refused ≡ None → s.writer.alive ≡ true
    pub failed : s.refused ≡ Some commit.Fault → 0 < (state s.writer.disk).faults

  -- what no put changes
  abbrev pub sink_birth : FileSinkState D → SinkBirth D
  sink_birth s = record { given = s.writer.given; schema = s.writer.table; params = s.writer.params }

  -- the same as a sink of any kind
  abbrev pub sink_of : FileSinkState D → SinkState CommitError (SinkBirth D)
  sink_of s = record {
    fields = members_view s.fields;
    entries = λ es. TookEntries es s.writer s.refused;
    refused = s.refused;
    birth = sink_birth s;
  }
