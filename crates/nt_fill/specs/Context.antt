-- A context that gathers entries, as its users see it.
use Rattle.std.specs.Prelude.{ℕ, ◌≡◌, ◌+◌, ◌≤◌, Bool, true, List, [], ◌∷◌, ◌++◌, map, length, Option, IsSome}
use Rattle.std.specs.List.{range_with_len}
use Rattle.nt_types.specs.ShapeData.{MemberData}
use Rattle.nt_types.specs.TreeData.{TreeData, TreesData, trees_of}
use Rattle.nt_types.specs.Rules.{AreFields}
use Rattle.nt_grammar.specs.Table.{Table}
use Rattle.nt_types.specs.ColumnTable.{code_of}
use Rattle.nt_types.specs.declared.column_type.ColumnType.{ColumnType}
use Rattle.nt_grammar.specs.declared.rows.ColumnRow.{ColumnRow}
use Rattle.nt_grammar.specs.Rows.{Rows}
use Rattle.nt_turn.specs.Pass.{TurnState, PassState}
use Rattle.nt_machine.specs.declared.entry.Entry.{Entry}
use Rattle.nt_book.specs.declared.meta.ClusterMeta.{ClusterMeta}
use Rattle.nt_book.specs.Ranges.{IsFromTo, max_cluster, max_page}
use Rattle.nt_column.specs.Column.{Column, elements_at}
use Rattle.nt_plans.specs.Place.{open_plans}
use Rattle.nt_plans.specs.Types.{are_some}
use Rattle.nt_trees.specs.Fits.{fits_entry}
use Rattle.nt_trees.specs.TreeAt.{each_at}
use Rattle.nt_event.specs.Standing.{SpellsTrees}
use Rattle.nt_commit.specs.declared.locked.Birth.{Birth}
use Rattle.nt_commit.specs.Holds.{IsPassOf, HasNoneOut}
use Rattle.nt_layout.specs.Laid.{Gives}
use Rattle.nt_fill.specs.Passes.{AreAllFilled, IsUnpublished}

-- a context: its committer and schema, the most entries of a cluster and elements of a page, whether its clusters are staged, its pass,
-- its pen while it is alive, and its columns with so many entries in them
pub record FillState (E B P : Type 0) : Type 0 where
  pub committer : TurnState B
  pub table : Table
  pub cluster : ℕ
  pub page : ℕ
  pub staged : Bool
  pub pass : PassState E B
  pub pen : Option P
  pub columns : List Column
  pub entries : ℕ

-- the rows of fields that keep the rules of a schema text, with so many columns
pub record IsTableFor (columns : ℕ) (t : Table) : Type 0 where
  pub fields : List MemberData
  pub plain : Bool
  pub rules : AreFields fields
  pub rows : Rows fields plain t
  pub count : length t.columns ≡ columns

-- the type of a column is one of the table
abbrev pub HasKnownType : ColumnRow → Type 0
HasKnownType r = (t : ColumnType) × (code_of t ≡ r.code)

-- so many entries, as columns have them
abbrev pub entries_given : Table → List Column → ℕ → List TreesData
entries_given t columns n = map (each_at (open_plans t) (elements_at columns)) (range_with_len 0 n)

module _ {E B P : Type 0} where
  -- the entries that it has gathered
  abbrev pub gathered : FillState E B P → List TreesData
  gathered c = entries_given c.table c.columns c.entries

  -- one entry more is gathered, and nothing else changed
  pub record Gathers (entry : TreesData) (old new : FillState E B P) : Type 0 where
    pub entries : gathered new ≡ gathered old ++ entry ∷ []
    pub now : new ≡ record old { columns = new.columns; entries = old.entries + 1 }

  -- a line spells an entry for the open fields, which is gathered
  pub record GathersLine (line : List ℕ) (old new : FillState E B P) : Type 0 where
    pub found : List TreeData
    pub spells : SpellsTrees found line
    pub fits : fits_entry old.table (trees_of found) ≡ true
    pub gathers : Gathers (trees_of found) old new

-- a pass of a committer whose clusters are staged or not, which has no entry yet
pub record IsFreshPass {D : Type 0} (staged : Bool) (committer : TurnState (Birth D)) (pass : PassState (Entry ClusterMeta) (Birth D))
    : Type 0 where
  pub of : IsPassOf committer pass
  pub unused : pass.own ≡ []
  pub staged_is : committer.birth.staged ≡ staged

-- the pass is of the committer, and no range of it is out, and none spoiled while the context is alive; the columns give the entries, at
-- most so many as a cluster has
pub record IsGathering {D P : Type 0} (c : FillState (Entry ClusterMeta) (Birth D) P) : Type 0 where
  pub of : IsPassOf c.committer c.pass
  pub staged_is : c.committer.birth.staged ≡ c.staged
  pub none_out : HasNoneOut c.pass.own
  pub filled : AreAllFilled c.pass c.pen
  pub count : length c.table.columns ≡ c.committer.birth.columns
  pub some : are_some (open_plans c.table) ≡ true
  pub gives : Gives c.table c.columns (gathered c)
  pub few : c.entries ≤ c.cluster
  pub cluster : IsFromTo 1 max_cluster c.cluster
  pub page : IsFromTo 1 max_page c.page

-- a context may gather and write: it is alive, and hasn't published
pub record MayGather {D P : Type 0} (c : FillState (Entry ClusterMeta) (Birth D) P) : Type 0 where
  pub alive : IsSome c.pen
  pub unpublished : IsUnpublished c.staged c.pass
