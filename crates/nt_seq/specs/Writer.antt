-- A sequential writer, as its users see it.
use Rattle.std.specs.Prelude.{ℕ, ◌≡◌, ◌+◌, ◌<◌, Bool, true, List, [], ◌∷◌, ◌++◌, length}
use Rattle.nt_types.specs.TreeData.{TreeData, TreesData, trees_of}
use Rattle.nt_event.specs.Standing.{SpellsTrees}
use Rattle.nt_column.specs.Column.{Column}
use Rattle.nt_grammar.specs.Table.{Table}
use Rattle.nt_book.specs.declared.params.Params.{Params}
use Rattle.nt_book.specs.Books.{BookData}
use Rattle.nt_trees.specs.Fits.{fits_entry}
use Rattle.nt_fill.specs.Context.{entries_given}

-- a writer: the disk as it was given, and as it is, its book, the schema with which its file was begun, and as it is now, the parameters,
-- its columns with so many entries in them, and whether it is alive
pub record SeqState (D : Type 0) : Type 0 where
  pub given : D
  pub disk : D
  pub book : BookData
  pub begun : Table
  pub table : Table
  pub params : Params
  pub columns : List Column
  pub entries : ℕ
  pub alive : Bool

module _ {D : Type 0} where
  -- the entries that it has gathered
  abbrev pub gathered_by : SeqState D → List TreesData
  gathered_by w = entries_given w.table w.columns w.entries

  -- it is alive, and has gathered nothing
  pub record IsClear (w : SeqState D) : Type 0 where
    pub alive : w.alive ≡ true
    pub none : gathered_by w ≡ []

  -- it is alive, and what it has gathered isn't a whole cluster
  pub record HasEntryRoom (w : SeqState D) : Type 0 where
    pub alive : w.alive ≡ true
    pub room : length (gathered_by w) < w.params.cluster

  -- one entry more is gathered, and nothing else changed
  pub record GathersEntry (entry : TreesData) (old new : SeqState D) : Type 0 where
    pub entries : gathered_by new ≡ gathered_by old ++ entry ∷ []
    pub now : new ≡ record old { columns = new.columns; entries = old.entries + 1 }

  -- a line spells an entry for the open fields, which is gathered
  pub record GathersEntryOf (line : List ℕ) (old new : SeqState D) : Type 0 where
    pub found : List TreeData
    pub spells : SpellsTrees found line
    pub fits : fits_entry old.table (trees_of found) ≡ true
    pub gathers : GathersEntry (trees_of found) old new
