-- What a whole file is, with no reading in it: the file of an ntuple that has a schema and entries. Who believes that these relations are
-- the standard's believes what the program says of a file (RNTuple Binary Format Specification 1.0.0.0, and ROOT's TFile around it).
use Rattle.std.specs.Prelude.{ℕ, ◌≡◌, List}
use Rattle.nt_types.specs.TreeData.{TreesData}
use Rattle.nt_format.specs.Relations.{Agrees}
use Rattle.nt_grammar.specs.Table.{Table}
use Rattle.nt_file_meaning.specs.Outlines.{Outline, outline_of}
use Rattle.nt_file_meaning.specs.Files.{read_file}
use Rattle.nt_file_meaning.specs.Holds.{HoldsClusters}
use Rattle.nt_payloads.specs.Outlines.{IsOutlined}

-- a file is that of an ntuple with this schema and the entries of its clusters
pub record IsNtupleFile (file : List ℕ) (read : Table × List (List TreesData)) : Type 0 where
  pub outline : Outline
  -- the anchor that the container embeds leads to the header and the footer, whose text describes the schema, and the footer to the page
  -- lists, whose text lists the clusters (sections Anchor Schema, Header Envelope, Footer Envelope and Page List Envelope)
  pub outlined : IsOutlined file outline
  -- the schema is that (section Schema Description)
  pub schema : read.0 ≡ outline.table
  -- and the pages that are listed give the columns of each cluster, which give the trees of its entries (sections Pages, Column
  -- Description, and Mapping of C++ Types to Fields and Columns)
  pub clusters : HoldsClusters file outline.table outline.clusters read.1

-- what is read of a file is exactly what it is: the schema and the entries, and the outline before them
pub record IsReadAsItIs (file : List ℕ) : Type 0 where
  pub whole : Agrees (read_file file) (IsNtupleFile file)
  pub outline : Agrees (outline_of file) (IsOutlined file)
