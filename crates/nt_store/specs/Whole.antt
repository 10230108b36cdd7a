-- The whole file of texts.
use Rattle.std.specs.Prelude.{ℕ, ◌≤◌, List}
use Rattle.std.specs.List.{AllByRecursion}
use Rattle.nt_types.specs.ShapeData.{MemberData}
use Rattle.nt_types.specs.TreeData.{TreesData}
use Rattle.nt_grammar.specs.Table.{Table}
use Rattle.nt_grammar.specs.Rows.{Rows}
use Rattle.nt_machine.specs.Deal.{UsesFor, IsDeal}
use Rattle.nt_machine.specs.History.{Cluster}
use Rattle.nt_book.specs.declared.meta.ClusterMeta.{ClusterMeta}
use Rattle.nt_book.specs.declared.params.Params.{Params}
use Rattle.nt_book.specs.Books.{book_clusters}
use Rattle.nt_layout.specs.Laid.{IsLaid}
use Rattle.nt_file_meaning.specs.Files.{Means}
use Rattle.nt_close.specs.Passing.{measures_of}
use Rattle.nt_dealing.specs.Texts.{AreSound, chunks_of}

-- a file means the schema of these fields and the chunks of these texts, dealt out in an order of commits, which has those of each text
-- together where clusters are staged, and is laid out for them
pub record IsStored (p : Params) (fields : List MemberData) (texts : List (List ℕ)) (order bytes : List ℕ) : Type 0 where
  pub sound : AreSound fields texts
  pub uses : UsesFor p.staged order (chunks_of p.cluster fields texts)
  pub dealt : List (List TreesData)
  pub is_deal : IsDeal (chunks_of p.cluster fields texts) order dealt
  pub table : Table
  pub rows : Rows fields p.plain table
  pub laid : IsLaid bytes table dealt (measures_of p)
  -- no cluster is longer than a range may get
  pub short : AllByRecursion (λ (c : Cluster ClusterMeta). c.len ≤ p.limits.range) (book_clusters laid.book)
  pub means : Means bytes table dealt
