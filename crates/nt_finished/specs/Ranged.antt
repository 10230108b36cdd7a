-- Books of a schema whose ranges stand in a file, whatever is in them.
use Rattle.std.specs.Prelude.{ℕ, ◌≡◌, Bool, List, map, length}
use Rattle.nt_grammar.specs.Table.{Table}
use Rattle.nt_grammar.specs.declared.rows.ColumnRow.{ColumnRow}
use Rattle.nt_machine.specs.History.{Cluster, ranges_of}
use Rattle.nt_book.specs.declared.meta.ClusterMeta.{ClusterMeta}
use Rattle.nt_book.specs.Books.{BookData}
use Rattle.nt_book.specs.Kept.{IsBookKept}
use Rattle.nt_lists.specs.Parts.{AreBehind}
use Rattle.nt_layout.specs.Headers.{clusters_place}
use Rattle.nt_layout.specs.Finished.{middle}

-- the book of a schema's file begins behind the header, has the schema's columns, and says how long these ranges are, and where they
-- and the page lists stand, in order and without a gap
pub record IsRangedBook (staged : Bool) (t : Table) (most : ℕ) (book : BookData) (ranges : List (List ℕ)) : Type 0 where
  pub kept : IsBookKept book
  pub begin : book.begin ≡ clusters_place t
  pub firsts : map (λ (c : ColumnRow). c.first) t.columns ≡ book.firsts
  pub lens : map length ranges ≡ map (λ (c : Cluster ClusterMeta). c.len) (ranges_of book.history)
  pub behind : AreBehind (clusters_place t) (middle staged t book most ranges)
