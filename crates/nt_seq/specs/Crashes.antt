-- What a crash leaves of a file whose blobs are appended, wherever it cuts the steps off.
use Rattle.std.specs.Prelude.{◌≡◌, ℕ, List}
use Rattle.nt_outside.specs.Held.{Held, nothing_held}
use Rattle.nt_container.specs.Spelling.{begun}
use Rattle.nt_grammar.specs.Table.{Table}
use Rattle.nt_layout.specs.Headers.{header_blob}
use Rattle.nt_close.specs.Steps.{closed_on, IsBegunSoFar, IsClosedSoFar}
use Rattle.nt_cuts.specs.Cuts.{LeavesUnfinished, LeavesUnfinishedOr, LeavesOnly}
use Rattle.nt_seq.specs.Written.{file_so_far, IsUnclosedOf}

-- these bytes are a file of this schema with these blobs behind its header, closed by these parts
abbrev pub IsClosedBy : Table → List (List ℕ) → List ℕ → List ℕ → List ℕ → Type 0
IsClosedBy t blobs tail front bytes = bytes ≡ (closed_on tail front (file_so_far t blobs)).image

-- what a crash leaves of a file whose blobs are appended: what isn't finished; only once its first byte is written over the closed file,
-- and behind all steps just that
pub record AppendsLeave : Type 0 where
  pub beginning : (t : Table) (left : Held) → IsBegunSoFar (begun 0 0 0) (header_blob t) nothing_held left → LeavesUnfinished left.log
  pub unclosed : (t : Table) (h : Held) → IsUnclosedOf t h → LeavesUnfinished h.log
  pub closing : (t : Table) (blobs : List (List ℕ)) (tail front : List ℕ) (left : Held)
      → IsClosedSoFar tail front (file_so_far t blobs) left → LeavesUnfinishedOr (IsClosedBy t blobs tail front) left.log
  pub closed : (t : Table) (blobs : List (List ℕ)) (tail front : List ℕ)
      → LeavesOnly (IsClosedBy t blobs tail front) (closed_on tail front (file_so_far t blobs)).log
