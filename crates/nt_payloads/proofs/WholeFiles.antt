-- A file is read as a schema and entries exactly where it is the file of an ntuple that has them.
use Rattle.std.proofs.Common.{ℕ, ◌<◌, ◌^◌, List, length, inl, inr, arith}
use Rattle.std.specs.Prelude.{All}
use Rattle.std.proofs.lemmas.Bool.{cases_lt}
use Rattle.std.proofs.lemmas.List.{get_or_past}
use Rattle.nt_types.specs.TreeData.{TreesData}
use Rattle.nt_format.specs.Reading.{IsBytes}
use Rattle.nt_format.specs.Relations.{Agrees}
use Rattle.nt_format.proofs.Relations.{in_words}
use Rattle.nt_grammar.specs.Table.{Table}
use Rattle.nt_file_meaning.specs.Files.{read_file, Means}
use Rattle.nt_file_meaning.specs.Holds.{HoldsFile}
use Rattle.nt_file_meaning.proofs.FilesBack.{file_held}
use Rattle.nt_payloads.specs.Files.{IsNtupleFile, IsReadAsItIs}
use Rattle.nt_payloads.proofs.Outlines.{outline_to, outline_from, outline}

-- numbers that are all bytes
pub all_bytes : (file : List ℕ) → All (λ (b : ℕ). b < 2 ^ 8) file → IsBytes file
all_bytes file all i =
    elim (cases_lt i (length file)) [
      | inl within ↦ all i 0 within
      | inr past ↦ rw (get_or_past file i 0 past) (omega arith)
    ]

held_to : (file : List ℕ) (read : Table × List (List TreesData)) → IsBytes file → HoldsFile file read → IsNtupleFile file read
held_to file read bytes h = record {
  outline = h.outline;
  outlined = outline_to file h.outline bytes h.has;
  schema = h.schema;
  clusters = h.clusters;
}

held_from : (file : List ℕ) (read : Table × List (List TreesData)) → IsBytes file → IsNtupleFile file read → HoldsFile file read
held_from file read bytes h = record {
  outline = h.outline;
  has = outline_from file h.outline bytes h.outlined;
  schema = h.schema;
  clusters = h.clusters;
}

whole : (file : List ℕ) → IsBytes file → Agrees (read_file file) (IsNtupleFile file)
whole file bytes = in_words (λ read h. held_to file read bytes h) (λ read h. held_from file read bytes h) (file_held file bytes)

pub as_it_is : (file : List ℕ) → All (λ (b : ℕ). b < 2 ^ 8) file → IsReadAsItIs file
as_it_is file all = let bytes = all_bytes file all in record { whole = whole file bytes; outline = outline file bytes }

pub meant : (file : List ℕ) (t : Table) (clusters : List (List TreesData)) → All (λ (b : ℕ). b < 2 ^ 8) file
    → (Means file t clusters → IsNtupleFile file (t, clusters)) × (IsNtupleFile file (t, clusters) → Means file t clusters)
meant file t clusters all = let is = whole file (all_bytes file all) in (is.finds (t, clusters), is.reads (t, clusters))
