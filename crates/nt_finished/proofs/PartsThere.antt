-- The parts of a finished file stand in it, each at its place.
use Rattle.std.proofs.Common.{◌≡◌, ℕ, ◌+◌, List, ◌++◌, length, subst, arith}
use Rattle.std.specs.List.{concat, AllByRecursion}
use Rattle.nt_lists.specs.Parts.{Part, AreBehind, part_bytes}
use Rattle.nt_container.specs.Lengths.{begun_len}
use Rattle.nt_grammar.specs.Table.{Table}
use Rattle.nt_book.specs.Books.{BookData}
use Rattle.nt_layout.specs.Headers.{header_object, header_blob, clusters_place}
use Rattle.nt_layout.specs.Groups.{PlacedList}
use Rattle.nt_layout.specs.Finished.{footer_place, footer_blob, anchor_of_file, blobs, finished_with}
use Rattle.nt_finished.proofs.Standing.{StandsThere, front_stands, back_stands, stand_parts, middle_stands, length-blob}
use Rattle.nt_finished.proofs.Lengths.{blobs-are}

-- what stands between the container's parts, each at its place
pub record AreStanding (t : Table) (book : BookData) (ls : List PlacedList) (parts : List Part) (file : List ℕ) : Type 0 where
  pub header : StandsThere file begun_len (header_blob t)
  pub parts_are : AllByRecursion (λ (p : Part). StandsThere file p.place p.bytes) parts
  pub footer : StandsThere file (footer_place t book ls) (footer_blob t book ls)

pub parts_stand : (t : Table) (book : BookData) (ls : List PlacedList) (parts : List Part)
    → clusters_place t + length (concat (part_bytes parts)) ≡ footer_place t book ls → AreBehind (clusters_place t) parts
    → AreStanding t book ls parts (finished_with t book ls parts)
parts_stand t book ls parts ends behind =
    let file : List ℕ = finished_with t book ls parts in
    let middle : List ℕ = concat (part_bytes parts) in
    let footer : List ℕ = footer_blob t book ls in
    let whole : StandsThere file begun_len (header_blob t ++ (middle ++ footer)) =
    subst (λ (l : List ℕ). StandsThere file begun_len l) (blobs-are t book ls parts)
    (middle_stands (anchor_of_file t book ls) (blobs t book ls parts)) in
    let begins : begun_len + length (header_blob t) ≡ clusters_place t = omega (arith, length-blob begun_len (header_object t)) in
    let last = back_stands file (header_blob t) (middle ++ footer) begun_len (clusters_place t) begins whole in
    record {
      header = front_stands file (header_blob t) (middle ++ footer) begun_len whole;
      parts_are = stand_parts file (clusters_place t) parts behind (front_stands file middle footer (clusters_place t) last);
      footer = back_stands file middle footer (clusters_place t) (footer_place t book ls) ends last;
    }
