-- Parameters that stage no clusters: page lists stand beside these then.
use Rattle.std.proofs.Common.{◌≡◌, ◌∙◌, ap, sym, subst, ℕ, Bool, false, List, ◌++◌, Some, None, refl}
use Rattle.std.specs.List.{concat}
use Rattle.nt_grammar.specs.Table.{Table}
use Rattle.nt_lists.specs.Parts.{part_bytes}
use Rattle.nt_book.specs.declared.params.Params.{Params}
use Rattle.nt_book.specs.Books.{BookData}
use Rattle.nt_layout.specs.Arranged.{group_for, HasLists}
use Rattle.nt_layout.specs.Beside.{HasListsBeside, parts_so_far}
use Rattle.nt_layout.specs.Finished.{list_places, file_len}
use Rattle.nt_layout.specs.Headers.{header_sum, file_begun}
use Rattle.nt_close.specs.Filled.{AreListsNoted, filled_file}
use Rattle.nt_close.specs.Passing.{first_passed, blobs_left, passed_by_close}

module _ (t : Table) (p : Params) (book : BookData) where
  -- so say they of a book that isn't staged
  pub params-flat : AreListsNoted t p book → book.staged ≡ false → p.staged ≡ false
  params-flat noted none = sym noted.staged ∙ none

  pub group-flat : AreListsNoted t p book → p.staged ≡ false → book.group ≡ Some (p.group, header_sum t)
  group-flat noted flat = noted.group ∙ ap (λ (b : Bool). group_for b p.group (header_sum t)) flat

  -- a book of which no page list failed
  pub listed-flat : AreListsNoted t p book → book.staged ≡ false → book.torn ≡ None → HasListsBeside t p.group book
  listed-flat noted none untorn =
      record { group = group-flat noted (params-flat noted none); untorn = untorn; noted = λ k less. (noted.noted k less).len }

  pub lists-flat : p.staged ≡ false → HasListsBeside t p.group book → HasLists p.staged t p.group book
  lists-flat flat beside = subst (λ (b : Bool). HasLists b t p.group book) (sym flat) beside

  -- what stands of its file, once all its clusters do
  pub filled-flat : (ranges : List (List ℕ)) → p.staged ≡ false
      → filled_file p.staged t book p.group ranges ≡ file_begun t ++ concat (part_bytes (parts_so_far t book p.group ranges))
  filled-flat ranges flat = ap (λ (b : Bool). filled_file b t book p.group ranges) flat

  -- the first limit that it passes where it is closed
  pub passed-flat : p.staged ≡ false
      → passed_by_close p t book
      ≡ first_passed p.limits (blobs_left false t book p.group) (file_len t book (list_places false t book p.group))
  passed-flat flat =
      ap (λ (b : Bool). first_passed p.limits (blobs_left b t book p.group) (file_len t book (list_places b t book p.group))) flat
