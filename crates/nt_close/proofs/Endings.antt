-- What closing writes behind a file's clusters, put together.
use Rattle.std.proofs.Common.{◌≡◌, ◌∙◌, ℕ, ◌+◌, ◌<◌, ◌≤◌, Bool, true, false, List, [], ◌∷◌, ◌++◌, map, length, Option}
use Rattle.std.proofs.Common.{Some, None, refl, ap, sym, subst}
use Rattle.std.proofs.Common.{arith, append_assoc}
use Rattle.std.specs.List.{concat, sum_by}
use Rattle.std.proofs.lemmas.List.{length-append}
use Rattle.nt_lists.specs.Parts.{part_bytes}
use Rattle.nt_container.specs.declared.anchor.Anchor.{Anchor}
use Rattle.nt_container.specs.declared.parts.FileFields.{FileFields}
use Rattle.nt_tfile.specs.Places.{ArePlaces}
use Rattle.nt_grammar.specs.Table.{Table}
use Rattle.nt_book.specs.declared.limits.LimitError.TheVariants.{FileTooLarge}
use Rattle.nt_book.specs.declared.list.Tear.{Tear}
use Rattle.nt_book.specs.declared.params.Params.{Params}
use Rattle.nt_book.specs.Books.{BookData, book_end, noted_at}
use Rattle.nt_book.specs.Kept.{IsBookKept}
use Rattle.nt_book.specs.Listing.{torn_bytes}
use Rattle.nt_pagelists.specs.declared.group.Group.{Group}
use Rattle.nt_pagelists.specs.Blobs.{blob, blob_len}
use Rattle.nt_pagelists.specs.Objects.{list_len}
use Rattle.nt_layout.specs.Headers.{header_sum}
use Rattle.nt_layout.specs.Groups.{PlacedList, list_parts, list_groups}
use Rattle.nt_layout.proofs.Middles.{length-list_parts}
use Rattle.nt_layout.specs.Finished.{ending, list_places, list_blobs, groups, footer_object, footer_place, footer_blob, anchor_of_file}
use Rattle.nt_layout.specs.Finished.{anchor_start, file_len}
use Rattle.nt_layout.specs.Arranged.{group_for, lists_after}
use Rattle.nt_layout.specs.Beside.{full_span}
use Rattle.nt_close.specs.Filled.{IsNotedOf, closing_tail}
use Rattle.nt_close.specs.Passing.{blobs_left, passed_by_close}
use Rattle.nt_close.specs.Making.{NonePassed, CanBeListed, CanBeEnded, noted_groups, left_lists, left_lens, footer_with, anchor_to}
use Rattle.nt_close.specs.Making.{AddsFooter}
use Rattle.nt_close.specs.Making.{container_behind, fields_behind, AreBlobsBehind, IsEnding}
use Rattle.nt_close.proofs.Fitting.{blob_length, fit-all, file-fits, file-passed}
use Rattle.nt_close.proofs.Noted.{AreAll, all-lists}

module _ (t : Table) (book : BookData) (p : Params) (some : 0 < p.group) (kept : IsBookKept book) (can : CanBeEnded t p book) where
  -- the most clusters of a group
  abbrev most : ℕ
  most = p.group

  -- all page lists, and those that are left
  abbrev ls : List PlacedList
  ls = list_places p.staged t book most

  abbrev left : List PlacedList
  left = lists_after p.staged t book most

  -- as they are made
  abbrev left_of : ℕ → List PlacedList
  left_of sum = left_lists book.staged sum book most

  pub listing : CanBeListed book most (header_sum t)
  listing = record {
    group = can.noted.group ∙ ap (λ (b : Bool). group_for b most (header_sum t)) (sym can.noted.staged);
    some = some;
    untorn = can.untorn;
  }

  same-left : (b : Bool) → left_lists b (header_sum t) book most ≡ lists_after b t book most
  same-left true = refl
  same-left false = refl

  left-is : left_of (header_sum t) ≡ left
  left-is = ap (λ (b : Bool). left_lists b (header_sum t) book most) can.noted.staged ∙ same-left p.staged

  -- the notes are those of the groups
  notes : (j : ℕ) → j < length book.lists → IsNotedOf (header_sum t) book (full_span most (0 + j)) (noted_at book j)
  notes j less =
      let same : j ≡ 0 + j = omega arith in
      subst (λ (k : ℕ). IsNotedOf (header_sum t) book (full_span most k) (noted_at book j)) same (can.noted.noted j less)

  all_are : AreAll t most book kept listing notes p.staged
  all_are = subst (AreAll t most book kept listing notes) can.noted.staged (all-lists t most book kept listing notes)

  -- the groups of all page lists, those that are noted and those that are left
  groups_of_all : (sum : ℕ) (gs : List Group) → sum ≡ header_sum t
      → gs ≡ noted_groups book most 0 book.lists ++ list_groups sum book (left_of sum) → gs ≡ groups t book ls
  groups_of_all sum gs sum-is are =
      are
      ∙ (ap (λ (k : ℕ). noted_groups book most 0 book.lists ++ list_groups k book (left_of k)) sum-is
      ∙ (ap (λ (b : Bool). noted_groups book most 0 book.lists ++ list_groups (header_sum t) book (left_lists b (header_sum t) book most))
      can.noted.staged ∙ all_are.0))

  -- the footer of all groups
  footer_of_all : (sum : ℕ) (gs : List Group) → sum ≡ header_sum t
      → gs ≡ noted_groups book most 0 book.lists ++ list_groups sum book (left_of sum)
      → footer_with t gs ≡ footer_object t book ls
  unfolding footer_object footer_with
  footer_of_all sum gs sum-is are = ap (footer_with t) (groups_of_all sum gs sum-is are)

  lists_of_all : (sum : ℕ) (old : List ℕ) → sum ≡ header_sum t
      → old ≡ concat (part_bytes (list_parts sum book (left_of sum))) → old ≡ concat (list_blobs t book left)
  lists_of_all sum old sum-is are =
      are
      ∙ (ap (λ (k : ℕ). concat (part_bytes (list_parts k book (left_of k)))) sum-is
      ∙ ap (λ (l : List PlacedList). concat (list_blobs t book l)) left-is)

  place_of_footer : (start : ℕ) (old : List ℕ) → start ≡ book_end book → old ≡ concat (list_blobs t book left)
      → start + length old ≡ footer_place t book ls
  unfolding footer_place
  place_of_footer start old start-is are =
      omega (
        arith,
        start-is,
        ap length are,
        length-list_parts (header_sum t) book left,
        all_are.1,
        ap (sum_by (λ (l : PlacedList). list_len (header_sum t) book l.span)) (same-left p.staged),
        ap (λ (o : Option Tear). torn_bytes o) can.untorn,
      )

  -- behind the page lists that are left
  pub footer-behind : (sum start : ℕ) (gs : List Group) (old new : List ℕ) (a : Anchor) → sum ≡ header_sum t → start ≡ book_end book
      → gs ≡ noted_groups book most 0 book.lists ++ list_groups sum book (left_of sum)
      → old ≡ concat (part_bytes (list_parts sum book (left_of sum)))
      → AddsFooter t start gs old new a → AreBlobsBehind p.staged t book most new a
  footer-behind sum start gs old new a sum-is start-is gs-are old-is adds =
      let lists = lists_of_all sum old sum-is old-is in
      let place = place_of_footer start old start-is lists in
      let object = footer_of_all sum gs sum-is gs-are in
      record {
        bytes_are = adds.bytes_are
            ∙ (ap (λ (l : List ℕ). l ++ blob (start + length old) (footer_with t gs)) lists
            ∙ (ap (λ (k : ℕ). concat (list_blobs t book left) ++ blob k (footer_with t gs)) place
            ∙ ap (λ (l : List ℕ). concat (list_blobs t book left) ++ blob (footer_place t book ls) l) object));
        anchor_is = adds.anchor_is
            ∙ (ap (λ (k : ℕ). anchor_to t k (footer_with t gs)) place ∙ ap (anchor_to t (footer_place t book ls)) object);
      }

  -- the lengths of the page lists' blobs
  pub left_lens_are : (sum : ℕ) → sum ≡ header_sum t
      → left_lens sum book most ≡ map (λ (l : PlacedList). list_len (header_sum t) book l.span) left
  left_lens_are sum sum-is =
      ap (λ (k : ℕ). left_lens k book most) sum-is
      ∙ ap (λ (l : List PlacedList). map (λ (k : PlacedList). list_len (header_sum t) book k.span) l) left-is

  -- the lengths of the blobs, with the footer's last
  pub footer_len_is : (sum : ℕ) (gs : List Group) → sum ≡ header_sum t
      → gs ≡ noted_groups book most 0 book.lists ++ list_groups sum book (left_of sum)
      → left_lens sum book most ++ blob_len (length (footer_with t gs)) ∷ [] ≡ blobs_left p.staged t book most
  footer_len_is sum gs sum-is gs-are =
      ap (λ (l : List ℕ). l ++ blob_len (length (footer_with t gs)) ∷ []) (left_lens_are sum sum-is)
      ∙ ap (λ (l : List ℕ). map (λ (k : PlacedList). list_len (header_sum t) book k.span) left ++ blob_len (length l) ∷ [])
      (footer_of_all sum gs sum-is gs-are)

  -- the anchor begins behind them
  anchor_place_is : (bytes : List ℕ) → bytes ≡ concat (list_blobs t book left) ++ footer_blob t book ls
      → book_end book + length bytes ≡ anchor_start t book ls
  unfolding anchor_start
  anchor_place_is bytes are =
      omega (
        arith,
        ap length are,
        length-append (concat (list_blobs t book left)) (footer_blob t book ls),
        place_of_footer (book_end book) (concat (list_blobs t book left)) refl refl,
        blob_length (footer_place t book ls) (footer_object t book ls),
      )

  tail_is : concat (list_blobs t book left) ++ footer_blob t book ls ++ container_behind (anchor_start t book ls)
      (anchor_of_file t book ls) ≡ closing_tail p.staged t book most
  unfolding ending
  tail_is = append_assoc (concat (list_blobs t book left)) (footer_blob t book ls)
      (container_behind (anchor_start t book ls) (anchor_of_file t book ls))

  -- the container's parts behind the blobs end the file
  pub ending-is : (start : ℕ) (bytes all : List ℕ) (a : Anchor) (f : FileFields) → start ≡ book_end book
      → AreBlobsBehind p.staged t book most bytes a
      → all ≡ bytes ++ container_behind (start + length bytes) a → f ≡ fields_behind (start + length bytes) → ArePlaces f → f.end
      ≡ start + length all
      → IsEnding p.staged t book most all f
  ending-is start bytes all a f start-is blobs all-is f-is places end-is =
      let place : start + length bytes ≡ anchor_start t book ls =
      ap (λ (k : ℕ). k + length bytes) start-is ∙ anchor_place_is bytes blobs.bytes_are in
      record {
        bytes_are = all-is
            ∙ (ap (λ (k : ℕ). bytes ++ container_behind k a) place
            ∙ (ap (λ (b : Anchor). bytes ++ container_behind (anchor_start t book ls) b) blobs.anchor_is
            ∙ (ap (λ (l : List ℕ). l ++ container_behind (anchor_start t book ls) (anchor_of_file t book ls))
            blobs.bytes_are ∙ tail_is)));
        fields_are = f-is ∙ ap fields_behind place;
        places = places;
        end = end-is ∙ ap (λ (k : ℕ). k + length all) start-is;
      }

-- a file that may end there passes no limit
pub passed-none : (t : Table) (book : BookData) (p : Params) (bytes : List ℕ) (f : FileFields) → IsEnding p.staged t book p.group bytes f
    → NonePassed p.limits (blobs_left p.staged t book p.group) → f.end ≤ p.limits.file → passed_by_close p t book ≡ None
passed-none t book p bytes f is fit low =
    fit-all p.limits (blobs_left p.staged t book p.group) (file_len t book (list_places p.staged t book p.group)) fit
    ∙ file-fits p.limits (file_len t book (list_places p.staged t book p.group))
    (subst (λ (g : FileFields). g.end ≤ p.limits.file) is.fields_are low)

-- one that may not passes that one
pub passed-file : (t : Table) (book : BookData) (p : Params) (bytes : List ℕ) (f : FileFields) → IsEnding p.staged t book p.group bytes f
    → NonePassed p.limits (blobs_left p.staged t book p.group) → p.limits.file < f.end → passed_by_close p t book
    ≡ Some (FileTooLarge f.end p.limits.file)
passed-file t book p bytes f is fit high =
    fit-all p.limits (blobs_left p.staged t book p.group) (file_len t book (list_places p.staged t book p.group)) fit
    ∙ (file-passed p.limits (file_len t book (list_places p.staged t book p.group))
    (subst (λ (g : FileFields). p.limits.file < g.end) is.fields_are high)
    ∙ ap (λ (g : FileFields). Some (FileTooLarge g.end p.limits.file)) (sym is.fields_are))
