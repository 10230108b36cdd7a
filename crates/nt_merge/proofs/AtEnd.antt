-- What is refused of a file in which the copies of all clusters stand, where it is closed.
use Rattle.std.proofs.Common.{◌≡◌, ◌∙◌, ap, sym, refl, zero, suc, ℕ, List, [], ◌∷◌, ◌++◌, map, length, take, drop, None, Some, arith}
use Rattle.std.specs.Prelude.{false}
use Rattle.nt_outside.specs.Disk.{DiskState}
use Rattle.nt_grammar.specs.Table.{Table}
use Rattle.nt_book.specs.declared.limits.LimitError.{LimitError}
use Rattle.nt_book.specs.declared.meta.ClusterMeta.{ClusterMeta}
use Rattle.nt_book.specs.declared.params.Params.{Params}
use Rattle.nt_book.specs.Books.{BookData}
use Rattle.nt_book.specs.Kept.{IsBookKept}
use Rattle.nt_pagelists.specs.Blobs.{blob_len}
use Rattle.nt_pagelists.specs.Objects.{ClusterSpan, list_len}
use Rattle.nt_layout.specs.Headers.{header_sum}
use Rattle.nt_layout.specs.Groups.{PlacedList, places_beside}
use Rattle.nt_layout.specs.Finished.{spans, list_places, footer_object, file_len}
use Rattle.nt_close.specs.Filled.{AreListsNoted}
use Rattle.nt_close.specs.Passing.{first_passed, passed_by_close}
use Rattle.nt_merge_limits.specs.Limits.{IsBookBeside}
use Rattle.nt_seq.proofs.Flat.{params-flat, listed-flat, passed-flat}
use Rattle.nt_merge.specs.Copying.{HasMerged}
use Rattle.nt_merge.specs.Fronts.{passed_by_end}
use Rattle.nt_merge.specs.Merging.{Numbered, copied_metas, error_of_limit, first_refusal, IsMerging}
use Rattle.nt_merge.proofs.First.{end-first, end-fits}
use Rattle.nt_merge.proofs.Fronts.{close-front}
use Rattle.nt_merge.proofs.Unlike.{drop_end}

left-lens : (sum : ℕ) (book : BookData) (n : ℕ) (ss : List ClusterSpan)
    → map (λ (l : PlacedList). list_len sum book l.span) (drop n (places_beside book ss)) ≡ map (list_len sum book) (drop n ss)
left-lens sum book zero [] = refl
left-lens sum book zero (s ∷ ss) = ap (λ (l : List ℕ). list_len sum book s ∷ l) (left-lens sum book zero ss)
left-lens sum book (suc n) [] = refl
left-lens sum book (suc n) (s ∷ ss) = left-lens sum book n ss

-- the page lists that a close writes are those of the groups that have none
pub passed-lists : (t : Table) (p : Params) (book : BookData) → AreListsNoted t p book → book.staged ≡ false
    → passed_by_close p t book
    ≡ first_passed p.limits
    (map (list_len (header_sum t) book) (drop (length book.lists) (spans book p.group))
    ++ blob_len (length (footer_object t book (list_places false t book p.group))) ∷ [])
    (file_len t book (list_places false t book p.group))
passed-lists t p book noted none =
    let foot = blob_len (length (footer_object t book (list_places false t book p.group))) in
    let end = file_len t book (list_places false t book p.group) in
    passed-flat t p book (params-flat t p book noted none)
    ∙ ap (λ (l : List ℕ). first_passed p.limits (l ++ foot ∷ []) end)
    (left-lens (header_sum t) book (length book.lists) (spans book p.group))

module _ (t : Table) (p : Params) (given old : DiskState) (book : BookData) (ns : List Numbered) (is : IsMerging t p given old book)
    (kept : IsBookKept book) (has : HasMerged t p given old book ns (length ns)) where
  pub all-beside : IsBookBeside t p book
  all-beside = record {
    kept = kept;
    begin = is.closable.begin;
    limits = is.limits;
    beside = listed-flat t p book is.closable.noted is.not_staged is.untorn;
  }

  closes-as : passed_by_close p t book ≡ passed_by_end t p (copied_metas (take (length ns) ns))
  closes-as =
      passed-lists t p book is.closable.noted is.not_staged
      ∙ (close-front t p book all-beside has.listed ∙ ap (λ (ms : List ClusterMeta). passed_by_end t p ms) has.copies.metas)

  none-left : drop (length ns) ns ≡ []
  none-left = drop_end ns (length ns) (omega arith)

  -- nothing
  pub none-first : passed_by_close p t book ≡ None → first_refusal t p ns ≡ None
  none-first passed =
      has.reach ∙ end-fits t p (drop (length ns) ns) (copied_metas (take (length ns) ns)) none-left (sym closes-as ∙ passed)

  -- the limit that closing passes
  pub close-first : (error : LimitError) → passed_by_close p t book ≡ Some error → first_refusal t p ns ≡ Some (error_of_limit error)
  close-first error passed =
      has.reach ∙ end-first t p (drop (length ns) ns) (copied_metas (take (length ns) ns)) error none-left (sym closes-as ∙ passed)
