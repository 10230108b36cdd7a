-- The clusters of entries of which the last passes a limit, in front of others.
use Rattle.std.proofs.Common.{◌≡◌, ◌∙◌, ap, sym, refl, subst, inl, inr, ◌<◌, List, [], ◌∷◌, ◌++◌, length, append-nil, arith}
use Rattle.std.specs.List.{AllZip, flat_map}
use Rattle.std.proofs.lemmas.Grind.{flat_map-append}
use Rattle.nt_lists.specs.Chunks.{chunks}
use Rattle.nt_types.specs.TreeData.{TreesData}
use Rattle.nt_grammar.specs.Table.{Table}
use Rattle.nt_machine.proofs.Histories.{AllByRecursion-append}
use Rattle.nt_book.specs.declared.limits.LimitError.{LimitError}
use Rattle.nt_book.specs.declared.params.Params.{Params}
use Rattle.nt_dealing.specs.Limits.{IsCountedOf}
use Rattle.nt_contexts.proofs.Chunking.{chunks-full, chunks-none, chunks-last}
use Rattle.nt_script.specs.Script.{Script, last_entries, and_field}
use Rattle.nt_script.specs.Reading.{Segment}
use Rattle.nt_script.specs.Limits.{PassesHere}
use Rattle.nt_script.specs.Passing.{EndsSegment, IsWrittenNext}
use Rattle.nt_script.proofs.Counted.{kept-counts, zip_more, first_entries}

none_first : (behind : Script) → EndsSegment behind → first_entries behind ≡ []
none_first (last_entries [] bad) ends = refl
none_first (last_entries (e ∷ es) bad) ends = absurd ends
none_first (and_field [] m rest) ends = refl
none_first (and_field (e ∷ es) m rest) ends = absurd ends

module _ (t : Table) (p : Params) (segments : List Segment) (es next : List TreesData) (error : LimitError)
    (passes : PassesHere t p segments es next error) where
  abbrev pub all_full : List (List TreesData)
  all_full = passes.full ++ next ∷ []

  full-is : es ≡ flat_map (λ (c : List TreesData). c) all_full
  full-is =
      passes.whole
      ∙ (ap (λ (l : List TreesData). flat_map (λ (c : List TreesData). c) passes.full ++ l) (sym (append-nil next))
      ∙ sym (flat_map-append (λ (c : List TreesData). c) passes.full (next ∷ [])))

  some : 0 < p.cluster
  some = omega (arith, passes.some, passes.few)

  split-whole : length next ≡ p.cluster → (fs : List TreesData) → chunks p.cluster (es ++ fs) ≡ all_full ++ chunks p.cluster fs
  split-whole whole fs =
      ap (λ (l : List TreesData). chunks p.cluster (l ++ fs)) full-is
      ∙ chunks-full p.cluster some all_full fs
      (AllByRecursion-append (λ (c : List TreesData). length c ≡ p.cluster) passes.full (next ∷ []) passes.sizes (whole, tt))

  split-last : chunks p.cluster (es ++ []) ≡ all_full ++ chunks p.cluster []
  split-last =
      ap (chunks p.cluster) (append-nil es ∙ passes.whole)
      ∙ (chunks-full p.cluster some passes.full next passes.sizes
      ∙ (ap (λ (l : List (List TreesData)). passes.full ++ l) (chunks-last p.cluster some next passes.some passes.few)
      ∙ (sym (append-nil all_full)
      ∙ ap (λ (l : List (List TreesData)). all_full ++ l) (sym (chunks-none p.cluster some [] refl)))))

  pub split : (behind : Script) → IsWrittenNext p next behind
      → chunks p.cluster (es ++ first_entries behind) ≡ all_full ++ chunks p.cluster (first_entries behind)
  split behind (inl whole) = split-whole whole (first_entries behind)
  split behind (inr ends) =
      subst (λ (fs : List TreesData). chunks p.cluster (es ++ fs) ≡ all_full ++ chunks p.cluster fs) (sym (none_first behind ends))
      split-last

  -- with the cluster that passes the limit
  pub counted : AllZip (IsCountedOf t p.page) all_full (passes.own ++ passes.meta ∷ [])
  counted =
      zip_more (IsCountedOf t p.page) passes.full (next ∷ []) passes.own (passes.meta ∷ [])
      (kept-counts t p.page passes.full passes.own passes.kept) (inl passes.next_kept, tt)
