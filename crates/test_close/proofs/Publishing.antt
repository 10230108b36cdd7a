-- Ranges of a disk of which one is out, and staged books whose ranges are filled and published.
use Rattle.std.proofs.Common.{◌≡◌, ◌∙◌, ap, sym, subst, ℕ, true, List, [], ◌∷◌, ◌++◌, arith, Option}
use Rattle.std.specs.Prelude.{Contains}
use Rattle.std.specs.List.{AllByRecursion}
use Rattle.nt_outside.specs.declared.range.Range.{Range}
use Rattle.nt_outside.specs.Range.{is_same_range, without}
use Rattle.nt_outside.proofs.Ranges.{is_same, without_here}
use Rattle.nt_machine.specs.declared.entry.Entry.{Entry}
use Rattle.nt_machine.specs.History.{publishers_of, ranges_of}
use Rattle.nt_machine.specs.Legal.{IsFilledRange}
use Rattle.nt_machine.proofs.Legality.{ranges_of-snoc}
use Rattle.nt_machine.proofs.Publishers.{publishers-snoc}
use Rattle.nt_grammar.specs.Table.{Table}
use Rattle.nt_book.specs.declared.meta.ClusterMeta.{ClusterMeta}
use Rattle.nt_book.specs.declared.params.Params.{Params}
use Rattle.nt_book.specs.Books.{BookData, book_ranges}
use Rattle.nt_book.specs.Entries.{published_entry}
use Rattle.nt_book.specs.Kept.{IsBookKept}
use Rattle.nt_close.specs.Beginning.{new_book}
use Rattle.nt_close.specs.Unpublished.{IsAllUnpublished}
use Rattle.test_close.specs.Notes.{IsAllFilled, KeepsNotes}
use Rattle.test_close.proofs.Keeping.{keeps-nothing}

-- ---- ranges of a disk

-- one that was put out alone is out
pub alone-out : (old out : List Range) (r s : Range) → old ≡ [] → out ≡ old ++ r ∷ [] → s ≡ r → Contains out s
alone-out old out r s none is same =
    subst (λ (l : List Range). Contains l s) (sym (is ∙ ap (λ (l : List Range). l ++ r ∷ []) none)) (0, omega arith, sym same)

-- and none is once it is taken off
pub none-out : (old out left : List Range) (r s : Range) → old ≡ [] → out ≡ old ++ r ∷ [] → s ≡ r → left ≡ without s out → left ≡ []
none-out old out left r s none is same taken =
    taken ∙ (ap (without s) (is ∙ ap (λ (l : List Range). l ++ r ∷ []) none)
    ∙ without_here r s [] (subst (λ (x : Range). is_same_range r x ≡ true) (sym same) (is_same r)))

-- ---- books

-- nothing is published of a new one
pub new-unpublished : (t : Table) (p : Params) (book : BookData) → book ≡ new_book t p → book.staged ≡ true → IsAllUnpublished book
new-unpublished t p book is staged = record {
  staged = staged;
  unpublished = ap (λ (b : BookData). publishers_of b.history) is;
  filled = subst (λ (b : BookData). AllByRecursion IsFilledRange (book_ranges b)) (sym is) tt;
}

-- no page list is noted of a staged one, whatever else happens
pub keeps-staged : (old new : BookData) (history : List (Entry ClusterMeta)) (spare : ℕ) (ready : Option ℕ) → IsBookKept old
    → old.staged ≡ true → new ≡ record old { history = history; spare = spare; ready = ready } → KeepsNotes old new
keeps-staged old new history spare ready kept staged is =
    keeps-nothing old new (ap (λ (b : BookData). b.begin) is) (ap (λ (b : BookData). b.limits) is)
    (ap (λ (b : BookData). b.group) is) (ap (λ (b : BookData). b.staged) is) (ap (λ (b : BookData). b.firsts) is)
    (ap (λ (b : BookData). b.lists) is ∙ (kept.none_between (kept.no_groups staged)).none_noted)

-- a context publishes, and all ranges are filled still
pub published-filled : (old new : BookData) (i : ℕ) → IsAllFilled old → new.staged ≡ old.staged
    → new.history ≡ old.history ++ published_entry (book_ranges old) i ∷ [] → IsAllFilled new
published-filled old new i h same is =
    let ranges : book_ranges new ≡ book_ranges old =
    ap (λ (l : List (Entry ClusterMeta)). ranges_of l) is ∙ ranges_of-snoc old.history (published_entry (book_ranges old) i) in
    record { staged = same ∙ h.staged; filled = subst (AllByRecursion IsFilledRange) (sym ranges) h.filled }

-- and it is the last that did
pub published-by : (old new : BookData) (i : ℕ) → new.history ≡ old.history ++ published_entry (book_ranges old) i ∷ []
    → publishers_of new.history ≡ publishers_of old.history ++ i ∷ []
published-by old new i is =
    ap (λ (l : List (Entry ClusterMeta)). publishers_of l) is ∙ publishers-snoc old.history (published_entry (book_ranges old) i)
