-- Pages that are read one behind the other.
use Rattle.std.proofs.Common.{◌≡◌, ℕ, ◌+◌, ◌-◌, ◌<◌, ◌≤◌, List, [], ◌∷◌, ◌++◌, Option, Result, Ok, sym, ap, subst, ◌∙◌, arith}
use Rattle.nt_num.specs.Place.{At}
use Rattle.nt_num.specs.declared.fault.ReadError.{ReadError}
use Rattle.nt_lists.specs.Chaining.{◌>>=◌}
use Rattle.nt_lists.specs.Answering.{Refuses}
use Rattle.nt_lists.proofs.Answering.{Refuses-bind}
use Rattle.nt_pagelists.specs.declared.page.PageItem.{PageItem}
use Rattle.nt_pagelists.specs.Columns.{paged_elements}
use Rattle.nt_pagelists.specs.Pages.{page_item_at, page_items_on}
use Rattle.nt_meta.proofs.Steps.{one_less, none_left}

pub items-next : (cluster column n i : ℕ) (pages more : List PageItem) (here after : At) (page : PageItem)
    (all : Result (List PageItem × At) ReadError) → i < n
    → page_item_at cluster column here ≡ Ok (page, after) → more ≡ pages ++ page ∷ [] → page_items_on cluster column (n - i) pages
    here ≡ all → page_items_on cluster column (n - (i + 1)) more after ≡ all
items-next cluster column n i pages more here after page all lt e new h =
    let step = ap (λ (k : ℕ). page_items_on cluster column k pages here) (one_less n i lt)
    ∙ ap (λ (r : Result (PageItem × At) ReadError). r >>= λ page. page_items_on cluster column (n - (i + 1))
    (pages ++ page.0 ∷ []) page.1) e in
    ap (λ (l : List PageItem). page_items_on cluster column (n - (i + 1)) l after) new ∙ sym step ∙ h

pub items-fail : (cluster column n i : ℕ) (pages : List PageItem) (here : At) (e : Option ReadError)
    (all : Result (List PageItem × At) ReadError) → i < n
    → Refuses e (page_item_at cluster column here) → page_items_on cluster column (n - i) pages here ≡ all → Refuses e all
items-fail cluster column n i pages here e all lt f h =
    subst (Refuses e) (sym (ap (λ (k : ℕ). page_items_on cluster column k pages here) (one_less n i lt)) ∙ h)
    (Refuses-bind e (page_item_at cluster column here) (λ page. page_items_on cluster column (n - (i + 1)) (pages ++ page.0 ∷ []) page.1) f)

pub items-done : (cluster column n i : ℕ) (pages : List PageItem) (here : At) (all : Result (List PageItem × At) ReadError) → n ≤ i
    → page_items_on cluster column (n - i) pages here ≡ all → all ≡ Ok (pages, here)
items-done cluster column n i pages here all le h = sym h ∙ ap (λ (k : ℕ). page_items_on cluster column k pages here) (none_left n i le)

pub elements-push : (ps : List PageItem) (p : PageItem) → paged_elements (ps ++ p ∷ []) ≡ paged_elements ps + p.count
elements-push [] p = omega arith
elements-push (q ∷ ps) p = omega (arith, elements-push ps p)

pub elements-more : (n count : ℕ) (ps more : List PageItem) (p : PageItem) → n ≡ paged_elements ps → count ≡ p.count
    → more ≡ ps ++ p ∷ [] → n + count ≡ paged_elements more
elements-more n count ps more p e same new = omega (arith, elements-push ps p, ap paged_elements new, e)

pub ruleset page_steps = (items-next, items-fail, items-done, elements-more)
