-- Columns that are missing are columns of zeros.
use Rattle.std.proofs.Common.{◌≡◌, ℕ, suc, ◌==◌, ◌||◌, Bool, true, false, List, []}
use Rattle.std.proofs.Common.{Option, Some, None, if◌then◌else◌, refl, ap, ◌∙◌}
use Rattle.std.specs.Prelude.{is_some}
use Rattle.std.specs.Option.{option_or}
use Rattle.std.proofs.lemmas.Bool.{false≢true, true≢false, eq-eqb}
use Rattle.nt_column.specs.Elements.{Element}
use Rattle.nt_plans.specs.Plan.{PlanData, PlansData, bool, number, text, list, maybe, record_of, choice, no_plans, plan, has, has_any}
use Rattle.nt_plans.specs.Plan.{Differ, AllDiffer}
use Rattle.nt_plans.specs.Needs.{NeedData, entries, inside, under, need_at, need_in, need_in_any, need_under, is_entries}
use Rattle.nt_trees.specs.Columns.{Cols}
use Rattle.nt_trees.specs.TreeAt.{tree_at}
use Rattle.nt_trees.specs.Faults.{fault_in}
use Rattle.nt_trees.proofs.Elsewhere.{apart, other_side}
use Rattle.nt_finished.specs.Missing.{missing_elements, AreMissing}
use Rattle.nt_finished.specs.Zeros.{zero_of}
use Rattle.nt_finished.proofs.ZeroColumns.{zeros, HasZeros, HaveZeros, fault-zeros, tree-zeros}

or-true : (a b : Bool) → b ≡ true → (a || b) ≡ true
or-true true b h = refl
or-true false b h = h

left-true : (a b : Bool) → a ≡ true → (a || b) ≡ true
left-true true b h = refl
left-true false b h = absurd (false≢true h)

same-key : (k : ℕ) → (k == k) ≡ true
same-key k = eq-eqb k k refl

-- columns without elements
mutual
  empty-zeros : (p : PlanData) (cols : Cols) → ((j : ℕ) → has p j ≡ true → cols j ≡ []) → HasZeros p cols 0
  empty-zeros (bool k) cols h = h k (same-key k)
  empty-zeros (number k bits signed) cols h = h k (same-key k)
  empty-zeros (text e c) cols h = (h e (left-true (e == e) (e == c) (same-key e)), h c (or-true (c == e) (c == c) (same-key c)))
  empty-zeros (list e p) cols h =
      (h e (left-true (e == e) (has p e) (same-key e)), empty-zeros p cols (λ j is. h j (or-true (j == e) (has p j) is)))
  empty-zeros (maybe e p) cols h =
      (h e (left-true (e == e) (has p e) (same-key e)), empty-zeros p cols (λ j is. h j (or-true (j == e) (has p j) is)))
  empty-zeros (record_of ps) cols h = all_empty-zeros ps cols h
  empty-zeros (choice s ps) cols h =
      (h s (left-true (s == s) (has_any ps s) (same-key s)), all_empty-zeros ps cols (λ j is. h j (or-true (j == s) (has_any ps j) is)))

  all_empty-zeros : (ps : PlansData) (cols : Cols) → ((j : ℕ) → has_any ps j ≡ true → cols j ≡ []) → HaveZeros ps cols 0
  all_empty-zeros no_plans cols h = tt
  all_empty-zeros (plan p ps) cols h = (
    empty-zeros p cols (λ j is. h j (left-true (has p j) (has_any ps j) is)),
    all_empty-zeros ps cols (λ j is. h j (or-true (has p j) (has_any ps j) is)),
  )

-- what needs no element for each entry
or-other : (o other : Option NeedData) → is_entries o ≡ false → is_entries other ≡ false → is_entries (option_or o other) ≡ false
or-other None other a b = b
or-other (Some x) other a b = a

pub at-other : (above : NeedData) (k j : ℕ) → is_entries (Some above) ≡ false → is_entries (need_at above k j) ≡ false
at-other above k j h = by (j == k)
  where
    by : (b : Bool) → is_entries (if b then Some above else None) ≡ false
    by true = h
    by false = refl

mutual
  pub in-other : (above : NeedData) (p : PlanData) (j : ℕ) → is_entries (Some above) ≡ false → is_entries (need_in above p j) ≡ false
  in-other above (bool k) j h = at-other above k j h
  in-other above (number k bits signed) j h = at-other above k j h
  in-other above (text ends bytes) j h =
      or-other (need_at above ends j) (need_at (inside ends) bytes j) (at-other above ends j h) (at-other (inside ends) bytes j refl)
  in-other above (list ends p) j h =
      or-other (need_at above ends j) (need_in (inside ends) p j) (at-other above ends j h) (in-other (inside ends) p j refl)
  in-other above (maybe ends p) j h =
      or-other (need_at above ends j) (need_in (inside ends) p j) (at-other above ends j h) (in-other (inside ends) p j refl)
  in-other above (record_of ps) j h = any-other above ps j h
  in-other above (choice tags ps) j h =
      or-other (need_at above tags j) (need_under tags 1 ps j) (at-other above tags j h) (under-other tags 1 ps j)

  any-other : (above : NeedData) (ps : PlansData) (j : ℕ) → is_entries (Some above) ≡ false → is_entries (need_in_any above ps j) ≡ false
  any-other above no_plans j h = refl
  any-other above (plan p ps) j h = or-other (need_in above p j) (need_in_any above ps j) (in-other above p j h) (any-other above ps j h)

  pub under-other : (tags tag : ℕ) (ps : PlansData) (j : ℕ) → is_entries (need_under tags tag ps j) ≡ false
  under-other tags tag no_plans j = refl
  under-other tags tag (plan p ps) j =
      or-other (need_in (under tags tag) p j) (need_under tags (suc tag) ps j) (in-other (under tags tag) p j refl)
      (under-other tags (suc tag) ps j)

-- elements by a need
by-need : (o other : Option NeedData) (n : ℕ) (es : List Element) → o ≡ other → es ≡ missing_elements o n → es ≡ missing_elements other n
by-need o other n es same is = is ∙ ap (λ (need : Option NeedData). missing_elements need n) same

no-entries : (o : Option NeedData) (n : ℕ) (es : List Element) → is_entries o ≡ false → es ≡ missing_elements o n → es ≡ []
no-entries o n es none is = is ∙ ap (λ (b : Bool). if b then zeros n else []) none

at-here : (above : NeedData) (k : ℕ) → need_at above k k ≡ Some above
at-here above k = ap (λ (b : Bool). if b then Some above else None) (same-key k)

at-else : (above : NeedData) (k j : ℕ) → (j == k) ≡ false → need_at above k j ≡ None
at-else above k j h = ap (λ (b : Bool). if b then Some above else None) h

or-first : (o other : Option NeedData) (x : NeedData) → o ≡ Some x → option_or o other ≡ Some x
or-first o other x h = ap (λ (a : Option NeedData). option_or a other) h

or-second : (o other : Option NeedData) → o ≡ None → option_or o other ≡ other
or-second o other h = ap (λ (a : Option NeedData). option_or a other) h

or-some : (o other : Option NeedData) → is_some o ≡ true → option_or o other ≡ o
or-some None other h = absurd (false≢true h)
or-some (Some x) other h = refl

none-of : (o : Option NeedData) → is_some o ≡ false → o ≡ None
none-of None h = refl
none-of (Some x) h = absurd (true≢false h)

has-or : (o other : Option NeedData) (a b : Bool) → is_some o ≡ a → is_some other ≡ b → is_some (option_or o other) ≡ (a || b)
has-or None other false b p q = q
has-or None other true b p q = absurd (false≢true p)
has-or (Some x) other true b p q = refl
has-or (Some x) other false b p q = absurd (true≢false p)

has-at : (above : NeedData) (k j : ℕ) → is_some (need_at above k j) ≡ (j == k)
has-at above k j = by (j == k)
  where
    by : (b : Bool) → is_some (if b then Some above else None) ≡ b
    by true = refl
    by false = refl

-- a column has a need in a plan exactly where it is in it
mutual
  need-has : (above : NeedData) (p : PlanData) (j : ℕ) → is_some (need_in above p j) ≡ has p j
  need-has above (bool k) j = has-at above k j
  need-has above (number k bits signed) j = has-at above k j
  need-has above (text e c) j =
      has-or (need_at above e j) (need_at (inside e) c j) (j == e) (j == c) (has-at above e j) (has-at (inside e) c j)
  need-has above (list e p) j =
      has-or (need_at above e j) (need_in (inside e) p j) (j == e) (has p j) (has-at above e j) (need-has (inside e) p j)
  need-has above (maybe e p) j =
      has-or (need_at above e j) (need_in (inside e) p j) (j == e) (has p j) (has-at above e j) (need-has (inside e) p j)
  need-has above (record_of ps) j = needs-have above ps j
  need-has above (choice s ps) j =
      has-or (need_at above s j) (need_under s 1 ps j) (j == s) (has_any ps j) (has-at above s j) (under-have s 1 ps j)

  needs-have : (above : NeedData) (ps : PlansData) (j : ℕ) → is_some (need_in_any above ps j) ≡ has_any ps j
  needs-have above no_plans j = refl
  needs-have above (plan p ps) j =
      has-or (need_in above p j) (need_in_any above ps j) (has p j) (has_any ps j) (need-has above p j) (needs-have above ps j)

  under-have : (tags tag : ℕ) (ps : PlansData) (j : ℕ) → is_some (need_under tags tag ps j) ≡ has_any ps j
  under-have tags tag no_plans j = refl
  under-have tags tag (plan p ps) j =
      has-or (need_in (under tags tag) p j) (need_under tags (suc tag) ps j) (has p j) (has_any ps j)
      (need-has (under tags tag) p j) (under-have tags (suc tag) ps j)

mutual
  pub missing-zeros : (p : PlanData) (cols : Cols) (n : ℕ) → Differ p → AreMissing p cols n → HasZeros p cols n
  missing-zeros (bool k) cols n d h = by-need (need_at entries k k) (Some entries) n (cols k) (at-here entries k) (h k (same-key k))
  missing-zeros (number k bits signed) cols n d h =
      by-need (need_at entries k k) (Some entries) n (cols k) (at-here entries k) (h k (same-key k))
  missing-zeros (text e c) cols n d h = (
    by-need _ (Some entries) n (cols e) (or-first (need_at entries e e) (need_at (inside e) c e) entries (at-here entries e))
        (h e (left-true (e == e) (e == c) (same-key e))),
    no-entries _ n (cols c) (ap is_entries (or-second (need_at entries e c) (need_at (inside e) c c) (at-else entries e c d))
        ∙ at-other (inside e) c c refl) (h c (or-true (c == e) (c == c) (same-key c))),
  )
  missing-zeros (list e p) cols n d h = (
    by-need _ (Some entries) n (cols e) (or-first (need_at entries e e) (need_in (inside e) p e) entries (at-here entries e))
        (h e (left-true (e == e) (has p e) (same-key e))),
    empty-zeros p cols (λ j is.
        no-entries _ n (cols j)
        (ap is_entries (or-second (need_at entries e j) (need_in (inside e) p j) (at-else entries e j (apart (has p) e j d.0 is)))
        ∙ in-other (inside e) p j refl) (h j (or-true (j == e) (has p j) is))),
  )
  missing-zeros (maybe e p) cols n d h = (
    by-need _ (Some entries) n (cols e) (or-first (need_at entries e e) (need_in (inside e) p e) entries (at-here entries e))
        (h e (left-true (e == e) (has p e) (same-key e))),
    empty-zeros p cols (λ j is.
        no-entries _ n (cols j)
        (ap is_entries (or-second (need_at entries e j) (need_in (inside e) p j) (at-else entries e j (apart (has p) e j d.0 is)))
        ∙ in-other (inside e) p j refl) (h j (or-true (j == e) (has p j) is))),
  )
  missing-zeros (record_of ps) cols n d h = all_missing-zeros ps cols n d h
  missing-zeros (choice s ps) cols n d h = (
    by-need _ (Some entries) n (cols s) (or-first (need_at entries s s) (need_under s 1 ps s) entries (at-here entries s))
        (h s (left-true (s == s) (has_any ps s) (same-key s))),
    all_empty-zeros ps cols (λ j is.
        no-entries _ n (cols j)
        (ap is_entries (or-second (need_at entries s j) (need_under s 1 ps j) (at-else entries s j (apart (has_any ps) s j d.0 is)))
        ∙ under-other s 1 ps j) (h j (or-true (j == s) (has_any ps j) is))),
  )

  all_missing-zeros : (ps : PlansData) (cols : Cols) (n : ℕ) → AllDiffer ps
      → ((j : ℕ) → has_any ps j ≡ true → cols j ≡ missing_elements (need_in_any entries ps j) n) → HaveZeros ps cols n
  all_missing-zeros no_plans cols n d h = tt
  all_missing-zeros (plan p ps) cols n d h = (
    missing-zeros p cols n d.0 (λ j is.
        by-need _ (need_in entries p j) n (cols j) (or-some (need_in entries p j) (need_in_any entries ps j) (need-has entries p j ∙ is))
        (h j (left-true (has p j) (has_any ps j) is))),
    all_missing-zeros ps cols n d.1 (λ j is.
        let not_first : has p j ≡ false = other_side (has p j) (has_any ps j) (d.2 j) is in
        by-need _ (need_in_any entries ps j) n (cols j) (or-second (need_in entries p j) (need_in_any entries ps j)
        (none-of (need_in entries p j) (need-has entries p j ∙ not_first)))
        (h j (or-true (has p j) (has_any ps j) is))),
  )

pub missing-fault : (p : PlanData) (cols : Cols) (n : ℕ) → Differ p → AreMissing p cols n → fault_in p cols n ≡ None
missing-fault p cols n d h = fault-zeros p cols n (missing-zeros p cols n d h)

pub missing-tree : (p : PlanData) (cols : Cols) (n i : ℕ) → Differ p → AreMissing p cols n → tree_at p cols i ≡ zero_of p
missing-tree p cols n i d h = tree-zeros p cols n i (missing-zeros p cols n d h)
