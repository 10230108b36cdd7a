-- What is said of the filling of a file, by an answer that is known.
use Rattle.std.proofs.Common.{◌≡◌, ◌⊎◌, inl, inr, sym, subst, refl, ℕ, ◌<◌, List, Option, Result, Ok, Err}
use Rattle.std.specs.Prelude.{IfOk, IsErrOf}
use Rattle.nt_types.specs.ShapeData.{MemberData}
use Rattle.nt_outside.specs.Faults.{Rose}
use Rattle.nt_outside.specs.Held.{Held}
use Rattle.nt_outside.specs.Source.{SourceState}
use Rattle.nt_grammar.specs.Table.{Table}
use Rattle.nt_book.specs.declared.params.Params.{Params}
use Rattle.nt_book.specs.Books.{BookData}
use Rattle.nt_store.specs.declared.error.StoreError.{StoreError}
use Rattle.nt_store.specs.declared.error.StoreError.TheVariants.{Outside, Memory, Schema, Line, Limit}
use Rattle.nt_store.specs.Worlds.{SomeFailed}
use Rattle.nt_store.specs.Writing.{HoldsNow}
use Rattle.nt_store.specs.Filling.{IsFilledFile, WhyUnfilled, FillLeaves}

-- by an answer that is this one: the file is filled
pub ok_filled : (fields : List MemberData) (p : Params) (texts : List (List ℕ)) (held : Option Held)
    (r : Result (BookData × Table) StoreError) (made : BookData × Table) → r ≡ Ok made → FillLeaves fields p texts held r
    → HoldsNow held (IsFilledFile fields p texts made.1 made.0)
ok_filled fields p texts held r made is left =
    subst (λ (o : Result (BookData × Table) StoreError). FillLeaves fields p texts held o) is left

-- and what is said of Ok holds
pub ok_holds : {T E : Type 0} (P : T → Type 0) (r : Result T E) (value : T) → r ≡ Ok value → IfOk r P → P value
ok_holds {T} {E} P r value is holds = subst (λ (o : Result T E). IfOk o P) is holds

-- why it isn't filled
pub err_why : (fields : List MemberData) (p : Params) (texts : List (List ℕ)) (r : Result (BookData × Table) StoreError) (e : StoreError)
    → r ≡ Err e → WhyUnfilled fields p texts r → WhyUnfilled {T = Unit {0}} fields p texts (Err e)
err_why fields p texts r e is why =
    same e (subst (λ (o : Result (BookData × Table) StoreError). WhyUnfilled fields p texts o) is why)
  where
    same : (e : StoreError) → WhyUnfilled {T = BookData × Table} fields p texts (Err e) → WhyUnfilled {T = Unit {0}} fields p texts (Err e)
    same Outside why = why
    same Memory why = why
    same (Limit reached most) why = why
    same (Line input line kind) why = why
    same (Schema line kind) why = why

-- and what is left of it
pub err_left : (fields : List MemberData) (p : Params) (texts : List (List ℕ)) (held : Option Held)
    (r : Result (BookData × Table) StoreError) (e : StoreError) → r ≡ Err e → FillLeaves fields p texts held r
    → FillLeaves fields p texts held (Err e)
err_left fields p texts held r e is left = subst (λ (o : Result (BookData × Table) StoreError). FillLeaves fields p texts held o) is left

-- the disk has failed, or the count of the host rose as the sources came back
pub either_failed : (r : Result (BookData × Table) StoreError) (e : StoreError) (disk old new : ℕ) (sources' : List SourceState)
    → r ≡ Err e → (IsErrOf r Outside → (0 < disk) ⊎ SomeFailed sources') → (SomeFailed sources' → Rose old new) → e ≡ Outside
    → (0 < disk) ⊎ Rose old new
either_failed r e disk old new sources' is failed back outside =
    elim (failed (subst (λ (o : Result (BookData × Table) StoreError). IsErrOf o Outside) (sym is) (outside_is e outside))) [
      | inl some ↦ inl some
      | inr some ↦ inr (back some)
    ]
  where
    outside_is : (e : StoreError) → e ≡ Outside → IsErrOf {T = BookData × Table} (Err e) Outside
    outside_is e same = rw same refl
