-- What is told where nothing was made, or words were refused.
use Rattle.std.proofs.Common.{◌≡◌, ◌∙◌, inl, ap, sym, subst, refl, ℕ, List, [], ◌∷◌, ◌++◌, length, Option, Some, Err}
use Rattle.std.proofs.Common.{arith, length-append}
use Rattle.std.specs.Prelude.{IsErrOf}
use Rattle.nt_outside.specs.declared.fault.Refused.{Refused}
use Rattle.nt_outside.specs.declared.fault.Refused.TheVariants as refused
use Rattle.nt_outside.specs.World.{World, file}
use Rattle.nt_book.specs.declared.params.Params.{Params}
use Rattle.nt_store.specs.declared.error.StoreError.{StoreError}
use Rattle.nt_store.specs.declared.error.StoreError.TheVariants.{Outside, Memory, Schema, Line, Limit}
use Rattle.nt_store.specs.Errors.{error_of_refusal, IsRefusal}
use Rattle.nt_store.specs.Schemas.{TellsSchema}
use Rattle.nt_store.specs.Worlds.{MakesDisk, WritesInOrder}
use Rattle.nt_store.specs.Stored.{StoreTold}
use Rattle.nt_store.proofs.Ends.{IsBack}

pub world_is : (a b : World) → ◌≡◌ {A = Option World} (Some a) (Some b) → a ≡ b
world_is a b e = cc

-- where nothing changed no disk was made
pub none_made : (name : List ℕ) (old new : Option World) → new ≡ old → (w w' : World) → old ≡ Some w → new ≡ Some w'
    → MakesDisk name w w' → ⊥
none_made name old new stays w w' is is' made =
    let same : w ≡ w' = world_is w w' (sym is ∙ (sym stays ∙ is')) in
    let none : w'.created ≡ w'.created ++ name ∷ [] = subst (λ (v : World). w'.created ≡ v.created ++ name ∷ []) same made in
    omega (arith, ap (λ (l : List (List ℕ)). length l) none, length-append w'.created (name ∷ []))

pub nothing_made : (name : List ℕ) (old new : Option World) → new ≡ old → WritesInOrder name old new
nothing_made name old new stays w w' is is' made = absurd (none_made name old new stays w w' is is' made)

refused_as : (out schema : List ℕ) (inputs : List (List ℕ)) (p : Params) (w : World) (e : StoreError) → IsRefusal e
    → StoreTold out schema inputs p w w (Err e)
refused_as out schema inputs p w Outside is = inl (inl (refl, refl), refl)
refused_as out schema inputs p w Memory is = inl (inl (refl, refl), refl)
refused_as out schema inputs p w (Schema line kind) is = absurd is
refused_as out schema inputs p w (Line input line kind) is = absurd is
refused_as out schema inputs p w (Limit reached most) is = absurd is

-- a refusal before there is a disk leaves all as it was
pub refused_told : (out schema : List ℕ) (inputs : List (List ℕ)) (p : Params) (w : World) (world : Option World) (e : StoreError)
    → IsRefusal e → world ≡ Some w → IsBack out schema inputs p w world (Err e)
refused_told out schema inputs p w world e is same = (w, same, refl, λ other differs. refl, refused_as out schema inputs p w e is)

schema_as : (out schema : List ℕ) (inputs : List (List ℕ)) (p : Params) (w : World) (e : StoreError)
    → TellsSchema (file w schema) (Err e) → StoreTold out schema inputs p w w (Err e)
schema_as out schema inputs p w Outside told = inl (inl (refl, refl), refl)
schema_as out schema inputs p w Memory told = inl (inl (refl, refl), refl)
schema_as out schema inputs p w (Schema line kind) told = (told, (refl, refl), refl)
schema_as out schema inputs p w (Line input line kind) told = absurd told
schema_as out schema inputs p w (Limit reached most) told = absurd told

-- and so does a schema text without fields
pub schema_told : (out schema : List ℕ) (inputs : List (List ℕ)) (p : Params) (w : World) (world : Option World) (e : StoreError)
    → TellsSchema (file w schema) (Err e) → world ≡ Some w
    → IsBack out schema inputs p w world (Err e)
schema_told out schema inputs p w world e told same = (w, same, refl, λ other differs. refl, schema_as out schema inputs p w e told)

-- the outside's refusals
pub refusal_is : (r : Refused) → IsRefusal (error_of_refusal r)
refusal_is refused.Failed = tt
refusal_is refused.Memory = tt

-- and they fail where it failed
pub refused_outside : {T : Type 0} (r : Refused) (e : StoreError) → e ≡ error_of_refusal r → IsErrOf {T = Unit} (Err e) Outside
    → IsErrOf {T = T} (Err r) refused.Failed
refused_outside refused.Failed e is outside = refl
refused_outside refused.Memory e is outside = absurd (cc (is, outside))
