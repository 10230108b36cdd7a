-- The types of columns, by their codes.
use Rattle.std.proofs.Common.{◌≡◌, ℕ, Bool, true, false, cond, eqb, List, [], ◌∷◌}
use Rattle.std.proofs.Common.{Option, Some, None, IfSome, refl, sym, ap, subst, ◌∙◌}
use Rattle.std.specs.Prelude.{find}
use Rattle.std.proofs.lemmas.Bool.{eqb-true}
use Rattle.nt_lists.proofs.Variants.{some_is}
use Rattle.nt_types.specs.ColumnTable.{code_of}
use Rattle.nt_types.specs.declared.column_type.ColumnType.{ColumnType}
use Rattle.nt_types.specs.declared.column_type.ColumnType.TheVariants.{Bit, Byte, Char, Int8, UInt8, Int16, UInt16, Int32, UInt32, Int64}
use Rattle.nt_types.specs.declared.column_type.ColumnType.TheVariants.{UInt64, Index32, Index64, Switch, SplitInt16, SplitUInt16}
use Rattle.nt_types.specs.declared.column_type.ColumnType.TheVariants.{SplitInt32, SplitUInt32, SplitInt64, SplitUInt64, SplitIndex32}
use Rattle.nt_types.specs.declared.column_type.ColumnType.TheVariants.{SplitIndex64}
use Rattle.nt_file_meaning.specs.Clusters.{column_kinds, kind_of_code}

-- each type is found by its code
pub kind-found : (t : ColumnType) → kind_of_code (code_of t) ≡ Some t
kind-found Bit = refl
kind-found Byte = refl
kind-found Char = refl
kind-found Int8 = refl
kind-found UInt8 = refl
kind-found Int16 = refl
kind-found UInt16 = refl
kind-found Int32 = refl
kind-found UInt32 = refl
kind-found Int64 = refl
kind-found UInt64 = refl
kind-found Index32 = refl
kind-found Index64 = refl
kind-found Switch = refl
kind-found SplitInt16 = refl
kind-found SplitUInt16 = refl
kind-found SplitInt32 = refl
kind-found SplitUInt32 = refl
kind-found SplitInt64 = refl
kind-found SplitUInt64 = refl
kind-found SplitIndex32 = refl
kind-found SplitIndex64 = refl

-- no two types share a code
pub code-kind : (a b : ColumnType) → code_of a ≡ code_of b → a ≡ b
code-kind a b same = some_is a b (sym (kind-found a) ∙ (ap kind_of_code same ∙ kind-found b))

-- what is found passes
found-passes : (p : ColumnType → Bool) (ts : List ColumnType) (t : ColumnType) → find p ts ≡ Some t → p t ≡ true
found-passes p [] t e = absurd cc
found-passes p (x ∷ ts) t e = one (λ h. found-passes p ts t h) (p x) refl e
  where
    one : (find p ts ≡ Some t → p t ≡ true) → (b : Bool) → p x ≡ b → cond b (Some x) (find p ts) ≡ Some t → p t ≡ true
    one later true is h = subst (λ (y : ColumnType). p y ≡ true) (some_is x t h) is
    one later false is h = later h

pub kind-of_code : (code : ℕ) (r : Option ColumnType) → IfSome r (λ t. code_of t ≡ code)
    → ((t : ColumnType) → code_of t ≡ code → r ≡ Some t) → r ≡ kind_of_code code
kind-of_code code (Some t) is each = sym (ap kind_of_code (sym is) ∙ kind-found t)
kind-of_code code None is each = one (kind_of_code code) refl
  where
    one : (o : Option ColumnType) → kind_of_code code ≡ o → None ≡ o
    one None e = refl
    one (Some t) e = each t (eqb-true _ _ (found-passes (λ x. eqb (code_of x) code) column_kinds t e))
