-- Type names tell an optional from other collections.
use Rattle.std.proofs.Common.{Bool, true, false, ◌≡◌, [], Option, Some, refl, if◌then◌else◌}
use Rattle.std.proofs.lemmas.Bool.{true≢false}
use Rattle.std.specs.Prelude.{◌&&◌, not}
use Rattle.nt_types.specs.ShapeData.{ShapeData, ShapesData, bool, char, byte, int, text, list, maybe, fields, tuple, choice, no_kinds}
use Rattle.nt_types.specs.ShapeData.{kind, takes_nothing}
use Rattle.nt_types.specs.Spelling.{IsType, AreMoreKinds}
use Rattle.nt_grammar.specs.Types.{holds_record, any_holds_record, cpp_name, type_name, template}
use Rattle.nt_grammar.specs.Open.{is_optional}
use Rattle.nt_grammar.specs.AsRead.{as_read}
use Rattle.nt_grammar.proofs.AllNodes.{more_kinds}

-- types that may lie in a choice or in an optional hold no record
mutual
  holds-none : (k : ShapeData) → IsType true k → holds_record k ≡ false
  holds-none bool t = refl
  holds-none char t = refl
  holds-none byte t = refl
  holds-none (int bits signed) t = refl
  holds-none text t = refl
  holds-none (list k) t = holds-none k t
  holds-none (maybe k) t = holds-none k t.1
  holds-none (fields ps) t = absurd (true≢false t.0)
  holds-none (tuple ks) t = hold-none ks (more_kinds true ks t)
  holds-none (choice ks) t = hold-none ks (more_kinds true ks t.1)

  hold-none : (ks : ShapesData) → AreMoreKinds true ks → any_holds_record ks ≡ false
  hold-none no_kinds t = refl
  hold-none (kind k ks) t = rw (holds-none k t.0) (hold-none ks t.1)

-- what is read as another shape takes nothing where that does
takes_nothing-read : (k : ShapeData) → takes_nothing (as_read k) ≡ takes_nothing k
takes_nothing-read bool = refl
takes_nothing-read char = refl
takes_nothing-read byte = refl
takes_nothing-read (int bits signed) = refl
takes_nothing-read text = refl
takes_nothing-read (list k) = refl
takes_nothing-read (maybe k) = refl
takes_nothing-read (fields ps) = refl
takes_nothing-read (tuple ks) = refl
takes_nothing-read (choice ks) = refl

template-optional : (k : ShapeData) → is_optional (cpp_name (maybe k)) ≡ true
unfolding template
template-optional k = refl

template-list : (k : ShapeData) → is_optional (cpp_name (list k)) ≡ false
unfolding template
template-list k = refl

optional-name : (k : ShapeData) → IsType true k → is_optional (type_name (maybe k)) ≡ true
optional-name k t = rw (holds-none k t) (template-optional k)

list-name : (k : ShapeData) → is_optional (type_name (list k)) ≡ false
list-name k = cases (holds_record k)
  where
    cases : (b : Bool) → is_optional (if b then [] else cpp_name (list k)) ≡ false
    cases true = refl
    cases false = template-list k

-- an optional is read as one, and a list as a list
abbrev read_by : Bool → ShapeData → Option ShapeData
read_by b k = Some (if b then maybe k else list k)

pub maybe-read : (within : Bool) (k : ShapeData) → IsType within (maybe k)
    → read_by (is_optional (type_name (maybe k)) && not (takes_nothing (as_read k))) (as_read k) ≡ Some (maybe (as_read k))
maybe-read within k t = rw (optional-name k t.1, takes_nothing-read k, t.0) refl

pub list-read : (k : ShapeData)
    → read_by (is_optional (type_name (list k)) && not (takes_nothing (as_read k))) (as_read k) ≡ Some (list (as_read k))
list-read k = rw (list-name k) refl
