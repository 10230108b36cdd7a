-- Values that are read from the words which columns lend: columns of numbers, and of ends that say which of these belong to an element
-- (RNTuple Binary Format Specification 1.0.0.0, section Column Description).
use Rattle.std.specs.Prelude.{ℕ, ◌≡◌, ◌-◌, ◌<◌, ◌≤◌, Bool, List, length, map, All, ⊤}
use Rattle.std.specs.List.{slice_range}
use Rattle.nt_types.specs.TreeData.{TreeData, num, items, nothing}
use Rattle.nt_types.specs.TreeData as trees
use Rattle.nt_column.specs.Elements.{plain, text_of}
use Rattle.nt_plans.specs.Plan.{PlanData, number, maybe, list, text}
use Rattle.nt_plans.specs.PlanViews.{plan_view}
use Rattle.nt_plans.specs.declared.plan.Plan.{Plan}
use Rattle.nt_trees.specs.Columns.{Cols, number_at, begin_at}
use Rattle.nt_trees.specs.Integers.{integer_of}
use Rattle.nt_trees.specs.TreeAt.{only, trees_from}
use Rattle.nt_print.specs.Integers.{integer_trees}
use Rattle.nt_lines.specs.declared.lent.Lent.{Lent}
use Rattle.nt_lines.specs.declared.lent.Lent.TheVariants.{Numbers32, Numbers64, Options32, Options64, Lists32, Lists64}
use Rattle.nt_lines.specs.declared.lent.Lent.TheVariants.{OptionLists32, OptionLists64, Texts, Nothing}
use Rattle.nt_lines.specs.declared.lent.LentPlan.{LentPlan}

-- these are a plan of integers, and its column
pub record AreNumbersLent (p : PlanData) (cols : Cols) (words : List ℕ) (bits : ℕ) (signed : Bool) : Type 0 where
  pub column : ℕ
  pub plan : p ≡ number column bits signed
  pub words_are : map plain words ≡ cols column

-- a plan of optional integers, and its columns
pub record AreOptionsLent (p : PlanData) (cols : Cols) (ends words : List ℕ) (bits : ℕ) (signed : Bool) : Type 0 where
  pub ends_column : ℕ
  pub column : ℕ
  pub plan : p ≡ maybe ends_column (number column bits signed)
  pub ends_are : map plain ends ≡ cols ends_column
  pub words_are : map plain words ≡ cols column

-- a plan of lists of integers, and its columns
pub record AreListsLent (p : PlanData) (cols : Cols) (ends words : List ℕ) (bits : ℕ) (signed : Bool) : Type 0 where
  pub ends_column : ℕ
  pub column : ℕ
  pub plan : p ≡ list ends_column (number column bits signed)
  pub ends_are : map plain ends ≡ cols ends_column
  pub words_are : map plain words ≡ cols column

-- a plan of lists of optional integers, and its columns
pub record AreOptionListsLent (p : PlanData) (cols : Cols) (lists ends words : List ℕ) (bits : ℕ) (signed : Bool) : Type 0 where
  pub lists_column : ℕ
  pub items : PlanData
  pub plan : p ≡ list lists_column items
  pub lists_are : map plain lists ≡ cols lists_column
  pub options : AreOptionsLent items cols ends words bits signed

-- a plan of texts, and its columns
pub record AreTextsLent (p : PlanData) (cols : Cols) (ends bytes : List ℕ) : Type 0 where
  pub ends_column : ℕ
  pub column : ℕ
  pub plan : p ≡ text ends_column column
  pub ends_are : map plain ends ≡ cols ends_column
  pub bytes_are : map plain bytes ≡ cols column

-- the values of a plan are those that these words give
abbrev pub IsLentAs : PlanData → Cols → Lent → Type 0
IsLentAs p cols (Numbers32 words bits signed) = AreNumbersLent p cols words.now bits signed
IsLentAs p cols (Numbers64 words bits signed) = AreNumbersLent p cols words.now bits signed
IsLentAs p cols (Options32 ends words bits signed) = AreOptionsLent p cols ends.now words.now bits signed
IsLentAs p cols (Options64 ends words bits signed) = AreOptionsLent p cols ends.now words.now bits signed
IsLentAs p cols (Lists32 ends words bits signed) = AreListsLent p cols ends.now words.now bits signed
IsLentAs p cols (Lists64 ends words bits signed) = AreListsLent p cols ends.now words.now bits signed
IsLentAs p cols (OptionLists32 lists ends words bits signed) = AreOptionListsLent p cols lists.now ends.now words.now bits signed
IsLentAs p cols (OptionLists64 lists ends words bits signed) = AreOptionListsLent p cols lists.now ends.now words.now bits signed
IsLentAs p cols (Texts ends bytes) = AreTextsLent p cols ends.now bytes.now
IsLentAs p cols Nothing = ⊤

-- these are plans in order, each with what its columns lend
pub record AreLentAs (plans : List Plan) (cols : Cols) (ls : List LentPlan) : Type 0 where
  pub plans_are : map (λ (l : LentPlan). l.plan.now) ls ≡ plans
  pub each : All (λ (l : LentPlan). IsLentAs (plan_view l.plan.now) cols l.lent) ls

-- an element has its part of others, by the ends of the parts
pub record HasPart (ends : List ℕ) (len i : ℕ) : Type 0 where
  pub there : i < length ends
  pub order : begin_at (map plain ends) i ≤ number_at (map plain ends) i
  pub within : number_at (map plain ends) i ≤ len

-- that part
abbrev pub part_at : {A : Type 0} → List ℕ → List A → ℕ → List A
part_at ends words i = slice_range words (begin_at (map plain ends) i) (number_at (map plain ends) i)

-- an element has its list of optional integers, and each of these its own number or none
pub record HasOptions (lists ends : List ℕ) (len i : ℕ) : Type 0 where
  pub items : HasPart lists (length ends) i
  pub each : (j : ℕ) → j < number_at (map plain lists) i → HasPart ends len j

-- element i has a value here
abbrev pub HasValue : Lent → ℕ → Type 0
HasValue (Numbers32 words bits signed) i = i < length words.now
HasValue (Numbers64 words bits signed) i = i < length words.now
HasValue (Options32 ends words bits signed) i = HasPart ends.now (length words.now) i
HasValue (Options64 ends words bits signed) i = HasPart ends.now (length words.now) i
HasValue (Lists32 ends words bits signed) i = HasPart ends.now (length words.now) i
HasValue (Lists64 ends words bits signed) i = HasPart ends.now (length words.now) i
HasValue (OptionLists32 lists ends words bits signed) i = HasOptions lists.now ends.now (length words.now) i
HasValue (OptionLists64 lists ends words bits signed) i = HasOptions lists.now ends.now (length words.now) i
HasValue (Texts ends bytes) i = HasPart ends.now (length bytes.now) i
HasValue Nothing i = ⊤

-- an optional integer
abbrev pub option_tree : List ℕ → List ℕ → ℕ → Bool → ℕ → TreeData
option_tree ends words bits signed i =
    only (trees_from (λ (j : ℕ). num (integer_of bits signed (number_at (map plain words) j))) (begin_at (map plain ends) i)
    (number_at (map plain ends) i - begin_at (map plain ends) i))

-- a list of optional integers
abbrev pub options_tree : List ℕ → List ℕ → List ℕ → ℕ → Bool → ℕ → TreeData
options_tree lists ends words bits signed i =
    items (trees_from (option_tree ends words bits signed) (begin_at (map plain lists) i)
    (number_at (map plain lists) i - begin_at (map plain lists) i))

-- the value of element i
abbrev pub lent_tree : Lent → ℕ → TreeData
lent_tree (Numbers32 words bits signed) i = num (integer_of bits signed (number_at (map plain words.now) i))
lent_tree (Numbers64 words bits signed) i = num (integer_of bits signed (number_at (map plain words.now) i))
lent_tree (Options32 ends words bits signed) i = option_tree ends.now words.now bits signed i
lent_tree (Options64 ends words bits signed) i = option_tree ends.now words.now bits signed i
lent_tree (Lists32 ends words bits signed) i = items (integer_trees bits signed (part_at ends.now words.now i))
lent_tree (Lists64 ends words bits signed) i = items (integer_trees bits signed (part_at ends.now words.now i))
lent_tree (OptionLists32 lists ends words bits signed) i = options_tree lists.now ends.now words.now bits signed i
lent_tree (OptionLists64 lists ends words bits signed) i = options_tree lists.now ends.now words.now bits signed i
lent_tree (Texts ends bytes) i = trees.text (text_of (map plain (part_at ends.now bytes.now i)))
lent_tree Nothing i = nothing
