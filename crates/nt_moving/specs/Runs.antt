-- Numbers of a list that are elements of another column as they are.
use Rattle.std.specs.Prelude.{ℕ, ◌≡◌, ◌<◌, ◌^◌, Bool, true, List, length}
use Rattle.std.specs.List.{slice_range}
use Rattle.nt_types.specs.Spelling.{is_width}
use Rattle.nt_column.specs.Elements.{Element}
use Rattle.nt_column.specs.Words.{lent_elements, lent_width}
use Rattle.nt_column.specs.declared.words.WordSlice.{WordSlice}
use Rattle.nt_plans.specs.Plan.{PlanData, number}
use Rattle.nt_trees.specs.Columns.{Cols, number_at, tag_at}

-- elements are plain, and have no more than so many bits
abbrev pub AllHaveBits : ℕ → List Element → Type 0
AllHaveBits bits es = (i : ℕ) → i < length es → (number_at es i < 2 ^ bits) × (tag_at es i ≡ 0)

-- these numbers are the elements of a plan of integers from one place to before another, and the column of another such plan has
-- their width and sign
pub record IsLentRun (to from : PlanData) (cols : Cols) (at end column : ℕ) (words : WordSlice) : Type 0 where
  pub source : ℕ
  pub bits : ℕ
  pub signed : Bool
  pub to_is : to ≡ number column bits signed
  pub from_is : from ≡ number source bits signed
  pub width : lent_width words ≡ bits
  pub known : is_width bits ≡ true
  pub fit : AllHaveBits bits (lent_elements words)
  pub lent : lent_elements words ≡ slice_range (cols source) at end
