-- What a sweep over a column finds.
use Rattle.std.specs.Prelude.{ℕ, suc, ◌+◌, ◌-◌, ◌≡◌, ◌==◌, ◌<◌, ◌≤◌, true, false, if◌then◌else◌, List, length, get_or, take}
use Rattle.nt_column.specs.Elements.{Element}
use Rattle.nt_trees.specs.Columns.{number_at, tag_at, count_tag}
use Rattle.nt_trees.specs.Faults.{Demand, tagged, is_met}

-- the first element that isn't as it must be, or the number of elements
pub record IsFirstUnmet (d : Demand) (es : List Element) (first : ℕ) : Type 0 where
  pub within : first ≤ length es
  pub before : (i : ℕ) → i < first → is_met d es i ≡ true
  pub unmet : first < length es → is_met d es first ≡ false

-- the index of element i is the count of its tag, if its tag is above the one number and not above the other
abbrev pub CountsBetween : ℕ → ℕ → List Element → ℕ → Type 0
CountsBetween low high es i = low < tag_at es i → tag_at es i ≤ high → number_at es i ≡ count_tag (tag_at es i) (take i es)

-- how many of the elements have each of the tags behind so many
abbrev pub HasCounts : ℕ → List Element → List ℕ → Type 0
HasCounts low es counts = (t : ℕ) → t < length counts → get_or counts t 0 ≡ count_tag (low + suc t) es

-- a sweep over a Switch for some tags: the first element whose tag is too high or, of these tags, whose index isn't its count
pub record IsFirstOfTags (most low high : ℕ) (es : List Element) (first : ℕ) : Type 0 where
  pub within : first ≤ length es
  pub tags : (i : ℕ) → i < first → tag_at es i ≤ most
  pub indices : (i : ℕ) → i < first → CountsBetween low high es i
  pub unmet : first < length es → is_met (tagged most) es first ≡ false

-- one element more is counted, if its tag is one of those behind so many
pub record CountsOne (low tag : ℕ) (old new : List ℕ) : Type 0 where
  pub same : length new ≡ length old
  pub each : (t : ℕ) → t < length old → get_or new t 0 ≡ get_or old t 0 + (if tag == low + suc t then 1 else 0)

-- an element with this tag and index may follow those that are counted: the tag isn't too high, and if it is one of those behind so
-- many, the index is its count
pub record IsNext (most low : ℕ) (counts : List ℕ) (tag index : ℕ) : Type 0 where
  pub tag_fits : tag ≤ most
  pub index_counts : low < tag → tag ≤ low + length counts → index ≡ get_or counts (tag - low - 1) 0
