-- The entries and fields that are chosen of a file.
use Rattle.std.specs.Prelude.{ℕ, ◌+◌, ◌≡◌, ℤ, int_le, Bool, true, false, ◌&&◌, List, [], ◌∷◌, ◌++◌, map, filter, Option, Some, None}
use Rattle.std.specs.Prelude.{Result, Ok, Err}
use Rattle.nt_lists.specs.Chaining.{◌>>=◌}
use Rattle.nt_num.specs.declared.fault.ReadError.{ReadError}
use Rattle.nt_types.specs.ShapeData.{MemberData, parts_of}
use Rattle.nt_types.specs.TreeData.{TreesData}
use Rattle.nt_types.specs.Fits.{fit_parts}
use Rattle.nt_grammar.specs.Table.{Table}
use Rattle.nt_trees.specs.Fits.{fits_entry}
use Rattle.nt_join.specs.Chosen.{tree_in, chosen, number_in}
use Rattle.nt_pagelists.specs.declared.cluster.ClusterList.{ClusterList}
use Rattle.nt_file_meaning.specs.Outlines.{Outline}
use Rattle.nt_file_meaning.specs.Clusters.{cluster_of}
use Rattle.nt_types.specs.Views.{members_view}
use Rattle.nt_skim.specs.declared.selection.PlaceTest.{PlaceTest}
use Rattle.nt_skim.specs.declared.selection.SkimPlan.{SkimPlan}

-- what is chosen: the places of the trees, the test of the entries, if there is one, and the fields that the chosen trees fit
pub record Selection : Type 0 where
  pub places : List ℕ
  pub test : Option PlaceTest
  pub fields : List MemberData

-- what a plan chooses
abbrev pub selection_of : SkimPlan → Selection
selection_of p = record { places = p.places.items; test = p.test; fields = members_view p.fields }

-- a number lies in the range of a test
abbrev pub lies_in : PlaceTest → Option ℤ → Bool
lies_in test None = false
lies_in test (Some z) = int_le test.least z && int_le z test.greatest

-- an entry passes a test; without one each does
abbrev pub passes : Option PlaceTest → TreesData → Bool
passes None entry = true
passes (Some test) entry = lies_in test (number_in (tree_in entry test.place))

-- of the entries that pass, the chosen trees
abbrev pub selected : Selection → List TreesData → List TreesData
selected s entries = map (chosen s.places) (filter (passes s.test) entries)

-- the chosen trees of what fits the open fields of a schema fit the fields of the selection
abbrev pub FitsFields : Table → Selection → Type 0
FitsFields t s = (e : TreesData) → fits_entry t e ≡ true → fit_parts (parts_of s.fields) (chosen s.places e) ≡ true

-- what clusters are read as, whose numbers go on from this one
abbrev pub readings_from : List ℕ → Table → ℕ → List ClusterList → List (Result (List TreesData) ReadError)
readings_from file t number [] = []
readings_from file t number (k ∷ ks) = cluster_of file t number k ∷ readings_from file t (number + 1) ks

-- what the clusters of an outline are read as
abbrev pub cluster_readings : List ℕ → Outline → List (Result (List TreesData) ReadError)
cluster_readings file o = readings_from file o.table 0 o.clusters

-- the entries of clusters that are read one after the other, or the first fault
abbrev pub entries_read : List (Result (List TreesData) ReadError) → Result (List TreesData) ReadError
entries_read [] = Ok []
entries_read (r ∷ rs) = r >>= λ first. entries_read rs >>= λ others. Ok (first ++ others)

-- the entries before the first fault
abbrev pub before_fault : List (Result (List TreesData) ReadError) → List TreesData
before_fault [] = []
before_fault (Err e ∷ rs) = []
before_fault (Ok es ∷ rs) = es ++ before_fault rs
