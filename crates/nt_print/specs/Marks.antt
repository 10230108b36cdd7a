-- What stands round the values of an array.
use Rattle.std.specs.Prelude.{ℕ, Bool, true, false, List, [], ◌∷◌, if◌then◌else◌}
use Rattle.serde_json.specs.Written.{items_text}
use Rattle.nt_types.specs.TreeData.{TreesData}
use Rattle.nt_event.specs.Json.{datas_of}

-- what stands in front of a value: a comma behind others, the bracket of the first
abbrev pub mark_before : Bool → ℕ
mark_before later = if later then 44 else 91

-- what stands behind the last value, or where there is none
abbrev pub end_of : Bool → List ℕ
end_of later = if later then 93 ∷ [] else 91 ∷ 93 ∷ []

-- what stands behind some values of an array, with its bracket where there are none
abbrev pub rest_text : Bool → TreesData → List ℕ
rest_text later ts = if later then items_text true (datas_of ts) else 91 ∷ items_text false (datas_of ts)
