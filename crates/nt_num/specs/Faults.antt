-- The reader's faults: their names, and words for making them.
use Rattle.std.specs.Prelude.{ℕ, ◌+◌, List, [], ◌∷◌, codes, slice_index_or}
use Rattle.nt_num.specs.declared.fault.ReadError.{ReadError}

-- the names by code; there is no fault 0
abbrev pub fault_names : List (List ℕ)
fault_names =
    codes "Unknown" ∷ codes "Unfinished" ∷
    codes "NotRoot" ∷
    codes "BadFileHeader" ∷
    codes "BadDirectory" ∷
    codes "BadKeyList" ∷
    codes "NoNTuple" ∷
    codes "BadAnchor" ∷
    codes "Epoch" ∷
    codes "Compressed" ∷
    codes "OutOfFile" ∷
    codes "BadEnvelope" ∷
    codes "BadFrame" ∷
    codes "FeatureFlags" ∷
    codes "BadField" ∷
    codes "BadColumn" ∷
    codes "HeaderMismatch" ∷
    codes "BadGroup" ∷
    codes "BadCluster" ∷
    codes "BadPageList" ∷
    codes "DeferredInside" ∷
    codes "BadPage" ∷
    codes "BadValue" ∷ []

-- the name of a code, or of none
abbrev pub name_of : ℕ → List ℕ
name_of code = slice_index_or fault_names code (codes "Unknown")

-- the fault of a code at a place; what the code doesn't use is 0
abbrev pub fault : ℕ → ℕ → ReadError
fault code at = record { code = code; at = at; cluster = 0; column = 0; element = 0; kept = 0; found = 0 }

-- the fault with its two values: what stands there, and what was found in its place
abbrev pub with_values : ℕ → ℕ → ReadError → ReadError
with_values kept found e = record e { kept = kept; found = found }

-- the fault, of which the place is counted from this one
abbrev pub moved : ℕ → ReadError → ReadError
moved place e = record e { at = place + e.at }
