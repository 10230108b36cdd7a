-- A finished file: the container's parts around parts of any contents.
use Rattle.std.specs.Prelude.{ℕ, ◌+◌, ◌<◌, ◌^◌, List, [], ◌∷◌, ◌++◌, length}
use Rattle.std.specs.List.{concat}
use Rattle.nt_container.specs.declared.anchor.Anchor.{Anchor}
use Rattle.nt_container.specs.Spelling.{header_part, record_part, anchor_part, key_list_part, free_list_part}

-- where the anchor stands behind parts of so many bytes
abbrev pub anchor_place : ℕ → ℕ
anchor_place n = 226 + n

-- where the list of keys stands behind the anchor
abbrev pub keys_place : ℕ → ℕ
keys_place n = 360 + n

-- where the list of free pieces stands behind that
abbrev pub free_place : ℕ → ℕ
free_place n = 473 + n

-- where the file ends
abbrev pub end_place : ℕ → ℕ
end_place n = 544 + n

-- header and record in front of so many bytes
abbrev pub parts_before : ℕ → List (List ℕ)
parts_before n = header_part (end_place n) (free_place n) ∷ record_part (keys_place n) ∷ []

-- anchor, list of keys and list of free pieces behind so many bytes
abbrev pub parts_behind : ℕ → Anchor → List (List ℕ)
parts_behind n a = anchor_part (anchor_place n) a ∷ key_list_part (keys_place n) (anchor_place n)
    ∷ free_list_part (free_place n) (end_place n) ∷ []

-- the parts of a file
abbrev pub file_parts : Anchor → List (List ℕ) → List (List ℕ)
file_parts a middle = parts_before (length (concat middle)) ++ (middle ++ parts_behind (length (concat middle)) a)

-- the file of these parts, of which the anchor says where header and footer stand
unfoldable pub finished_file : Anchor → List (List ℕ) → List ℕ
finished_file a middle = concat (file_parts a middle)

-- what an anchor can say
pub record IsAnchor (a : Anchor) : Type 0 where
  pub header : a.header < 2 ^ 64
  pub header_size : a.header_size < 2 ^ 64
  pub header_len : a.header_len < 2 ^ 64
  pub footer : a.footer < 2 ^ 64
  pub footer_size : a.footer_size < 2 ^ 64
  pub footer_len : a.footer_len < 2 ^ 64
