-- Bytes of a file that were read at once, and the pages in them.
use Rattle.std.specs.Prelude.{ℕ, ◌≡◌, ◌+◌, ◌-◌, ◌≤◌, ◌⊎◌, List, length, take, drop, min, Option, Some, Result}
use Rattle.nt_num.specs.declared.fault.ReadError.{ReadError}
use Rattle.nt_format.specs.Demands.{found_or}
use Rattle.nt_format.specs.Pieces.{piece}
use Rattle.nt_outside.specs.File.{FileState}
use Rattle.nt_tfile.specs.Calls.{HasSize}
use Rattle.nt_pagelists.specs.declared.page.PageItem.{PageItem}
use Rattle.nt_file_meaning.specs.Clusters.{stored_len}
use Rattle.nt_decoded.specs.declared.window.Window.{Window}

-- the bytes of a window
abbrev pub held : Window → List ℕ
held w = take w.len w.bytes.items

-- the window has bytes of the file, where the file tells them
abbrev pub IsWindowOf : FileState → Window → Type 0
IsWindowOf file w = (told : List ℕ) → file.bytes ≡ Some told → piece told w.at (length (held w)) ≡ Some (held w)

-- a file is read through the window, which knows its size
pub record IsSeenBy (file : FileState) (w : Window) : Type 0 where
  pub sized : HasSize file w.size
  pub has : IsWindowOf file w

-- the page lies in the window, with its checksum
pub record LiesIn (p : PageItem) (w : Window) : Type 0 where
  pub behind : w.at ≤ p.place
  pub before : p.place + stored_len p ≤ w.at + length (held w)

-- its bytes there
abbrev pub window_bytes : Window → PageItem → List ℕ
window_bytes w p = take (stored_len p) (drop (p.place - w.at) (held w))

-- the bytes of a page with its checksum have to lie in the file
abbrev pub found_page : ReadError → PageItem → List ℕ → Result (List ℕ) ReadError
found_page outside p file = found_or outside (piece file p.place (stored_len p))

-- so many bytes are read for the page: its own alone, or more that all lie in a file of this size
pub record IsReadAtOnce (p : PageItem) (size len : ℕ) : Type 0 where
  pub first : stored_len p ≤ len
  pub inside : (len ≡ stored_len p) ⊎ (p.place + len ≤ size)

-- of so many bytes of a file from a place on, as many as are there stand in front
abbrev pub IsReadToFront : Option (List ℕ) → ℕ → ℕ → ℕ → List ℕ → Type 0
IsReadToFront file at len n bytes = (told : List ℕ) → file ≡ Some told
    → (n ≡ min len (length told - at)) × (take n bytes ≡ take n (drop at told))
