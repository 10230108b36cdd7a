-- The cluster groups of a footer read from bytes (RNTuple Binary Format Specification 1.0.0.0, section Cluster Group Record Frame).
use Rattle.std.specs.Prelude.{ℕ, zero, suc, ◌+◌, ◌^◌, ◌==◌, List, [], ◌∷◌, ◌++◌, nat_le, nat_lt, if◌then◌else◌, Result, Ok, Err}
use Rattle.std.specs.Int.{w32, w64}
use Rattle.nt_num.specs.Place.{At}
use Rattle.nt_num.specs.Cursor.{little}
use Rattle.nt_num.specs.Codes.{bad_group}
use Rattle.nt_num.specs.Faults.{fault}
use Rattle.nt_num.specs.declared.fault.ReadError.{ReadError}
use Rattle.nt_lists.specs.Chaining.{◌>>=◌}
use Rattle.nt_format.specs.Reading.{placed}
use Rattle.nt_format.specs.Frames.{record_at, list_at}
use Rattle.nt_format.specs.declared.locator.Link.{Link}
use Rattle.nt_pagelists.specs.declared.group.Group.{Group}

-- the first entry of a group, which so many entries come before; its frame begins at that place
unfoldable pub minimum_entry_at : ℕ → ℕ → At → Result (ℕ × At) ReadError
minimum_entry_at entries frame here = do
  word ← placed (little w64 here)
  if word.0 == entries then Ok word else Err (fault bad_group frame)

-- the number of its entries
unfoldable pub entry_span_at : ℕ → ℕ → At → Result (ℕ × At) ReadError
entry_span_at entries frame here = do
  word ← placed (little w64 here)
  if nat_lt (entries + word.0) (2 ^ 64) then Ok word else Err (fault bad_group frame)

-- the number of its clusters, which so many clusters come before
unfoldable pub cluster_count_at : ℕ → ℕ → At → Result (ℕ × At) ReadError
cluster_count_at clusters frame here = do
  word ← placed (little w32 here)
  if nat_lt (clusters + word.0) (2 ^ 32) then Ok word else Err (fault bad_group frame)

-- the link to its page list, by a simple locator
unfoldable pub group_link_at : ℕ → At → Result (Link × At) ReadError
group_link_at frame here = do
  long ← placed (little w64 here)
  size ← placed (little w32 long.1)
  place ← (if nat_le (2 ^ 31) size.0 then Err (fault bad_group frame) else placed (little w64 size.1))
  Ok (record { length = long.0; at = record { size = size.0; place = place.0 } }, place.1)

-- the group whose record frame begins here
unfoldable pub group_at : ℕ → ℕ → At → Result (Group × At) ReadError
group_at entries clusters here = do
  frame ← placed (record_at here)
  first ← minimum_entry_at entries here.place frame.0
  span ← entry_span_at entries here.place first.1
  count ← cluster_count_at clusters here.place span.1
  link ← group_link_at here.place count.1
  Ok (record { first = first.0; span = span.0; clusters = count.0; link = link.0 }, frame.1)

-- so many groups behind these, which have so many entries and clusters
abbrev pub groups_on : ℕ → ℕ → ℕ → List Group → At → Result (List Group × At) ReadError
groups_on zero entries clusters gs here = Ok (gs, here)
groups_on (suc n) entries clusters gs here =
    group_at entries clusters here >>= λ g. groups_on n (entries + g.0.span) (clusters + g.0.clusters) (gs ++ g.0 ∷ []) g.1

-- the list of groups
unfoldable pub groups_at : At → Result (List Group × At) ReadError
groups_at here = do
  list ← placed (list_at here)
  gs ← groups_on list.0.0 0 0 [] list.0.1
  Ok (gs.0, list.1)
