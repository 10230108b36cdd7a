-- The files of a host in memory.
use Rattle.std.specs.Prelude.{ℕ, List, map, reverse, Option}
use Rattle.std.specs.Option.{option_map}
use Rattle.std.specs.String.{string_bytes}
use Rattle.std.specs.FinMap as fin
use Rattle.nt_outside.specs.World.{Files, Stored}
use Rattle.nt_disk_log.specs.Logged.{steps_of}
use Rattle.nt_memory.specs.declared.named.NamedFile.{NamedFile}

-- what stands there
abbrev pub kept : NamedFile → Stored
kept f = record { bytes = f.bytes.items; log = option_map steps_of f.log }

-- its name, and what stands there
abbrev pub entry : NamedFile → List ℕ × Stored
entry f = (string_bytes f.name, kept f)

-- of files of one name the last counts
abbrev pub files_of : List NamedFile → Files
files_of files = fin.from_entries (map entry (reverse files))

-- what stands under a name
abbrev pub stored_in : List NamedFile → List ℕ → Option Stored
stored_in files name = fin.get (files_of files) name
