-- What the code keeps of an envelope.
use Rattle.std.specs.Prelude.{ℕ, ◌-◌, List, take, drop, length}
use Rattle.nt_file_meaning.specs.Envelopes as files
use Rattle.nt_file_meaning.specs.Envelopes.{Sealed}
use Rattle.nt_reader.specs.declared.envelope.Block.{Block}

-- an envelope's bytes without its first word and its checksum, and that checksum
abbrev pub opened_bytes : List ℕ → ℕ → Sealed
opened_bytes bytes sum = record { payload = drop 8 (take (length bytes - 8) bytes); sum = sum }

-- where a block stands
abbrev pub block_of : Block → files.Block
block_of block = record { place = block.place; size = block.size; len = block.len }
