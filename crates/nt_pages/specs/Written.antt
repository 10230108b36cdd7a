-- What is written of an image.
use Rattle.std.specs.Prelude.{ℕ, List, take}
use Rattle.nt_pages.specs.declared.partial.PartialImage.{PartialImage}

-- the bytes that are written
abbrev pub written_bytes : PartialImage → List ℕ
written_bytes p = take p.len p.bytes.items
