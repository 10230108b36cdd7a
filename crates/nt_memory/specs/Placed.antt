-- The steps of a disk that wrote a file.
use Rattle.std.specs.Prelude.{Option, Some, None}
use Rattle.std.specs.Coded.{Unit-prop}
use Rattle.nt_disk_log.specs.declared.log.Log.{Log}
use Rattle.nt_disk_log.specs.Logged.{steps_of}
use Rattle.nt_disk_log.specs.Left.{AreInside, AreInside-prop}

-- where a disk wrote it, its steps lie inside the file
abbrev pub ArePlaced : Option Log → Type 0
ArePlaced None = Unit {0}
ArePlaced (Some log) = AreInside 0 (steps_of log)

-- that they do is told in one way
pub ArePlaced-prop : (log : Option Log) → IsProp (ArePlaced log)
ArePlaced-prop None = Unit-prop
ArePlaced-prop (Some log) = AreInside-prop 0 (steps_of log)
