-- What a host holds, what it was asked for, and what each call does to that.
use Rattle.std.specs.Prelude.{◌≡◌, ◌⊎◌, ℕ, ◌+◌, ◌-◌, ◌<◌, ◌≤◌, List, [], ◌∷◌, ◌++◌, length, take, Option, Some, None, Result, OnOk, OnErr}
use Rattle.std.specs.Prelude.{IfOk, IsSome, IsErrOf}
use Rattle.std.specs.Option.{option_map}
use Rattle.std.specs.Ordering.{nat_cmp}
use Rattle.std.specs.Cmp.Lexicographic.{slice_cmp}
use Rattle.std.specs.FinMap as map
use Rattle.std.specs.String.{string_bytes}
use Rattle.nt_outside.specs.declared.fault.Failed.{Failed}
use Rattle.nt_outside.specs.declared.fault.Refused.{Refused}
use Rattle.nt_outside.specs.declared.fault.Refused.TheVariants as refused
use Rattle.nt_outside.specs.declared.asked.Kind.{Kind}
use Rattle.nt_outside.specs.declared.asked.Kind.TheVariants as kind
use Rattle.nt_outside.specs.declared.asked.Ask.{Ask}
use Rattle.nt_outside.specs.declared.stream.Stream.{Stream}
use Rattle.nt_outside.specs.declared.stream.Stream.TheVariants.{ToOut, ToErr}
use Rattle.nt_outside.specs.Faults.{HasCause, RoseOnFailed, TakesIn}
use Rattle.nt_outside.specs.Source.{SourceState}
use Rattle.nt_outside.specs.File.{FileState}
use Rattle.nt_outside.specs.Log.{Step}
use Rattle.nt_outside.specs.Held.{Held, WhereHeld, nothing_held}
use Rattle.nt_outside.specs.Disk.{DiskState}

-- what a host was asked for: a text to read once, a file to read at any place, or a disk to write
pub data Asked : Type 0 where
  Text : List ℕ → Asked
  File : List ℕ → Asked
  Out : List ℕ → Asked

-- an object of this kind and name
abbrev pub asked_as : Kind → List ℕ → Asked
asked_as kind.Text name = Text name
asked_as kind.File name = File name
asked_as kind.Out name = Out name

-- what a host keeps of that
abbrev pub asked_of : Ask → Asked
asked_of a = asked_as a.kind (string_bytes a.name)

-- what stands under a name: its bytes, and the steps of the disk that put them there, if one did
pub record Stored : Type 0 where
  pub bytes : List ℕ
  pub log : Option (List Step)

abbrev pub Files : Type 0
Files = map.FinMap (slice_cmp nat_cmp) Stored

pub record World : Type 0 where
  pub files : Files
  pub out : List ℕ
  pub err : List ℕ
  -- the name of the disk that was created last and hasn't come back
  pub creating : Option (List ℕ)
  -- the names whose disks were made, in order
  pub created : List (List ℕ)

pub record HostState : Type 0 where
  -- what the host holds, where it tells it
  pub world : Option World
  -- what it was asked for, in order
  pub asked : List Asked
  -- how often the host, or an object that came back, has failed; prints on err apart
  pub faults : ℕ
  -- how often a print on err has failed
  pub err_faults : ℕ
  -- how many objects it opened that haven't come back
  pub opened : ℕ

-- what stands under a name
abbrev pub stored : World → List ℕ → Option Stored
stored w name = map.get w.files name

-- the bytes under a name
abbrev pub file : World → List ℕ → Option (List ℕ)
file w name = option_map (λ (s : Stored). s.bytes) (stored w name)

abbrev pub creates : List ℕ → World → World
creates name w = record w { creating = Some name; created = w.created ++ name ∷ [] }

abbrev pub keeps_disk : List ℕ → Held → World → World
keeps_disk name h w =
    record w { files = map.insert w.files name (record { bytes = h.image; log = Some h.log }); creating = None }

abbrev pub prints : Stream → List ℕ → World → World
prints ToOut bytes w = record w { out = w.out ++ bytes }
prints ToErr bytes w = record w { err = w.err ++ bytes }

-- the host becomes this, where it tells what it holds
abbrev pub Turns : Option World → Option World → (World → World) → Type 0
Turns old new step = (w : World) → old ≡ Some w → new ≡ Some (step w)

-- an object was asked for, whatever the answer; where the memory for its name was wanting, maybe not
pub record Asks {T : Type 0} (object : Asked) (old new : HostState) (result : Result T Refused) : Type 0 where
  pub ok : OnOk result (new.asked ≡ old.asked ++ object ∷ [])
  pub failed : IsErrOf result refused.Failed → new.asked ≡ old.asked ++ object ∷ []
  pub memory : IsErrOf result refused.Memory → (new.asked ≡ old.asked) ⊎ (new.asked ≡ old.asked ++ object ∷ [])
  pub cause : RoseOnFailed old.faults new.faults result
  pub err_faults : new.err_faults ≡ old.err_faults
  pub opened : OnOk result (new.opened ≡ old.opened + 1)
  pub refused : OnErr result (new.opened ≡ old.opened)

-- a text or a file is opened: nothing that the host holds changes
pub record Opens {T : Type 0} (object : Asked) (old new : HostState) (result : Result T Refused) : Type 0 where
  pub asks : Asks object old new result
  pub world : new.world ≡ old.world

-- a disk is made for a name, whose bytes stay until the disk comes back; while one is out, no other is made
pub record Creates {T : Type 0} (name : List ℕ) (old new : HostState) (result : Result T Refused) : Type 0 where
  pub asks : Asks (Out name) old new result
  pub alone : OnOk result ((w : World) → old.world ≡ Some w → w.creating ≡ None)
  pub ok : OnOk result (Turns old.world new.world (creates name))
  pub err : OnErr result (new.world ≡ old.world)

-- a text just opened has the whole bytes of its name
pub record IsOpenText (world : Option World) (name : List ℕ) (text : SourceState) : Type 0 where
  pub left : (w : World) → world ≡ Some w → IsSome (file w name) × (text.left ≡ file w name)
  pub faults : text.faults ≡ 0

-- a file just opened has the bytes of its name
pub record IsOpenFile (world : Option World) (name : List ℕ) (opened : FileState) : Type 0 where
  pub bytes : (w : World) → world ≡ Some w → IsSome (file w name) × (opened.bytes ≡ file w name)
  pub faults : opened.faults ≡ 0

-- a disk just made is empty, and tells so where the host tells what it holds
pub record IsNewDisk (world : Option World) (disk : DiskState) : Type 0 where
  pub held : (w : World) → world ≡ Some w → disk.held ≡ Some nothing_held
  pub empty : WhereHeld disk.held (λ h. h ≡ nothing_held)
  pub end : disk.end ≡ 0
  pub out : disk.out ≡ []
  pub faults : disk.faults ≡ 0

-- an object came back, and its faults are the host's from now on
pub record TakesBack (faults : ℕ) (old new : HostState) : Type 0 where
  pub asked : new.asked ≡ old.asked
  pub faults_taken : TakesIn old.faults new.faults faults
  pub err_faults : new.err_faults ≡ old.err_faults
  pub opened : new.opened ≡ old.opened - 1

-- a disk came back: its name has the bytes that stand there, and its steps
pub record KeepsDisk (disk : DiskState) (old new : HostState) : Type 0 where
  pub back : TakesBack disk.faults old new
  pub world : (name : List ℕ) (h : Held) (w : World) → old.world ≡ Some w → w.creating ≡ Some name → disk.held ≡ Some h
      → new.world ≡ Some (keeps_disk name h w)

-- the count of failures on a stream: those on out are among the host's faults
abbrev pub counted : Stream → HostState → ℕ
counted ToOut host = host.faults
counted ToErr host = host.err_faults

-- the count that prints on a stream leave
abbrev pub uncounted : Stream → HostState → ℕ
uncounted ToOut host = host.err_faults
uncounted ToErr host = host.faults

-- a stream took the front of a piece, or nothing after a failure
pub record Prints (stream : Stream) (piece : List ℕ) (old new : HostState) (result : Result ℕ Failed) : Type 0 where
  pub count : IfOk result (λ n. (0 < n) × (n ≤ length piece))
  pub ok : IfOk result (λ n. Turns old.world new.world (prints stream (take n piece)))
  pub err : OnErr result (new.world ≡ old.world)
  pub asked : new.asked ≡ old.asked
  pub cause : HasCause (counted stream old) (counted stream new) result
  pub other : uncounted stream new ≡ uncounted stream old
  pub opened : new.opened ≡ old.opened

-- a stream took the front of these bytes
abbrev pub PrintsFront : Stream → List ℕ → Option World → Option World → Type 0
PrintsFront stream bytes old new =
    (w : World) → old ≡ Some w → (n : ℕ) × (n ≤ length bytes) × (new ≡ Some (prints stream (take n bytes) w))

-- a stream took all of these bytes, or their front after a failure
pub record PrintsAll (stream : Stream) (bytes : List ℕ) (old new : HostState) (result : Result Unit Failed) : Type 0 where
  pub ok : OnOk result (Turns old.world new.world (prints stream bytes))
  pub front : PrintsFront stream bytes old.world new.world
  pub asked : new.asked ≡ old.asked
  pub cause : HasCause (counted stream old) (counted stream new) result
  pub other : uncounted stream new ≡ uncounted stream old
  pub opened : new.opened ≡ old.opened
