-- Writing frames inside frames (RNTuple Binary Format Specification 1.0.0.0, section Frames).
use Rattle.std.specs.Prelude.{ℕ, List, [], ◌∷◌, ◌++◌, Option, Some, None}
use Rattle.nt_format.specs.Frames.{record_frame, list_frame}

-- a frame that is begun: a list of so many items, or a record; and what stands before it in the frame that it is in, or before all frames
pub record Begun : Type 0 where
  pub count : Option ℕ
  pub before : List ℕ

-- what is inside the frame that was begun last, or all bytes where none is begun; and the frames that are begun, the last first
pub record Written : Type 0 where
  pub inside : List ℕ
  pub frames : List Begun

-- these bytes are written behind the others
abbrev pub bytes_added : List ℕ → Written → Written
bytes_added bytes w = record { inside = w.inside ++ bytes; frames = w.frames }

-- a frame is begun, with nothing in it
abbrev pub frame_begun : Option ℕ → Written → Written
frame_begun count w = record { inside = []; frames = record { count = count; before = w.inside } ∷ w.frames }

-- a record frame, or a list frame of so many items
abbrev pub frame : Option ℕ → List ℕ → List ℕ
frame None inside = record_frame inside
frame (Some count) inside = list_frame count inside

-- the frame that was begun last becomes bytes of the frame that it is in
abbrev pub finished_in : List Begun → List ℕ → Written
finished_in [] inside = record { inside = inside; frames = [] }
finished_in (f ∷ frames) inside = record { inside = f.before ++ frame f.count inside; frames = frames }

-- the same, of all that is written
abbrev pub frame_finished : Written → Written
frame_finished w = finished_in w.frames w.inside
