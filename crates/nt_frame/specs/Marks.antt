-- Frames that are begun, as the bytes written so far and a mark for each.
use Rattle.std.specs.Prelude.{ℕ, ◌+◌, ◌≤◌, List, [], ◌∷◌, take, drop, Option, Some, None}
use Rattle.nt_frame.specs.declared.writing.Mark.{Mark}
use Rattle.nt_frame.specs.Writing.{Written}

-- how many bytes of a frame stand before its inside
abbrev pub head_len : Option ℕ → ℕ
head_len None = 8
head_len (Some count) = 12

-- what the marks say of the bytes; the mark of the frame that was begun last comes first
abbrev pub marked : List Mark → List ℕ → Written
marked [] out = record { inside = out; frames = [] }
marked (m ∷ marks) out =
    record {
      inside = drop (m.at + head_len m.count) out;
      frames = record { count = m.count; before = (marked marks (take m.at out)).inside } ∷ (marked marks (take m.at out)).frames;
    }

-- each frame begins behind the head of the one that it is in
abbrev pub AreMarks : List Mark → ℕ → Type 0
AreMarks [] len = Unit {0}
AreMarks (m ∷ marks) len = (m.at + head_len m.count ≤ len) × AreMarks marks m.at
