use Rattle.std.proofs.Common.{◌≡◌, ℕ, ◌*◌, ◌^◌, ◌≤◌, List, take, Some}
use Rattle.nt_format.specs.Pieces.{window}
use Rattle.nt_tfile.proofs.window.read_window.Given as goal

-- the file serves, and where it tells its bytes, the pieces so far are the window's front
abbrev pub invariant-loop-i : goal.invariant-loop-i
invariant-loop-i g l =
    let state = g.F.ReadAt.state in
    record {
      same : (state l.file).bytes ≡ (state l.initial.file).bytes;
      later : (state l.initial.file).faults ≤ (state l.file).faults;
      read : (told : List ℕ) → (state l.initial.file).bytes ≡ Some told → l.bytes.items ≡ take (l.i * 2 ^ 20) (window l.count told l.at);
    }
