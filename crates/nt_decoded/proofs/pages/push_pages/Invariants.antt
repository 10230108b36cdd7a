use Rattle.std.proofs.Common.{◌≡◌, ◌≤◌, ℕ, List, drop, Some}
use Rattle.nt_decoded.specs.Windows.{IsSeenBy}
use Rattle.nt_decoded.specs.Pages.{column_with_pages, KeepsKind}
use Rattle.nt_decoded.proofs.pages.push_pages.Given as goal

-- the file serves, and the pages that are left, behind those so far, give what all give
abbrev pub invariant-loop-i : goal.invariant-loop-i
invariant-loop-i g l =
    let state = g.F.ReadAt.state in
    record {
      same : (state l.file).bytes ≡ (state l.initial.file).bytes;
      later : (state l.initial.file).faults ≤ (state l.file).faults;
      window : IsSeenBy (state l.file) l.window;
      grown : KeepsKind l.fn.column.column l.filled;
      read : (told : List ℕ) → (state l.initial.file).bytes ≡ Some told
          → column_with_pages l.of.cluster l.of.id l.pages l.fn.column.column told ≡ column_with_pages l.of.cluster l.of.id
          (drop l.i l.pages)
          l.filled told;
    }
