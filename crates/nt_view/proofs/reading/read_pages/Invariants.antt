use Rattle.std.proofs.Common.{◌≡◌, ◌≤◌, ℕ, List, take, Some}
use Rattle.nt_view.specs.Loads.{pages_found}
use Rattle.nt_view.specs.Stores.{taken_bytes, lens_of, IsSeen}
use Rattle.nt_view.proofs.Taking.{left_of}
use Rattle.nt_view.proofs.reading.read_pages.Given as goal

-- the file serves, and the pages that are left, behind those so far, give what all give
abbrev pub invariant-loop-i : goal.invariant-loop-i
invariant-loop-i g l =
    let state = g.F.ReadAt.state in
    record {
      same : (state l.file).bytes ≡ (state l.initial.file).bytes;
      later : (state l.initial.file).faults ≤ (state l.file).faults;
      seen : IsSeen (state l.initial.file).bytes l.size l.store;
      count : l.store.taken ≡ lens_of (take l.i l.pages);
      read : (told : List ℕ) → (state l.initial.file).bytes ≡ Some told
          → pages_found told 0 l.pages ≡ left_of told l.i l.pages (taken_bytes l.store);
    }
