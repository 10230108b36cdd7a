use Rattle.std.proofs.Common.{◌≡◌, ◌≤◌, ℕ, List, Some}
use Rattle.nt_outside.specs.World.{HostState}
use Rattle.nt_outside.specs.File.{FileState}
use Rattle.nt_file_meaning.specs.Outlines.{Outline}
use Rattle.nt_show.specs.declared.entry_range.EntryRange.{EntryRange}
use Rattle.nt_show.specs.Gathering.{OnlyPrints}
use Rattle.nt_show.proofs.Listing.{IsListing}
use Rattle.nt_show.proofs.entries.put_clusters.Given as goal

-- the clusters before this one were listed
pub record HasListed (o : Outline) (range : EntryRange) (k : ℕ) (left : EntryRange) (old : HostState) (waiting : List ℕ)
    (new : HostState) (behind-it : List ℕ) (file file' : FileState) : Type 0 where
  pub told : (b : List ℕ) → file.bytes ≡ Some b → IsListing b o range k left old.world waiting new.world behind-it
  pub bytes : file'.bytes ≡ file.bytes
  pub later : old.faults ≤ new.faults
  pub file_later : file.faults ≤ file'.faults
  pub rest : OnlyPrints old new

abbrev pub invariant-loop-k : goal.invariant-loop-k
invariant-loop-k g l =
    HasListed l.reader l.fn.pending.range l.k l.pending.range (g.H.Host.state l.initial.host) l.initial.pending.waiting.items
    (g.H.Host.state l.host) l.pending.waiting.items (g.F.ReadAt.state l.initial.file) (g.F.ReadAt.state l.file)
