use Rattle.std.proofs.Common.{◌≡◌, ◌<◌, length, rules}
use Rattle.nt_store.proofs.Back.{first_back, nothing_left}
use Rattle.nt_merge_files.specs.Files.{as_text}
use Rattle.nt_merge_files.proofs.opening.return_files.Goals as goal

pub loop-host-preserved : goal.loop-host-preserved
loop-host-preserved g c = λ new others.
    let some : 0 < length c.loop-host.files.items = search rules in
    c.loop-host.invariant new (first_back (λ f. as_text (g.H.File.ReadAt.state f)) c.loop-host.files.items c.remove.new.self.items
    c.remove.result _ _ new some c.remove.ensures.value c.remove.ensures.items c.return_file.ensures.back c.return_file.ensures.world
    others)

pub returns : goal.returns
returns g c =
    let none : length c.loop-host.files.items ≡ 0 = search rules in
    c.loop-host.invariant _ (nothing_left (λ f. as_text (g.H.File.ReadAt.state f)) c.loop-host.files.items _ none)
