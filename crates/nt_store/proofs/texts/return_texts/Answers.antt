use Rattle.std.proofs.Common.{◌≡◌, ◌<◌, length, rules}
use Rattle.nt_store.proofs.Back.{first_back, nothing_left}
use Rattle.nt_store.proofs.texts.return_texts.Goals as goal

pub loop-host-preserved : goal.loop-host-preserved
loop-host-preserved g c = λ new others.
    let some : 0 < length c.loop-host.texts.items = search rules in
    c.loop-host.invariant new (first_back g.H.Text.Source.state c.loop-host.texts.items c.remove.new.self.items c.remove.result _ _ new
    some c.remove.ensures.value c.remove.ensures.items c.return_text.ensures.back c.return_text.ensures.world others)

pub returns : goal.returns
returns g c =
    let none : length c.loop-host.texts.items ≡ 0 = search rules in
    c.loop-host.invariant _ (nothing_left g.H.Text.Source.state c.loop-host.texts.items _ none)
