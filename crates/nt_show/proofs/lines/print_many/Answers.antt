use Rattle.std.proofs.Common.{sym, refl, subst, ℕ, List, append-nil}
use Rattle.nt_outside.specs.declared.stream.Stream.TheVariants.{ToOut}
use Rattle.nt_outside.specs.World.{PrintsFront}
use Rattle.nt_show.proofs.Gathering.{gathers_pushed, part_printed}
use Rattle.nt_show.proofs.lines.print_many.Goals as goal

pub returns-in_err-print_all-clause-part : goal.returns-in_err-print_all-clause-part
returns-in_err-print_all-clause-part g c =
    let front = subst (λ (l : List ℕ). PrintsFront ToOut l (g.H.Host.state c.args.host.now).world
    (g.H.Host.state c.print_all.new.host).world) c.deref.ensures.value c.print_all.ensures.front in
    part_printed _ _ _ _ c.args.waiting.now.items _
    (gathers_pushed _ _ _ c.args.waiting.now.items _ refl (sym (append-nil _))) front
