-- The head of a list frame in its place.
use Rattle.std.proofs.Common.{◌∙◌, ◌≡◌, ◌≤◌, ◌+◌, ◌-◌, ◌++◌, ℕ, Option, ap, sym, subst, length, take, drop, vec_len, arith}
use Rattle.nt_frame.specs.Writing.{frame}
use Rattle.nt_frame.specs.Marks.{head_len}
use Rattle.nt_frame.proofs.Heads.{put_at-list}
use Rattle.nt_frame.proofs.parts.put_head.Goals as goal

pub returns-in-Some : goal.returns-in-Some
returns-in-Some c =
    let at : ℕ = c.args.mark.at in
    let room_len : c.args.mark.at + 12 ≤ vec_len c.args.out.now =
    subst (λ (k : Option ℕ). c.args.mark.at + head_len k ≤ vec_len c.args.out.now) c.in-Some.is c.requires in
    let room : c.args.mark.at + 12 ≤ length c.args.out.now.items = omega (arith, room_len, c.args.out.now.ok.0) in
    let size_is : c.len.result - c.args.mark.at ≡ length c.args.out.now.items - c.args.mark.at =
    omega (arith, c.len.ensures, c.args.out.now.ok.0) in
    c.replace-in-Some.ensures
    ∙ put_at-list c.args.out.now.items c.list_head.result at (c.len.result - at) c.in-Some.count room size_is c.list_head.ensures
    ∙ ap (λ (k : Option ℕ). take at c.args.out.now.items ++ frame k (drop (at + head_len k) c.args.out.now.items)) (sym c.in-Some.is)
