use Rattle.std.proofs.Common.{◌≡◌, ◌∙◌, ap, sym, ℕ, List, [], ◌++◌, append-nil}
use Rattle.nt_show.proofs.Gathering.{pushed_then, pushed_in_part}
use Rattle.nt_show.proofs.lines.put_line.Goals as goal

-- one line behind what waits
one_line : (waiting one line : List ℕ) → one ≡ waiting ++ line → one ≡ waiting ++ (line ++ [])
one_line waiting one line is = is ∙ ap (λ (l : List ℕ). waiting ++ l) (sym (append-nil line))

pub returns-in_err-print_many-clause-part : goal.returns-in_err-print_many-clause-part
returns-in_err-print_many-clause-part g c =
    pushed_in_part _ _ _ c.args.waiting.now.items _ (one_line _ _ _ c.in_ok-write_line.ensures.ok) c.in_err-print_many.ensures.part

pub returns-clause-ok : goal.returns-clause-ok
returns-clause-ok g c =
    pushed_then _ _ _ c.args.waiting.now.items _ _ (one_line _ _ _ c.in_ok-write_line.ensures.ok) c.in_ok-print_many.ensures.ok

pub returns-clause-part : goal.returns-clause-part
returns-clause-part g c =
    pushed_in_part _ _ _ c.args.waiting.now.items _ (one_line _ _ _ c.in_ok-write_line.ensures.ok) c.in_ok-print_many.ensures.part
