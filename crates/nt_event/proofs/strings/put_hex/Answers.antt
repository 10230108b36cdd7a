use Rattle.std.proofs.Common.{rules, ◌≡◌, ◌++◌, List, ℕ, ap, ◌∙◌}
use Rattle.json.specs.Print.{quoted}
use Rattle.hex.specs.Hex.{encode_lower}
use Rattle.nt_event.proofs.Prints.{hex_put}
use Rattle.nt_event.proofs.strings.put_hex.Goals as goal

pub returns-clause-ok : goal.returns-clause-ok
returns-clause-ok c =
    let s = c.args.bytes.now in
    let d : c.as_bytes.result.now ≡ encode_lower s = search (rules, c.as_bytes.ensures.value, c.in_ok-digits.ensures) in
    hex_put s c.args.out.now.items _ _ _ c.in_ok-extend_from_slice.ensures.items
    (c.in_ok-put_quoted.ensures.ok ∙ ap (λ (l : List ℕ). c.extend_from_slice.new.self.items ++ quoted l) d) c.in_ok-push.ensures.items
