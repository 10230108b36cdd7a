use Rattle.std.proofs.Common.{◌≡◌, ◌∙◌, ap, ℕ, List, min, take, length, codes, arith}
use Rattle.std.specs.Str.{bytes_eq}
use Rattle.std.proofs.lemmas.List.{take_min}
use Rattle.nt_open.proofs.fields.is_optional.Goals as goal

pub returns : goal.returns
returns c =
    let name = c.args.name.now in
    let few : c.min.result ≡ min 14 (length name) = omega (arith, c.min.ensures) in
    c.is.ensures ∙ ap (λ (l : List ℕ). bytes_eq l (codes "std::optional<"))
    (c.split_at.ensures.front ∙ (ap (λ (k : ℕ). take k name) few ∙ take_min 14 name))
