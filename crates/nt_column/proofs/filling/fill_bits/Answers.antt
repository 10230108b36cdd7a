use Rattle.std.proofs.Common.{◌≤◌, ◌++◌, ◌∙◌, ℕ, Bool, List, length, map, ap, sym, refl, arith}
use Rattle.std.proofs.lemmas.List.{length-map, take-map}
use Rattle.nt_encode.specs.Pages.{page_values}
use Rattle.nt_encode.proofs.Values.{length-page_values}
use Rattle.nt_column.specs.Bits.{bit_of}
use Rattle.nt_column.proofs.Filled.{behind-first}
use Rattle.nt_column.proofs.filling.fill_bits.Goals as goal

pub returns-clause-page : goal.returns-clause-page
returns-clause-page c =
    let old : List Bool = c.args.list.now.items in
    let values : List ℕ = page_values c.args.kind c.args.count c.args.bytes.now in
    let first = ap (λ (bs : List Bool). map bit_of bs ++ values) (c.reserve.ensures.items ∙ c.truncate.ensures.items) in
    let is = c.push_bits.ensures.items
    ∙ (first ∙ ap (λ (ns : List ℕ). ns ++ values) (sym (take-map bit_of c.args.filled old))) in
    let within : c.args.filled ≤ length (map bit_of old) = omega (arith, length-map old bit_of) in
    let all = behind-first c.args.filled c.args.count values (map bit_of old) _ within
    (length-page_values c.args.kind c.args.count c.args.bytes.now) is in
    (refl, record { items = all.0; reached = omega arith; few = omega arith; within = omega arith })
