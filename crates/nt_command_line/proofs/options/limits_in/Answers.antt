use Rattle.std.proofs.Common.{◌≡◌, codes, ◌^◌, ◌∙◌, ap, arith, Option, ℕ, true, false}
use Rattle.std.specs.Prelude.{unwrap_or}
use Rattle.nt_command_line.proofs.Spoken.{number_by, in_range_or}
use Rattle.nt_command_line.proofs.options.limits_in.Goals as goal

pub unreachable-requires : goal.unreachable-requires
unreachable-requires c =
    let range = in_range_or 1024 (2 ^ 30) c.number_in.result (2 ^ 30) c.unwrap_or-range.result c.unwrap_or-range.ensures
    (c.number_in.ensures 1024 (2 ^ 30) c.requires.range).1 (omega arith) (omega arith) in
    let file = in_range_or 1024 (2 ^ 56) c.number_in-2.result (2 ^ 40) c.unwrap_or-file.result c.unwrap_or-file.ensures
    (c.number_in-2.ensures 1024 (2 ^ 56) c.requires.file).1 (omega arith) (omega arith) in
    let bad : false ≡ true = c.in-None.ensures.exact.1 (range.1, file.1) in
    cc

pub returns : goal.returns
returns c = λ a words rows.
    let m = c.args.matches.now in
    record {
      range = c.in-Some.ensures.some.0 ∙ (c.unwrap_or-range.ensures ∙ ap (λ (o : Option ℕ). unwrap_or o (2 ^ 30))
          (number_by a words m (codes "max-range") c.number_in.result rows (c.number_in.ensures 1024 (2 ^ 30) c.requires.range).0));
      file = c.in-Some.ensures.some.1 ∙ (c.unwrap_or-file.ensures ∙ ap (λ (o : Option ℕ). unwrap_or o (2 ^ 40))
          (number_by a words m (codes "max-file") c.number_in-2.result rows
          (c.number_in-2.ensures 1024 (2 ^ 56) c.requires.file).0));
      clusters = c.in-Some.ensures.some.2;
    }
