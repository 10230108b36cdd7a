use Rattle.std.proofs.Common.{rules, ◌≡◌, ◌++◌, subst}
use Rattle.std.specs.Prelude.{OnOk}
use Rattle.std.specs.Str.{IsUtf8}
use Rattle.nt_event.proofs.Prints.{utf8_text, not_utf8_text}
use Rattle.nt_event.proofs.strings.write_text.Goals as goal

pub returns-in-Ok-clause-ok : goal.returns-in-Ok-clause-ok
returns-in-Ok-clause-ok c =
    let s = c.args.bytes.now in
    let u : IsUtf8 s = search (rules, c.in-Ok.ensures.cases, c.in-Ok.is) in
    subst (λ l. OnOk c.put_quoted.result (c.put_quoted.new.out.items ≡ c.args.out.now.items ++ l)) (utf8_text s u) c.put_quoted.ensures.ok

pub returns-in-Err-clause-ok : goal.returns-in-Err-clause-ok
returns-in-Err-clause-ok c =
    let s = c.args.bytes.now in
    let n : IsUtf8 s → ⊥ = search (rules, c.in-Err.ensures.cases, c.in-Err.is) in
    subst (λ l. OnOk c.put_hex.result (c.put_hex.new.out.items ≡ c.args.out.now.items ++ l)) (not_utf8_text s n) c.put_hex.ensures.ok
