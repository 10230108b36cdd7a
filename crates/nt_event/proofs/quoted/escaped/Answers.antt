use Rattle.std.proofs.Common.{◌++◌, List, ℕ, sym, ap, ◌∙◌, subst}
use Rattle.std.specs.List.{slice_range}
use Rattle.std.specs.Char.{encode_utf8}
use Rattle.nt_event.specs.Plain.{StandsFor, EndsString}
use Rattle.nt_event.proofs.InStrings.{nothing-stands, run-stands, then-run, then-escape, string-ends}
use Rattle.nt_event.proofs.quoted.escaped.Goals as goal

pub loop-i-init : goal.loop-i-init
loop-i-init c = record {
  within = c.requires;
  stands =
      subst (λ s. StandsFor s c.args.text.now c.args.at c.args.at) (sym c.new-bytes.ensures.items)
      (nothing-stands c.args.text.now c.args.at);
}

pub loop-i-preserved : goal.loop-i-preserved
loop-i-preserved c =
    let t = c.args.text.now in
    let at = c.args.at in
    let i = c.loop-i.i in
    let stop = c.plain_end-stop.result in
    let end = c.in-Some-escape.end in
    let found = encode_utf8 c.in-Some-escape.c in
    let v = c.loop-i.invariant in
    let p = c.plain_end-stop.ensures in
    let run = slice_range t i stop in
    let both = then-run c.loop-i.bytes.items run t at i stop v.stands (run-stands t i stop p.low p.plain) in
    record {
      within = c.in-Some-escape.ensures.within;
      stands = subst (λ s. StandsFor s t at end)
          (sym (c.in_ok-put_char.ensures ∙ ap (λ (l : List ℕ). l ++ found) c.in_ok-extend_from_slice.ensures.items))
          (then-escape (c.loop-i.bytes.items ++ run) found t at stop c.in-Some-after.next end both c.in-Some-after.ensures
          c.in-Some-escape.ensures);
    }

pub returns-in-Some : goal.returns-in-Some
returns-in-Some c =
    let t = c.args.text.now in
    let at = c.args.at in
    let i = c.loop-i.i in
    let stop = c.plain_end-stop.result in
    let v = c.loop-i.invariant in
    let p = c.plain_end-stop.ensures in
    let run = slice_range t i stop in
    let both = then-run c.loop-i.bytes.items run t at i stop v.stands (run-stands t i stop p.low p.plain) in
    subst (λ s. EndsString s t at c.in-Some.end) (sym c.in_ok-extend_from_slice.ensures.items)
    (string-ends (c.loop-i.bytes.items ++ run) t at stop c.in-Some.end both c.in-Some.ensures)
