use Rattle.std.proofs.Common.{◌+◌, sym, arith}
use Rattle.std.specs.Char.{encode_utf8}
use Rattle.json.specs.Text.{after_u, after_backslash}
use Rattle.json.specs.Lex.{in_string, in_escape}
use Rattle.nt_event.specs.Plain.{EscapeStands}
use Rattle.nt_event.proofs.InStrings.{unicode-stands, short-stands, ascii-encoded, some-then}
use Rattle.nt_event.proofs.escapes.escape.Goals as goal

pub returns-then-text-at-eq117 : goal.returns-then-text-at-eq117
returns-then-text-at-eq117 c =
    let t = c.args.text.now in
    let at = c.args.at in
    some-then c.unicode.result (λ r. EscapeStands after_u in_string (encode_utf8 r.0) t (at + 1) r.1)
    (λ r. EscapeStands after_backslash in_escape (encode_utf8 r.0) t at r.1)
    (λ r h. unicode-stands t (encode_utf8 r.0) at r.1 (omega (arith, c.requires, c.if-at-text.false)) c.if-text-at-eq117.true h)
    c.unicode.ensures

pub returns : goal.returns
returns c = short-stands c.args.text.now _ c.args.at c.in_ok-c.c (omega (arith, c.requires, c.if-at-text.false)) c.if-text-at-eq117.false
    (sym c.in_ok-c.ensures.value) (ascii-encoded c.in_ok-c.c c.in_ok-c.ensures.ascii)
