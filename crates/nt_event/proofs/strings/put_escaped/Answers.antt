use Rattle.std.proofs.Common.{◌≡◌, ◌<◌, ◌++◌, length, take, subst, arith}
use Rattle.std.specs.List.{slice_range}
use Rattle.json.specs.Print.{escape}
use Rattle.nt_event.proofs.Prints.{front-then, run-put, byte-put, all-put}
use Rattle.nt_event.proofs.strings.put_escaped.Goals as goal

pub loop-i-preserved : goal.loop-i-preserved
loop-i-preserved c =
    let d = c.args.bytes.now in
    let i = c.loop-i.i in
    let stop = c.plain_end-stop.result in
    let v = c.loop-i.invariant in
    let p = c.plain_end-stop.ensures in
    let w = c.args.out.now.items ++ escape d in
    let run = c.in_ok-extend_from_slice.ensures.items in
    let e = c.in_ok-put_byte.ensures in
    let lt : stop < length d = omega (arith, p.high, c.if-stop-bytes.false) in
    record {
      within = omega (arith, lt);
      text = byte-put d c.extend_from_slice.new.self.items w c.put_byte.new.out.items stop lt
          (run-put d c.loop-i.out.items w c.extend_from_slice.new.self.items i stop p.low p.plain v.text run) e.ok;
      kept = front-then c.args.out.now.items c.loop-i.out.items c.put_byte.new.out.items (slice_range d i stop) v.kept
          (subst (λ l. take (length l) c.put_byte.new.out.items ≡ l) run e.kept);
    }

pub returns-then-stop-bytes-clause-ok : goal.returns-then-stop-bytes-clause-ok
returns-then-stop-bytes-clause-ok c =
    let d = c.args.bytes.now in
    let stop = c.plain_end-stop.result in
    let v = c.loop-i.invariant in
    let p = c.plain_end-stop.ensures in
    let w = c.args.out.now.items ++ escape d in
    all-put d c.extend_from_slice.new.self.items w stop c.if-stop-bytes.true
    (run-put d c.loop-i.out.items w c.extend_from_slice.new.self.items c.loop-i.i stop p.low p.plain v.text
    c.in_ok-extend_from_slice.ensures.items)

pub returns-in_err-put_byte-clause-kept : goal.returns-in_err-put_byte-clause-kept
returns-in_err-put_byte-clause-kept c =
    let d = c.args.bytes.now in
    front-then c.args.out.now.items c.loop-i.out.items c.put_byte.new.out.items (slice_range d c.loop-i.i c.plain_end-stop.result)
    c.loop-i.invariant.kept
    (subst (λ l. take (length l) c.put_byte.new.out.items ≡ l) c.in_ok-extend_from_slice.ensures.items c.in_err-put_byte.ensures.kept)
