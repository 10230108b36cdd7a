use Rattle.std.proofs.Common.{◌≡◌, ◌+◌, ◌≤◌, length, drop, sym, ◌∙◌, arith}
use Rattle.std.specs.Vec.{with_items}
use Rattle.nt_decoded.proofs.Windows.{run-past, page-found, window-front, front-len}
use Rattle.nt_decoded.proofs.window.read_window.Goals as goal

pub returns-then-from-clause-read : goal.returns-then-from-clause-read
returns-then-from-clause-read g c told is =
    run-past told c.args.outside c.args.page.now c.args.kept.size c.run_len-len.result (c.requires told is) c.run_len-len.ensures
    (omega (arith, c.if-from.true, c.from.ensures, c.from-2.ensures, c.from-3.ensures))

pub returns-then-count-len-clause-read : goal.returns-then-count-len-clause-read
returns-then-count-len-clause-read g c told is =
    let within : c.args.page.now.place + c.run_len-len.result ≤ c.args.kept.size =
    omega (arith, c.if-from.false, c.from.ensures, c.from-2.ensures, c.from-3.ensures) in
    let sized : c.args.kept.size ≡ length told = c.requires told is in
    absurd (c.if-count-len.true (omega (arith, sized, within, (c.in_ok-count.ensures.front told is).0)))

pub returns-clause-read : goal.returns-clause-read
returns-clause-read g c told is =
    let within : c.args.page.now.place + c.run_len-len.result ≤ c.args.kept.size =
    omega (arith, c.if-from.false, c.from.ensures, c.from-2.ensures, c.from-3.ensures) in
    let read = c.read_front.new.bytes in
    let bytes = c.make_room.new.bytes in
    let rest = drop (length read) bytes.items in
    let long : length read ≡ bytes.len = c.read_front.ensures.len ∙ c.as_mut_slice.ensures.len in
    page-found told c.args.outside c.args.page.now
    (record {
      alloc = c.args.kept.alloc;
      size = c.args.kept.size;
      at = c.args.page.now.place;
      len = c.run_len-len.result;
      bytes = with_items bytes read;
    })
    (record {
      behind = omega arith;
      before = omega (
        arith,
        c.run_len-len.ensures.first,
        front-len read rest c.run_len-len.result bytes.len long c.in_ok-make_room.ensures,
      );
    })
    (window-front told read rest c.args.page.now.place c.run_len-len.result bytes.len c.args.kept.size c.in_ok-count.count
    (c.requires told is) within long c.if-count-len.false (c.in_ok-count.ensures.front told is).1)

pub returns-clause-window : goal.returns-clause-window
returns-clause-window g c =
    let within : c.args.page.now.place + c.run_len-len.result ≤ c.args.kept.size =
    omega (arith, c.if-from.false, c.from.ensures, c.from-2.ensures, c.from-3.ensures) in
    let read = c.read_front.new.bytes in
    let bytes = c.make_room.new.bytes in
    let long : length read ≡ bytes.len = c.read_front.ensures.len ∙ c.as_mut_slice.ensures.len in
    record {
      sized = λ told is. c.requires told (sym c.read_front.ensures.file ∙ is);
      has = λ told is.
          let before = sym c.read_front.ensures.file ∙ is in
          window-front told read (drop (length read) bytes.items) c.args.page.now.place c.run_len-len.result bytes.len c.args.kept.size
          c.in_ok-count.count
          (c.requires told before) within long c.if-count-len.false (c.in_ok-count.ensures.front told before).1;
    }
