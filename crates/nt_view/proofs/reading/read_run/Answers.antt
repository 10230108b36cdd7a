use Rattle.std.proofs.Common.{ℕ, List, ◌≡◌, ◌≤◌, ◌+◌, ◌-◌, length, arith}
use Rattle.std.proofs.lemmas.Result.{err_from_is_err_and}
use Rattle.nt_view.specs.Loads.{found_bytes}
use Rattle.nt_view.proofs.Stores.{run-lost, run-count, run-read, refused-lost}
use Rattle.nt_view.proofs.reading.read_run.Goals as goal

pub returns-then-from-clause-read : goal.returns-then-from-clause-read
returns-then-from-clause-read g c told is =
    run-lost told c.args.i c.args.page.now c.args.size c.run_len-len.result (c.requires.seen.sized told is) c.run_len-len.ensures.run
    (omega (arith, c.if-from.true, c.from.ensures, c.from-2.ensures, c.from-3.ensures))

pub returns-in_err-read_more-clause-read : goal.returns-in_err-read_more-clause-read
returns-in_err-read_more-clause-read g c told is =
    let p = err_from_is_err_and c.from_residual.result c.from_residual.ensures.1 in
    rw p.1 (refused-lost (λ (l : List ℕ). l) c.in_err-read_more.field-0.0 p.0 (found_bytes told c.args.i c.args.page.now) p.2)

pub returns-then-len-store-clause-read : goal.returns-then-len-store-clause-read
returns-then-len-store-clause-read g c told is =
    let read = c.in_ok-read_more.ensures.bytes in
    let within : c.args.page.now.place + c.run_len-len.result ≤ c.args.size =
    omega (arith, c.if-from.false, c.from.ensures, c.from-2.ensures, c.from-3.ensures) in
    let count : length c.read_more.new.bytes.items - c.args.store.now.taken ≡ c.run_len-len.result =
    run-count told c.args.store.now.bytes.items c.truncate.new.self.items c.read_more.new.bytes.items read.got c.args.page.now.place
    c.args.size c.run_len-len.result c.args.store.now.taken (c.requires.seen.sized told is) within c.requires.seen.taken
    c.truncate.ensures.items read.behind (read.read told is) in
    absurd (c.if-len-store.true (omega (arith, count, c.len.ensures, c.read_more.new.bytes.ok.0)))

pub returns-clause-read : goal.returns-clause-read
returns-clause-read g c told is =
    let read = c.in_ok-read_more.ensures.bytes in
    let within : c.args.page.now.place + c.run_len-len.result ≤ c.args.size =
    omega (arith, c.if-from.false, c.from.ensures, c.from-2.ensures, c.from-3.ensures) in
    run-read told c.args.store.now.bytes.items c.truncate.new.self.items c.read_more.new.bytes.items read.got c.args.i c.args.page.now
    c.args.size c.run_len-len.result c.args.store.now.taken (c.requires.seen.sized told is) c.run_len-len.ensures.run within
    c.requires.seen.taken c.truncate.ensures.items read.behind (read.read told is)
