use Rattle.std.proofs.Common.{◌≡◌, ℕ, ◌≤◌, ◌+◌, ◌++◌, List, length, take, drop, Ok, sym, ap, ◌∙◌, arith, take-add}
use Rattle.std.proofs.lemmas.Result.{err_from_is_err_and}
use Rattle.nt_view.specs.Loads.{loaded_len, found_bytes, checked_bytes}
use Rattle.nt_view.specs.Stores.{taken_bytes, next_bytes}
use Rattle.nt_view.proofs.Stores.{fails-as, place-fails, sum-fails, page-done, ahead-on}
use Rattle.nt_view.proofs.reading.take_page.Goals as goal

pub returns-in_err-bring_page-clause-read : goal.returns-in_err-bring_page-clause-read
returns-in_err-bring_page-clause-read g c told is =
    let p = err_from_is_err_and c.from_residual.result c.from_residual.ensures.1 in
    rw (p.1, p.2)
    (fails-as (λ (l : List ℕ). l) (λ (l : List ℕ). l) _ (found_bytes told c.args.i c.args.page.now) _
    (λ f h. place-fails told c.args.i c.args.page.now (taken_bytes c.args.store.now) f h)
    (c.in_err-bring_page.ensures.read told is))

pub returns-in_err-check_sum-clause-read : goal.returns-in_err-check_sum-clause-read
returns-in_err-check_sum-clause-read g c told is =
    let p = err_from_is_err_and c.from_residual-in_err-check_sum.result c.from_residual-in_err-check_sum.ensures.1 in
    let stored = next_bytes c.args.page.now c.bring_page.new.store in
    rw (p.1, p.2)
    (fails-as (λ (l : List ℕ). l) (λ (l : List ℕ). l) _ (checked_bytes c.args.i c.args.page.now stored) _
    (λ f h. sum-fails told c.args.i c.args.page.now (taken_bytes c.args.store.now) stored f (c.in_ok-bring_page.ensures.read told is) h)
    (rw c.next_page.ensures at c.in_err-check_sum.ensures.read))

pub returns-clause-read : goal.returns-clause-read
returns-clause-read g c told is =
    let s = c.bring_page.new.store in
    let stored = next_bytes c.args.page.now s in
    let front = take s.taken s.bytes.items in
    page-done told c.args.i c.args.page.now (taken_bytes c.args.store.now) stored (c.in_ok-bring_page.ensures.read told is)
    (rw c.next_page.ensures at c.in_ok-check_sum.ensures.read)
    ∙ ap (λ (l : List ℕ). Ok l)
    (ap (λ (l : List ℕ). l ++ stored) (sym c.in_ok-bring_page.ensures.brought.kept)
    ∙ ap (λ (n : ℕ). front ++ take n (drop s.taken s.bytes.items)) (sym c.stored_len-len.ensures.len)
    ∙ sym (take-add s.taken c.stored_len-len.result s.bytes.items))

pub returns-clause-taken : goal.returns-clause-taken
returns-clause-taken g c =
    let s = c.bring_page.new.store in
    let b = c.in_ok-bring_page.ensures.brought in
    let n = c.stored_len-len.result in
    let len : n ≡ loaded_len c.args.page.now = c.stored_len-len.ensures.len in
    let room : s.taken + n ≤ length s.bytes.items = omega (arith, b.next.room, len) in
    record {
      len = omega (arith, b.taken, len);
      seen = record {
        sized = b.seen.sized;
        taken = room;
        within = omega (arith, b.seen.within, room);
        ahead = λ told is. ahead-on told s.bytes.items s.taken s.place n room (b.seen.ahead told is);
      };
    }
