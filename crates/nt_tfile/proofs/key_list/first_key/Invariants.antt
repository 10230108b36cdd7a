use Rattle.std.proofs.Common.{◌≡◌, ◌+◌, ◌-◌, None, length}
use Rattle.nt_container.specs.Keys.{keys_on}
use Rattle.nt_tfile.proofs.key_list.first_key.Given as goal

-- what is left gives what all gives, and nothing is lost
abbrev pub invariant-loop : goal.invariant-loop
invariant-loop l = record {
  read : keys_on l.place (l.count - l.counter) l.first l.cur ≡ keys_on l.place l.count None l.fn.cur;
  end : l.cur.place + length l.cur.left ≡ l.fn.cur.place + length l.fn.cur.left;
}
