use Rattle.std.proofs.Common.{◌≡◌, ◌+◌, vec_len, vec_capacity}
use Rattle.nt_memory.specs.Grown.{IsGrown}
use Rattle.nt_memory.proofs.bytes.add_zeros.Given as goal

abbrev pub invariant-loop : goal.invariant-loop
invariant-loop l = record {
  grown : IsGrown l.counter l.initial.list.items l.list.items;
  len : vec_len l.list ≡ vec_len l.initial.list + l.counter;
  capacity : vec_capacity l.list ≡ vec_capacity l.initial.list;
}
