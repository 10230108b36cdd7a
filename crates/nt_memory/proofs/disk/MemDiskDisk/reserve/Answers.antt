use Rattle.std.proofs.Common.{◌≡◌, ◌∙◌, ap, refl, arith, rules, ◌+◌, ◌≤◌, ℕ, length, List, ◌++◌, ◌∷◌, []}
use Rattle.std.specs.Prelude.{sum_by}
use Rattle.std.proofs.lemmas.List.Sums.{sum_by_push}
use Rattle.nt_outside.specs.declared.range.Range.{Range}
use Rattle.nt_outside.specs.Log.{Step, Reserve}
use Rattle.nt_disk_log.specs.Logged.{steps_of}
use Rattle.nt_disk_log.proofs.Picking.{placed-step}
use Rattle.nt_disk_log.proofs.Allowed.{reads-reserve}
use Rattle.nt_memory.proofs.Ranges.{within_push, reserve_holds}
use Rattle.nt_memory.proofs.disk.MemDiskDisk.reserve.Goals as goal

pub invariant_of-self-2 : goal.invariant_of-self-2
invariant_of-self-2 c =
    let old = c.args.self.now in
    let grown = c.add_zeros.ensures.items in
    let range : Range = record { start = c.len-start.result; len = c.args.len } in
    let out = c.push_reserved.ensures.items ∙ ap (λ (l : List Range). l ++ range ∷ []) c.in_ok-reserve.ensures.items in
    record {
      reads = reads-reserve _ _ old.image.items _ grown.more _ c.args.len old.reads (c.push_reserve.ensures.steps
          ∙ ap (λ (l : List Step). l ++ Reserve c.len-start.result c.args.len ∷ []) c.in_ok-range_room.ensures.same.steps)
          grown.whole (grown.is ∙ ap (λ (l : List ℕ). l ++ grown.more) c.in_ok-grow_room.ensures.items);
      placed = placed-step _ _ (Reserve c.len-start.result c.args.len) old.image.items old.placed old.reads
          (c.push_reserve.ensures.steps ∙ ap (λ (l : List Step). l ++ Reserve c.len-start.result c.args.len ∷ [])
          c.in_ok-range_room.ensures.same.steps) tt;
      inside = within_push old.out.items _ _ _ range old.inside
          (omega (arith, c.add_zeros.ensures.len, c.in_ok-grow_room.ensures.len))
          (omega (arith, c.add_zeros.ensures.len, c.in_ok-grow_room.ensures.len, c.len-start.ensures)) out;
      rows_owed = omega (
        arith,
        old.rows_owed,
        ap (λ l. sum_by (λ (r : Range). 1) l) out,
        sum_by_push (λ (r : Range). 1)
            old.out.items range,
        c.push_reserve.ensures.owed.rows,
        c.in_ok-range_room.ensures.same.owed,
      );
      bytes_owed = omega (
        arith,
        old.bytes_owed,
        ap (λ l. sum_by (λ (r : Range). r.len) l) out,
        sum_by_push (λ (r : Range). r.len)
            old.out.items range,
        c.push_reserve.ensures.owed.bytes,
        c.in_ok-range_room.ensures.same.owed_bytes,
      );
    }

pub returns-clause-reserves : goal.returns-clause-reserves
returns-clause-reserves c =
    let old = c.args.self.now in
    let grown = c.add_zeros.ensures.items in
    let steps = c.push_reserve.ensures.steps ∙ ap (λ (l : List Step). l ++ Reserve c.len-start.result c.args.len ∷ [])
    c.in_ok-range_room.ensures.same.steps in
    let front : c.grow_room.new.list.items ≡ old.image.items = c.in_ok-grow_room.ensures.items in
    let out = c.push_reserved.ensures.items ∙ ap (λ (l : List Range). l ++ record {
      start = c.len-start.result;
      len = c.args.len;
    } ∷ []) c.in_ok-reserve.ensures.items in
    let place : c.len-start.result ≡ length old.image.items = omega (arith, c.len-start.ensures, old.image.ok) in
    record {
      ok = reserve_holds (steps_of old.log) (steps_of c.push_reserve.new.self) old.image.items c.add_zeros.new.list.items
          (length old.image.items) c.args.len refl
          (steps ∙ ap (λ (n : ℕ). steps_of old.log ++ Reserve n c.args.len ∷ []) place)
          (record { more = grown.more; whole = grown.whole; is = grown.is ∙ ap (λ (l : List ℕ). l ++ grown.more) front });
      end = omega (arith, c.add_zeros.ensures.len, c.in_ok-grow_room.ensures.len, old.image.ok, c.add_zeros.new.list.ok);
      out = out ∙ ap (λ (n : ℕ). old.out.items ++ record { start = n; len = c.args.len } ∷ []) place;
      err = tt;
      spare = record {
        steps = omega (arith, c.push_reserve.ensures.spent.rows, c.in_ok-range_room.ensures.rows);
        bytes = omega (
          arith,
          c.push_reserve.ensures.spent.bytes,
          c.in_ok-range_room.ensures.bytes,
          c.add_zeros.ensures.len,
          c.add_zeros.ensures.capacity,
          c.in_ok-grow_room.ensures.len,
          c.in_ok-grow_room.ensures.capacity,
        );
      };
      cause = search rules;
    }
