use Rattle.std.proofs.Common.{◌≡◌, ◌∙◌, ap, refl, arith, ◌+◌, ◌≤◌, ℕ, length, List, ◌++◌, ◌∷◌, []}
use Rattle.std.specs.Prelude.{sum_by}
use Rattle.nt_outside.specs.declared.range.Range.{Range}
use Rattle.nt_lists.specs.Places.{put_at}
use Rattle.nt_outside.specs.Log.{Settle}
use Rattle.nt_disk_log.specs.Logged.{steps_of}
use Rattle.nt_memory.specs.Ext.{content_of}
use Rattle.nt_disk_log.proofs.Picking.{placed-step}
use Rattle.nt_memory.proofs.Ranges.{within_off, within_one, weight_less, few_bytes, settle_inside, settle_reads, settle_holds}
use Rattle.nt_memory.proofs.disk.MemDiskDisk.settle.Goals as goal

pub put_over-requires : goal.put_over-requires
put_over-requires c =
    let e = c.args.ext in
    omega (
      arith,
      within_one _ _ e.range c.args.self.now.inside c.requires,
      few_bytes e.filled e.range.len e.bytes.items e.whole
          e.empty,
      c.deref-2.ensures.len,
      ap length c.deref-2.ensures.value,
    )

pub invariant_of-self : goal.invariant_of-self
invariant_of-self c =
    let e = c.args.ext in
    let old = c.args.self.now in
    let r : Range = e.range in
    let inside : r.start + r.len ≤ length old.image.items = omega (arith, within_one _ _ r old.inside c.requires, old.image.ok) in
    record {
      reads = settle_reads e.filled (steps_of old.log) (steps_of c.push_settle.new.self) old.image.items c.put_over.new.list.items
          e.bytes.items r.start r.len old.reads e.empty inside (c.push_settle.ensures.steps
          ∙ ap (λ (b : List ℕ). steps_of old.log ++ Settle r.start r.len (content_of e.filled b) ∷ []) c.deref.ensures.value)
          (c.put_over.ensures.items ∙ ap (put_at old.image.items r.start) c.deref-2.ensures.value);
      placed = placed-step _ _ (Settle r.start r.len (content_of e.filled e.bytes.items)) old.image.items old.placed old.reads
          (c.push_settle.ensures.steps
          ∙ ap (λ (b : List ℕ). steps_of old.log ++ Settle r.start r.len (content_of e.filled b) ∷ []) c.deref.ensures.value)
          (settle_inside e.filled e.bytes.items (length old.image.items) r.start r.len e.whole inside);
      inside = within_off old.out.items _ _ _ r old.inside (omega (arith, c.put_over.ensures.len)) c.take_off.ensures;
      rows_owed = omega (
        arith,
        old.rows_owed,
        ap (λ l. sum_by (λ (r : Range). 1) l) c.take_off.ensures,
        weight_less (λ (r : Range). 1) old.out.items r c.requires,
        c.push_settle.ensures.owed.rows,
      );
      bytes_owed = omega (
        arith,
        old.bytes_owed,
        ap (λ l. sum_by (λ (r : Range). r.len) l) c.take_off.ensures,
        weight_less (λ (r : Range). r.len) old.out.items r c.requires,
        c.push_settle.ensures.owed.bytes,
      );
    }

pub returns-clause-settles : goal.returns-clause-settles
returns-clause-settles c =
    let e = c.args.ext in
    let old = c.args.self.now in
    let r : Range = e.range in
    let inside : r.start + r.len ≤ length old.image.items = omega (arith, within_one _ _ r old.inside c.requires, old.image.ok) in
    record {
      held = settle_holds e.filled (steps_of old.log) (steps_of c.push_settle.new.self) old.image.items c.put_over.new.list.items
          e.bytes.items r.start r.len e.whole e.empty inside (c.push_settle.ensures.steps
          ∙ ap (λ (b : List ℕ). steps_of old.log ++ Settle r.start r.len (content_of e.filled b) ∷ []) c.deref.ensures.value)
          (c.put_over.ensures.items ∙ ap (put_at old.image.items r.start) c.deref-2.ensures.value);
      end = omega (arith, c.put_over.ensures.len, old.image.ok, c.put_over.new.list.ok);
      out = c.take_off.ensures;
      spare = record {
        steps = c.push_settle.ensures.kept.rows;
        bytes = omega (arith, c.push_settle.ensures.kept.bytes, c.put_over.ensures.len, c.put_over.ensures.capacity);
      };
      faults = refl;
    }
