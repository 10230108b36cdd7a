use Rattle.std.proofs.lemmas.Bool.{iff_false}
use Rattle.std.proofs.Common.{suc, take, ap, ◌≡◌, ◌<◌, ◌+◌, ◌∙◌, length, subst, sym, arith}
use Rattle.nt_trees.specs.Columns.{tag_at, count_tag}
use Rattle.nt_join.specs.Sweeps.{CountsOne, IsNext, CountsBetween, IsFirstOfTags}
use Rattle.nt_join.proofs.Counts.{HasCounts-next, CountsBetween-next, is_met-not_next, few-next, IsFirstSoFar, IsFirstSoFar-next}
use Rattle.nt_join.proofs.Counts.{IsFirstSoFar-not_next, IsFirstOfTags-so_far, count_tag-whole}
use Rattle.nt_join.proofs.counting.count_tags.Goals.{then-not-count_one, else-not-count_one}
use Rattle.nt_join.proofs.counting.count_tags.Goals as goal

pub loop-i-preserved : goal.loop-i-preserved
loop-i-preserved g c =
    let es = g.C.Columns.elements c.args.columns.now c.args.column in
    let i = c.loop-i.i in
    let low = c.args.low in
    let most = c.args.most in
    let old = c.loop-i.counts in
    let new = c.count_one.new.counts in
    let v = c.loop-i.invariant in
    let high = low + length c.args.counts.now in
    let within : i < length es = omega (arith, c.loop-i-test.true, c.len-i-end.ensures) in
    let one = subst (λ t. CountsOne low t old new) c.tag-tag.ensures c.count_one.ensures.counts in
    elim c.if-not-count_one.branch [
      | then-not-count_one w ↦ record {
        same = omega (arith, one.same, v.same);
        counts = HasCounts-next low i es old new within v.counts one;
        few = few-next low (tag_at es i) i old new one v.few;
        first = IsFirstSoFar-not_next most low high i c.loop-i.first c.if-not-count_one.first es v.first within
            (is_met-not_next most low i es old v.counts (λ n. iff_false c.count_one.ensures.next w.if-not-count_one.true
            (subst (λ t. IsNext most low old t c.number-index.result) (sym c.tag-tag.ensures)
            (subst (IsNext most low old (tag_at es i)) (sym c.number-index.ensures) n))))
            (λ l. omega (arith, l, w.first-is, w.min-first.ensures)) (λ l. omega (arith, l, w.first-is, w.min-first.ensures));
      }
      | else-not-count_one w ↦
          let next = subst (IsNext most low old (tag_at es i)) c.number-index.ensures
          (subst (λ t. IsNext most low old t c.number-index.result) c.tag-tag.ensures
          (c.count_one.ensures.next.0 w.if-not-count_one.false)) in
          let same : c.if-not-count_one.first ≡ c.loop-i.first = w.first-is in
          record {
            same = omega (arith, one.same, v.same);
            counts = HasCounts-next low i es old new within v.counts one;
            few = few-next low (tag_at es i) i old new one v.few;
            first = subst (IsFirstSoFar most low high (i + 1) es) (sym same)
                (IsFirstSoFar-next most low high i c.loop-i.first es v.first next.tag_fits
                (subst (λ k. CountsBetween low (low + k) es i) v.same (CountsBetween-next most low i es old v.counts next)));
          }
    ]

pub returns : goal.returns
returns g c =
    let es = g.C.Columns.elements c.args.columns.now c.args.column in
    let low = c.args.low in
    let v = c.loop-i.invariant in
    let whole : c.loop-i.i ≡ length es = omega (arith, c.loop-i-test.false, c.len-i-end.ensures, c.loop-i.auto.i-end) in
    record {
      counts = λ t b. v.counts t b ∙ ap (λ k. count_tag (low + suc t) (take k es)) whole ∙ count_tag-whole (low + suc t) es;
      first = subst (λ k. IsFirstOfTags c.args.most low (low + k) es c.loop-i.first) (sym v.same)
          (IsFirstOfTags-so_far c.args.most low (low + length c.args.counts.now) c.loop-i.i c.loop-i.first es
          (omega (arith, whole)) v.first);
    }
