use Rattle.std.proofs.Common.{◌≡◌, ◌∙◌, ap, sym, subst, ℕ, ◌+◌, List, length, map, take, Bor, arith, rules, length-append}
use Rattle.std.specs.Prelude.{vec_len}
use Rattle.nt_store.specs.Worlds.{AreOpenTexts}
use Rattle.nt_store.proofs.Opening.{are_more, asked_taken, map_push, map_length, asked_more, asked_refused}
use Rattle.nt_store.proofs.texts.open_texts.Goals as goal

pub push_reserved-requires : goal.push_reserved-requires
push_reserved-requires g c =
    let so-far = c.loop-name.invariant in
    let count : length c.loop-name.texts.items ≡ c.loop-name.name-index = sym (map_length g.H.Text.Source.state c.loop-name.texts.items)
    ∙ so-far.0.count in
    let len : vec_len c.loop-name.texts ≡ length c.loop-name.texts.items = search rules in
    omega (arith, so-far.1, count, len, c.loop-name-test.true)

pub loop-name-preserved : goal.loop-name-preserved
loop-name-preserved g c =
    let so-far = c.loop-name.invariant in
    let st = g.H.Text.Source.state in
    let pushed = map_push st c.loop-name.texts.items c.push_reserved.new.self.items c.in-Ok.text c.push_reserved.ensures.items in (
      record {
        are = subst (AreOpenTexts (g.H.Host.state c.args.host.now).world (take (c.loop-name.name-index + 1) (map (λ (name : Bor (List
            ℕ)). name.now) c.args.names.now))) (sym pushed)
            (are_more c.args.names.now c.loop-name.name-index _ _ _ (map st c.loop-name.texts.items) (st c.in-Ok.text)
            c.loop-name-test.true so-far.0.are so-far.0.world c.in-Ok.ensures.text);
        asked = asked_more _ _ _ _ _ _ so-far.0.asked c.in-Ok.ensures.opens.asks.ok (asked_taken c.args.names.now c.loop-name.name-index
            _ c.loop-name-test.true);
        count = ap length pushed ∙ (length-append _ _ ∙ ap (λ (n : ℕ). n + 1) so-far.0.count);
        world = c.in-Ok.ensures.opens.world ∙ so-far.0.world;
        later = omega (arith, so-far.0.later, c.in-Ok.ensures.opens.asks.cause.later);
        err_faults = c.in-Ok.ensures.opens.asks.err_faults ∙ so-far.0.err_faults;
        opened = omega (arith, so-far.0.opened, c.in-Ok.ensures.opens.asks.opened);
      },
      omega (arith, so-far.1, c.push_reserved.ensures.capacity),
    )

pub returns-in-Err-clause-asks : goal.returns-in-Err-clause-asks
returns-in-Err-clause-asks g c = record {
  asked = asked_refused _ c.in-Err.refused c.args.names.now c.loop-name.name-index _ _ _ _ _ c.loop-name-test.true
      c.loop-name.invariant.0.asked c.in-Err.ensures.opens.asks.failed c.in-Err.ensures.opens.asks.memory c.return_texts.ensures.asked;
  world = c.return_texts.ensures.world ∙ (c.in-Err.ensures.opens.world ∙ c.loop-name.invariant.0.world);
}

pub returns-in-Err-clause-rest : goal.returns-in-Err-clause-rest
returns-in-Err-clause-rest g c =
    let so-far = c.loop-name.invariant in (
      tt,
      record {
        err_faults = c.return_texts.ensures.err_faults ∙ (c.in-Err.ensures.opens.asks.err_faults ∙ so-far.0.err_faults);
        opened = omega (arith, c.return_texts.ensures.opened, c.in-Err.ensures.opens.asks.refused, so-far.0.opened, so-far.0.count);
      },
    )
