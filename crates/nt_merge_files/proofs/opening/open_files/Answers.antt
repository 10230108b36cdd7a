use Rattle.std.proofs.Common.{◌≡◌, ◌∙◌, ap, sym, subst, ℕ, ◌+◌, List, length, map, take, Bor, arith, rules, length-append}
use Rattle.std.specs.Prelude.{vec_len}
use Rattle.nt_store.specs.Worlds.{AreOpenTexts}
use Rattle.nt_store.proofs.Opening.{are_more, map_push, map_length, asked_more}
use Rattle.nt_merge_files.specs.Files.{as_text, as_texts}
use Rattle.nt_merge_files.proofs.Files.{files-asked, file-refused, open-text}
use Rattle.nt_merge_files.proofs.opening.open_files.Goals as goal

pub push_reserved-requires : goal.push_reserved-requires
push_reserved-requires g c =
    let so-far = c.loop-name.invariant in
    let count : length c.loop-name.files.items ≡ c.loop-name.name-index =
    sym (map_length (λ f. as_text (g.H.File.ReadAt.state f)) c.loop-name.files.items) ∙ so-far.0.count in
    let len : vec_len c.loop-name.files ≡ length c.loop-name.files.items = search rules in
    omega (arith, so-far.1, count, len, c.loop-name-test.true)

pub loop-name-preserved : goal.loop-name-preserved
loop-name-preserved g c =
    let so-far = c.loop-name.invariant in
    let pushed = map_push (λ f. as_text (g.H.File.ReadAt.state f)) c.loop-name.files.items c.push_reserved.new.self.items c.in-Ok.file
    c.push_reserved.ensures.items in (
      record {
        are = subst (AreOpenTexts (g.H.Host.state c.args.host.now).world (take (c.loop-name.name-index + 1) (map (λ (name : Bor (List
            ℕ)). name.now) c.args.names.now))) (sym pushed)
            (are_more c.args.names.now c.loop-name.name-index _ _ _ (as_texts g.H.File.ReadAt.state c.loop-name.files.items)
            (as_text (g.H.File.ReadAt.state c.in-Ok.file))
            c.loop-name-test.true so-far.0.are so-far.0.world (open-text _ _ (g.H.File.ReadAt.state c.in-Ok.file) c.in-Ok.ensures.opened));
        asked = asked_more _ _ _ _ _ _ so-far.0.asked c.in-Ok.ensures.opens.asks.ok (files-asked c.args.names.now c.loop-name.name-index
            _ c.loop-name-test.true);
        count = ap length pushed ∙ (length-append _ _ ∙ ap (λ (n : ℕ). n + 1) so-far.0.count);
        world = c.in-Ok.ensures.opens.world ∙ so-far.0.world;
        later = omega (arith, so-far.0.later, c.in-Ok.ensures.opens.asks.cause.later);
        err_faults = c.in-Ok.ensures.opens.asks.err_faults ∙ so-far.0.err_faults;
        opened = omega (arith, so-far.0.opened, c.in-Ok.ensures.opens.asks.opened);
      },
      omega (arith, so-far.1, c.push_reserved.ensures.capacity),
    )

pub returns-in-Err-clause-asks : goal.returns-in-Err-clause-asks
returns-in-Err-clause-asks g c = record {
  asked = file-refused _ c.in-Err.refused c.args.names.now c.loop-name.name-index _ _ _ _ _ c.loop-name-test.true
      c.loop-name.invariant.0.asked c.in-Err.ensures.opens.asks.failed c.in-Err.ensures.opens.asks.memory c.return_files.ensures.asked;
  world = c.return_files.ensures.world ∙ (c.in-Err.ensures.opens.world ∙ c.loop-name.invariant.0.world);
}

pub returns-in-Err-clause-rest : goal.returns-in-Err-clause-rest
returns-in-Err-clause-rest g c =
    let so-far = c.loop-name.invariant in (
      tt,
      record {
        err_faults = c.return_files.ensures.err_faults ∙ (c.in-Err.ensures.opens.asks.err_faults ∙ so-far.0.err_faults);
        opened = omega (arith, c.return_files.ensures.opened, c.in-Err.ensures.opens.asks.refused, so-far.0.opened, so-far.0.count);
      },
    )
