use Rattle.std.proofs.Common.{◌∙◌, map, arith}
use Rattle.std.proofs.lemmas.Result.{err_from_is_err_and}
use Rattle.nt_outside.specs.World.{creates}
use Rattle.nt_store.proofs.Opening.{map_length}
use Rattle.nt_store.proofs.Ends.{out_told, back_in_order}
use Rattle.nt_store.proofs.Refused.{nothing_made, refused_told, schema_told, refusal_is, refused_outside}
use Rattle.nt_store.proofs.Asking.{schema_asked, texts_asked, all_asked, disk_refused, texts_told, texts_counted, cause_back, cause_first}
use Rattle.nt_store.proofs.Asking.{cause_next, is_schema}
use Rattle.nt_store.proofs.Crashed.{none_left, back_safe}
use Rattle.nt_store.proofs.storing.store.Goals as goal

pub write_file-disk-requires-clause-may : goal.write_file-disk-requires-clause-may
write_file-disk-requires-clause-may g c κs within =
    let st = g.H.Text.Source.state in
    let names = map (λ name. name.now) c.args.names.inputs.now in
    let count = texts_counted _ names (map st c.in_ok-texts.texts.items) c.in_ok-texts.ensures.texts in
    let texts = map_length st c.in_ok-texts.texts.items in
    let asked = map_length (λ name. name.now) c.args.names.inputs.now in
    let made = c.in-Ok.ensures.disk in
    record {
      rules = c.in_ok-fields.ensures.rules;
      number = (omega (arith, count, texts, asked, c.requires.inputs.0), omega (arith, count, texts, asked, c.requires.inputs.1));
      empty = record { held = made.empty; end = made.end; out = made.out };
    }

pub returns-in_err-fields : goal.returns-in_err-fields
returns-in_err-fields g c =
    let p = err_from_is_err_and c.from_residual.result c.from_residual.ensures.1 in
    rw (p.1, p.2) (record {
      told = λ w is. schema_told _ _ _ _ w _ c.in_err-fields.field-0.0 (c.in_err-fields.ensures.told w is) (c.read_schema.ensures.asks.world
          ∙ is);
      order = nothing_made _ _ _ c.read_schema.ensures.asks.world;
      crash = none_left _ _ _ _ _ _ _ c.read_schema.ensures.asks.world;
      asked = schema_asked _ _ _ _ _ c.in_err-fields.ensures.asks.asked;
      schema_first = λ w is bad. c.in_err-fields.ensures.asks.asked;
      cause = cause_first c.in_err-fields.field-0.0 _ _ c.in_err-fields.ensures.cause;
      back = c.read_schema.ensures.rest;
    })

pub returns-in_err-texts : goal.returns-in_err-texts
returns-in_err-texts g c =
    let p = err_from_is_err_and c.from_residual-in_err-texts.result c.from_residual-in_err-texts.ensures.1 in
    rw (p.1, p.2) (record {
      told = λ w is. refused_told _ _ _ _ w _ c.in_err-texts.field-0.0 c.in_err-texts.ensures.refused (c.open_texts.ensures.asks.world
          ∙ c.read_schema.ensures.asks.world ∙ is);
      order = nothing_made _ _ _ (c.open_texts.ensures.asks.world ∙ c.read_schema.ensures.asks.world);
      crash = none_left _ _ _ _ _ _ _ (c.open_texts.ensures.asks.world ∙ c.read_schema.ensures.asks.world);
      asked = texts_asked _ _ _ _ _ _ c.in_ok-fields.ensures.asks.asked c.in_err-texts.ensures.asks.asked;
      schema_first = λ w is bad. absurd (bad (is_schema _ _ (c.in_ok-fields.ensures.told w is)));
      cause = cause_next c.in_err-texts.field-0.0 _ _ _ c.read_schema.ensures.cause.later c.in_err-texts.ensures.cause;
      back = record {
        err_faults = c.in_err-texts.ensures.rest.1.err_faults ∙ c.read_schema.ensures.rest.err_faults;
        opened = omega (arith, c.in_err-texts.ensures.rest.1.opened, c.read_schema.ensures.rest.opened);
      };
    })

pub returns-in-Ok : goal.returns-in-Ok
returns-in-Ok g c =
    let st = g.H.Text.Source.state in
    let names = map (λ name. name.now) c.args.names.inputs.now in
    let count = texts_counted _ names (map st c.in_ok-texts.texts.items) c.in_ok-texts.ensures.texts in
    let texts = map_length st c.in_ok-texts.texts.items in
    let asked = map_length (λ name. name.now) c.args.names.inputs.now in
    let wrote = c.write_file-disk.ensures in
    let made = c.in-Ok.ensures.creates in
    record {
      told = λ w is.
          let at_texts = c.open_texts.ensures.asks.world ∙ c.read_schema.ensures.asks.world ∙ is in
          let open_at = c.read_schema.ensures.asks.world ∙ is in
          let tell = texts_told w _ names (map st c.in_ok-texts.texts.items) open_at c.in_ok-texts.ensures.texts in
          out_told c.args.names.out.now c.args.names.schema.now names c.args.settings.now.params.now _ tell.texts w
          (record { schema_is = c.in_ok-fields.ensures.told w is; inputs_are = tell.are }) _ _ _ c.return_disk.ensures.world
          c.write_file-disk.result.1
          (wrote.file.told (creates c.args.names.out.now w) tell.texts (made.ok w at_texts) tell.tell
          (c.in-Ok.ensures.disk.held w at_texts));
      order = λ w w' is is'.
          let at_texts = c.open_texts.ensures.asks.world ∙ c.read_schema.ensures.asks.world ∙ is in
          let open_at = c.read_schema.ensures.asks.world ∙ is in
          let tell = texts_told w _ names (map st c.in_ok-texts.texts.items) open_at c.in_ok-texts.ensures.texts in
          let empty = c.in-Ok.ensures.disk.held w at_texts in
          back_in_order c.args.names.out.now c.args.names.schema.now names c.args.settings.now.params.now _ tell.texts w
          (record { schema_is = c.in_ok-fields.ensures.told w is; inputs_are = tell.are }) _ _ _ c.return_disk.ensures.world _ _
          c.write_file-disk.result.1 empty wrote.file.order
          (wrote.file.told (creates c.args.names.out.now w) tell.texts (made.ok w at_texts) tell.tell empty) w w' is is';
      crash = λ w w' is is' made-disk.
          let at_texts = c.open_texts.ensures.asks.world ∙ c.read_schema.ensures.asks.world ∙ is in
          let open_at = c.read_schema.ensures.asks.world ∙ is in
          let tell = texts_told w _ names (map st c.in_ok-texts.texts.items) open_at c.in_ok-texts.ensures.texts in
          let empty = c.in-Ok.ensures.disk.held w at_texts in
          back_safe c.args.names.out.now c.args.names.schema.now names c.args.settings.now.params.now _ tell.texts w
          (record { schema_is = c.in_ok-fields.ensures.told w is; inputs_are = tell.are }) _ _ _ c.return_disk.ensures.world
          c.write_file-disk.result.1 (wrote.file.told (creates c.args.names.out.now w) tell.texts (made.ok w at_texts) tell.tell empty)
          (wrote.file.crash (creates c.args.names.out.now w) tell.texts (made.ok w at_texts) tell.tell empty) w' is';
      asked = all_asked _ _ _ _ c.write_file-disk.result.1 _ _ _ _ c.in_ok-fields.ensures.asks.asked c.in_ok-texts.ensures.asks.asked
          made.asks.ok
          (c.return_disk.ensures.back.asked ∙ wrote.rest.asked);
      schema_first = λ w is bad. absurd (bad (is_schema _ _ (c.in_ok-fields.ensures.told w is)));
      cause = cause_back _ _ _ _ _ c.write_file-disk.result.1 (omega (
        arith,
        c.read_schema.ensures.cause.later,
        c.open_texts.ensures.cause.later,
        made.asks.cause.later,
      )) wrote.cause.later
          c.return_disk.ensures.back.faults_taken wrote.cause.failed;
      back = record {
        err_faults = c.return_disk.ensures.back.err_faults ∙ (wrote.rest.err_faults ∙ (made.asks.err_faults
            ∙ (c.in_ok-texts.ensures.rest.0.err_faults ∙ c.read_schema.ensures.rest.err_faults)));
        opened = omega (
          arith,
          c.return_disk.ensures.back.opened,
          wrote.rest.opened,
          made.asks.opened,
          c.in_ok-texts.ensures.rest.0.opened,
          c.read_schema.ensures.rest.opened,
          count,
          texts,
          asked,
        );
      };
    }

pub returns : goal.returns
returns g c =
    let st = g.H.Text.Source.state in
    let names = map (λ name. name.now) c.args.names.inputs.now in
    let count = texts_counted _ names (map st c.in_ok-texts.texts.items) c.in_ok-texts.ensures.texts in
    let asked = map_length (λ name. name.now) c.args.names.inputs.now in
    let made = c.in-Err.ensures.creates in
    let back = c.return_texts.ensures in
    let stays = back.world ∙ (made.err ∙ (c.open_texts.ensures.asks.world ∙ c.read_schema.ensures.asks.world)) in
    record {
      told = λ w is. rw c.from.ensures (refused_told _ _ _ _ w _ _ (refusal_is c.in-Err.refused) (stays ∙ is));
      order = nothing_made _ _ _ stays;
      crash = none_left _ _ _ _ _ _ _ stays;
      asked = disk_refused _ _ _ _ _ c.in-Err.refused _ _ _ _ c.in_ok-fields.ensures.asks.asked c.in_ok-texts.ensures.asks.asked
          made.asks.failed
          made.asks.memory back.asked;
      schema_first = λ w is bad. absurd (bad (is_schema _ _ (c.in_ok-fields.ensures.told w is)));
      cause = record {
        later = omega (arith, c.read_schema.ensures.cause.later, c.open_texts.ensures.cause.later, made.asks.cause.later, back.later);
        failed = λ is.
            let rose = made.asks.cause.failed (refused_outside c.in-Err.refused _ c.from.ensures is) in
            omega (arith, rose, c.read_schema.ensures.cause.later, c.open_texts.ensures.cause.later, back.later);
      };
      back = record {
        err_faults = back.err_faults ∙ (made.asks.err_faults ∙ (c.in_ok-texts.ensures.rest.0.err_faults
            ∙ c.read_schema.ensures.rest.err_faults));
        opened = omega (
          arith,
          back.opened,
          made.asks.refused,
          c.in_ok-texts.ensures.rest.0.opened,
          c.read_schema.ensures.rest.opened,
          count,
          asked,
        );
      };
    }
