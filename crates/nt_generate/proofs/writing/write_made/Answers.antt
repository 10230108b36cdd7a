use Rattle.std.proofs.Common.{sym, subst, map, arith}
use Rattle.std.proofs.lemmas.List.{length-map}
use Rattle.nt_types.specs.Rules.{AreFields}
use Rattle.nt_draws.specs.Events.{event_fields}
use Rattle.nt_draws.specs.Source.{state_of}
use Rattle.nt_store.proofs.Answered.{ok_filled, ok_holds, err_why}
use Rattle.nt_generate.specs.Made.{made_texts}
use Rattle.nt_generate.proofs.Sources.{told_counted, made_counted, none_failed}
use Rattle.nt_generate.proofs.Written.{of_no_text, fills_made, unfilled_made}
use Rattle.nt_generate.proofs.writing.write_made.Goals as goal

pub fill_file-disk-requires-clause-may : goal.fill_file-disk-requires-clause-may
fill_file-disk-requires-clause-may g c κs within =
    let m = c.args.making.now in
    let count = told_counted (map state_of c.args.sources.items) (made_texts m) c.requires.may.texts in
    let texts = made_counted m in
    let items = length-map c.args.sources.items state_of in
    record {
      rules = subst AreFields (sym c.requires.may.fields_are) c.made_texts_are_read.ensures.fields;
      number = (omega (arith, count, texts, items, m.contexts_range.0), omega (arith, count, texts, items, m.contexts_range.1));
      empty = c.requires.may.empty;
    }

pub close_made-closed-requires : goal.close_made-closed-requires
close_made-closed-requires g c = ok_holds _ _ _ c.in-Ok.is c.fill_file-disk.ensures.may_close

pub unwritten-requires : goal.unwritten-requires
unwritten-requires g c =
    let m = c.args.making.now in
    let fills = fills_made _ _ _ _ _ _ _ _ c.requires.may.fields_are c.fill_file-disk.ensures in
    of_no_text (Unit {0}) c.args.settings.now.params.now m c.in-Err.error (c.made_texts_are_read.ensures.read m)
    (err_why event_fields c.args.settings.now.params.now (made_texts m) _ _ c.in-Err.is (fills.why (made_texts m) c.requires.may.texts))

pub returns-in-Ok : goal.returns-in-Ok
returns-in-Ok g c =
    let m = c.args.making.now in
    let fills = fills_made _ _ _ _ _ _ _ _ c.requires.may.fields_are c.fill_file-disk.ensures in
    let closes = c.close_made-closed.ensures m in
    record {
      commits = _;
      left = λ held.
          let left = ok_filled event_fields c.args.settings.now.params.now (made_texts m) _ _ _ c.in-Ok.is
          (fills.left (made_texts m) c.requires.may.texts held) in
          (closes.left left.0 left.1 left.2).0;
      order_kept = λ held.
          let left = ok_holds _ _ _ c.in-Ok.is fills.shut held in
          let ordered = closes.order_kept left.0 left.1 in
          (ordered.0, ordered.1, ordered.2 left.2.0 left.2.1);
      crash = λ held.
          let left = ok_filled event_fields c.args.settings.now.params.now (made_texts m) _ _ _ c.in-Ok.is
          (fills.left (made_texts m) c.requires.may.texts held) in
          (closes.left left.0 left.1 left.2).1;
      failed = closes.failed;
    }

pub returns : goal.returns
returns g c =
    let m = c.args.making.now in
    let fills = fills_made _ _ _ _ _ _ _ _ c.requires.may.fields_are c.fill_file-disk.ensures in
    rw c.unwritten.ensures (unfilled_made _ c.args.settings.now.params.now m c.in-Err.error _ _ _ _ _
    (c.made_texts_are_read.ensures.read m) c.in-Err.is
    fills c.requires.may.texts (none_failed c.fill_file-disk.result.1.items))
