use Rattle.std.proofs.Common.{◌∙◌}
use Rattle.nt_store.proofs.Answered.{ok_filled, ok_holds, err_why, err_left, either_failed}
use Rattle.nt_store.proofs.Crashing.{leaves_open}
use Rattle.nt_store.proofs.Printing.{unfilled_told}
use Rattle.nt_store.proofs.storing.write_file.Goals as goal

pub finish-finished-requires : goal.finish-finished-requires
finish-finished-requires g c = record { may = ok_holds _ _ _ c.in-Ok.is c.fill_file-disk.ensures.may_close }

pub returns-in-Ok-clause-file : goal.returns-in-Ok-clause-file
returns-in-Ok-clause-file g c =
    let fills = c.fill_file-disk.ensures in
    let finishes = c.finish-finished.ensures.file in
    record {
      told = λ w ts is tell held.
          let left = ok_filled _ c.args.settings.now.params.now ts _ _ _ c.in-Ok.is (fills.left ts tell held) in
          finishes.told _ ts w left.0 (c.return_texts.ensures.world ∙ is) left.1 left.2;
      order = λ held.
          let left = ok_holds _ _ _ c.in-Ok.is fills.shut held in
          let ordered = finishes.order left.0 left.1 in
          (ordered.0, ordered.1, ordered.2 left.2.0 left.2.1);
      crash = λ w ts is tell held.
          let left = ok_filled _ c.args.settings.now.params.now ts _ _ _ c.in-Ok.is (fills.left ts tell held) in
          finishes.crash _ ts w left.0 (c.return_texts.ensures.world ∙ is) left.1 left.2;
    }

pub returns-in-Err-clause-file : goal.returns-in-Err-clause-file
returns-in-Err-clause-file g c =
    let fills = c.fill_file-disk.ensures in
    record {
      told = λ w ts is tell held.
          unfilled_told _ c.args.settings.now.params.now ts w _ _ c.in-Err.error (c.return_texts.ensures.world ∙ is)
          (err_why _ c.args.settings.now.params.now ts _ _ c.in-Err.is (fills.why ts tell))
          (err_left _ c.args.settings.now.params.now ts _ _ _ c.in-Err.is (fills.left ts tell held));
      order = fills.order;
      crash = λ w ts is tell held.
          let left = fills.crash held in
          (left.0, left.1, leaves_open _ left.0.log c.in-Err.error left.2);
    }

pub returns-in-Err-clause-cause : goal.returns-in-Err-clause-cause
returns-in-Err-clause-cause g c = record {
  later = c.return_texts.ensures.later;
  failed = λ is. either_failed _ _ _ _ _ _ c.in-Err.is c.fill_file-disk.ensures.failed c.return_texts.ensures.failed (cc is);
}
