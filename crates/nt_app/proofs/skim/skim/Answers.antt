use Rattle.std.proofs.Common.{◌∙◌}
use Rattle.nt_app.proofs.Skimming.{memory_skims, skims_words, copied_test}
use Rattle.nt_app.proofs.skim.skim.Goals as goal

pub returns-in_default : goal.returns-in_default
returns-in_default g c = memory_skims _ _ _ _ _

pub returns : goal.returns
returns g c =
    let is = c.in-Ok.ensures in
    record {
      stored = c.store_selected-stored.result;
      answer_is = c.status_of_skim.ensures;
      stores = skims_words _ _ _ _ c.as_slice.result.now _ _ _ _ _ (record {
        names_are = c.as_slice.ensures.value ∙ is.names_are;
        test_is = copied_test c.as_ref.result c.in-Ok.chosen.test c.as_ref.ensures.value ∙ is.test_is;
      }) c.store_selected-stored.ensures;
    }
