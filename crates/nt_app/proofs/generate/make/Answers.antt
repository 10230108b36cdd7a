use Rattle.nt_app.proofs.generate.make.Goals as goal

pub returns : goal.returns
returns g c = record {
  p = c.default_params-params.result;
  defaults = c.default_params-params.ensures;
  made = c.generate-made.result;
  answer_is = c.status_of_generate.ensures;
  generates = c.generate-made.ensures;
}
