use Rattle.nt_container.proofs.Words.{short_text, long_text, wide_place, narrow_place}
use Rattle.nt_container.proofs.laws.words_are_read.Goals as goal

pub returns : goal.returns
returns c = record {
  short = λ text rest place lt. short_text text lt place rest;
  long = λ text rest place lt. long_text text lt place rest;
  wide = λ n place rest lt. wide_place n lt place rest;
  narrow = λ n place rest lt. narrow_place n lt place rest;
}
