use Rattle.nt_close.proofs.FirstByte.{begins_in_order, closes_in_order}
use Rattle.nt_close.proofs.laws.steps_stay_in_order.Goals as goal

pub returns : goal.returns
returns c = record {
  begins = begins_in_order;
  closes = λ tail front h left some reads order. closes_in_order tail front h some reads order left;
}
