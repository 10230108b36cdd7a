use Rattle.std.proofs.Common.{◌≡◌, ◌-◌, ◌<◌, ℕ, List, get_or, length, take, drop, ap, sym, subst, arith, length-take-le}
use Rattle.std.proofs.lemmas.Str.{IsUtf8-from_ascii}
use Rattle.nt_event.specs.Lines.{HasNoLf, HasReady, ready_bytes}
use Rattle.nt_event.proofs.InnerBytes.{inner-ascii, inner-no_lf}
use Rattle.nt_event.proofs.lines.LineReader.ready.Goals as goal

pub returns-clause-ready : goal.returns-clause-ready
returns-clause-ready g c =
    let self = c.args.self.now in
    let len = c.inner_end-len.result in
    let hay = take (self.end - self.at) (drop self.at c.deref.result.now) in
    let few : length (take len hay) ≡ len = length-take-le len hay c.inner_end-len.ensures.high in
    let is : hay ≡ ready_bytes self = ap (λ l. take (self.end - self.at) (drop self.at l)) c.deref.ensures.value in
    subst (λ n. HasReady self n) (sym few) (record {
      within = subst (λ (l : List ℕ). len < length l) is (omega (arith, c.inner_end-len.ensures.high, c.if-len-rest.false));
      lf = subst (λ (l : List ℕ). get_or l len 0 ≡ 10) is c.if-rest-len-ne10.false;
      one_line = subst (λ l. HasNoLf (take len l)) is (inner-no_lf (take len hay) c.inner_end-len.ensures.inner);
      fits = omega (arith, c.if-len-gt-MAX_LINE.false);
      number = omega (arith, c.if-self-ge-MAX_NUMBER.false);
    })

pub returns-clause-utf8 : goal.returns-clause-utf8
returns-clause-utf8 g c = IsUtf8-from_ascii _ (inner-ascii _ c.inner_end-len.ensures.inner)
