use Rattle.std.proofs.Common.{◌≡◌, ℕ, List, length, Ok, refl, sym, ap, ◌∙◌, arith}
use Rattle.std.proofs.lemmas.Result.{err_from_is_err_and}
use Rattle.std.proofs.lemmas.List.{take_all, length-take-le}
use Rattle.nt_view.specs.declared.page_place.PagePlace.{PagePlace}
use Rattle.nt_view.specs.Stores.{taken_bytes, cut_up, lens_of}
use Rattle.nt_view.proofs.Stores.{fails-as}
use Rattle.nt_view.proofs.Taking.{pages-first, pages-more, pages-fail, pages-done, count-taken, length-taken, grown-by, nothing-ahead}
use Rattle.nt_view.proofs.reading.read_pages.Goals as goal

pub loop-i-init : goal.loop-i-init
loop-i-init g c =
    let none : length c.reserve.new.self.items ≡ 0 =
    ap (λ (l : List ℕ). length l) (c.in_ok-reserve.ensures.items ∙ c.clear.ensures.items) in
    record {
      same = refl;
      later = omega arith;
      seen = record {
        sized = λ told is. c.in_ok-size.ensures.size told (sym c.size.ensures.same ∙ is);
        taken = omega arith;
        within = omega (arith, none);
        ahead = λ told is. nothing-ahead c.reserve.new.self.items told (c.in_ok-reserve.ensures.items ∙ c.clear.ensures.items);
      };
      count = refl;
      read = λ told is. pages-first told c.args.pages.now;
    }

pub loop-i-preserved : goal.loop-i-preserved
loop-i-preserved g c =
    let inv = c.loop-i.invariant in
    let t = c.in_ok-take_page.ensures.taken in
    record {
      same = c.in_ok-take_page.ensures.file.same ∙ inv.same;
      later = omega (arith, c.in_ok-take_page.ensures.file.later, inv.later);
      seen = record {
        sized = λ told is. t.seen.sized told (inv.same ∙ is);
        taken = t.seen.taken;
        within = t.seen.within;
        ahead = λ told is. t.seen.ahead told (inv.same ∙ is);
      };
      count = count-taken c.args.pages.now c.loop-i.i _ c.loop-i.store.taken c.take_page.new.store.taken (omega arith) inv.count t.len;
      read = λ told is.
          inv.read told is
          ∙ pages-more told c.loop-i.i c.args.pages.now _ (taken_bytes c.loop-i.store) (taken_bytes c.take_page.new.store) (omega arith)
          (length-taken c.loop-i.store inv.seen.taken ∙ inv.count)
          (grown-by (taken_bytes c.loop-i.store) (taken_bytes c.take_page.new.store) _ _ _ (length-taken c.loop-i.store inv.seen.taken)
          (length-taken c.take_page.new.store t.seen.taken) t.len)
          (c.in_ok-take_page.ensures.read told (inv.same ∙ is));
    }

pub returns-in_err-take_page-clause-read : goal.returns-in_err-take_page-clause-read
returns-in_err-take_page-clause-read g c told is =
    let p = err_from_is_err_and c.from_residual-in_err-take_page.result c.from_residual-in_err-take_page.ensures.1 in
    let inv = c.loop-i.invariant in
    let first = c.size.ensures.same ∙ is in
    rw (p.1, p.2)
    (fails-as (λ (l : List ℕ). l) (λ (l : List (List ℕ)). l) _ _ _
    (λ f h. inv.read told first ∙ pages-fail told c.loop-i.i c.args.pages.now _ (taken_bytes c.loop-i.store) f (omega arith) h)
    (c.in_err-take_page.ensures.read told (inv.same ∙ first)))

pub returns-clause-read : goal.returns-clause-read
returns-clause-read g c told is =
    c.loop-i.invariant.read told (c.size.ensures.same ∙ is)
    ∙ pages-done told c.loop-i.i c.args.pages.now (taken_bytes c.loop-i.store) (omega (arith, c.loop-i-test.false))
    ∙ ap (λ (l : List ℕ). Ok (cut_up c.args.pages.now l)) (sym c.truncate.ensures.items)

pub returns-clause-len : goal.returns-clause-len
returns-clause-len g c = (
  ap (λ (l : List ℕ). length l) c.truncate.ensures.items
      ∙ length-take-le c.loop-i.store.taken c.loop-i.store.bytes.items c.loop-i.invariant.seen.taken
      ∙ c.loop-i.invariant.count
      ∙ ap (λ (l : List PagePlace). lens_of l) (take_all c.loop-i.i c.args.pages.now (omega (arith, c.loop-i-test.false))),
  omega (arith, c.if-pages.false),
)
