use Rattle.std.proofs.Common.{◌≡◌, ◌++◌, ◌∙◌, ap, List, ℕ, length, arith}
use Rattle.std.proofs.lemmas.List.{length-append}
use Rattle.nt_copying.proofs.CopiedPages.{sum-stored, long-stored}
use Rattle.nt_copying.proofs.image.put_stored.Goals as goal

pub returns-then-page : goal.returns-then-page
returns-then-page c =
    let p = c.args.page.now in
    let stored = c.args.stored.now in
    let old = c.args.image.now.items in
    let grown : c.extend_from_slice.new.self.items ≡ old ++ stored = c.in_ok-extend_from_slice.ensures.items in
    record {
      len = omega (arith, ap (λ (l : List ℕ). length l) grown, length-append old stored, long-stored p stored c.if-page.true c.requires);
      bytes = λ sum. grown ∙ ap (λ (l : List ℕ). old ++ l)
          (sum-stored p stored c.if-page.true c.requires (λ i. omega (arith, c.type_inv.stored i)) sum);
    }
