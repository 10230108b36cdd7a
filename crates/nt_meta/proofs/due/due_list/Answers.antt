use Rattle.std.proofs.Common.{◌≡◌, ◌∙◌, sym, refl, subst, ℕ, List, ◌++◌, Some, replicate}
use Rattle.std.specs.Prelude.{IfOk}
use Rattle.nt_container.specs.Lengths.{blob_key_len}
use Rattle.nt_pagelists.specs.Due.{due_object}
use Rattle.nt_meta.proofs.DueFacts.{due-written}
use Rattle.nt_meta.proofs.due.due_list.Goals as goal

pub returns : goal.returns
returns c =
    let book = c.args.book.now in
    let g : ℕ × ℕ = (c.in-Some.most, c.in-Some.header_sum) in
    let group : book.group ≡ Some g = sym c.group.ensures ∙ c.in-Some.is in
    let list : c.deref.result.now ≡ due_object book =
    c.deref.ensures.value
    ∙ (c.in_ok-list-in-Some.ensures ∙ due-written book g _ _ c.requires group c.clusters-to.ensures refl) in
    subst (λ (l : List ℕ). IfOk c.behind_key_room.result (λ made. made.items ≡ replicate blob_key_len 0 ++ l)) list
    c.behind_key_room.ensures
