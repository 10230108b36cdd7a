use Rattle.std.proofs.Common.{◌≡◌, ◌-◌, ℕ, List, map, sym, ap, subst, ◌∙◌}
use Rattle.std.specs.List.{slice_range}
use Rattle.nt_column.specs.Elements.{plain, text_of}
use Rattle.nt_column.specs.Words.{lent_elements}
use Rattle.nt_trees.specs.Columns.{add_to}
use Rattle.nt_trees.specs.TreeAt.{text_from}
use Rattle.nt_trees.specs.Views.{cols_of}
use Rattle.nt_shred.specs.Frame.{FitsIn}
use Rattle.nt_shred.specs.Steps.{GainsInRoom}
use Rattle.nt_moving.proofs.Adding.{text-plain}
use Rattle.nt_moving.proofs.texts.move_bytes.Goals as goal

pub push_bytes-requires-clause-room : goal.push_bytes-requires-clause-room
push_bytes-requires-clause-room g c =
    let t = c.args.text in
    let es = g.C.Columns.elements c.args.columns.now t.column in
    let bytes = c.in-Some-Bytes.bytes.now in
    let lent : map plain bytes ≡ slice_range es t.from t.to =
    sym (ap lent_elements c.in-Some-Bytes.field-0-is) ∙ c.in-Some-Bytes.ensures.words in
    let same : bytes ≡ text_from es t.from (t.to - t.from) = sym (text-plain bytes c.bytes_fit.ensures) ∙ ap text_of lent in
    subst (λ (l : List ℕ). FitsIn c.args.out.now (add_to c.args.column (map plain l) (cols_of c.args.out.now))) (sym same) c.requires.room

pub returns-in-Some-Bytes : goal.returns-in-Some-Bytes
returns-in-Some-Bytes g c =
    let t = c.args.text in
    let es = g.C.Columns.elements c.args.columns.now t.column in
    let bytes = c.in-Some-Bytes.bytes.now in
    let lent : map plain bytes ≡ slice_range es t.from t.to =
    sym (ap lent_elements c.in-Some-Bytes.field-0-is) ∙ c.in-Some-Bytes.ensures.words in
    let same : bytes ≡ text_from es t.from (t.to - t.from) = sym (text-plain bytes c.bytes_fit.ensures) ∙ ap text_of lent in
    subst (λ (l : List ℕ). GainsInRoom (add_to c.args.column (map plain l)) c.args.out.now c.push_bytes.new.out) same
    c.push_bytes.ensures
