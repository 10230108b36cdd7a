use Rattle.std.proofs.Common.{◌≡◌, ◌∙◌, ap, subst, List, Some, length, refl}
use Rattle.std.proofs.lemmas.Option.{slice_get_read}
use Rattle.std.specs.Prelude.{slice_get}
use Rattle.nt_grammar.specs.Table.{Table}
use Rattle.nt_file_meaning.specs.Outlines.{Outline}
use Rattle.nt_copied.specs.Alike.{bare}
use Rattle.nt_merge.specs.Joining.{IsMergeSchema}
use Rattle.nt_merge.proofs.Target.{merge-schema}
use Rattle.nt_merge.proofs.merging.bare_schema.Goals as goal

pub returns-clause-bare : goal.returns-clause-bare
returns-clause-bare c =
    let inside = c.plan.inside.readers.items in
    let read : slice_get inside 0 ≡ Some c.index.result.now =
    slice_get_read inside (length inside) 0 c.index.result.now refl c.plan.invariant.some c.index.ensures in
    subst (λ (os : List Outline). IsMergeSchema c.in_ok-schema.schema os) c.plan.view_is
    (merge-schema c.alike_schemas_are_read_alike.ensures c.schemas_without_error_are_mergeable.ensures inside c.plan.invariant
    c.index.result.now read c.in_ok-schema.schema (c.in_ok-schema.ensures ∙ ap (λ (t : Table). bare t) c.schema.ensures)
    (c.is_whole.ensures.0 c.if-not-is_whole.false))
