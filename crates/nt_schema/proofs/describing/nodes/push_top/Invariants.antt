use Rattle.std.proofs.Common.{true, ◌≡◌, ◌≤◌, ◌+◌, ◌++◌, map, drop, vec_len}
use Rattle.nt_types.specs.Views.{member_view}
use Rattle.nt_types.specs.ShapeData.{parts_of}
use Rattle.nt_types.specs.Schema.{parts_count}
use Rattle.nt_grammar.specs.Added.{with_mark}
use Rattle.nt_grammar.specs.Rows.{at_top}
use Rattle.nt_schema.specs.Describing.{mark_view}
use Rattle.nt_schema.proofs.describing.nodes.push_top.Given as goal

abbrev pub invariant-loop-field : goal.invariant-loop-field
invariant-loop-field l = record {
  few : l.first + vec_len l.nodes + parts_count (parts_of (map member_view (drop l.field-index l.fields))) ≤ 4096;
  order : map mark_view l.nodes.items ++ with_mark true (at_top (l.first + vec_len l.nodes) (map member_view (drop l.field-index l.fields)))
      ≡ map mark_view l.initial.nodes.items ++ with_mark true (at_top (l.first + vec_len l.initial.nodes) (map member_view l.fields));
}
