use Rattle.std.proofs.Common.{◌≡◌, ◌++◌, ◌+◌, ◌≤◌, ◌*◌, map, drop, vec_len}
use Rattle.nt_grammar.specs.Rows.{field_row}
use Rattle.nt_grammar.specs.Added.{nodes_of, added_rows}
use Rattle.nt_schema.specs.Describing.{mark_view}
use Rattle.nt_schema.proofs.describing.push_rows.Given as goal

abbrev pub invariant-loop-node : goal.invariant-loop-node
invariant-loop-node l = record {
  rows : l.fields.items ++ map field_row (nodes_of (map mark_view (drop l.node-index l.nodes)))
      ≡ l.initial.fields.items ++ map field_row (nodes_of (map mark_view l.nodes));
  columns : l.columns.items ++ added_rows l.plain l.entries (vec_len l.fields) (map mark_view (drop l.node-index l.nodes))
      ≡ l.initial.columns.items ++ added_rows l.plain l.entries (vec_len l.initial.fields) (map mark_view l.nodes);
  count : vec_len l.fields ≡ vec_len l.initial.fields + l.node-index;
  few : vec_len l.columns ≤ vec_len l.initial.columns + 2 * l.node-index;
}
