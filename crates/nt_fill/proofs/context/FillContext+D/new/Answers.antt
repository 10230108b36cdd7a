use Rattle.std.proofs.Common.{sym, subst, List, arith}
use Rattle.std.specs.List.{AllByRecursion}
use Rattle.nt_machine.specs.declared.entry.Entry.{Entry}
use Rattle.nt_book.specs.declared.meta.ClusterMeta.{ClusterMeta}
use Rattle.nt_machine.specs.History.{ranges_of}
use Rattle.nt_machine.specs.Legal.{IsFilledRange}
use Rattle.nt_commit.specs.Holds.{HasNoneOut}
use Rattle.nt_fill.proofs.Described.{described_known, described_some}
use Rattle.nt_fill.proofs.context.FillContext+D.new.Goals as goal

pub empty_columns-requires : goal.empty_columns-requires
empty_columns-requires g c = described_known _ _ c.requires.schema

pub invariant_of-result : goal.invariant_of-result
invariant_of-result g c = (
  record {
    of = c.requires.pass.of;
    staged_is = c.requires.pass.staged_is;
    none_out = subst (λ (l : List (Entry ClusterMeta)). HasNoneOut l) (sym c.requires.pass.unused) tt;
    filled = λ there. subst (λ (l : List (Entry ClusterMeta)). AllByRecursion IsFilledRange (ranges_of l)) (sym c.requires.pass.unused) tt;
    count = c.requires.schema.count;
    some = described_some c.described_fields_are_open.ensures _ c.args.schema.now c.requires.schema;
    gives = c.in-Ok.ensures;
    few = omega arith;
    cluster = c.args.params.now.cluster_range;
    page = c.args.params.now.page_range;
  },
  c.new-in-Ok.ensures _,
)
