use Rattle.std.proofs.Common.{◌<◌, ℕ, List, length, arith, sym, map}
use Rattle.std.specs.Prelude.{◌==◌}
use Rattle.std.proofs.lemmas.List.{map_push}
use Rattle.nt_types.specs.ColumnTable.{bits_of}
use Rattle.nt_encode.specs.Pages.{page_values}
use Rattle.nt_encode.proofs.Values.{length-page_values}
use Rattle.nt_column.specs.Bits.{bit_of}
use Rattle.nt_column.proofs.Growing.{values-more, values-all, before-next, bit-of_value}
use Rattle.nt_column.proofs.Pages.{not_switch}
use Rattle.nt_column.proofs.filling.push_bits.Goals as goal

pub value_at-last-requires-clause-page : goal.value_at-last-requires-clause-page
value_at-last-requires-clause-page c =
    record { other = not_switch c.args.kind 1 (sym c.requires.kind) (omega arith); size = c.requires.length }

pub loop-i-preserved : goal.loop-i-preserved
loop-i-preserved c =
    let values : List ℕ = page_values c.args.kind c.args.count c.args.bytes.now in
    let within : c.loop-i.i < length values = omega (arith, length-page_values c.args.kind c.args.count c.args.bytes.now) in
    record {
      items = rw (
        c.push_reserved.ensures.items,
        map_push bit_of c.loop-i.list.items (c.value_at-last.result == 1),
        bit-of_value (bits_of c.args.kind) c.value_at-last.result c.requires.kind c.value_at-last.ensures.fits,
      )
          (values-more (map bit_of c.args.list.now.items) (map bit_of c.loop-i.list.items) values c.loop-i.i c.value_at-last.result
          c.loop-i.invariant.items within c.value_at-last.ensures.value);
      last = before-next values c.loop-i.i c.value_at-last.result c.value_at-last.ensures.value;
      room = record { longer = omega arith; within = omega arith };
    }

pub returns-clause-items : goal.returns-clause-items
returns-clause-items c =
    values-all (map bit_of c.args.list.now.items) (map bit_of c.loop-i.list.items)
    (page_values c.args.kind c.args.count c.args.bytes.now) c.loop-i.i c.loop-i.invariant.items
    (omega (arith, length-page_values c.args.kind c.args.count c.args.bytes.now))
