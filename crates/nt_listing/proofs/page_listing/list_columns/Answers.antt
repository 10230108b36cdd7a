use Rattle.std.proofs.Common.{◌+◌, ◌<◌, drop, length, Option, None, sym, ap, ◌∙◌, arith}
use Rattle.nt_num.specs.declared.fault.ReadError.{ReadError}
use Rattle.nt_listing.specs.Listings.{Listed, listed_behind, columns_listed}
use Rattle.nt_listing.proofs.ListingSteps.{column-listed, listed-stopped, row-there}
use Rattle.nt_listing.proofs.page_listing.list_columns.Goals as goal

pub returns-in-Some : goal.returns-in-Some
returns-in-Some c =
    let rows = c.args.schema.now.columns in
    let id = c.loop-id.id in
    let lt : id < length rows = omega (arith, c.loop-id-test.true, c.columns-id-end.ensures) in
    let rest : Listed = columns_listed c.args.number c.args.cluster.now c.args.schema.now (id + 1) (drop (id + 1) rows) in
    let new = c.list_column.new.listing in
    sym (c.loop-id.invariant.listed
    ∙ ap (λ (l : Listed). listed_behind c.loop-id.listing.pages.items c.loop-id.listing.zeros.items None l)
    (column-listed c.args.number c.args.cluster.now c.args.schema.now rows id _ (row-there rows id lt))
    ∙ c.in_ok-list_column.ensures _ (row-there rows id lt) rest
    ∙ listed-stopped new.pages.items new.zeros.items new.wrong _ rest c.in-Some.is)

pub loop-id-preserved : goal.loop-id-preserved
loop-id-preserved c =
    let rows = c.args.schema.now.columns in
    let id = c.loop-id.id in
    let lt : id < length rows = omega (arith, c.loop-id-test.true, c.columns-id-end.ensures) in
    let rest : Listed = columns_listed c.args.number c.args.cluster.now c.args.schema.now (id + 1) (drop (id + 1) rows) in
    let new = c.list_column.new.listing in
    record {
      right = c.in-None.is;
      listed = c.loop-id.invariant.listed
          ∙ ap (λ (l : Listed). listed_behind c.loop-id.listing.pages.items c.loop-id.listing.zeros.items None l)
          (column-listed c.args.number c.args.cluster.now c.args.schema.now rows id _ (row-there rows id lt))
          ∙ c.in_ok-list_column.ensures _ (row-there rows id lt) rest
          ∙ ap (λ (w : Option ReadError). listed_behind new.pages.items new.zeros.items w rest) c.in-None.is;
    }
