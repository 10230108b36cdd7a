-- what is listed so far comes before what is left
use Rattle.std.proofs.Common.{◌≡◌, drop, None}
use Rattle.nt_listing.specs.Listings.{listed_behind, columns_listed}
use Rattle.nt_listing.proofs.page_listing.list_columns.Given as goal

abbrev pub invariant-loop-id : goal.invariant-loop-id
invariant-loop-id l = record {
  right : l.listing.wrong ≡ None;
  listed : columns_listed l.number l.cluster l.schema 0 l.schema.columns
      ≡ listed_behind l.listing.pages.items l.listing.zeros.items None
      (columns_listed l.number l.cluster l.schema l.id (drop l.id l.schema.columns));
}
