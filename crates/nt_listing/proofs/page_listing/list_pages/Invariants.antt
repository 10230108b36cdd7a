-- what is listed so far comes before what is left
use Rattle.std.proofs.Common.{◌≡◌, drop, None}
use Rattle.nt_listing.specs.Listings.{Listed, listed_behind, pages_onto}
use Rattle.nt_listing.proofs.page_listing.list_pages.Given as goal

abbrev pub invariant-loop-page : goal.invariant-loop-page
invariant-loop-page l = record {
  right : l.listing.wrong ≡ None;
  listed : (rest : Listed)
      → listed_behind l.initial.listing.pages.items l.initial.listing.zeros.items None (pages_onto l.number l.id l.kind l.pages rest)
      ≡ listed_behind l.listing.pages.items l.listing.zeros.items None
      (pages_onto l.number l.id l.kind (drop l.page-index l.pages) rest);
}
