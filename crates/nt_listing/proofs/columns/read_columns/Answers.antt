use Rattle.std.proofs.Common.{List, length, sym, ap, ◌∙◌}
use Rattle.nt_view.specs.declared.page_place.PagePlace.{PagePlace}
use Rattle.nt_view.specs.declared.page_place.ZeroColumn.{ZeroColumn}
use Rattle.nt_view.specs.Loads.{load_of}
use Rattle.nt_view.specs.Loaded.{Loaded}
use Rattle.nt_listing.specs.Listings.{Listed, columns_of_loaded}
use Rattle.nt_listing.specs.Listed.{listing_view}
use Rattle.nt_listing.proofs.ColumnsRead.{listed-loadable, columns-failed, columns-wrong, columns-right, columns-all}
use Rattle.nt_listing.proofs.KeptTypes.{listed-types}
use Rattle.nt_listing.proofs.columns.read_columns.Goals as goal

pub load_over-requires : goal.load_over-requires
load_over-requires g c = record {
  listed = listed-loadable c.args.number c.args.cluster.now c.args.schema.now (listing_view c.in_ok-listing.listing)
      c.deref.result.now c.deref-2.result.now c.in_ok-listing.ensures c.deref.ensures.value c.deref-2.ensures.value;
}

pub returns-in-Err-clause-read : goal.returns-in-Err-clause-read
returns-in-Err-clause-read g c told is =
    columns-failed (λ (x : Loaded). columns_of_loaded 0 (length c.args.schema.now.columns) x) told c.args.number c.args.cluster.now
    c.args.schema.now (listing_view c.in_ok-listing.listing)
    c.deref.result.now c.deref-in-Err.result.now c.deref-2.result.now c.in-Err.fault c.load_failure.result
    c.in_ok-listing.ensures c.deref.ensures.value c.deref-2.ensures.value c.deref-in-Err.ensures.value
    (c.in-Err.ensures.read told is) c.load_failure.ensures.told

pub returns-in-Some-clause-read : goal.returns-in-Some-clause-read
returns-in-Some-clause-read g c told is =
    columns-wrong told c.args.number c.args.cluster.now c.args.schema.now (listing_view c.in_ok-listing.listing)
    c.deref.result.now c.deref-2.result.now c.in-Ok.columns c.in-Some.error c.in_ok-listing.ensures c.deref.ensures.value
    c.deref-2.ensures.value (c.in-Ok.ensures.read told is) c.in-Some.is

pub returns-clause-read : goal.returns-clause-read
returns-clause-read g c told is =
    columns-right told c.args.number c.args.cluster.now c.args.schema.now (listing_view c.in_ok-listing.listing)
    c.deref.result.now c.deref-2.result.now c.in-Ok.columns c.in_ok-listing.ensures c.deref.ensures.value
    c.deref-2.ensures.value (c.in-Ok.ensures.read told is) c.in-None.is

pub returns-clause-columns : goal.returns-clause-columns
returns-clause-columns g c =
    columns-all c.args.number c.args.cluster.now c.args.schema.now (listing_view c.in_ok-listing.listing) c.in-Ok.columns
    c.in_ok-listing.ensures (c.in-Ok.ensures.listed.0 ∙ c.deref.ensures.value) (c.in-Ok.ensures.listed.1 ∙ c.deref-2.ensures.value)

pub returns-clause-types : goal.returns-clause-types
returns-clause-types g c =
    listed-types c.args.number c.args.cluster.now c.args.schema.now (listing_view c.in_ok-listing.listing) c.in-Ok.columns
    c.in_ok-listing.ensures (c.in-Ok.ensures.listed.0 ∙ c.deref.ensures.value)

pub returns-clause-loaded : goal.returns-clause-loaded
returns-clause-loaded g c = record {
  pages = c.in-Ok.ensures.listed.0 ∙ c.deref.ensures.value ∙ ap (λ (l : Listed). l.pages) c.in_ok-listing.ensures;
  zeros = c.in-Ok.ensures.listed.1 ∙ c.deref-2.ensures.value ∙ ap (λ (l : Listed). l.zeros) c.in_ok-listing.ensures;
  whole = ap (λ (l : Listed). l.wrong) (sym c.in_ok-listing.ensures) ∙ c.in-None.is;
  bytes = λ told is.
      ap (λ (ps : List PagePlace). load_of told ps c.in-Ok.columns.zeros) c.in-Ok.ensures.listed.0
      ∙ ap (λ (zs : List ZeroColumn). load_of told c.deref.result.now zs) c.in-Ok.ensures.listed.1 ∙ c.in-Ok.ensures.read told is;
}
