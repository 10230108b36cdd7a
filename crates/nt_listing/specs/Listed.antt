-- What the code has listed so far.
use Rattle.std.specs.Prelude.{◌≡◌, ℕ, List, Some, None, slice_get}
use Rattle.nt_num.specs.Codes.{out_of_file, bad_page}
use Rattle.nt_num.specs.Faults.{fault, with_values}
use Rattle.nt_pagelists.specs.Columns.{in_column}
use Rattle.nt_tfile.specs.declared.failure.ReadFailure.{ReadFailure}
use Rattle.nt_tfile.specs.declared.failure.ReadFailure.TheVariants.{Defect, Fault, Memory}
use Rattle.nt_view.specs.declared.page_place.PagePlace.{PagePlace}
use Rattle.nt_view.specs.declared.fault.ViewFault.{ViewFault}
use Rattle.nt_view.specs.declared.fault.ViewFault.TheVariants as view
use Rattle.nt_listing.specs.declared.page_listing.Listing.{Listing}
use Rattle.nt_listing.specs.Listings.{Listed, listed_behind}

abbrev pub listing_view : Listing → Listed
listing_view l = record { pages = l.pages.items; zeros = l.zeros.items; wrong = l.wrong }

-- what was listed more is what comes onto the rest, whatever that is
abbrev pub IsListedOnto : Listing → Listing → (Listed → Listed) → Type 0
IsListedOnto old new onto =
    (rest : Listed) → listed_behind old.pages.items old.zeros.items None (onto rest)
    ≡ listed_behind new.pages.items new.zeros.items new.wrong rest

-- the failure of a call that loads these pages: of a page that is one of them its fault in the cluster of this number
abbrev pub IsLoadFailure : ℕ → List PagePlace → ViewFault → ReadFailure → Type 0
IsLoadFailure number ps (view.OutOfFile i) failure =
    (p : PagePlace) → slice_get ps i ≡ Some p → failure ≡ Defect (in_column number p.column (fault out_of_file p.place))
IsLoadFailure number ps (view.Checksum i kept found) failure =
    (p : PagePlace) → slice_get ps i ≡ Some p
    → failure ≡ Defect (in_column number p.column (with_values kept found (fault bad_page p.place)))
IsLoadFailure number ps view.Fault failure = failure ≡ Fault
IsLoadFailure number ps view.Memory failure = failure ≡ Memory
