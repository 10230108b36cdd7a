-- What keeps a book's file from being closed: a range that is spoiled, a page list that failed, or a filled range that is no cluster.
use Rattle.std.specs.Prelude.{◌≡◌, ℕ, true, Some, None}
use Rattle.nt_book.specs.Books.{BookData}
use Rattle.nt_book.specs.Listing.{torn_group}
use Rattle.nt_close.specs.declared.error.CloseError.{CloseError}
use Rattle.nt_close.specs.declared.error.CloseError.TheVariants as error
use Rattle.nt_close.specs.Spoiled.{NoneSpoiled, IsFirstSpoiled}
use Rattle.nt_close.specs.Unpublished.{NoneUnpublished, IsFirstUnpublished}

-- no range is spoiled, no page list failed, and where clusters are staged each filled range is one
pub record IsUndamaged (book : BookData) : Type 0 where
  pub unspoiled : NoneSpoiled book
  pub untorn : book.torn ≡ None
  pub published : book.staged ≡ true → NoneUnpublished book

-- no range is spoiled, but the page list of this group failed, and these faults are kept of it
pub record IsTornAt (book : BookData) (group faults : ℕ) : Type 0 where
  pub unspoiled : NoneSpoiled book
  pub torn : torn_group book.torn ≡ Some (group, faults)

-- no range is spoiled and no page list failed, but this range is the lowest that is filled and no cluster
pub record IsUnpublishedAt (book : BookData) (range : ℕ) : Type 0 where
  pub unspoiled : NoneSpoiled book
  pub untorn : book.torn ≡ None
  pub unpublished : IsFirstUnpublished book range

-- the error tells of that range, or of that page list
abbrev pub IsDamageError : BookData → CloseError → Type 0
IsDamageError book (error.Spoiled cluster faults) = IsFirstSpoiled book cluster faults
IsDamageError book (error.Torn group faults) = IsTornAt book group faults
IsDamageError book (error.Unpublished range) = IsUnpublishedAt book range
IsDamageError book error.Memory = ⊥
IsDamageError book (error.RangeTooLarge len most) = ⊥
IsDamageError book (error.FileTooLarge end most) = ⊥
IsDamageError book error.Fault = ⊥
