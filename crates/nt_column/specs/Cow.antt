-- A slice that is borrowed or owned.
use Rattle.std.specs.Prelude.{List, Bool, true, false}
use Rattle.nt_column.specs.declared.cow.CowSlice.{CowSlice}
use Rattle.nt_column.specs.declared.cow.CowSlice.TheVariants.{Borrowed, Owned}

module _ {T : Type 0} where
  -- the items
  abbrev pub cow_items : CowSlice T → List T
  cow_items (Borrowed s) = s.now
  cow_items (Owned v) = v.items

  -- nothing was copied
  abbrev pub is_borrowed : CowSlice T → Bool
  is_borrowed (Borrowed s) = true
  is_borrowed (Owned v) = false
