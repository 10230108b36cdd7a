-- What tests and fields in memory stand for.
use Rattle.std.specs.Prelude.{ℕ}
use Rattle.nt_types.specs.Views.{member_view}
use Rattle.nt_types.specs.declared.shape.Member.{Member}
use Rattle.nt_skim.specs.declared.selection.Test.{Test}
use Rattle.nt_skim.specs.Planning.{NameTest, ChosenField}

-- a test by a name
abbrev pub test_view : Test → NameTest
test_view t = record { name = t.name; least = t.least; greatest = t.greatest }

-- a chosen field
abbrev pub chosen_view : ℕ × Member → ChosenField
chosen_view x = record { id = x.0; field = member_view x.1 }
