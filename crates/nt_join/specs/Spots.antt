-- What the faults of the code stand for.
use Rattle.nt_trees.specs.Faults.{Spot}
use Rattle.nt_join.specs.declared.fault.ValueFault.{ValueFault}

-- its column and element
abbrev pub spot_of : ValueFault → Spot
spot_of f = (f.column, f.element)
