-- What the reader of types keeps, as its definition has it.
use Rattle.std.specs.Prelude.{option_map}
use Rattle.nt_types.specs.Views.{shape_view}
use Rattle.nt_types.specs.Reading.{ReadingData}
use Rattle.nt_types.specs.ConstructViews.{stack_view}
use Rattle.nt_types.specs.declared.reading.Reading.{Reading}

-- the stack, the choice and the part that has ended
abbrev pub state_view : Reading → ReadingData
state_view r = record { stack = stack_view r.stack.items; within = r.within; done = option_map shape_view r.done }
