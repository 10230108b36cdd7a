use Rattle.std.proofs.Common.{◌≡◌, take}
use Rattle.nt_command_line.specs.Commands.{names_of}
use Rattle.nt_app.proofs.skim.copies_of.Given as goal

-- the names before this one were copied
abbrev pub invariant-loop-name : goal.invariant-loop-name
invariant-loop-name l = l.copies.items ≡ names_of (take l.name-index l.names)
