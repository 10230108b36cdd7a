use Rattle.std.proofs.Common.{◌+◌, ◌≤◌}
use Rattle.std.specs.Prelude.{vec_len, vec_capacity}
use Rattle.nt_generate.proofs.Sources.{TellFirst}
use Rattle.nt_generate.proofs.made.event_sources.Given as goal

abbrev pub invariant-loop-context : goal.invariant-loop-context
invariant-loop-context l =
    TellFirst l.making l.context l.sources.items × (l.making.contexts + vec_len l.sources ≤ vec_capacity l.sources + l.context)
    × (l.context ≤ l.making.contexts)
