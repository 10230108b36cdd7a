-- The answer of many contexts: that of the first which failed.
use Rattle.std.specs.Prelude.{ℕ, ◌+◌, List, [], ◌∷◌, Result, Ok, Err}
use Rattle.nt_outside.specs.declared.fault.Refused.{Refused}
use Rattle.nt_outside.specs.declared.fault.Refused.TheVariants as refused
use Rattle.nt_book.specs.declared.limits.LimitError.{LimitError}
use Rattle.nt_book.specs.declared.limits.LimitError.TheVariants as limit
use Rattle.nt_contexts.specs.declared.error.ContextError.{ContextError}
use Rattle.nt_contexts.specs.declared.error.ContextError.TheVariants as context
use Rattle.nt_contexts.specs.declared.seats.Seat.{Seat}
use Rattle.nt_contexts.specs.declared.error.RunError.{RunError}
use Rattle.nt_contexts.specs.declared.error.RunError.TheVariants.{Outside, Memory, Line, Limit}

-- what was reached, and the limit, where a file may have so many clusters
abbrev pub limit_told : ℕ → LimitError → RunError
limit_told clusters (limit.RangeTooLarge len most) = Limit len most
limit_told clusters (limit.FileTooLarge end most) = Limit end most
limit_told clusters limit.TooManyClusters = Limit (clusters + 1) clusters

-- the error of the context of this number
abbrev pub error_told : ℕ → ℕ → ContextError → RunError
error_told clusters input (context.Text line kind) = Line input line kind
error_told clusters input (context.Limit error) = limit_told clusters error
error_told clusters input context.Outside = Outside
error_told clusters input context.Memory = Memory

-- the error of a context that wasn't let in
abbrev pub refusal_told : Refused → RunError
refusal_told refused.Memory = Memory
refusal_told refused.Failed = Outside

-- the answer of a context, or that of those behind it where it ended well
abbrev pub answer_of : ℕ → ℕ → Result Unit ContextError → Result Unit RunError → Result Unit RunError
answer_of clusters input (Ok done) rest = rest
answer_of clusters input (Err error) rest = Err (error_told clusters input error)

-- an answer, or the next where it is good
abbrev pub with_rest : Result Unit RunError → Result Unit RunError → Result Unit RunError
with_rest (Ok done) rest = rest
with_rest (Err error) rest = Err error

-- the answer of the contexts in these seats, the first of which has this number
abbrev pub answer_from : {S Q P : Type 0} → ℕ → ℕ → List (Seat S Q P) → Result Unit RunError
answer_from clusters input [] = Ok tt
answer_from clusters input (seat ∷ seats) = answer_of clusters input seat.ended (answer_from clusters (input + 1) seats)
