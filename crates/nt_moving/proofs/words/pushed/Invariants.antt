use Rattle.nt_moving.proofs.Runs.{PushedSome}
use Rattle.std.proofs.Common.{map, take}
use Rattle.nt_moving.proofs.words.pushed.Given as goal

abbrev pub invariant-loop-word : goal.invariant-loop-word
invariant-loop-word g l = PushedSome (map g.W.Word.element (take l.word-index l.list)) l.word-index l.fn.column l.longer
