-- What a crash leaves of a file that is closed, wherever it cuts the steps off.
use Rattle.std.specs.Prelude.{◌≡◌, ℕ, Bool, List, Option, Result, Ok, Err}
use Rattle.nt_outside.specs.Log.{Step}
use Rattle.nt_outside.specs.Held.{Held, BecomesSome}
use Rattle.nt_outside.specs.Reads.{IsKnown}
use Rattle.nt_grammar.specs.Table.{Table}
use Rattle.nt_book.specs.Books.{BookData}
use Rattle.nt_layout.specs.Finished.{finished}
use Rattle.nt_cuts.specs.Cuts.{LeavesUnfinished, LeavesUnfinishedOr, LeavesOnly}
use Rattle.nt_cuts.specs.Shut.{StaysShut}
use Rattle.nt_close.specs.declared.error.CloseError.{CloseError}
use Rattle.nt_close.specs.declared.error.CloseError.TheVariants.{Spoiled, Torn, Unpublished, Memory, RangeTooLarge, FileTooLarge, Fault}
use Rattle.nt_close.specs.Filled.{filled_file}
use Rattle.nt_close.specs.Closing.{AreRangesOf}

-- by the answer: at each step what isn't finished, or, once the first byte was written over, the whole file, and behind all steps of Ok
-- only that; after a fault the same of each step; after a refusal what isn't finished
abbrev pub LeavesByAnswer : (List ℕ → Type 0) → List Step → Result Unit CloseError → Type 0
LeavesByAnswer Whole log (Ok done) = LeavesUnfinishedOr Whole log × LeavesOnly Whole log
LeavesByAnswer Whole log (Err (Spoiled cluster faults)) = LeavesUnfinished log
LeavesByAnswer Whole log (Err (Torn group faults)) = LeavesUnfinished log
LeavesByAnswer Whole log (Err (Unpublished range)) = LeavesUnfinished log
LeavesByAnswer Whole log (Err Memory) = LeavesUnfinished log
LeavesByAnswer Whole log (Err (RangeTooLarge len most)) = LeavesUnfinished log
LeavesByAnswer Whole log (Err (FileTooLarge end most)) = LeavesUnfinished log
LeavesByAnswer Whole log (Err Fault) = LeavesUnfinishedOr Whole log

-- where a file was shut, and its log tells each byte of its ranges and page lists, the whole file is the finished one with these ranges
abbrev pub CrashesByAnswer : Bool → Table → BookData → ℕ → Option Held → Option Held → Result Unit CloseError → Type 0
CrashesByAnswer staged t book most old new result =
    BecomesSome old new (λ h h'. StaysShut h.log → (ranges : List (List ℕ)) → AreRangesOf book ranges
    → IsKnown h.log (filled_file staged t book most ranges)
    → LeavesByAnswer (λ (bytes : List ℕ). bytes ≡ finished staged t book most ranges) h'.log result)
