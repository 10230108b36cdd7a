-- The ranges of a history with the bytes that a disk tells: they are those without.
use Rattle.std.proofs.Common.{◌≡◌, ◌∙◌, ap, sym, refl, ℕ, ◌+◌, List, [], ◌∷◌, length, map, drop, Option, Some, None}
use Rattle.std.proofs.lemmas.List.{length-map}
use Rattle.nt_outside.specs.Held.{Held}
use Rattle.nt_machine.specs.declared.entry.Entry.{Entry}
use Rattle.nt_machine.specs.History.{Cluster, ranges_of}
use Rattle.nt_machine.specs.Legal.{IsOut, ranges_end, end_after}
use Rattle.nt_machine.specs.Untold.{with_bytes, untold}
use Rattle.nt_machine.proofs.Untelling.{same, same_out, same_end}
use Rattle.nt_logged.specs.Tails.{range_steps}
use Rattle.nt_logged.specs.Steps.{told_bytes, told_history}

module _ {M : Type 0} where
  -- the ranges of a told history are out, end and are as many as without the bytes
  pub told_out : (begun now : Option Held) (history : List (Entry M)) (i n : ℕ)
      → IsOut (ranges_of (told_history begun now history)) i n → IsOut (ranges_of history) i n
  told_out None now history i n is = is
  told_out (Some h) None history i n is = is
  told_out (Some h) (Some h') history i n is = same_out history
      (told_bytes history (range_steps (drop (length h.log) h'.log))) i n is

  pub told_end : (place : ℕ) (begun now : Option Held) (history : List (Entry M))
      → end_after place (ranges_of (told_history begun now history)) ≡ end_after place (ranges_of history)
  told_end place None now history = refl
  told_end place (Some h) None history = refl
  told_end place (Some h) (Some h') history = same_end place history
      (told_bytes history (range_steps (drop (length h.log) h'.log)))

  last-untold : (place : ℕ) (cs : List (Cluster M)) → ranges_end place (map untold cs) ≡ ranges_end place cs
  last-untold place [] = refl
  last-untold place (c ∷ cs) = last-untold (c.start + c.len) cs

  last-with_bytes : (place : ℕ) (history : List (Entry M)) (told : List (Option (List ℕ)))
      → ranges_end place (ranges_of (with_bytes history told)) ≡ ranges_end place (ranges_of history)
  last-with_bytes place history told =
      sym (last-untold place (ranges_of (with_bytes history told)))
      ∙ (ap (λ (l : List (Cluster M)). ranges_end place l) (same history told) ∙ last-untold place (ranges_of history))

  pub told_last : (place : ℕ) (begun now : Option Held) (history : List (Entry M))
      → ranges_end place (ranges_of (told_history begun now history)) ≡ ranges_end place (ranges_of history)
  told_last place None now history = refl
  told_last place (Some h) None history = refl
  told_last place (Some h) (Some h') history = last-with_bytes place history
      (told_bytes history (range_steps (drop (length h.log) h'.log)))

  count-with_bytes : (history : List (Entry M)) (told : List (Option (List ℕ))) → length (ranges_of (with_bytes history told))
      ≡ length (ranges_of history)
  count-with_bytes history told =
      sym (length-map (ranges_of (with_bytes history told)) untold) ∙ (ap (λ (l : List (Cluster M)). length l) (same history told)
      ∙ length-map (ranges_of history) untold)

  pub told_count : (begun now : Option Held) (history : List (Entry M)) → length (ranges_of (told_history begun now history))
      ≡ length (ranges_of history)
  told_count None now history = refl
  told_count (Some h) None history = refl
  told_count (Some h) (Some h') history = count-with_bytes history
      (told_bytes history (range_steps (drop (length h.log) h'.log)))
