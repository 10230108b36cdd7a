-- The texts of events that are made, line by line.
use Rattle.std.proofs.Common.{◌≡◌, ◌∙◌, ap, refl, ℕ, zero, suc, ◌+◌, ◌≤◌, false, List, [], ◌∷◌, length, map, None}
use Rattle.std.proofs.Common.{Ok, append_assoc, arith}
use Rattle.std.specs.Prelude.{nat_lt}
use Rattle.std.specs.List.{range_with_len}
use Rattle.std.proofs.lemmas.Bool.Decides.{nat_tests}
use Rattle.nt_lists.specs.Chunks.{chunks}
use Rattle.nt_types.specs.ShapeData.{MembersData, parts_of}
use Rattle.nt_types.specs.TreeData.{TreesData}
use Rattle.nt_types.specs.Lines.{is_blank_line}
use Rattle.nt_event.specs.Entry.{entry_of}
use Rattle.nt_event.specs.Json.{line_of}
use Rattle.nt_event.specs.Lines.{HasNoLf}
use Rattle.nt_dealing.specs.EventText.{EventText, text_lines, is_beyond, entries_of_lines}
use Rattle.nt_dealing.specs.Texts.{AreSound, events_of, chunks_of}
use Rattle.nt_dealing.proofs.EventLines.{text_lines-next}
use Rattle.nt_draws.specs.Events.{event_fields, event_behind, events_behind, after_event}
use Rattle.nt_draws.specs.Lines.{events_text}
use Rattle.nt_draws.specs.declared.making.Making.{Making}
use Rattle.nt_generate.specs.Made.{MadeAreRead}

not_beyond : (number : ℕ) (line : List ℕ) → number ≤ 2000000 → length line ≤ 40 → is_beyond number line ≡ false
not_beyond number line few short =
    let low : nat_lt 281474976710656 number ≡ false = grind (arith, nat_tests, few) in
    let fits : nat_lt 16777216 (length line) ≡ false = grind (arith, nat_tests, short) in
    rw (low, fits) refl

-- a line that is read, and what the lines behind it give
entry_next : (F : MembersData) (number : ℕ) (line : List ℕ) (lines : List (List ℕ)) (entry : TreesData) → is_beyond number line ≡ false
    → is_blank_line line ≡ false → entry_of F line ≡ Ok entry
    → entries_of_lines F number (line ∷ lines) ≡ record {
      entries = entry ∷ (entries_of_lines F (number + 1) lines).entries;
      bad = (entries_of_lines F (number + 1) lines).bad;
    }
entry_next F number line lines entry beyond blank is = rw (beyond, blank, is) refl

module _ (read : (number : ℕ) → entry_of (parts_of event_fields) (line_of (event_behind number)) ≡ Ok (event_behind number))
    (one_line : (number : ℕ) → HasNoLf (line_of (event_behind number)))
    (short : (number : ℕ) → length (line_of (event_behind number)) ≤ 40)
    (some : (number : ℕ) → is_blank_line (line_of (event_behind number)) ≡ false) where
  -- the lines of so many events behind a number, the first of which has this number of a line
  lines_read : (events number first : ℕ) → first + events ≤ 2000000
      → entries_of_lines (parts_of event_fields) first (text_lines (events_text events number))
      ≡ record { entries = events_behind events number; bad = None }
  lines_read zero number first few = refl
  lines_read (suc n) number first few =
      ap (λ (text : List ℕ). entries_of_lines (parts_of event_fields) first (text_lines text))
      (append_assoc (line_of (event_behind number)) (10 ∷ []) (events_text n (after_event number)))
      ∙ ap (entries_of_lines (parts_of event_fields) first)
      (text_lines-next (line_of (event_behind number)) (events_text n (after_event number)) (one_line number))
      ∙ entry_next (parts_of event_fields) first (line_of (event_behind number)) (text_lines (events_text n (after_event number)))
      (event_behind number) (not_beyond first (line_of (event_behind number)) (omega (arith, few)) (short number)) (some number)
      (read number)
      ∙ ap (λ (t : EventText). record { entries = event_behind number ∷ t.entries; bad = t.bad })
      (lines_read n (after_event number) (first + 1) (omega (arith, few)))

  text_read : (events number : ℕ) → events ≤ 1000000
      → events_of event_fields (events_text events number) ≡ record { entries = events_behind events number; bad = None }
  text_read events number few = lines_read events number 1 (omega (arith, few))

  all_sound : (events : ℕ) (numbers : List ℕ) → events ≤ 1000000 → AreSound event_fields (map (events_text events) numbers)
  all_sound events [] few = tt
  all_sound events (number ∷ numbers) few =
      (ap (λ (t : EventText). t.bad) (text_read events number few), all_sound events numbers few)

  all_chunks_are : (most events : ℕ) (numbers : List ℕ) → events ≤ 1000000
      → chunks_of most event_fields (map (events_text events) numbers) ≡ map (chunks most) (map (events_behind events) numbers)
  all_chunks_are most events [] few = refl
  all_chunks_are most events (number ∷ numbers) few =
      ap (λ (t : EventText). chunks most t.entries ∷ chunks_of most event_fields (map (events_text events) numbers))
      (text_read events number few)
      ∙ ap (λ (l : List (List (List TreesData))). chunks most (events_behind events number) ∷ l) (all_chunks_are most events numbers few)

  -- the texts of what is made
  pub made_read : (m : Making) → MadeAreRead m
  made_read m = record {
    sound = all_sound m.events (range_with_len m.seed m.contexts) m.events_range;
    chunks = λ most. all_chunks_are most m.events (range_with_len m.seed m.contexts) m.events_range;
  }
