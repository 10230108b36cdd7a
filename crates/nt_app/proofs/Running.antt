-- A command and the message after it, joined.
use Rattle.std.proofs.Common.{◌≡◌, ◌⊎◌, ◌∙◌, inl, inr, ap, subst, refl, ℕ, ◌<◌, ◌^◌, List, Some}
use Rattle.std.specs.Prelude.{All}
use Rattle.nt_payloads.proofs.WholeFiles.{as_it_is}
use Rattle.nt_outside.specs.World.{World, HostState, file}
use Rattle.nt_show.specs.Shown.{entries_shown, fields_shown}
use Rattle.nt_command_line.specs.Commands.{IsWrong}
use Rattle.nt_command_line.proofs.Wrong.{wrong_is_none}
use Rattle.nt_app.specs.declared.status.Status.{Status}
use Rattle.nt_app.specs.declared.status.Status.TheVariants as status
use Rattle.nt_app.specs.Statuses.{message_of}
use Rattle.nt_app.specs.Reports.{Reports}
use Rattle.nt_app.specs.Skims.{choice_said}
use Rattle.nt_app.specs.Runs.{RefusesWords, range_said, Obeys, TellsFiles, Runs}
use Rattle.nt_app.proofs.Joined.{either_after}
use Rattle.nt_app.proofs.Writing.{memory_writes, run_write}
use Rattle.nt_app.proofs.Scripting.{memory_scripts, run_seq}
use Rattle.nt_app.proofs.Skimming.{memory_skims, run_skim}
use Rattle.nt_app.proofs.Merging.{memory_merges, run_merge}
use Rattle.nt_app.proofs.Generating.{memory_makes, run_gen}
use Rattle.nt_app.proofs.Shown.{memory_shows, run_shows}
use Rattle.nt_app.proofs.Scanned.{memory_scans, run_scan}

-- no command, and then its message
run_usage : (old mid new : HostState) (answer : Status) → (answer ≡ status.Usage) ⊎ (answer ≡ status.Memory) → mid ≡ old
    → Reports (message_of answer) mid new → RefusesWords old new answer
run_usage old mid new answer is same reports = record {
  answer_is = is;
  told = λ w told-is.
      let said = reports.told w (ap (λ (h : HostState). h.world) same ∙ told-is) in (
        _,
        said.1,
        (refl, refl),
        refl,
        (
          said.0,
          refl,
          either_after old mid new said.0 (message_of answer)
              (ap (λ (h : HostState). h.err_faults) same) said.2,
        ),
      );
  asked = reports.asked ∙ ap (λ (h : HostState). h.asked) same;
  faults = reports.faults ∙ ap (λ (h : HostState). h.faults) same;
  opened = reports.opened ∙ ap (λ (h : HostState). h.opened) same;
}

-- each byte of a host's files is one
abbrev pub AreBytes : HostState → Type 0
AreBytes host = (w : World) (name told : List ℕ) → host.world ≡ Some w → file w name ≡ Some told → All (λ (b : ℕ). b < 2 ^ 8) told

-- so they are read as they are
tells_files : (host : HostState) → AreBytes host → TellsFiles host
tells_files host bytes w name told is here = as_it_is told (bytes w name told is here)

-- what the words say was done, and then its message printed
pub runs : (words : List (List ℕ)) (old mid new : HostState) (answer : Status) → Obeys words old mid answer
    → Reports (message_of answer) mid new → AreBytes new
    → Runs words old new answer
runs words old mid new answer obeys reports bytes = record {
  write = λ o s is p said. run_write o s is p old mid new answer (obeys.write o s is p said) reports;
  seq = λ o s i p said. run_seq o s i p old mid new answer (obeys.seq o s i p said) reports;
  skim = λ o f ns t p said. run_skim o f (choice_said ns t) p old mid new answer (obeys.skim o f ns t p said) reports;
  merge = λ o fs p said. run_merge o fs p old mid new answer (obeys.merge o fs p said) reports;
  gen = λ o m said. run_gen o m old mid new answer (obeys.gen o m said) reports;
  entries = λ from count name said. run_shows (entries_shown (range_said from count)) name old mid new answer
      (obeys.entries from count name said) reports;
  schema = λ name said. run_shows fields_shown name old mid new answer (obeys.schema name said) reports;
  scan = λ name said. run_scan name old mid new answer (obeys.scan name said) reports;
  usage = λ none. let refused = obeys.usage none in run_usage old mid new answer refused.0 refused.1 reports;
  wrong = λ wrong.
      let refused = obeys.usage (wrong_is_none words wrong) in run_usage old mid new answer refused.0 refused.1 reports;
  answers = obeys.answers;
  grammar = tells_files new bytes;
}

-- the same, of words that are known to be those
pub runs_as : (words' words : List (List ℕ)) (old new : HostState) (answer : Status) → words' ≡ words → Runs words' old new answer
    → Runs words old new answer
runs_as words' words old new answer same runs-so = subst (λ (l : List (List ℕ)). Runs l old new answer) same runs-so

-- and of a host too
pub runs_after : (words' words : List (List ℕ)) (one old mid new : HostState) (answer : Status) → words' ≡ words → one ≡ old
    → Obeys words' one mid answer
    → Reports (message_of answer) mid new → AreBytes new → Runs words old new answer
runs_after words' words one old mid new answer same stays obeys reports bytes =
    runs words old mid new answer (subst (λ (h : HostState). Obeys words h mid answer) stays
    (subst (λ (l : List (List ℕ)). Obeys l one mid answer) same obeys)) reports bytes

-- want of memory for the words
pub no_memory : (words : List (List ℕ)) (state : HostState) → Obeys words state state status.Memory
no_memory words state = record {
  write = λ o s is p said. memory_writes o s is p state;
  seq = λ o s i p said. memory_scripts o s i p state;
  skim = λ o f ns t p said. memory_skims o f (choice_said ns t) p state;
  merge = λ o fs p said. memory_merges o fs p state;
  gen = λ o m said. memory_makes o m state;
  entries = λ from count name said. memory_shows (entries_shown (range_said from count)) name state;
  schema = λ name said. memory_shows fields_shown name state;
  scan = λ name said. memory_scans name state;
  usage = λ none. (inr refl, refl);
  answers = tt;
}

-- wrong words
pub wrong_words : (words : List (List ℕ)) (state : HostState) → IsWrong words → Obeys words state state status.Usage
wrong_words words state wrong =
    let none = wrong_is_none words wrong in
    record {
      write = λ o s is p said. absurd (none.no_write o s is p said);
      seq = λ o s i p said. absurd (none.no_seq o s i p said);
      skim = λ o f ns t p said. absurd (none.no_skim o f ns t p said);
      merge = λ o fs p said. absurd (none.no_merge o fs p said);
      gen = λ o m said. absurd (none.no_gen m o said);
      entries = λ from count name said. absurd (none.no_entries from count name said);
      schema = λ name said. absurd (none.no_schema name said);
      scan = λ name said. absurd (none.no_scan name said);
      usage = λ auto. (inl refl, refl);
      answers = wrong;
    }
