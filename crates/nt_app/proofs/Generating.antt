-- The command `gen`, and the message after it.
use Rattle.std.proofs.Common.{◌≡◌, ◌⊎◌, ◌∙◌, inl, inr, sym, subst, refl, ℕ, ◌-◌, ◌^◌, false, List, [], ◌∷◌}
use Rattle.std.proofs.Common.{Result, Ok, Err, arith}
use Rattle.std.specs.Prelude.{IsErrOf}
use Rattle.std.proofs.lemmas.List.{append-nil}
use Rattle.nt_lists.proofs.Variants.{some_is}
use Rattle.nt_outside.specs.World.{World, Asked, Out, File, HostState}
use Rattle.nt_book.specs.declared.params.Params.{Params}
use Rattle.nt_close.specs.Laws.{EndsOverFirst}
use Rattle.nt_outside.specs.Order.{EndsInSync}
use Rattle.nt_draws.specs.declared.making.Making.{Making}
use Rattle.nt_store.specs.Worlds.{AsksFor, IsLeftAfter}
use Rattle.nt_store.proofs.Refused.{none_made, nothing_made}
use Rattle.nt_generate.specs.declared.error.GenerateError.{GenerateError}
use Rattle.nt_generate.specs.declared.error.GenerateError.TheVariants as generate
use Rattle.nt_dealing.specs.Texts.{joined_chunks}
use Rattle.nt_dealing.proofs.Whole.{passes_none}
use Rattle.nt_generate.specs.Made.{made_chunks}
use Rattle.nt_generate.specs.Leaving.{IsWhole, IsMadeByFailure, LeavesMade}
use Rattle.nt_generate.specs.Generated.{IsToldInPart, GenerateTold}
use Rattle.nt_generate.proofs.Joined.{not_both}
use Rattle.nt_app.specs.declared.status.Status.{Status}
use Rattle.nt_app.specs.declared.status.Status.TheVariants as status
use Rattle.nt_app.specs.Statuses.{message_of}
use Rattle.nt_app.specs.Reports.{Reports}
use Rattle.nt_app.specs.Gens.{status_of_generate, GenNamed, FitsMade, RunsGen}
use Rattle.nt_app.proofs.Writing.{steps_after}
use Rattle.nt_app.proofs.Reported.{LeavesFile, made_reported, left_reported, rose_reported}

-- parameters where no words say them
abbrev default_params : Params
default_params = record {
  cluster = 10000;
  page = 4096;
  group = 1000;
  plain = false;
  staged = false;
  limits = record { range = 2 ^ 30; file = 2 ^ 40; clusters = 2 ^ 32 - 1; range_bound = omega arith; file_bound = omega arith };
  cluster_range = (omega arith, omega arith);
  page_range = (omega arith, omega arith);
  group_range = (omega arith, omega arith);
}

-- want of memory for the words leaves all as it was
pub memory_makes : (out : List ℕ) (m : Making) (state : HostState) → GenNamed out m state state status.Memory
memory_makes out m state = record {
  p = default_params;
  defaults = record { cluster = refl; page = refl; group = refl; plain = refl; staged = refl; range = refl; file = refl; clusters = refl };
  made = Err generate.Memory;
  answer_is = refl;
  generates = record {
    commits = [];
    told = λ w at. (w, at, refl, λ other differs. refl, inl (inl (refl, refl), refl));
    order = nothing_made out state.world state.world refl;
    crash = λ w w' is is' made. absurd (none_made out state.world state.world refl w w' is is' made);
    asked = (0, sym (append-nil state.asked));
    reads_whole = λ w w' is is' both.
        absurd (not_both state.asked state.asked (Out out) (File out) (0, sym (append-nil state.asked)) both);
    served = record {
      later = omega arith;
      failed = λ outside. absurd (cc);
      back = record { err_faults = refl; opened = omega arith };
    };
  };
}

-- a message on err changes nothing of what a command left
part_after : (p : Params) (m : Making) (commits o : List ℕ) (w v : World) (err : List ℕ) → IsToldInPart p m commits o w v
    → IsToldInPart p m commits o w (record v { err = err })
part_after p m commits o w v err told = record {
  made = told.made;
  whole = told.whole;
  synced = steps_after o EndsInSync v err told.synced;
  gained = record { printed = told.gained.printed; left = told.gained.left; out = told.gained.out; lines = told.gained.lines };
}

left_after : (p : Params) (m : Making) (commits o : List ℕ) (w v : World) (err : List ℕ)
    → IsMadeByFailure p m commits o w v → IsMadeByFailure p m commits o w (record v { err = err })
left_after p m commits o w v err (inl kept) = inl kept
left_after p m commits o w v err (inr (made, inl unfinished)) = inr (made, inl unfinished)
left_after p m commits o w v err (inr (made, inr (inl never))) =
    inr (made, inr (inl (record { at = never.at; len = never.len; there = never.there; log = never.log })))
left_after p m commits o w v err (inr (made, inr (inr (whole, left)))) =
    inr (made, inr (inr (whole, steps_after o EndsOverFirst v err left)))

told_after : (o : List ℕ) (p : Params) (m : Making) (commits : List ℕ) (w v : World) (err : List ℕ) (made : Result Unit GenerateError)
    → GenerateTold o p m commits w v made → GenerateTold o p m commits w (record v { err = err }) made
told_after o p m commits w v err (Ok done) told = told
told_after o p m commits w v err (Err generate.Outside) (inl told) = inl (left_after p m commits o w v err told.0, told.1)
told_after o p m commits w v err (Err generate.Outside) (inr told) = inr (part_after p m commits o w v err told)
told_after o p m commits w v err (Err generate.Memory) (inl told) = inl told
told_after o p m commits w v err (Err generate.Memory) (inr told) = inr (part_after p m commits o w v err told)
told_after o p m commits w v err (Err (generate.Limit reached limit)) told = told
told_after o p m commits w v err (Err (generate.Defect fault)) told = told

-- the outside failed only where the file isn't made for that
outside_of : (made : Result Unit GenerateError) (answer : Status) → answer ≡ status_of_generate made → answer ≡ status.Outside
    → IsErrOf made generate.Outside
outside_of (Ok done) answer is outside = let bad = sym is ∙ outside in absurd (cc)
outside_of (Err generate.Outside) answer is outside = refl
outside_of (Err generate.Memory) answer is outside = let bad = sym is ∙ outside in absurd (cc)
outside_of (Err (generate.Limit reached limit)) answer is outside = let bad = sym is ∙ outside in absurd (cc)
outside_of (Err (generate.Defect fault)) answer is outside = let bad = sym is ∙ outside in absurd (cc)

-- so does a crash
crash_after : (o : List ℕ) (p : Params) (m : Making) (commits : List ℕ) (made : Result Unit GenerateError) (w v : World) (err : List ℕ)
    → LeavesMade o p m commits v made → LeavesMade o p m commits (record v { err = err }) made
crash_after o p m commits made w v err told =
    record { at = told.at; log = told.log; there = told.there; steps = told.steps; leaves = told.leaves }

completes : (o : List ℕ) (p : Params) (m : Making) (commits : List ℕ) (w v : World) (made : Result Unit GenerateError)
    → GenerateTold o p m commits w v made → (IsErrOf made generate.Outside → ⊥) → FitsMade p m
    → (status_of_generate made ≡ status.Done) ⊎ (status_of_generate made ≡ status.Memory)
completes o p m commits w v (Ok done) told served fits = inl refl
completes o p m commits w v (Err generate.Outside) told served fits = absurd (served refl)
completes o p m commits w v (Err generate.Memory) told served fits = inr refl
completes o p m commits w v (Err (generate.Limit reached limit)) told served fits =
    absurd (passes_none told.0.table p (joined_chunks (made_chunks p m)) reached limit (fits told.0.table told.0.rows) told.0.over)
completes o p m commits w v (Err (generate.Defect fault)) told served fits = absurd told

-- `gen`, and then its message
pub run_gen : (o : List ℕ) (m : Making) (old mid new : HostState) (answer : Status) → GenNamed o m old mid answer
    → Reports (message_of answer) mid new → RunsGen o m old new answer
run_gen o m old mid new answer makes reports =
    let p = makes.p in
    let gens = makes.generates in
    let left : LeavesFile o (λ w v. GenerateTold o p m gens.commits w v makes.made) old mid =
    record { told = gens.told; order = gens.order; back = gens.served.back } in
    let after = left_reported o (message_of answer) _ old mid new left reports
    (λ w v err told. told_after o p m gens.commits w v err makes.made told) in
    record {
      p = p;
      defaults = makes.defaults;
      made = makes.made;
      answer_is = makes.answer_is;
      commits = gens.commits;
      told = after.told;
      order = after.order;
      crash = made_reported o (message_of answer) _ old mid new left reports (λ w v. LeavesMade o p m gens.commits v makes.made)
          (crash_after o p m gens.commits makes.made) gens.crash;
      asked = subst (λ (l : List Asked). AsksFor (Out o ∷ File o ∷ []) old.asked l makes.made) (sym reports.asked) gens.asked;
      reads_whole = λ w w' is is' both.
          let done = gens.told w is in
          let said = reports.told done.0 done.1 in
          let kept = gens.reads_whole w done.0 is done.1 (sym reports.asked ∙ both) in
          subst (λ (v : World). IsWhole p m gens.commits o v × IsLeftAfter EndsInSync o v) (some_is _ _ (sym said.1 ∙ is'))
          (kept.0, steps_after o EndsInSync done.0 _ kept.1);
      failed = λ outside. rose_reported _ old mid new reports (gens.served.failed (outside_of makes.made answer makes.answer_is outside));
      opened = after.opened;
      complete = λ w at serves fits.
          let done = gens.told w at in
          subst (λ (s : Status). (s ≡ status.Done) ⊎ (s ≡ status.Memory)) (sym makes.answer_is)
          (completes o p m gens.commits w done.0 makes.made done.4
          (λ outside. serves (rose_reported _ old mid new reports (gens.served.failed outside))) fits);
    }
