-- What words say, done: each command by itself.
use Rattle.std.proofs.Common.{inl, inr, sym, subst, refl, ℕ, List, Option, Result, Ok, Err}
use Rattle.nt_outside.specs.World.{HostState}
use Rattle.nt_book.specs.declared.params.Params.{Params}
use Rattle.nt_draws.specs.declared.making.Making.{Making}
use Rattle.nt_show.specs.Shown.{entries_shown, fields_shown}
use Rattle.nt_command_line.specs.CommandLine.{IsEntries, IsSchemaCommand, IsScan}
use Rattle.nt_command_line.specs.WriteWords.{IsWrite}
use Rattle.nt_command_line.specs.SeqWords.{IsSeq}
use Rattle.nt_command_line.specs.SkimWords.{SaidTest, IsSkim}
use Rattle.nt_command_line.specs.MergeWords.{IsMerge}
use Rattle.nt_command_line.specs.GenWords.{IsGen}
use Rattle.nt_command_line.proofs.Wrong.{begins_once}
use Rattle.nt_command_line.proofs.Single.{same_write, same_seq, same_skim, same_merge, same_gen, same_entries, same_schema, same_scan}
use Rattle.nt_store.specs.declared.error.StoreError.{StoreError}
use Rattle.nt_store.specs.declared.error.StoreError.TheVariants as store
use Rattle.nt_script.specs.declared.store_error.ScriptStoreError.{ScriptStoreError}
use Rattle.nt_script.specs.declared.store_error.ScriptStoreError.TheVariants as script
use Rattle.nt_generate.specs.declared.error.GenerateError.{GenerateError}
use Rattle.nt_generate.specs.declared.error.GenerateError.TheVariants as generate
use Rattle.nt_skim.specs.declared.error.PlanError.TheVariants as plan
use Rattle.nt_skim_file.specs.declared.error.SkimStoreError.{SkimStoreError}
use Rattle.nt_skim_file.specs.declared.error.SkimStoreError.TheVariants as early
use Rattle.nt_merge.specs.declared.place.SchemaPlace.TheVariants as unlike
use Rattle.nt_merge_files.specs.declared.error.MergeStoreError.{MergeStoreError}
use Rattle.nt_merge_files.specs.declared.error.MergeStoreError.TheVariants as joining
use Rattle.nt_app.specs.declared.status.Status.{Status}
use Rattle.nt_app.specs.declared.status.Status.TheVariants as status
use Rattle.nt_app.specs.Shows.{IsAnswerOfReading, ShowsNamed}
use Rattle.nt_app.specs.Writes.{status_of_store, WritesNamed}
use Rattle.nt_app.specs.Seqs.{status_of_script, SeqNamed}
use Rattle.nt_app.specs.Gens.{status_of_generate, GenNamed}
use Rattle.nt_app.specs.Scans.{IsAnswerOfScan, ScansNamed}
use Rattle.nt_app.specs.Skims.{choice_said, status_of_skim, SkimNamed}
use Rattle.nt_app.specs.Merges.{status_of_merge, MergeNamed}
use Rattle.nt_app.specs.Runs.{SayWriting, SayMaking, SayReading, SayScanning, SaySkimming, SayMerging, range_said, IsAnswerTo, Obeys}

store_answers : (words : List (List ℕ)) (stored : Result Unit StoreError) → SayWriting words → IsAnswerTo words (status_of_store stored)
store_answers words (Ok done) said = inl said
store_answers words (Err store.Outside) said = inl said
store_answers words (Err store.Memory) said = tt
store_answers words (Err (store.Schema line kind)) said = said
store_answers words (Err (store.Line input line kind)) said = said
store_answers words (Err (store.Limit reached limit)) said = inl said

script_answers : (words : List (List ℕ)) (stored : Result Unit ScriptStoreError) → SayWriting words
    → IsAnswerTo words (status_of_script stored)
script_answers words (Ok done) said = inl said
script_answers words (Err script.Outside) said = inl said
script_answers words (Err script.Memory) said = tt
script_answers words (Err (script.Schema line kind)) said = said
script_answers words (Err (script.Line line kind)) said = said
script_answers words (Err (script.Limit reached limit)) said = inl said

generate_answers : (words : List (List ℕ)) (made : Result Unit GenerateError) → SayMaking words
    → IsAnswerTo words (status_of_generate made)
generate_answers words (Ok done) said = inr (inl said)
generate_answers words (Err generate.Outside) said = inr (inl said)
generate_answers words (Err generate.Memory) said = tt
generate_answers words (Err (generate.Limit reached limit)) said = inr (inl said)
generate_answers words (Err (generate.Defect fault)) said = inl said

reading_answers : (words : List (List ℕ)) (answer : Status) → IsAnswerOfReading answer → SayReading words → IsAnswerTo words answer
reading_answers words status.Done is said = inr (inr (inl said))
reading_answers words status.Usage is said = absurd is
reading_answers words (status.File fault) is said = inr (inl said)
reading_answers words (status.FileOf file e) is said = absurd is
reading_answers words status.Outside is said = inr (inr (inl said))
reading_answers words (status.Limit reached limit) is said = absurd is
reading_answers words (status.Text input number kind) is said = absurd is
reading_answers words status.Memory is said = tt
reading_answers words (status.Schema place) is said = absurd is

scanning_answers : (words : List (List ℕ)) (answer : Status) → IsAnswerOfScan answer → SayScanning words → IsAnswerTo words answer
scanning_answers words status.Done is said = inr (inr (inr (inl said)))
scanning_answers words status.Usage is said = absurd is
scanning_answers words (status.File fault) is said = inr (inr (inl said))
scanning_answers words (status.FileOf file e) is said = absurd is
scanning_answers words status.Outside is said = inr (inr (inr (inl said)))
scanning_answers words (status.Limit reached limit) is said = inr (inr (inl said))
scanning_answers words (status.Text input number kind) is said = absurd is
scanning_answers words status.Memory is said = tt
scanning_answers words (status.Schema place) is said = absurd is

skim_answers : (words : List (List ℕ)) (stored : Result Unit SkimStoreError) → SaySkimming words → IsAnswerTo words (status_of_skim stored)
skim_answers words (Ok done) said = inr (inr (inr (inr (inl said))))
skim_answers words (Err early.Outside) said = inr (inr (inr (inr (inl said))))
skim_answers words (Err early.Memory) said = tt
skim_answers words (Err (early.Defect e)) said = inr (inr (inr said))
skim_answers words (Err (early.Unplanned (plan.UnknownField name))) said = said
skim_answers words (Err (early.Unplanned (plan.Twice name))) said = said
skim_answers words (Err (early.Unplanned (plan.NotWritable name))) said = said
skim_answers words (Err (early.Unplanned (plan.NotANumber name))) said = said
skim_answers words (Err (early.Unplanned plan.Memory)) said = tt
skim_answers words (Err (early.Limit reached limit)) said = inr (inr (inr (inl said)))

merge_answers : (words : List (List ℕ)) (stored : Result Unit MergeStoreError) → SayMerging words
    → IsAnswerTo words (status_of_merge stored)
merge_answers words (Ok done) said = inr (inr (inr (inr (inr said))))
merge_answers words (Err joining.Outside) said = inr (inr (inr (inr (inr said))))
merge_answers words (Err joining.Memory) said = tt
merge_answers words (Err (joining.Defect file e)) said = said
merge_answers words (Err (joining.Schema (unlike.Closed file field))) said = said
merge_answers words (Err (joining.Schema (unlike.Deferred file column))) said = said
merge_answers words (Err (joining.Schema (unlike.Field file id))) said = said
merge_answers words (Err (joining.Schema (unlike.Column file id))) said = said
merge_answers words (Err (joining.Limit reached limit)) said = inr (inr (inr (inr said)))

-- `write`
pub written_words : (words : List (List ℕ)) (o s : List ℕ) (is : List (List ℕ)) (p : Params) (old new : HostState) (answer : Status)
    → IsWrite words o s is p → WritesNamed o s is p old new answer → Obeys words old new answer
written_words words o s is p old new answer said writes = record {
  write = λ o' s' is' p' other. same_write (λ a b c d. WritesNamed a b c d old new answer) words o s o' s' is is' p p' said other writes;
  seq = λ o' s' i p' other. absurd (begins_once words _ _ refl said.begins other.begins);
  skim = λ o' f ns t p' other. absurd (begins_once words _ _ refl said.begins other.begins);
  merge = λ o' fs p' other. absurd (begins_once words _ _ refl said.begins other.begins);
  gen = λ o' m other. absurd (begins_once words _ _ refl said.begins other.begins);
  entries = λ from count name other. absurd (begins_once words _ _ refl said.begins other.begins);
  schema = λ name other. absurd (begins_once words _ _ refl said.begins other.begins);
  scan = λ name other. absurd (begins_once words _ _ refl said.begins other.begins);
  usage = λ none. absurd (none.no_write o s is p said);
  answers = subst (IsAnswerTo words) (sym writes.answer_is) (store_answers words writes.stored (inl (o, s, is, p, said)));
}

-- `seq`
pub scripted_words : (words : List (List ℕ)) (o s i : List ℕ) (p : Params) (old new : HostState) (answer : Status)
    → IsSeq words o s i p → SeqNamed o s i p old new answer → Obeys words old new answer
scripted_words words o s i p old new answer said writes = record {
  write = λ o' s' is p' other. absurd (begins_once words _ _ refl said.begins other.begins);
  seq = λ o' s' i' p' other. same_seq (λ a b c d. SeqNamed a b c d old new answer) words o s i o' s' i' p p' said other writes;
  skim = λ o' f ns t p' other. absurd (begins_once words _ _ refl said.begins other.begins);
  merge = λ o' fs p' other. absurd (begins_once words _ _ refl said.begins other.begins);
  gen = λ o' m other. absurd (begins_once words _ _ refl said.begins other.begins);
  entries = λ from count name other. absurd (begins_once words _ _ refl said.begins other.begins);
  schema = λ name other. absurd (begins_once words _ _ refl said.begins other.begins);
  scan = λ name other. absurd (begins_once words _ _ refl said.begins other.begins);
  usage = λ none. absurd (none.no_seq o s i p said);
  answers = subst (IsAnswerTo words) (sym writes.answer_is) (script_answers words writes.stored (inr (o, s, i, p, said)));
}

-- `skim`
pub skimmed_words : (words : List (List ℕ)) (o f : List ℕ) (ns : List (List ℕ)) (t : Option SaidTest) (p : Params) (old new : HostState)
    (answer : Status) → IsSkim words o f ns t p → SkimNamed o f (choice_said ns t) p old new answer → Obeys words old new answer
skimmed_words words o f ns t p old new answer said skims = record {
  write = λ o' s is p' other. absurd (begins_once words _ _ refl said.begins other.begins);
  seq = λ o' s i p' other. absurd (begins_once words _ _ refl said.begins other.begins);
  skim = λ o' f' ns' t' p' other.
      same_skim (λ a b c d e. SkimNamed a b (choice_said c d) e old new answer) words o f o' f' ns ns' t t' p p' said other skims;
  merge = λ o' fs p' other. absurd (begins_once words _ _ refl said.begins other.begins);
  gen = λ o' m other. absurd (begins_once words _ _ refl said.begins other.begins);
  entries = λ from count name other. absurd (begins_once words _ _ refl said.begins other.begins);
  schema = λ name other. absurd (begins_once words _ _ refl said.begins other.begins);
  scan = λ name other. absurd (begins_once words _ _ refl said.begins other.begins);
  usage = λ none. absurd (none.no_skim o f ns t p said);
  answers = subst (IsAnswerTo words) (sym skims.answer_is) (skim_answers words skims.stored (o, f, ns, t, p, said));
}

-- `merge`
pub merged_words : (words : List (List ℕ)) (o : List ℕ) (fs : List (List ℕ)) (p : Params) (old new : HostState) (answer : Status)
    → IsMerge words o fs p → MergeNamed o fs p old new answer → Obeys words old new answer
merged_words words o fs p old new answer said merges = record {
  write = λ o' s is p' other. absurd (begins_once words _ _ refl said.begins other.begins);
  seq = λ o' s i p' other. absurd (begins_once words _ _ refl said.begins other.begins);
  skim = λ o' f ns t p' other. absurd (begins_once words _ _ refl said.begins other.begins);
  merge = λ o' fs' p' other. same_merge (λ a b c. MergeNamed a b c old new answer) words o o' fs fs' p p' said other merges;
  gen = λ o' m other. absurd (begins_once words _ _ refl said.begins other.begins);
  entries = λ from count name other. absurd (begins_once words _ _ refl said.begins other.begins);
  schema = λ name other. absurd (begins_once words _ _ refl said.begins other.begins);
  scan = λ name other. absurd (begins_once words _ _ refl said.begins other.begins);
  usage = λ none. absurd (none.no_merge o fs p said);
  answers = subst (IsAnswerTo words) (sym merges.answer_is) (merge_answers words merges.stored (o, fs, p, said));
}

-- `gen`
pub made_words : (words : List (List ℕ)) (o : List ℕ) (m : Making) (old new : HostState) (answer : Status) → IsGen words m o
    → GenNamed o m old new answer → Obeys words old new answer
made_words words o m old new answer said makes = record {
  write = λ o' s' is p' other. absurd (begins_once words _ _ refl said.begins other.begins);
  seq = λ o' s' i p' other. absurd (begins_once words _ _ refl said.begins other.begins);
  skim = λ o' f ns t p' other. absurd (begins_once words _ _ refl said.begins other.begins);
  merge = λ o' fs p' other. absurd (begins_once words _ _ refl said.begins other.begins);
  gen = λ o' m' other. same_gen (λ n l. GenNamed l n old new answer) words m m' o o' said other makes;
  entries = λ from count name other. absurd (begins_once words _ _ refl said.begins other.begins);
  schema = λ name other. absurd (begins_once words _ _ refl said.begins other.begins);
  scan = λ name other. absurd (begins_once words _ _ refl said.begins other.begins);
  usage = λ none. absurd (none.no_gen m o said);
  answers = subst (IsAnswerTo words) (sym makes.answer_is) (generate_answers words makes.made (m, o, said));
}

-- `entries`
pub listed_words : (words : List (List ℕ)) (from count : Option ℕ) (name : List ℕ) (old new : HostState) (answer : Status)
    → IsEntries words from count name → ShowsNamed (entries_shown (range_said from count)) name old new answer → Obeys words old new answer
listed_words words from count name old new answer said shows = record {
  write = λ o s is p other. absurd (begins_once words _ _ refl said.begins other.begins);
  seq = λ o s i p other. absurd (begins_once words _ _ refl said.begins other.begins);
  skim = λ o' f ns t p' other. absurd (begins_once words _ _ refl said.begins other.begins);
  merge = λ o' fs p' other. absurd (begins_once words _ _ refl said.begins other.begins);
  gen = λ o m other. absurd (begins_once words _ _ refl said.begins other.begins);
  entries = λ from' count' name' other.
      same_entries (λ f c n. ShowsNamed (entries_shown (range_said f c)) n old new answer) words from count from' count' name name'
      said other shows;
  schema = λ name' other. absurd (begins_once words _ _ refl said.begins other.begins);
  scan = λ name' other. absurd (begins_once words _ _ refl said.begins other.begins);
  usage = λ none. absurd (none.no_entries from count name said);
  answers = reading_answers words answer shows.answer_is (inl (from, count, name, said));
}

-- `schema`
pub outlined_words : (words : List (List ℕ)) (name : List ℕ) (old new : HostState) (answer : Status) → IsSchemaCommand words name
    → ShowsNamed fields_shown name old new answer → Obeys words old new answer
outlined_words words name old new answer said shows = record {
  write = λ o s is p other. absurd (begins_once words _ _ refl said.begins other.begins);
  seq = λ o s i p other. absurd (begins_once words _ _ refl said.begins other.begins);
  skim = λ o' f ns t p' other. absurd (begins_once words _ _ refl said.begins other.begins);
  merge = λ o' fs p' other. absurd (begins_once words _ _ refl said.begins other.begins);
  gen = λ o m other. absurd (begins_once words _ _ refl said.begins other.begins);
  entries = λ from count name' other. absurd (begins_once words _ _ refl said.begins other.begins);
  schema = λ name' other. same_schema (λ n. ShowsNamed fields_shown n old new answer) words name name' said other shows;
  scan = λ name' other. absurd (begins_once words _ _ refl said.begins other.begins);
  usage = λ none. absurd (none.no_schema name said);
  answers = reading_answers words answer shows.answer_is (inr (name, said));
}

-- `scan`
pub scanned_words : (words : List (List ℕ)) (name : List ℕ) (old new : HostState) (answer : Status) → IsScan words name
    → ScansNamed name old new answer → Obeys words old new answer
scanned_words words name old new answer said scans = record {
  write = λ o s is p other. absurd (begins_once words _ _ refl said.begins other.begins);
  seq = λ o s i p other. absurd (begins_once words _ _ refl said.begins other.begins);
  skim = λ o' f ns t p' other. absurd (begins_once words _ _ refl said.begins other.begins);
  merge = λ o' fs p' other. absurd (begins_once words _ _ refl said.begins other.begins);
  gen = λ o m other. absurd (begins_once words _ _ refl said.begins other.begins);
  entries = λ from count name' other. absurd (begins_once words _ _ refl said.begins other.begins);
  schema = λ name' other. absurd (begins_once words _ _ refl said.begins other.begins);
  scan = λ name' other. same_scan (λ n. ScansNamed n old new answer) words name name' said other scans;
  usage = λ none. absurd (none.no_scan name said);
  answers = scanning_answers words answer scans.answer_is (name, said);
}
