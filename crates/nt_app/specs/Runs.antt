-- What the program does to a host, whole: the command, and then its message on err.
use Rattle.std.specs.Prelude.{⊤, ◌≡◌, ◌⊎◌, ℕ, List, Option, Some, unwrap_or}
use Rattle.nt_payloads.specs.Files.{IsReadAsItIs}
use Rattle.nt_outside.specs.World.{World, HostState, file}
use Rattle.nt_book.specs.declared.params.Params.{Params}
use Rattle.nt_draws.specs.declared.making.Making.{Making}
use Rattle.nt_show.specs.declared.entry_range.EntryRange.{EntryRange}
use Rattle.nt_show.specs.Shown.{entries_shown, fields_shown}
use Rattle.nt_command_line.specs.CommandLine.{IsEntries, IsSchemaCommand, IsScan}
use Rattle.nt_command_line.specs.WriteWords.{IsWrite}
use Rattle.nt_command_line.specs.SeqWords.{IsSeq}
use Rattle.nt_command_line.specs.SkimWords.{SaidTest, IsSkim}
use Rattle.nt_command_line.specs.MergeWords.{IsMerge}
use Rattle.nt_command_line.specs.GenWords.{IsGen}
use Rattle.nt_command_line.specs.Commands.{IsNoCommand, IsWrong}
use Rattle.nt_store.specs.Worlds.{KeepsFiles}
use Rattle.nt_app.specs.declared.status.SchemaPlace.{SchemaPlace}
use Rattle.nt_app.specs.declared.status.SchemaPlace.TheVariants as unmet
use Rattle.nt_app.specs.declared.status.Status.{Status}
use Rattle.nt_app.specs.declared.status.Status.TheVariants as status
use Rattle.nt_app.specs.Statuses.{message_of}
use Rattle.nt_app.specs.Reports.{SaysOnErr}
use Rattle.nt_app.specs.Shows.{ShowsNamed, Shows}
use Rattle.nt_app.specs.Writes.{WritesNamed, RunsWrite}
use Rattle.nt_app.specs.Seqs.{SeqNamed, RunsSeq}
use Rattle.nt_app.specs.Gens.{GenNamed, RunsGen}
use Rattle.nt_app.specs.Scans.{ScansNamed, RunsScan}
use Rattle.nt_app.specs.Skims.{choice_said, SkimNamed, RunsSkim}
use Rattle.nt_app.specs.Merges.{MergeNamed, RunsMerge}

-- the words were no command, which is said unless memory runs out: nothing was asked for, no disk was made, and no file changed
pub record RefusesWords (old new : HostState) (answer : Status) : Type 0 where
  pub answer_is : (answer ≡ status.Usage) ⊎ (answer ≡ status.Memory)
  pub told : (w : World) → old.world ≡ Some w → (w' : World) × (new.world ≡ Some w') × KeepsFiles w w' × (w'.out ≡ w.out)
      × SaysOnErr (message_of answer) old new w w'
  pub asked : new.asked ≡ old.asked
  pub faults : new.faults ≡ old.faults
  pub opened : new.opened ≡ old.opened

-- which entries are shown: from the first on and all, where the words don't say it
abbrev pub range_said : Option ℕ → Option ℕ → EntryRange
range_said from count = record { from = unwrap_or from 0; count = count }

-- the words were `entries [--from A] [--count C] FILE`: read is what the file means, a schema and the entries of its clusters
abbrev pub RunsEntries : Option ℕ → Option ℕ → List ℕ → HostState → HostState → Status → Type 0
RunsEntries from count name old new answer = Shows (entries_shown (range_said from count)) name old new answer

-- the words were `schema FILE`: read is the outline of the file
abbrev pub RunsSchema : List ℕ → HostState → HostState → Status → Type 0
RunsSchema name old new answer = Shows fields_shown name old new answer

-- the words are `write ..` or `seq ..`
abbrev pub SayWriting : List (List ℕ) → Type 0
SayWriting words =
    ((out schema : List ℕ) × (inputs : List (List ℕ)) × (p : Params) × IsWrite words out schema inputs p)
    ⊎ ((out schema input : List ℕ) × (p : Params) × IsSeq words out schema input p)

-- the words are `gen ..`
abbrev pub SayMaking : List (List ℕ) → Type 0
SayMaking words = (m : Making) × (out : List ℕ) × IsGen words m out

-- the words are `entries ..` or `schema ..`
abbrev pub SayReading : List (List ℕ) → Type 0
SayReading words =
    ((from count : Option ℕ) × (name : List ℕ) × IsEntries words from count name) ⊎ ((name : List ℕ) × IsSchemaCommand words name)

-- the words are `scan ..`
abbrev pub SayScanning : List (List ℕ) → Type 0
SayScanning words = (name : List ℕ) × IsScan words name

-- the words are `skim ..`
abbrev pub SaySkimming : List (List ℕ) → Type 0
SaySkimming words =
    (out file : List ℕ) × (names : List (List ℕ)) × (test : Option SaidTest) × (p : Params) × IsSkim words out file names test p

-- the words are `merge ..`
abbrev pub SayMerging : List (List ℕ) → Type 0
SayMerging words = (out : List ℕ) × (files : List (List ℕ)) × (p : Params) × IsMerge words out files p

-- the words are `skim ..` or `merge ..`
abbrev pub SayCopying : List (List ℕ) → Type 0
SayCopying words = SaySkimming words ⊎ SayMerging words

-- a place is one of the words of a command that chooses fields, or of the schemas of files that are merged
abbrev pub IsPlaceOf : Type 0 → Type 0 → SchemaPlace → Type 0
IsPlaceOf chooses merges (unmet.Closed file field) = merges
IsPlaceOf chooses merges (unmet.Deferred file column) = merges
IsPlaceOf chooses merges (unmet.Field file id) = merges
IsPlaceOf chooses merges (unmet.Column file id) = merges
IsPlaceOf chooses merges named = chooses

-- each answer comes of some commands alone, and `Usage` of words that are wrong
abbrev pub IsAnswerTo : List (List ℕ) → Status → Type 0
IsAnswerTo words status.Done = SayWriting words ⊎ SayMaking words ⊎ SayReading words ⊎ SayScanning words ⊎ SayCopying words
IsAnswerTo words status.Usage = IsWrong words
IsAnswerTo words (status.File fault) = SayMaking words ⊎ SayReading words ⊎ SayScanning words ⊎ SaySkimming words
IsAnswerTo words (status.FileOf file e) = SayMerging words
IsAnswerTo words status.Outside = SayWriting words ⊎ SayMaking words ⊎ SayReading words ⊎ SayScanning words ⊎ SayCopying words
IsAnswerTo words (status.Limit reached limit) = SayWriting words ⊎ SayMaking words ⊎ SayScanning words ⊎ SayCopying words
IsAnswerTo words (status.Text input number kind) = SayWriting words
IsAnswerTo words status.Memory = ⊤
IsAnswerTo words (status.Schema place) = IsPlaceOf (SaySkimming words) (SayMerging words) place

-- what the words say was done, before a message is printed
pub record Obeys (words : List (List ℕ)) (old new : HostState) (answer : Status) : Type 0 where
  pub write : (out schema : List ℕ) (inputs : List (List ℕ)) (p : Params) → IsWrite words out schema inputs p
      → WritesNamed out schema inputs p old new answer
  pub seq : (out schema input : List ℕ) (p : Params) → IsSeq words out schema input p → SeqNamed out schema input p old new answer
  pub skim : (out file : List ℕ) (names : List (List ℕ)) (test : Option SaidTest) (p : Params) → IsSkim words out file names test p
      → SkimNamed out file (choice_said names test) p old new answer
  pub merge : (out : List ℕ) (files : List (List ℕ)) (p : Params) → IsMerge words out files p → MergeNamed out files p old new answer
  pub gen : (out : List ℕ) (m : Making) → IsGen words m out → GenNamed out m old new answer
  pub entries : (from count : Option ℕ) (name : List ℕ) → IsEntries words from count name
      → ShowsNamed (entries_shown (range_said from count)) name old new answer
  pub schema : (name : List ℕ) → IsSchemaCommand words name → ShowsNamed fields_shown name old new answer
  pub scan : (name : List ℕ) → IsScan words name → ScansNamed name old new answer
  pub usage : IsNoCommand words → ((answer ≡ status.Usage) ⊎ (answer ≡ status.Memory)) × (new ≡ old)
  pub answers : IsAnswerTo words answer

-- what a host tells of a file, be it written or shown, is read as it is: what the file means, and its outline, are what the grammar of the
-- format says that it is, with no reading
abbrev pub TellsFiles : HostState → Type 0
TellsFiles host = (w : World) (name bytes : List ℕ) → host.world ≡ Some w → file w name ≡ Some bytes → IsReadAsItIs bytes

-- what the words say was done, and its message printed
pub record Runs (words : List (List ℕ)) (old new : HostState) (answer : Status) : Type 0 where
  pub write : (out schema : List ℕ) (inputs : List (List ℕ)) (p : Params) → IsWrite words out schema inputs p
      → RunsWrite out schema inputs p old new answer
  pub seq : (out schema input : List ℕ) (p : Params) → IsSeq words out schema input p → RunsSeq out schema input p old new answer
  pub skim : (out file : List ℕ) (names : List (List ℕ)) (test : Option SaidTest) (p : Params) → IsSkim words out file names test p
      → RunsSkim out file (choice_said names test) p old new answer
  pub merge : (out : List ℕ) (files : List (List ℕ)) (p : Params) → IsMerge words out files p → RunsMerge out files p old new answer
  pub gen : (out : List ℕ) (m : Making) → IsGen words m out → RunsGen out m old new answer
  pub entries : (from count : Option ℕ) (name : List ℕ) → IsEntries words from count name → RunsEntries from count name old new answer
  pub schema : (name : List ℕ) → IsSchemaCommand words name → RunsSchema name old new answer
  pub scan : (name : List ℕ) → IsScan words name → RunsScan name old new answer
  pub usage : IsNoCommand words → RefusesWords old new answer
  -- which words that are wrong are
  pub wrong : IsWrong words → RefusesWords old new answer
  pub answers : IsAnswerTo words answer
  -- the OUT that was written, the FILE that was shown, and any other file mean what they are by the grammar
  pub grammar : TellsFiles new
