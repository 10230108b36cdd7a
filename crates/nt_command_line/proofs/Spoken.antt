-- What is said of words, from what clap found in them.
use Rattle.std.proofs.Common.{◌≡◌, ◌∙◌, ap, sym, subst, refl, ℕ, Bool, true, false, ◌&&◌, ◌||◌, List, [], ◌∷◌}
use Rattle.std.proofs.Common.{length, arith, codes, Option, Some, None}
use Rattle.std.specs.Prelude.{IfSome, String, get_or, ◌≤◌, option_map, unwrap_or}
use Rattle.std.specs.Borrow.{Bor}
use Rattle.std.specs.List.{list_any}
use Rattle.std.specs.Str.{bytes_eq}
use Rattle.std.specs.String.{string_bytes}
use Rattle.std.specs.declared.alloc.Global.{Global}
use Rattle.clap.specs.Words.{App, rows_of, found_of, first_of, all_of, first_value, matched_of, raw_values, matches_of, is_simple}
use Rattle.clap.specs.Words.{is_simple_and_free}
use Rattle.clap.specs.declared.parser.matches.ArgMatches.{ArgMatches}
use Rattle.clap.proofs.WalkLemmas.{first_value-rows, raw_values-rows}
use Rattle.nt_command_line.specs.CommandLine.{texts, app, operand, entries_rules, entries_app}
use Rattle.nt_command_line.specs.CommandLine.{schema_app, scan_app, is_true_word, number_said, number_found}
use Rattle.nt_command_line.specs.CommandLine.{is_flag_found, Begins, IsTaken, word_found, words_found, is_among}
use Rattle.nt_command_line.specs.WriteWords.{write_rules, write_app, NamesOfWrite}
use Rattle.nt_command_line.specs.SeqWords.{seq_rules, seq_app, NamesOfSeq}
use Rattle.nt_command_line.specs.SkimWords.{skim_rules, skim_app, NamesOfSkim, SaidTest, IsTestSaid, IsTestOfSkim}
use Rattle.nt_command_line.specs.MergeWords.{merge_rules, merge_app, NamesOfMerge}
use Rattle.nt_command_line.specs.GenWords.{gen_rules, gen_app}
use Rattle.nt_command_line.specs.Commands.{names_of}
use Rattle.nt_command_line.specs.Arguments.{ReadsWords}

and_first : (a b : Bool) → (a && b) ≡ true → a ≡ true
and_first true b p = refl
and_first false b p = p

pub simple_of : (a : App) → is_simple_and_free a ≡ true → is_simple a ≡ true
simple_of a both = and_first (is_simple a) _ both

-- what an option holds has what all that it holds has
pub held : (P : ArgMatches → Type 0) (o : Option ArgMatches) (m : ArgMatches) → o ≡ Some m → IfSome o P → P m
held P o m is has = subst (λ (x : Option ArgMatches). IfSome x P) is has

-- the reading of matches that were found
pub reads_of : (a a' : App) (words : List (List ℕ)) (o : Option ArgMatches) (m : ArgMatches) → a ≡ a' → o ≡ Some m
    → ReadsWords a words o → IsTaken a' words × (rows_of (found_of m) ≡ matches_of a' words)
reads_of a a' words o m same is reads =
    subst (λ (x : App). ReadsWords x words (Some m)) same (subst (ReadsWords a words) is reads)

-- the reading of a refusal
pub refused_of : (a a' : App) (words : List (List ℕ)) (o : Option ArgMatches) → a ≡ a' → o ≡ None → ReadsWords a words o
    → IsTaken a' words → ⊥
refused_of a a' words o same is reads =
    subst (λ (x : App). ReadsWords x words None) same (subst (ReadsWords a words) is reads)

-- the value under a name is what clap finds
pub found_by : (a : App) (words : List (List ℕ)) (m : ArgMatches) (id value : List ℕ) → rows_of (found_of m) ≡ matches_of a words
    → first_value (found_of m) id ≡ Some value → word_found a words id ≡ Some value
found_by a words m id value rows is =
    sym (first_value-rows (found_of m) id ∙ ap (first_of id) rows) ∙ is

-- and so are all values
pub all_by : (a : App) (words : List (List ℕ)) (m : ArgMatches) (id : List ℕ) (values : List (List ℕ))
    → rows_of (found_of m) ≡ matches_of a words
    → values ≡ unwrap_or (option_map raw_values (matched_of (found_of m) id)) [] → values ≡ unwrap_or (words_found a words id) []
all_by a words m id values rows is =
    is ∙ ap (λ (o : Option (List (List ℕ))). unwrap_or o []) (raw_values-rows (found_of m) id ∙ ap (all_of id) rows)

-- and the number
pub number_by : (a : App) (words : List (List ℕ)) (m : ArgMatches) (id : List ℕ) (n : Option ℕ)
    → rows_of (found_of m) ≡ matches_of a words → n ≡ option_map number_said (first_value (found_of m) id) → n ≡ number_found a words id
number_by a words m id n rows is =
    is ∙ ap (λ (o : Option (List ℕ)). option_map number_said o) (first_value-rows (found_of m) id ∙ ap (first_of id) rows)

-- and the flag
pub flag_by : (a : App) (words : List (List ℕ)) (m : ArgMatches) (id : List ℕ) (b : Bool)
    → rows_of (found_of m) ≡ matches_of a words → b ≡ is_true_word (first_value (found_of m) id) → b ≡ is_flag_found a words id
flag_by a words m id b rows is = is ∙ ap is_true_word (first_value-rows (found_of m) id ∙ ap (first_of id) rows)

-- a number in its range, or another there
pub in_range_or : (low high : ℕ) (o : Option ℕ) (other r : ℕ) → r ≡ unwrap_or o other → IfSome o (λ n. (low ≤ n) × (n ≤ high))
    → low ≤ other → other ≤ high → (low ≤ r) × (r ≤ high)
in_range_or low high None other r is within from to = (subst (λ (n : ℕ). low ≤ n) (sym is) from, subst (λ (n : ℕ). n ≤ high) (sym is) to)
in_range_or low high (Some n) other r is within from to =
    (subst (λ (k : ℕ). low ≤ k) (sym is) within.0, subst (λ (k : ℕ). k ≤ high) (sym is) within.1)

-- the first of some words
pub begins_by : (words : List (String Global)) (first : String Global) (name : List ℕ) → 1 ≤ length words
    → first ≡ get_or words 0 first → string_bytes first ≡ name → Begins (texts words) name
begins_by [] first name some is same = absurd (omega arith)
begins_by (x ∷ words) first name some is same = ap (λ (s : String Global). Some (string_bytes s)) (sym is)
    ∙ ap (λ (t : List ℕ). Some t) same

-- a name among names, as they were found
pub among_found : (names : List (Bor (List ℕ))) (name : List ℕ) → list_any (λ other. bytes_eq other.now name) names
    ≡ is_among name (names_of names)
among_found [] name = refl
among_found (x ∷ names) name = ap (λ (b : Bool). bytes_eq x.now name || b) (among_found names name)

-- the commands, opened
pub write_is : app (codes "write") write_rules ≡ write_app
unfolding write_app
write_is = refl

-- the names that clap found
pub names_by : (words : List (List ℕ)) (m : ArgMatches) (out schema : List ℕ) (inputs : List (List ℕ))
    → rows_of (found_of m) ≡ matches_of write_app words
    → first_value (found_of m) (codes "OUT") ≡ Some out → first_value (found_of m) (codes "SCHEMA") ≡ Some schema
    → inputs ≡ unwrap_or (option_map raw_values (matched_of (found_of m) (codes "IN"))) [] → NamesOfWrite words out schema inputs
names_by words m out schema inputs rows out-is schema-is inputs-are = record {
  out_is = found_by write_app words m (codes "OUT") out rows out-is;
  schema_is = found_by write_app words m (codes "SCHEMA") schema rows schema-is;
  inputs_are = all_by write_app words m (codes "IN") inputs rows inputs-are;
}

pub seq_is : app (codes "seq") seq_rules ≡ seq_app
unfolding seq_app
seq_is = refl

-- the names of `seq`
pub seq_names_by : (words : List (List ℕ)) (m : ArgMatches) (out schema input : List ℕ) → rows_of (found_of m) ≡ matches_of seq_app words
    → first_value (found_of m) (codes "OUT") ≡ Some out → first_value (found_of m) (codes "SCHEMA") ≡ Some schema
    → first_value (found_of m) (codes "IN") ≡ Some input → NamesOfSeq words out schema input
seq_names_by words m out schema input rows out-is schema-is input-is = record {
  out_is = found_by seq_app words m (codes "OUT") out rows out-is;
  schema_is = found_by seq_app words m (codes "SCHEMA") schema rows schema-is;
  input_is = found_by seq_app words m (codes "IN") input rows input-is;
}

pub skim_is : app (codes "skim") skim_rules ≡ skim_app
unfolding skim_app
skim_is = refl

-- the names of `skim`
pub skim_names_by : (words : List (List ℕ)) (m : ArgMatches) (out file : List ℕ) (names : List (List ℕ))
    → rows_of (found_of m) ≡ matches_of skim_app words
    → first_value (found_of m) (codes "OUT") ≡ Some out → first_value (found_of m) (codes "FILE") ≡ Some file
    → names ≡ unwrap_or (option_map raw_values (matched_of (found_of m) (codes "NAME"))) [] → NamesOfSkim words out file names
skim_names_by words m out file names rows out-is file-is names-are = record {
  out_is = found_by skim_app words m (codes "OUT") out rows out-is;
  file_is = found_by skim_app words m (codes "FILE") file rows file-is;
  names_are = all_by skim_app words m (codes "NAME") names rows names-are;
}

-- what stands under a name is what clap finds
word_by : (m : ArgMatches) (words : List (List ℕ)) (id : List ℕ) → rows_of (found_of m) ≡ matches_of skim_app words
    → first_value (found_of m) id ≡ word_found skim_app words id
word_by m words id rows = first_value-rows (found_of m) id ∙ ap (first_of id) rows

-- and so is the test
pub test_by : (words : List (List ℕ)) (m : ArgMatches) (test : Option SaidTest) → rows_of (found_of m) ≡ matches_of skim_app words
    → IsTestSaid (first_value (found_of m) (codes "where")) (first_value (found_of m) (codes "least"))
    (first_value (found_of m) (codes "greatest")) test → IsTestOfSkim words test
test_by words m test rows is =
    subst (λ (n : Option (List ℕ)). IsTestSaid n (word_found skim_app words (codes "least"))
    (word_found skim_app words (codes "greatest")) test) (word_by m words (codes "where") rows)
    (subst (λ (l : Option (List ℕ)). IsTestSaid (first_value (found_of m) (codes "where")) l
    (word_found skim_app words (codes "greatest")) test) (word_by m words (codes "least") rows)
    (subst (λ (g : Option (List ℕ)). IsTestSaid (first_value (found_of m) (codes "where")) (first_value (found_of m) (codes "least")) g
    test) (word_by m words (codes "greatest") rows) is))

-- back
pub test_found : (words : List (List ℕ)) (m : ArgMatches) (test : Option SaidTest) → rows_of (found_of m) ≡ matches_of skim_app words
    → IsTestOfSkim words test → IsTestSaid (first_value (found_of m) (codes "where")) (first_value (found_of m) (codes "least"))
    (first_value (found_of m) (codes "greatest")) test
test_found words m test rows is =
    subst (λ (n : Option (List ℕ)). IsTestSaid n (first_value (found_of m) (codes "least"))
    (first_value (found_of m) (codes "greatest")) test) (sym (word_by m words (codes "where") rows))
    (subst (λ (l : Option (List ℕ)). IsTestSaid (word_found skim_app words (codes "where")) l
    (first_value (found_of m) (codes "greatest")) test) (sym (word_by m words (codes "least") rows))
    (subst (λ (g : Option (List ℕ)). IsTestSaid (word_found skim_app words (codes "where")) (word_found skim_app words (codes "least")) g
    test) (sym (word_by m words (codes "greatest") rows)) is))

pub merge_is : app (codes "merge") merge_rules ≡ merge_app
unfolding merge_app
merge_is = refl

-- the names of `merge`
pub merge_names_by : (words : List (List ℕ)) (m : ArgMatches) (out : List ℕ) (files : List (List ℕ))
    → rows_of (found_of m) ≡ matches_of merge_app words → first_value (found_of m) (codes "OUT") ≡ Some out
    → files ≡ unwrap_or (option_map raw_values (matched_of (found_of m) (codes "FILE"))) [] → NamesOfMerge words out files
merge_names_by words m out files rows out-is files-are = record {
  out_is = found_by merge_app words m (codes "OUT") out rows out-is;
  files_are = all_by merge_app words m (codes "FILE") files rows files-are;
}

pub gen_is : app (codes "gen") gen_rules ≡ gen_app
unfolding gen_app
gen_is = refl

pub entries_is : app (codes "entries") entries_rules ≡ entries_app
unfolding entries_app
entries_is = refl

pub schema_is : app (codes "schema") (operand (codes "FILE") ∷ []) ≡ schema_app
unfolding schema_app
schema_is = refl

pub scan_is : app (codes "scan") (operand (codes "FILE") ∷ []) ≡ scan_app
unfolding scan_app
scan_is = refl
