-- What a parse finds under the name of an option whose value is a number.
use Rattle.std.proofs.Common.{◌≡◌, ◌≢◌, ◌∙◌, inl, inr, ap, sym, subst, refl, ℕ, ◌<◌, List, [], ◌∷◌, length, option_map, Option, Some, None}
use Rattle.std.proofs.Common.{true, false, is_some, arith}
use Rattle.std.specs.List.{All, slice_index_or}
use Rattle.std.specs.Borrow.{Bor}
use Rattle.std.specs.Str.{bytes_eq}
use Rattle.std.specs.Prelude.{slice_get, ◌≤◌, IfSome, Result, Ok, Err}
use Rattle.std.specs.Str.Parse.{ParsesUnsigned}
use Rattle.std.proofs.lemmas.Slice.Eq.{bytes_eq-Decides}
use Rattle.clap.specs.Facts.{args_of, groups_of, Entry, EntryPasses, EntryValuesPass, IsGroupEntry, ReadsByParser, PassesArg, HasReading}
use Rattle.clap.specs.Facts.{parser_of, parser_of_value}
use Rattle.clap.specs.Built.{IsPlain, IsParsedFrom, IsAuto, SameRules}
use Rattle.clap.specs.Matches.{matched_of, first_value, one_text, found_of, ReadsOne}
use Rattle.clap.specs.Values.{Accepts, IsUnsignedIn, read_as, reading_of}
use Rattle.clap.specs.declared.builder.arg.Arg.{Arg}
use Rattle.clap.specs.declared.builder.command.Command.{Command}
use Rattle.clap.specs.declared.builder.command.Command.TheViews.{out-Command}
use Rattle.clap.specs.declared.builder.value_parser.Reading.{Reading}
use Rattle.clap.specs.declared.builder.value_parser.Reading.TheVariants.{AsWritten}
use Rattle.clap.specs.declared.builder.value_parser.ValueParser.{ValueParser}
use Rattle.clap.specs.declared.builder.value_parser.ValueParser.TheVariants.{Unsigned}
use Rattle.clap.specs.declared.parser.matches.ArgMatches.{ArgMatches}
use Rattle.clap.specs.declared.parser.matches.MatchedArg.{MatchedArg}
use Rattle.clap.specs.declared.parser.matches.Found.{Found}
use Rattle.nt_command_line.specs.CommandLine.{number_option, number_operand, number_said}
use Rattle.nt_command_line.specs.Arguments.{IsCommandOf, HasMatch, HasNumber, IsNumberThere, IsNumberFound, is_only_at}
use Rattle.clap.specs.Words.{Rule}
use Rattle.clap.proofs.CallerLemmas.{entry_by_id, same_rules_by_id}
use Rattle.nt_command_line.proofs.Kept.{kept_at, only_at}
use Rattle.nt_command_line.proofs.Found.{IsOwn, number_operand_there}

-- the argument of this number in a command takes numbers in this range, and no other has its name
pub record IsNumberAt (c : Command) (k low high : ℕ) (id : List ℕ) : Type 0 where
  pub arg : Arg
  pub below : k < length (args_of c)
  pub arg_is : slice_index_or (args_of c) k arg ≡ arg
  pub id_is : arg.id.now ≡ id
  pub parser : arg.value_parser ≡ Some (Unsigned low high)
  pub alone : (j : ℕ) (e : Arg) → j < length (args_of c) → bytes_eq (slice_index_or (args_of c) j e).id.now id ≡ true → j ≡ k
  pub named : id ≢ []
  pub own : IsAuto arg → ⊥

-- an argument of the built command with that name has its rules
rules_of_number : (c : Command) (k low high : ℕ) (id : List ℕ) (m : ArgMatches) (p : IsParsedFrom c m)
    (n : IsNumberAt c k low high id) (j : ℕ) (x : Arg)
    → j < length (args_of p.built) → slice_index_or (args_of p.built) j x ≡ x → bytes_eq x.id.now id ≡ true → SameRules n.arg x
rules_of_number c k low high id m p n j x below at same =
    let here : (slice_index_or (args_of c) k n.arg).id.now ≡ id = ap (λ (a : Arg). a.id.now) n.arg_is ∙ n.id_is in
    subst (λ (a : Arg). SameRules a x) n.arg_is (same_rules_by_id c m p k n.arg n.below
    (λ i e less eq. n.alone i e less (subst (λ (l : List ℕ). bytes_eq (slice_index_or (args_of c) i e).id.now l ≡ true) here eq))
    (λ auto. n.own (subst IsAuto n.arg_is auto))
    j x below at (subst (λ (l : List ℕ). bytes_eq x.id.now l ≡ true) (sym here) same))

parser_is : (a x : Arg) (low high : ℕ) → SameRules a x → a.value_parser ≡ Some (Unsigned low high) → parser_of x ≡ Unsigned low high
parser_is a x low high rules parser = ap parser_of_value (rules.parser (Unsigned low high) parser)

-- a value of that name is a number
passes_number : (c : Command) (k low high : ℕ) (id word : List ℕ) (m : ArgMatches) (p : IsParsedFrom c m)
    → IsNumberAt c k low high id → PassesArg p.built id word → IsUnsignedIn low high word
passes_number c k low high id word m p n pass =
    let rules = rules_of_number c k low high id m p n pass.0 pass.1 pass.2 pass.3 pass.4.0 in
    subst (λ (q : ValueParser). Accepts pass.1.ignore_case q word) (parser_is n.arg pass.1 low high rules n.parser) pass.4.1

-- and is read as it was written
reads_number : (c : Command) (k low high : ℕ) (id : List ℕ) (m : ArgMatches) (p : IsParsedFrom c m) → IsNumberAt c k low high id
    → (r : Reading) → HasReading p.built id r → r ≡ AsWritten
reads_number c k low high id m p n r has =
    let rules = rules_of_number c k low high id m p n has.0 has.1 has.2 has.3 has.4.0 in
    sym has.4.1 ∙ ap reading_of (parser_is n.arg has.1 low high rules n.parser)

first_of_values : (P : List ℕ → Type 0) (vs : List (Bor (List ℕ))) (word : List ℕ) → All (λ v. P v.now) vs
    → option_map (λ s. s.now) (slice_get vs 0) ≡ Some word → P word
first_of_values P [] word all is = absurd (cc)
first_of_values P (v ∷ vs) word all is = subst P (cc) (all 0 v (omega arith))

as_written : (r : Reading) (vs : List (Bor (List ℕ))) (word : List ℕ) → r ≡ AsWritten → option_map (λ s. s.now) (slice_get vs 0) ≡ Some word
    → option_map (λ s. read_as r s.now) (slice_get vs 0) ≡ Some word
as_written r vs word written is = subst (λ (q : Reading). option_map (λ s. read_as q s.now) (slice_get vs 0) ≡ Some word) (sym written) is

text_at_entry : (f : Found) (id : List ℕ) (x : MatchedArg) (word : List ℕ) → matched_of f id ≡ Some x
    → option_map (λ s. read_as x.reading s.now) (slice_get x.vals.items 0) ≡ Some word → one_text f id ≡ Some word
text_at_entry f id x word found is = rw found is

-- the entry of a name is no group's, where the command has none
no_group : (c : Command) (e : Entry) (id : List ℕ) → groups_of c ≡ [] → id ≢ [] → e.0.now ≡ id → IsGroupEntry c e → e.1.is_group ≡ true → ⊥
no_group c e id none named key known group = elim (known group) [
  | inl empty ↦ named (sym key ∙ empty)
  | inr lots ↦
      let bad : 0 < 0 = rw none at lots in
      absurd (omega arith)
]

-- so its values pass, and are read as its argument says
values_of_entry : (c : Command) (e : Entry) (id : List ℕ) → (e.1.is_group ≡ true → ⊥) → e.0.now ≡ id → EntryValuesPass c e
    → All (λ v. PassesArg c id v.now) e.1.vals.items
values_of_entry c e id lone key (inl group) = absurd (lone group)
values_of_entry c e id lone key (inr all) = subst (λ (l : List ℕ). All (λ v. PassesArg c l v.now) e.1.vals.items) key all

reading_of_entry : (c : Command) (e : Entry) (id : List ℕ) → (e.1.is_group ≡ true → ⊥) → e.0.now ≡ id → ReadsByParser c e
    → HasReading c id e.1.reading
reading_of_entry c e id lone key (inl group) = absurd (lone group)
reading_of_entry c e id lone key (inr has) = subst (λ (l : List ℕ). HasReading c l e.1.reading) key has

-- what an entry gives, by what its values and its reading are
entry_gives : (f : Found) (id word : List ℕ) (P : List ℕ → Type 0) (x y : MatchedArg) → x ≡ y → matched_of f id ≡ Some y
    → option_map (λ s. s.now) (slice_get y.vals.items 0) ≡ Some word
    → All (λ v. P v.now) x.vals.items → x.reading ≡ AsWritten → (one_text f id ≡ Some word) × P word
entry_gives f id word P x y same found is all written =
    let all-y : All (λ v. P v.now) y.vals.items = subst (λ (z : MatchedArg). All (λ v. P v.now) z.vals.items) same all in
    let written-y : y.reading ≡ AsWritten = subst (λ (z : MatchedArg). z.reading ≡ AsWritten) same written in
    (text_at_entry f id y word found (as_written y.reading y.vals.items word written-y is), first_of_values P y.vals.items word all-y is)

number_of_entry : (c : Command) (k low high : ℕ) (id word : List ℕ) (m : ArgMatches) (p : IsParsedFrom c m) → IsPlain c
    → IsNumberAt c k low high id → (x : MatchedArg) → matched_of (found_of m) id ≡ Some x
    → option_map (λ s. s.now) (slice_get x.vals.items 0) ≡ Some word → ((e : Entry) × (e.1 ≡ x) × (bytes_eq e.0.now id ≡ true)
    × EntryPasses p.built e)
    → (one_text (found_of m) id ≡ Some word) × IsUnsignedIn low high word
number_of_entry c k low high id word m p plain n x found is (e, same, key, pass) =
    let key-is : e.0.now ≡ id = (bytes_eq-Decides e.0.now id).0 key in
    let lone : e.1.is_group ≡ true → ⊥ = no_group p.built e id (p.from.plain plain).1 n.named key-is pass.3 in
    let gives = entry_gives (found_of m) id word (PassesArg p.built id) e.1 x same found is
    (values_of_entry p.built e id lone key-is pass.0)
    (reads_number c k low high id m p n e.1.reading (reading_of_entry p.built e id lone key-is pass.4)) in
    (gives.0, passes_number c k low high id word m p n gives.1)

first_at_none : (f : Found) (id word : List ℕ) → matched_of f id ≡ None → first_value f id ≡ Some word → ⊥
first_at_none f id word none is =
    let bad : None ≡ Some word = rw none at is in
    cc

first_at_entry : (f : Found) (id word : List ℕ) (x : MatchedArg) → matched_of f id ≡ Some x → first_value f id ≡ Some word
    → option_map (λ s. s.now) (slice_get x.vals.items 0) ≡ Some word
first_at_entry f id word x found is = rw found at is

-- what stands under the name of a number is one, and is read as it was written
pub number_is_read : (c : Command) (k low high : ℕ) (id word : List ℕ) (m : ArgMatches) → IsParsedFrom c m → IsPlain c
    → (out-Command c).has_globals ≡ false → IsNumberAt c k low high id
    → first_value (found_of m) id ≡ Some word → (one_text (found_of m) id ≡ Some word) × IsUnsignedIn low high word
number_is_read c k low high id word m p plain globals n first = go (matched_of (found_of m) id) refl
  where
    go : (o : Option MatchedArg) → matched_of (found_of m) id ≡ o → (one_text (found_of m) id ≡ Some word) × IsUnsignedIn low high word
    go None e = absurd (first_at_none (found_of m) id word e first)
    go (Some x) e =
        number_of_entry c k low high id word m p plain n x e (first_at_entry (found_of m) id word x e first)
        (entry_by_id (EntryPasses p.built) (found_of m).entries.items id x (p.parsed (p.from.globals ∙ globals)).values e)

one_at_none : (f : Found) (id : List ℕ) → first_value f id ≡ None → one_text f id ≡ None
one_at_none f id none = go (matched_of f id) refl
  where
    at : (x : MatchedArg) (vs : List (Bor (List ℕ))) → option_map (λ s. s.now) (slice_get vs 0) ≡ None
        → option_map (λ s. read_as x.reading s.now) (slice_get vs 0) ≡ None
    at x [] is = refl
    at x (v ∷ vs) is = absurd (cc)

    go : (o : Option MatchedArg) → matched_of f id ≡ o → one_text f id ≡ None
    go None e = rw e refl
    go (Some x) e = rw e (at x x.vals.items (rw e at none))

-- under the name of an argument whose value is a number stands one
number_by_rule : (name : List ℕ) (rules : List Rule) (c : Command) (m : ArgMatches) (k low high : ℕ) (rule : Rule) → IsOwn rule.id
    → rule.parser ≡ Some (Unsigned low high) → IsCommandOf name rules c → slice_get rules k ≡ Some rule
    → is_only_at k rule.id rules ≡ true → IsParsedFrom c m → HasNumber low high m rule.id
number_by_rule name rules c m k low high rule own parser is at only parsed = λ word first.
    let t = kept_at rules (args_of c) k rule is.args at in
    number_is_read c k low high rule.id word m parsed is.plain is.globals (record {
      arg = t.arg;
      below = t.below;
      arg_is = t.arg_is;
      id_is = t.kept.id;
      parser = t.kept.parser (Unsigned low high) parser;
      alone = only_at rules (args_of c) k rule.id is.args only;
      named = own.some;
      own = own.not_auto t.arg t.kept.id;
    }) first

-- an option
pub number_there : (name : List ℕ) (rules : List Rule) (c : Command) (m : ArgMatches) (k low high : ℕ) (id : List ℕ) → IsOwn id
    → IsCommandOf name rules c → slice_get rules k ≡ Some (number_option id low high) → is_only_at k id rules ≡ true → IsParsedFrom c m
    → HasNumber low high m id
number_there name rules c m k low high id own is at only parsed =
    number_by_rule name rules c m k low high (number_option id low high) own refl is at only parsed

-- or an operand
pub operand_number_there : (name : List ℕ) (rules : List Rule) (c : Command) (m : ArgMatches) (k low high : ℕ) (id : List ℕ) → IsOwn id
    → IsCommandOf name rules c → slice_get rules k ≡ Some (number_operand id low high) → is_only_at k id rules ≡ true → IsParsedFrom c m
    → HasNumber low high m id × IsNumberThere m id
operand_number_there name rules c m k low high id own is at only parsed =
    let number = number_by_rule name rules c m k low high (number_operand id low high) own refl is at only parsed in
    let there = number_operand_there name rules c m k low high id own is at only parsed in
    (number, record { low = low; high = high; number = number; there = there })

-- so a number is found there
pub number_is_there : (m : ArgMatches) (id : List ℕ) (low high : ℕ) (r : Option ℕ) → HasMatch m id
    → IsNumberFound low high (first_value (found_of m) id) r → r ≡ None → ⊥
number_is_there m id low high r there found none = go (first_value (found_of m) id) there found.0
  where
    go : (o : Option (List ℕ)) → is_some o ≡ true → r ≡ option_map number_said o → ⊥
    go None some is = cc
    go (Some word) some is =
        let bad : None ≡ Some (number_said word) = sym none ∙ is in
        cc

-- a word that is such a number is read as it
read_number : {E : Type 0} (G : List ℕ → Result ℕ E → Type 0) (word : List ℕ) (low high : ℕ) (r : Option ℕ) → ReadsOne G word r
    → ((x : Result ℕ E) → G word x → ParsesUnsigned {E = E} 64 10 word x)
    → IsUnsignedIn low high word → r ≡ Some (number_said word)
read_number G word low high (Some v) reads only is = ap (λ (n : ℕ). Some n) (only (Ok v) reads).1
read_number G word low high None reads only is = absurd (only (Err reads.0) reads.1 (is.0, is.1))

in_range : (low high : ℕ) (word : List ℕ) (r : Option ℕ) → r ≡ Some (number_said word) → IsUnsignedIn low high word
    → IfSome r (λ n. (low ≤ n) × (n ≤ high))
in_range low high word r said is = subst (λ (o : Option ℕ). IfSome o (λ n. (low ≤ n) × (n ≤ high))) (sym said) (is.2, is.3)

-- what is read under a name is the number of the word there
pub number_found : {E : Type 0} (G : List ℕ → Result ℕ E → Type 0) (m : ArgMatches) (id : List ℕ) (low high : ℕ) (r : Option ℕ)
    → HasNumber low high m id → ((word : List ℕ) (x : Result ℕ E) → G word x → ParsesUnsigned {E = E} 64 10 word x)
    → (one_text (found_of m) id ≡ None → r ≡ None) → ((word : List ℕ) → one_text (found_of m) id ≡ Some word → ReadsOne G word r)
    → IsNumberFound low high (first_value (found_of m) id) r
number_found G m id low high r has only none reads = go (first_value (found_of m) id) refl
  where
    go : (o : Option (List ℕ)) → first_value (found_of m) id ≡ o → IsNumberFound low high o r
    go None e =
        let is = none (one_at_none (found_of m) id e) in
        (is, subst (λ (x : Option ℕ). IfSome x (λ n. (low ≤ n) × (n ≤ high))) (sym is) tt)
    go (Some word) e =
        let given = has word e in
        let is = read_number G word low high r (reads word given.0) (only word) given.1 in
        (is, in_range low high word r is given.1)
