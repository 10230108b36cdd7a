-- What a parse finds under the name of an argument.
use Rattle.std.proofs.Common.{◌≡◌, ◌∙◌, inl, inr, sym, subst, refl, ap, ℕ, ◌≤◌, true, false, List, [], codes, is_some}
use Rattle.std.proofs.Common.{Option, Some, None, arith}
use Rattle.std.specs.Prelude.{slice_get}
use Rattle.std.specs.List.{slice_index_or}
use Rattle.std.specs.Str.{bytes_eq}
use Rattle.std.proofs.lemmas.Slice.Eq.{bytes_eq-Decides}
use Rattle.clap.specs.Words.{Rule, args_of, found_of, first_value, IsParsedFrom}
use Rattle.clap.specs.Built.{IsAuto}
use Rattle.clap.specs.Facts.{least_values, unwrap_or_range}
use Rattle.clap.specs.declared.builder.range.ValueRange.{ValueRange}
use Rattle.clap.specs.declared.builder.ArgAction.TheVariants.{Set}
use Rattle.clap.specs.declared.builder.arg.Arg.{Arg}
use Rattle.clap.specs.declared.builder.command.Command.{Command}
use Rattle.clap.specs.declared.parser.matches.ArgMatches.{ArgMatches}
use Rattle.clap.proofs.CallerLemmas.{required_has_value}
use Rattle.nt_command_line.specs.CommandLine.{operand, number_operand}
use Rattle.nt_command_line.specs.Arguments.{IsCommandOf, HasMatch, is_only_at}
use Rattle.nt_command_line.proofs.Kept.{kept_at, only_at}

-- lists of which a test finds that they differ
pub differs : (x y : List ℕ) → bytes_eq x y ≡ false → x ≡ y → ⊥
differs x y apart same =
    let equal = (bytes_eq-Decides x y).1 same in
    let bad : true ≡ false = sym equal ∙ apart in
    cc

-- a name that clap gives to none of its own flags
pub record IsOwn (id : List ℕ) : Type 0 where
  pub some : id ≡ [] → ⊥
  pub not_auto : (a : Arg) → a.id.now ≡ id → IsAuto a → ⊥

pub own_by : (id : List ℕ) → bytes_eq id [] ≡ false → bytes_eq id (codes "help") ≡ false → bytes_eq id (codes "version") ≡ false → IsOwn id
own_by id some no-help no-version = record {
  some = differs id [] some;
  not_auto = λ a is auto. elim auto [
    | inl h ↦ differs id (codes "help") no-help (sym is ∙ h)
    | inr h ↦ differs id (codes "version") no-version (sym is ∙ h)
  ];
}

-- a rule of an argument that has to be there, with one value
pub record IsNeeded (rule : Rule) : Type 0 where
  pub required : rule.required ≡ true
  pub action : rule.action ≡ Some Set
  pub range : rule.range ≡ None

-- a word stands under the name of an argument that has to be there
needed_there : (name : List ℕ) (rules : List Rule) (c : Command) (m : ArgMatches) (k : ℕ) (rule : Rule) → IsOwn rule.id → IsNeeded rule
    → IsCommandOf name rules c → slice_get rules k ≡ Some rule → is_only_at k rule.id rules ≡ true → IsParsedFrom c m → HasMatch m rule.id
needed_there name rules c m k rule own needed is at only parsed =
    let t = kept_at rules (args_of c) k rule is.args at in
    let here : (slice_index_or (args_of c) k t.arg).id.now ≡ rule.id = ap (λ (a : Arg). a.id.now) t.arg_is ∙ t.kept.id in
    let one : 1 ≤ (unwrap_or_range rule.range).start_inclusive =
    subst (λ (r : Option ValueRange). 1 ≤ (unwrap_or_range r).start_inclusive) (sym needed.range) (omega arith) in
    subst (λ (l : List ℕ). is_some (first_value (found_of m) l) ≡ true) here
    (required_has_value c m parsed is.plain is.globals is.negates k t.arg t.below
    (ap (λ (a : Arg). a.required) t.arg_is ∙ (t.kept.required ∙ needed.required))
    (ap (λ (a : Arg). a.action) t.arg_is ∙ t.kept.action Set needed.action)
    (ap (λ (a : Arg). a.val_delim) t.arg_is ∙ t.kept.whole)
    (subst (λ (a : Arg). 1 ≤ least_values a) (sym t.arg_is) (t.kept.least needed.action one))
    (λ j e low same. only_at rules (args_of c) k rule.id is.args only j e low
    (subst (λ (l : List ℕ). bytes_eq (slice_index_or (args_of c) j e).id.now l ≡ true) here same))
    (λ empty. own.some (sym here ∙ empty))
    (λ auto. own.not_auto (slice_index_or (args_of c) k t.arg) here auto))

-- under the name of an operand
pub operand_there : (name : List ℕ) (rules : List Rule) (c : Command) (m : ArgMatches) (k : ℕ) (id : List ℕ) → IsOwn id
    → IsCommandOf name rules c → slice_get rules k ≡ Some (operand id) → is_only_at k id rules ≡ true → IsParsedFrom c m → HasMatch m id
operand_there name rules c m k id own is at only parsed =
    needed_there name rules c m k (operand id) own (record { required = refl; action = refl; range = refl }) is at only parsed

-- and of one that is a number
pub number_operand_there : (name : List ℕ) (rules : List Rule) (c : Command) (m : ArgMatches) (k low high : ℕ) (id : List ℕ) → IsOwn id
    → IsCommandOf name rules c → slice_get rules k ≡ Some (number_operand id low high) → is_only_at k id rules ≡ true → IsParsedFrom c m
    → HasMatch m id
number_operand_there name rules c m k low high id own is at only parsed =
    needed_there name rules c m k (number_operand id low high) own (record { required = refl; action = refl; range = refl }) is at only
    parsed
