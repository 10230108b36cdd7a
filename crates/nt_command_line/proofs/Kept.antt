-- Arguments as a command keeps them, by their rules.
use Rattle.std.proofs.Common.{◌≡◌, ◌∙◌, ap, ap₂, sym, subst, refl, ℕ, zero, suc, ◌<◌, ◌≤◌, Bool, true, false, ◌&&◌, ◌||◌, not, List, []}
use Rattle.std.proofs.Common.{◌∷◌, ◌++◌, length, Option, Some, unwrap_or, arith}
use Rattle.std.specs.Prelude.{slice_get}
use Rattle.std.specs.List.{slice_index_or}
use Rattle.std.specs.Borrow.{Bor}
use Rattle.std.specs.Str.{bytes_eq}
use Rattle.clap.specs.Words.{Rule, args_of, with_rule, AddsArg, SameRules}
use Rattle.clap.specs.Facts.{unwrap_or_range}
use Rattle.clap.specs.declared.builder.range.ValueRange.{ValueRange}
use Rattle.clap.specs.declared.builder.arg.Arg.{Arg}
use Rattle.clap.specs.declared.builder.command.Command.{Command}
use Rattle.clap.proofs.CallerLemmas.{added_plain}
use Rattle.nt_command_line.specs.Arguments.{IsArg, IsKeptArg, AreKept, IsCommandOf, has_none, is_only_at}

kept_by : (rule : Rule) (a b : Arg) → IsArg rule a → SameRules a b → IsKeptArg rule b
kept_by rule a b is same = record {
  id = ap (λ (s : Bor (List ℕ)). s.now) same.id ∙ ap (λ (r : Rule). r.id) is.rule_is;
  required = same.required ∙ ap (λ (r : Rule). r.required) is.rule_is;
  action = λ x e. same.action x (ap (λ (r : Rule). r.action) is.rule_is ∙ e);
  parser = λ p e. same.parser p (ap (λ (r : Rule). r.parser) is.rule_is ∙ e);
  whole = same.val_delim ∙ is.whole;
  least = λ set some. same.least (ap (λ (r : Rule). r.action) is.rule_is ∙ set)
      (subst (λ (r : Option ValueRange). 1 ≤ (unwrap_or_range r).start_inclusive) (sym (ap (λ (r : Rule). r.range) is.rule_is)) some);
}

kept_push : (rules : List Rule) (args : List Arg) (rule : Rule) (a : Arg) → AreKept rules args → IsKeptArg rule a
    → AreKept (rules ++ rule ∷ []) (args ++ a ∷ [])
kept_push [] [] rule a are is = (is, tt)
kept_push [] (x ∷ args) rule a are is = absurd are
kept_push (r ∷ rules) [] rule a are is = absurd are
kept_push (r ∷ rules) (x ∷ args) rule a are is = (are.0, kept_push rules args rule a are.1 is)

-- a command with one argument more
pub one_more : (name : List ℕ) (rules : List Rule) (rule : Rule) (old new : Command) (a : Arg) → IsCommandOf name rules old
    → IsArg rule a → AddsArg old a new → IsCommandOf name (rules ++ rule ∷ []) new
one_more name rules rule old new a was is added = record {
  app_is = added.shape is.local ∙ ap₂ with_rule was.app_is is.rule_is;
  args = subst (AreKept (rules ++ rule ∷ [])) (sym added.args)
      (kept_push rules (args_of old) rule added.arg was.args (kept_by rule a added.arg is added.rules));
  plain = added_plain old new a added was.plain is.plain;
  globals = added.globals ∙ ap₂ (λ (b c : Bool). b || c) was.globals is.local;
  negates = added.negates ∙ was.negates;
}

-- the argument at the place of a rule
pub record IsKeptAt (rule : Rule) (args : List Arg) (k : ℕ) : Type 0 where
  pub arg : Arg
  pub below : k < length args
  pub arg_is : slice_index_or args k arg ≡ arg
  pub kept : IsKeptArg rule arg

pub kept_at : (rules : List Rule) (args : List Arg) (k : ℕ) (rule : Rule) → AreKept rules args → slice_get rules k ≡ Some rule
    → IsKeptAt rule args k
kept_at [] args k rule are is = absurd (cc)
kept_at (r ∷ rules) [] k rule are is = absurd are
kept_at (r ∷ rules) (a ∷ args) zero rule are is = record {
  arg = a;
  below = omega arith;
  arg_is = refl;
  kept = subst (λ (x : Rule). IsKeptArg x a) (ap (λ (o : Option Rule). unwrap_or o r) is) are.0;
}
kept_at (r ∷ rules) (a ∷ args) (suc k) rule are is =
    let rest = kept_at rules args k rule are.1 is in
    record { arg = rest.arg; below = omega arith; arg_is = rest.arg_is; kept = rest.kept }

not_both : (b : Bool) → not b ≡ true → b ≡ true → ⊥
not_both true lies holds = cc
not_both false lies holds = cc

both_left : (b c : Bool) → (b && c) ≡ true → b ≡ true
both_left true c both = refl
both_left false c both = both

both_right : (b c : Bool) → (b && c) ≡ true → c ≡ true
both_right true c both = both
both_right false c both = absurd (cc)

same_id : (rule : Rule) (a : Arg) (id : List ℕ) → IsKeptArg rule a → bytes_eq a.id.now id ≡ true → bytes_eq rule.id id ≡ true
same_id rule a id is same = subst (λ (l : List ℕ). bytes_eq l id ≡ true) is.id same

none_has : (rules : List Rule) (args : List Arg) (id : List ℕ) → AreKept rules args → has_none id rules ≡ true → (j : ℕ) (e : Arg)
    → j < length args → bytes_eq (slice_index_or args j e).id.now id ≡ true → ⊥
none_has [] [] id are none j e low same = omega arith
none_has [] (a ∷ args) id are none j e low same = absurd are
none_has (r ∷ rules) [] id are none j e low same = absurd are
none_has (r ∷ rules) (a ∷ args) id are none zero e low same =
    not_both (bytes_eq r.id id) (both_left (not (bytes_eq r.id id)) (has_none id rules) none) (same_id r a id are.0 same)
none_has (r ∷ rules) (a ∷ args) id are none (suc j) e low same =
    none_has rules args id are.1 (both_right (not (bytes_eq r.id id)) (has_none id rules) none) j e (omega arith) same

-- no argument but the one at this place has the name
pub only_at : (rules : List Rule) (args : List Arg) (k : ℕ) (id : List ℕ) → AreKept rules args → is_only_at k id rules ≡ true
    → (j : ℕ) (e : Arg) → j < length args → bytes_eq (slice_index_or args j e).id.now id ≡ true → j ≡ k
only_at [] [] k id are only j e low same = absurd (omega arith)
only_at [] (a ∷ args) k id are only j e low same = absurd are
only_at (r ∷ rules) [] k id are only j e low same = absurd are
only_at (r ∷ rules) (a ∷ args) zero id are only zero e low same = refl
only_at (r ∷ rules) (a ∷ args) zero id are only (suc j) e low same = absurd (none_has rules args id are.1 only j e (omega arith) same)
only_at (r ∷ rules) (a ∷ args) (suc k) id are only zero e low same =
    absurd (not_both (bytes_eq r.id id) (both_left (not (bytes_eq r.id id)) (is_only_at k id rules) only) (same_id r a id are.0 same))
only_at (r ∷ rules) (a ∷ args) (suc k) id are only (suc j) e low same =
    ap suc (only_at rules args k id are.1 (both_right (not (bytes_eq r.id id)) (is_only_at k id rules) only) j e (omega arith) same)
