-- What columns lend, and the values that are read from it.
use Rattle.std.proofs.Common.{◌≡◌, ℕ, ◌+◌, ◌-◌, ◌<◌, ◌≤◌, Bool, List, [], ◌∷◌, ◌++◌, length, map, take, drop, get_or, refl, sym, ap, subst}
use Rattle.std.proofs.Common.{◌∙◌, suc, arith}
use Rattle.std.proofs.Math.Path.{fun_ext}
use Rattle.std.specs.List.{All, slice_range}
use Rattle.std.proofs.lemmas.List.Elements.{All-push}
use Rattle.std.proofs.lemmas.List.{map-id, map-append, take_more, take-map, drop-map, length-map}
use Rattle.serde_json.specs.Written.{compact_text}
use Rattle.nt_types.specs.TreeData.{TreeData, TreesData, num, items, nothing}
use Rattle.nt_types.specs.TreeData as trees
use Rattle.nt_event.specs.Json.{data_of, line_of}
use Rattle.nt_column.specs.Elements.{Element, plain, numbers, text_of}
use Rattle.nt_column.proofs.Numbers.{numbers-range, numbers-plain_list}
use Rattle.nt_plans.specs.Plan.{PlanData, number, maybe, list, text}
use Rattle.nt_plans.specs.PlanViews.{plan_view}
use Rattle.nt_plans.specs.declared.plan.Plan.{Plan}
use Rattle.nt_trees.specs.Columns.{Cols, number_at, begin_at}
use Rattle.nt_trees.specs.Integers.{integer_of}
use Rattle.nt_trees.specs.Sound.{Sound}
use Rattle.nt_trees.specs.TreeAt.{tree_at, trees_from, text_from, only}
use Rattle.nt_join.specs.Readable.{Readable}
use Rattle.nt_join.proofs.Reach.{readable-is, text-within, items-readable, optional-readable}
use Rattle.nt_print.specs.Integers.{integer_trees}
use Rattle.nt_lines.specs.Lent.{AreNumbersLent, AreOptionsLent, AreListsLent, AreOptionListsLent, AreTextsLent, IsLentAs, AreLentAs}
use Rattle.nt_lines.specs.Lent.{HasPart, HasOptions, part_at, HasValue, option_tree, options_tree, lent_tree}
use Rattle.nt_lines.specs.declared.lent.Lent.{Lent}
use Rattle.nt_lines.specs.declared.lent.Lent.TheVariants.{Numbers32, Numbers64, Options32, Options64, Lists32, Lists64}
use Rattle.nt_lines.specs.declared.lent.Lent.TheVariants.{OptionLists32, OptionLists64, Texts, Nothing}
use Rattle.nt_lines.specs.declared.lent.LentPlan.{LentPlan}
use Rattle.nt_print.proofs.Places.{number-within, lent-trees}

-- one plan more
pub lent-more : (plans : List Plan) (cols : Cols) (ls more : List LentPlan) (k : ℕ) (l : LentPlan) → k < length plans
    → AreLentAs (take k plans) cols ls → l.plan.now ≡ get_or plans k l.plan.now → IsLentAs (plan_view l.plan.now) cols l.lent
    → more ≡ ls ++ l ∷ [] → AreLentAs (take (k + 1) plans) cols more
lent-more plans cols ls more k l lt so_far is lent made = record {
  plans_are = ap (λ (xs : List LentPlan). map (λ (x : LentPlan). x.plan.now) xs) made
      ∙ map-append (λ (x : LentPlan). x.plan.now) ls (l ∷ [])
      ∙ ap (λ (ps : List Plan). ps ++ l.plan.now ∷ []) so_far.plans_are
      ∙ ap (λ (p : Plan). take k plans ++ p ∷ []) is ∙ sym (take_more plans k l.plan.now lt);
  each = subst (λ (xs : List LentPlan). All (λ (x : LentPlan). IsLentAs (plan_view x.plan.now) cols x.lent) xs) (sym made)
      (All-push (λ (x : LentPlan). IsLentAs (plan_view x.plan.now) cols x.lent) ls l so_far.each lent);
}

-- plans are seen as they were
views-over : (ls : List LentPlan) → map (λ (l : LentPlan). plan_view l.plan.now) ls ≡ map plan_view (map (λ (l : LentPlan). l.plan.now) ls)
views-over [] = refl
views-over (l ∷ ls) = ap (λ (ps : List PlanData). plan_view l.plan.now ∷ ps) (views-over ls)

pub lent-views : (plans : List Plan) (cols : Cols) (ls : List LentPlan) → AreLentAs plans cols ls
    → map (λ (l : LentPlan). plan_view l.plan.now) ls ≡ map plan_view plans
lent-views plans cols ls are = views-over ls ∙ ap (λ (ps : List Plan). map plan_view ps) are.plans_are

-- ---- values are there where they can be read

length-plain : (words : List ℕ) (es : List Element) → map plain words ≡ es → length es ≡ length words
length-plain words es is = sym (ap (λ (l : List Element). length l) is) ∙ length-map words plain

has-number : (p : PlanData) (cols : Cols) (words : List ℕ) (bits : ℕ) (signed : Bool) (i : ℕ)
    → AreNumbersLent p cols words bits signed → Readable p cols i → i < length words
has-number p cols words bits signed i is r =
    let own = readable-is p (number is.column bits signed) cols i is.plan r in
    omega (arith, own.within, own.sound, length-plain words (cols is.column) is.words_are)

has-list : (p : PlanData) (cols : Cols) (ends words : List ℕ) (bits : ℕ) (signed : Bool) (i : ℕ)
    → AreListsLent p cols ends words bits signed → Readable p cols i → HasPart ends (length words) i
has-list p cols ends words bits signed i is r =
    let own = readable-is p (list is.ends_column (number is.column bits signed)) cols i is.plan r in
    let read = items-readable is.ends_column (number is.column bits signed) cols i own in
    let within = number-within (number is.column bits signed) cols is.column bits signed (begin_at (cols is.ends_column) (suc i)) refl
    read.0 in
    let same = sym is.ends_are in
    record {
      there = omega (arith, own.within, own.sound.0, length-plain ends (cols is.ends_column) is.ends_are);
      order = subst (λ (es : List Element). begin_at es i ≤ number_at es i) same read.1;
      within = subst (λ (es : List Element). number_at es i ≤ length words) same
          (omega (arith, within, length-plain words (cols is.column) is.words_are));
    }

has-option : (p : PlanData) (cols : Cols) (ends words : List ℕ) (bits : ℕ) (signed : Bool) (i : ℕ)
    → AreOptionsLent p cols ends words bits signed → Readable p cols i → HasPart ends (length words) i
has-option p cols ends words bits signed i is r =
    let own = readable-is p (maybe is.ends_column (number is.column bits signed)) cols i is.plan r in
    let read = optional-readable is.ends_column (number is.column bits signed) cols i own in
    let within = number-within (number is.column bits signed) cols is.column bits signed (begin_at (cols is.ends_column) (suc i)) refl
    read.0 in
    let same = sym is.ends_are in
    record {
      there = omega (arith, own.within, own.sound.0, length-plain ends (cols is.ends_column) is.ends_are);
      order = subst (λ (es : List Element). begin_at es i ≤ number_at es i) same read.1;
      within = subst (λ (es : List Element). number_at es i ≤ length words) same
          (omega (arith, within, length-plain words (cols is.column) is.words_are));
    }

has-text : (p : PlanData) (cols : Cols) (ends bytes : List ℕ) (i : ℕ) → AreTextsLent p cols ends bytes → Readable p cols i
    → HasPart ends (length bytes) i
has-text p cols ends bytes i is r =
    let own = readable-is p (text is.ends_column is.column) cols i is.plan r in
    let there : i < length (cols is.ends_column) = omega (arith, own.within, own.sound.0) in
    let within = text-within is.ends_column is.column cols i own in
    let same = sym is.ends_are in
    record {
      there = omega (arith, there, length-plain ends (cols is.ends_column) is.ends_are);
      order = subst (λ (es : List Element). begin_at es i ≤ number_at es i) same (own.sound.1 i there);
      within = subst (λ (es : List Element). number_at es i ≤ length bytes) same
          (omega (arith, within, length-plain bytes (cols is.column) is.bytes_are));
    }

has-options : (p : PlanData) (cols : Cols) (lists ends words : List ℕ) (bits : ℕ) (signed : Bool) (i : ℕ)
    → AreOptionListsLent p cols lists ends words bits signed → Readable p cols i → HasOptions lists ends (length words) i
has-options p cols lists ends words bits signed i is r =
    let own = readable-is p (list is.lists_column is.items) cols i is.plan r in
    let read = items-readable is.lists_column is.items cols i own in
    let plan = is.options.plan in
    let sound = subst (λ (q : PlanData). Sound q cols read.0.size) plan read.0.sound in
    let same = sym is.lists_are in
    record {
      items = record {
        there = omega (arith, own.within, own.sound.0, length-plain lists (cols is.lists_column) is.lists_are);
        order = subst (λ (es : List Element). begin_at es i ≤ number_at es i) same read.1;
        within = subst (λ (es : List Element). number_at es i ≤ length ends) same
            (omega (arith, read.0.within, sound.0, length-plain ends (cols is.options.ends_column) is.options.ends_are));
      };
      each = subst (λ (es : List Element). (j : ℕ) → j < number_at es i → HasPart ends (length words) j) same
          (λ j less. has-option is.items cols ends words bits signed j is.options
          (record { size = read.0.size; sound = read.0.sound; within = omega (arith, less, read.0.within) }));
    }

pub has-value : (p : PlanData) (cols : Cols) (l : Lent) (i : ℕ) → IsLentAs p cols l → Readable p cols i → HasValue l i
has-value p cols (Numbers32 words bits signed) i is r = has-number p cols words.now bits signed i is r
has-value p cols (Numbers64 words bits signed) i is r = has-number p cols words.now bits signed i is r
has-value p cols (Options32 ends words bits signed) i is r = has-option p cols ends.now words.now bits signed i is r
has-value p cols (Options64 ends words bits signed) i is r = has-option p cols ends.now words.now bits signed i is r
has-value p cols (Lists32 ends words bits signed) i is r = has-list p cols ends.now words.now bits signed i is r
has-value p cols (Lists64 ends words bits signed) i is r = has-list p cols ends.now words.now bits signed i is r
has-value p cols (OptionLists32 lists ends words bits signed) i is r = has-options p cols lists.now ends.now words.now bits signed i is r
has-value p cols (OptionLists64 lists ends words bits signed) i is r = has-options p cols lists.now ends.now words.now bits signed i is r
has-value p cols (Texts ends bytes) i is r = has-text p cols ends.now bytes.now i is r
has-value p cols Nothing i is r = tt

-- ---- and they are those of the plan

number-lent : (p : PlanData) (cols : Cols) (words : List ℕ) (bits : ℕ) (signed : Bool) (i : ℕ) → AreNumbersLent p cols words bits signed
    → num (integer_of bits signed (number_at (map plain words) i)) ≡ tree_at p cols i
number-lent p cols words bits signed i is =
    ap (λ (es : List Element). num (integer_of bits signed (number_at es i))) is.words_are
    ∙ ap (λ (q : PlanData). tree_at q cols i) (sym is.plan)

plain-range : (words : List ℕ) (from to : ℕ) → map plain (slice_range words from to) ≡ slice_range (map plain words) from to
plain-range words from to =
    sym (take-map plain (to - from) (drop from words))
    ∙ ap (λ (es : List Element). take (to - from) es) (sym (drop-map plain from words))

list-lent : (p : PlanData) (cols : Cols) (ends words : List ℕ) (bits : ℕ) (signed : Bool) (i : ℕ)
    → AreListsLent p cols ends words bits signed → HasPart ends (length words) i
    → items (integer_trees bits signed (part_at ends words i)) ≡ tree_at p cols i
list-lent p cols ends words bits signed i is has =
    let of = number is.column bits signed in
    let from = begin_at (map plain ends) i in
    let to = number_at (map plain ends) i in
    let part = slice_range (map plain words) from to in
    let ns : slice_range words from to ≡ numbers part =
    ap (λ (l : List ℕ). slice_range l from to) (sym (numbers-plain_list words)) ∙ sym (numbers-range (map plain words) from to) in
    let within : to ≤ length (cols is.column) = omega (arith, has.within, length-plain words (cols is.column) is.words_are) in
    ap (λ (l : List ℕ). items (integer_trees bits signed l)) ns
    ∙ ap items (lent-trees of cols is.column bits signed part from to refl
    (ap (λ (es : List Element). slice_range es from to) is.words_are) has.order within)
    ∙ ap (λ (es : List Element). items (trees_from (tree_at of cols) (begin_at es i) (number_at es i - begin_at es i))) is.ends_are
    ∙ ap (λ (q : PlanData). tree_at q cols i) (sym is.plan)

option-lent : (p : PlanData) (cols : Cols) (ends words : List ℕ) (bits : ℕ) (signed : Bool) (i : ℕ)
    → AreOptionsLent p cols ends words bits signed → option_tree ends words bits signed i ≡ tree_at p cols i
option-lent p cols ends words bits signed i is =
    let of = number is.column bits signed in
    let from = begin_at (map plain ends) i in
    let to = number_at (map plain ends) i in
    ap (λ (es : List Element). only (trees_from (λ (j : ℕ). num (integer_of bits signed (number_at es j))) from (to - from))) is.words_are
    ∙ ap (λ (es : List Element). only (trees_from (tree_at of cols) (begin_at es i) (number_at es i - begin_at es i))) is.ends_are
    ∙ ap (λ (q : PlanData). tree_at q cols i) (sym is.plan)

options-lent : (p : PlanData) (cols : Cols) (lists ends words : List ℕ) (bits : ℕ) (signed : Bool) (i : ℕ)
    → AreOptionListsLent p cols lists ends words bits signed → options_tree lists ends words bits signed i ≡ tree_at p cols i
options-lent p cols lists ends words bits signed i is =
    let from = begin_at (map plain lists) i in
    let count = number_at (map plain lists) i - from in
    ap (λ (f : ℕ → TreeData). items (trees_from f from count))
    (fun_ext (λ (j : ℕ). option-lent is.items cols ends words bits signed j is.options))
    ∙ ap (λ (es : List Element). items (trees_from (tree_at is.items cols) (begin_at es i) (number_at es i - begin_at es i))) is.lists_are
    ∙ ap (λ (q : PlanData). tree_at q cols i) (sym is.plan)

text-lent : (p : PlanData) (cols : Cols) (ends bytes : List ℕ) (i : ℕ) → AreTextsLent p cols ends bytes
    → trees.text (text_of (map plain (part_at ends bytes i))) ≡ tree_at p cols i
text-lent p cols ends bytes i is =
    let from = begin_at (map plain ends) i in
    let to = number_at (map plain ends) i in
    ap (λ (es : List Element). trees.text (text_of es)) (plain-range bytes from to)
    ∙ ap (λ (es : List Element). trees.text (text_of (slice_range es from to))) is.bytes_are
    ∙ ap (λ (es : List Element). trees.text (text_from (cols is.column) (begin_at es i) (number_at es i - begin_at es i))) is.ends_are
    ∙ ap (λ (q : PlanData). tree_at q cols i) (sym is.plan)

pub value-lent : (p : PlanData) (cols : Cols) (l : Lent) (i : ℕ) → IsLentAs p cols l → HasValue l i → (l ≡ Nothing → ⊥)
    → lent_tree l i ≡ tree_at p cols i
value-lent p cols (Numbers32 words bits signed) i is has some = number-lent p cols words.now bits signed i is
value-lent p cols (Numbers64 words bits signed) i is has some = number-lent p cols words.now bits signed i is
value-lent p cols (Options32 ends words bits signed) i is has some = option-lent p cols ends.now words.now bits signed i is
value-lent p cols (Options64 ends words bits signed) i is has some = option-lent p cols ends.now words.now bits signed i is
value-lent p cols (Lists32 ends words bits signed) i is has some = list-lent p cols ends.now words.now bits signed i is has
value-lent p cols (Lists64 ends words bits signed) i is has some = list-lent p cols ends.now words.now bits signed i is has
value-lent p cols (OptionLists32 lists ends words bits signed) i is has some =
    options-lent p cols lists.now ends.now words.now bits signed i is
value-lent p cols (OptionLists64 lists ends words bits signed) i is has some =
    options-lent p cols lists.now ends.now words.now bits signed i is
value-lent p cols (Texts ends bytes) i is has some = text-lent p cols ends.now bytes.now i is
value-lent p cols Nothing i is has some = absurd (some refl)

-- ---- the text of a list of optional integers

pub options-text : (o : List ℕ) (mark : ℕ) (lists ends words : List ℕ) (bits : ℕ) (signed : Bool) (i from to : ℕ)
    → from ≡ begin_at (map plain lists) i → to ≡ number_at (map plain lists) i
    → o ++ mark ∷ line_of (trees_from (option_tree ends (map (λ (n : ℕ). n) words) bits signed) from (to - from))
    ≡ o ++ mark ∷ compact_text (data_of (options_tree lists ends words bits signed i))
options-text o mark lists ends words bits signed i from to begins stops =
    let text : (ℕ → TreeData) → ℕ → ℕ → List ℕ = λ f a b. o ++ mark ∷ line_of (trees_from f a (b - a)) in
    ap (λ (ws : List ℕ). text (option_tree ends ws bits signed) from to) (map-id words)
    ∙ ap (λ (a : ℕ). text (option_tree ends words bits signed) a to) begins
    ∙ ap (λ (b : ℕ). text (option_tree ends words bits signed) (begin_at (map plain lists) i) b) stops
