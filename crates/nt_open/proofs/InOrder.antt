-- Plans that are made one after the other.
use Rattle.std.proofs.Common.{ℕ, suc, ◌≡◌, ◌<◌, ◌≤◌, ◌+◌, List, [], ◌∷◌, ◌++◌, length, map, drop, get_or, Option, Some, None, refl, sym, ap}
use Rattle.std.proofs.Common.{◌∙◌, drop-cons, add-one, add-zero}
use Rattle.std.proofs.lemmas.List.{get_or-drop, drop-drop, drop_all}
use Rattle.std.specs.Prelude.{option_map, true}
use Rattle.std.specs.Option.{option_or}
use Rattle.nt_types.specs.ShapeData.{ShapeData, kinds_of, parts_of}
use Rattle.nt_types.specs.Views.{shape_view, member_view}
use Rattle.nt_types.specs.declared.shape.Shape.{Shape}
use Rattle.nt_types.specs.declared.shape.Member.{Member}
use Rattle.nt_types.proofs.ShapeViews.{member_view-of}
use Rattle.nt_grammar.specs.declared.rows.FieldRow.{FieldRow}
use Rattle.nt_grammar.specs.declared.rows.ColumnRow.{ColumnRow}
use Rattle.nt_plans.specs.Plan.{PlanData, PlansData, no_plans, plan, plans_of}
use Rattle.nt_plans.specs.PlanViews.{plan_view}
use Rattle.nt_plans.specs.Place.{place, place_members, place_each, place_from}
use Rattle.nt_plans.specs.declared.plan.Plan.{Plan}
use Rattle.nt_open.specs.Uses.{principal_in, Use, use_in, use_from}

-- plans, and behind them others
abbrev pub joined : List PlanData → PlansData → PlansData
joined [] more = more
joined (p ∷ ps) more = plan p (joined ps more)

joined-none : (ps : List PlanData) → joined ps no_plans ≡ plans_of ps
joined-none [] = refl
joined-none (p ∷ ps) = ap (plan p) (joined-none ps)

joined-snoc : (list : List Plan) (p : Plan) (more : PlansData)
    → joined (map plan_view (list ++ p ∷ [])) more ≡ joined (map plan_view list) (plan (plan_view p) more)
joined-snoc [] p more = refl
joined-snoc (q ∷ list) p more = ap (plan (plan_view q)) (joined-snoc list p more)

first-id : (i : ℕ) (ids : List ℕ) → get_or (drop i ids) 0 0 ≡ get_or ids i 0
first-id i ids = get_or-drop i ids 0 0 ∙ ap (λ (k : ℕ). get_or ids k 0) (add-zero i)

cut : {A : Type 0} (xs : List A) (i : ℕ) (x : A) → i < length xs → x ≡ get_or xs i x → drop i xs ≡ x ∷ drop (i + 1) xs
cut xs i x h is = drop-cons xs i x h ∙ (ap (λ z. z ∷ drop (suc i) xs) (sym is) ∙ ap (λ (k : ℕ). x ∷ drop k xs) (sym (add-one i)))

pub member_placed : (fs : List FieldRow) (cs : List ColumnRow) (ms : List Member) (ids : List ℕ) (i : ℕ) (m : Member) (list : List Plan)
    (p : Plan) (all : PlansData) → i < length ms → m ≡ get_or ms i m
    → plan_view p ≡ place fs cs (shape_view m.of) (get_or ids i 0)
    → joined (map plan_view list) (place_members fs cs (parts_of (map member_view (drop i ms))) (drop i ids)) ≡ all
    → joined (map plan_view (list ++ p ∷ [])) (place_members fs cs (parts_of (map member_view (drop (i + 1) ms))) (drop (i + 1) ids)) ≡ all
member_placed fs cs ms ids i m list p all h is made before =
    let later : PlansData = place_members fs cs (parts_of (map member_view (drop (i + 1) ms))) (drop (i + 1) ids) in
    let here : place fs cs (member_view m).of (get_or (drop i ids) 0 0) ≡ plan_view p =
    ap (λ (s : ShapeData). place fs cs s (get_or (drop i ids) 0 0)) (member_view-of m)
    ∙ (ap (place fs cs (shape_view m.of)) (first-id i ids) ∙ sym made) in
    let step : place_members fs cs (parts_of (map member_view (drop i ms))) (drop i ids) ≡ plan (plan_view p) later =
    ap (λ (z : List Member). place_members fs cs (parts_of (map member_view z)) (drop i ids)) (cut ms i m h is)
    ∙ (ap (λ (q : PlanData). plan q (place_members fs cs (parts_of (map member_view (drop (i + 1) ms))) (drop 1 (drop i ids)))) here
    ∙ ap (λ (z : List ℕ). plan (plan_view p) (place_members fs cs (parts_of (map member_view (drop (i + 1) ms))) z)) (drop-drop 1 i ids)) in
    joined-snoc list p later ∙ (ap (joined (map plan_view list)) (sym step) ∙ before)

pub members_placed : (fs : List FieldRow) (cs : List ColumnRow) (ms : List Member) (ids : List ℕ) (i : ℕ) (list : List Plan)
    (all : PlansData)
    → length ms ≤ i
    → joined (map plan_view list) (place_members fs cs (parts_of (map member_view (drop i ms))) (drop i ids)) ≡ all
    → plans_of (map plan_view list) ≡ all
members_placed fs cs ms ids i list all h e =
    let none : drop i ms ≡ [] = drop_all i ms h in
    sym (joined-none (map plan_view list)) ∙ (ap (λ (z : List Member). joined (map plan_view list)
    (place_members fs cs (parts_of (map member_view z)) (drop i ids))) (sym none) ∙ e)

pub shape_placed : (fs : List FieldRow) (cs : List ColumnRow) (ss : List Shape) (ids : List ℕ) (i : ℕ) (s : Shape) (list : List Plan)
    (p : Plan) (all : PlansData) → i < length ss → s ≡ get_or ss i s
    → plan_view p ≡ place fs cs (shape_view s) (get_or ids i 0)
    → joined (map plan_view list) (place_each fs cs (kinds_of (map shape_view (drop i ss))) (drop i ids)) ≡ all
    → joined (map plan_view (list ++ p ∷ [])) (place_each fs cs (kinds_of (map shape_view (drop (i + 1) ss))) (drop (i + 1) ids)) ≡ all
shape_placed fs cs ss ids i s list p all h is made before =
    let later : PlansData = place_each fs cs (kinds_of (map shape_view (drop (i + 1) ss))) (drop (i + 1) ids) in
    let here : place fs cs (shape_view s) (get_or (drop i ids) 0 0) ≡ plan_view p =
    ap (place fs cs (shape_view s)) (first-id i ids) ∙ sym made in
    let step : place_each fs cs (kinds_of (map shape_view (drop i ss))) (drop i ids) ≡ plan (plan_view p) later =
    ap (λ (z : List Shape). place_each fs cs (kinds_of (map shape_view z)) (drop i ids)) (cut ss i s h is)
    ∙ (ap (λ (q : PlanData). plan q (place_each fs cs (kinds_of (map shape_view (drop (i + 1) ss))) (drop 1 (drop i ids)))) here
    ∙ ap (λ (z : List ℕ). plan (plan_view p) (place_each fs cs (kinds_of (map shape_view (drop (i + 1) ss))) z)) (drop-drop 1 i ids)) in
    joined-snoc list p later ∙ (ap (joined (map plan_view list)) (sym step) ∙ before)

pub shapes_placed : (fs : List FieldRow) (cs : List ColumnRow) (ss : List Shape) (ids : List ℕ) (i : ℕ) (list : List Plan) (all : PlansData)
    → length ss ≤ i
    → joined (map plan_view list) (place_each fs cs (kinds_of (map shape_view (drop i ss))) (drop i ids)) ≡ all
    → plans_of (map plan_view list) ≡ all
shapes_placed fs cs ss ids i list all h e =
    let none : drop i ss ≡ [] = drop_all i ss h in
    sym (joined-none (map plan_view list)) ∙ (ap (λ (z : List Shape). joined (map plan_view list)
    (place_each fs cs (kinds_of (map shape_view z)) (drop i ids))) (sym none) ∙ e)

-- fields at the top level

abbrev kinds : List (Option Shape) → List (Option ShapeData)
kinds ss = map (option_map shape_view) ss

-- the first of these shapes, and those behind it
first-kind : (ss : List (Option Shape)) (i : ℕ) (o : Option Shape) → i < length ss → o ≡ get_or ss i o
    → kinds (drop i ss) ≡ option_map shape_view o ∷ kinds (drop (i + 1) ss)
first-kind ss i o h is = ap kinds (cut ss i o h is)

pub field_placed : (fs : List FieldRow) (cs : List ColumnRow) (ss : List (Option Shape)) (i : ℕ) (o : Option Shape) (s : Shape)
    (list : List Plan) (p : Plan) (all : PlansData) → i < length ss → o ≡ get_or ss i o → o ≡ Some s
    → plan_view p ≡ place fs cs (shape_view s) i
    → joined (map plan_view list) (place_from fs cs i (kinds (drop i ss))) ≡ all
    → joined (map plan_view (list ++ p ∷ [])) (place_from fs cs (i + 1) (kinds (drop (i + 1) ss))) ≡ all
field_placed fs cs ss i o s list p all h is some made before =
    let later : PlansData = place_from fs cs (i + 1) (kinds (drop (i + 1) ss)) in
    let step : place_from fs cs i (kinds (drop i ss)) ≡ plan (plan_view p) later =
    ap (place_from fs cs i) (first-kind ss i o h is)
    ∙ (ap (λ (q : Option Shape). place_from fs cs i (option_map shape_view q ∷ kinds (drop (i + 1) ss))) some
    ∙ ap (λ (q : PlanData). plan q later) (sym made)) in
    joined-snoc list p later ∙ (ap (joined (map plan_view list)) (sym step) ∙ before)

pub field_passed : (fs : List FieldRow) (cs : List ColumnRow) (ss : List (Option Shape)) (i : ℕ) (o : Option Shape)
    (list : List Plan) (all : PlansData) → i < length ss → o ≡ get_or ss i o → o ≡ None
    → joined (map plan_view list) (place_from fs cs i (kinds (drop i ss))) ≡ all
    → joined (map plan_view list) (place_from fs cs (i + 1) (kinds (drop (i + 1) ss))) ≡ all
field_passed fs cs ss i o list all h is none before =
    let step : place_from fs cs i (kinds (drop i ss)) ≡ place_from fs cs (i + 1) (kinds (drop (i + 1) ss)) =
    ap (place_from fs cs i) (first-kind ss i o h is)
    ∙ ap (λ (q : Option Shape). place_from fs cs i (option_map shape_view q ∷ kinds (drop (i + 1) ss))) none in
    ap (joined (map plan_view list)) (sym step) ∙ before

pub fields_placed : (fs : List FieldRow) (cs : List ColumnRow) (ss : List (Option Shape)) (i : ℕ) (list : List Plan) (all : PlansData)
    → length ss ≤ i → joined (map plan_view list) (place_from fs cs i (kinds (drop i ss))) ≡ all → plans_of (map plan_view list) ≡ all
fields_placed fs cs ss i list all h e =
    let none : drop i ss ≡ [] = drop_all i ss h in
    sym (joined-none (map plan_view list)) ∙ (ap (λ (z : List (Option Shape)). joined (map plan_view list)
    (place_from fs cs i (kinds z))) (sym none) ∙ e)

or-or : {A : Type 0} (a b c : Option A) → option_or (option_or a b) c ≡ option_or a (option_or b c)
or-or None b c = refl
or-or (Some x) b c = refl

pub field_noted : (fs : List FieldRow) (cs : List ColumnRow) (ss : List (Option Shape)) (i : ℕ) (o : Option Shape) (s : Shape) (p : Plan)
    (k : ℕ) (old new all : Option Use) → i < length ss → o ≡ get_or ss i o → o ≡ Some s
    → plan_view p ≡ place fs cs (shape_view s) i
    → new ≡ option_or old (use_in i (principal_in true (plan_view p) k))
    → option_or old (use_from fs cs i (kinds (drop i ss)) k) ≡ all
    → option_or new (use_from fs cs (i + 1) (kinds (drop (i + 1) ss)) k) ≡ all
field_noted fs cs ss i o s p k old new all h is some made noted before =
    let later : Option Use = use_from fs cs (i + 1) (kinds (drop (i + 1) ss)) k in
    let step : use_from fs cs i (kinds (drop i ss)) k ≡ option_or (use_in i (principal_in true (plan_view p) k)) later =
    ap (λ (z : List (Option ShapeData)). use_from fs cs i z k) (first-kind ss i o h is)
    ∙ (ap (λ (q : Option Shape). use_from fs cs i (option_map shape_view q ∷ kinds (drop (i + 1) ss)) k) some
    ∙ ap (λ (q : PlanData). option_or (use_in i (principal_in true q k)) later) (sym made)) in
    ap (λ (q : Option Use). option_or q later) noted
    ∙ (or-or old (use_in i (principal_in true (plan_view p) k)) later ∙ (ap (option_or old) (sym step) ∙ before))

pub field_unnoted : (fs : List FieldRow) (cs : List ColumnRow) (ss : List (Option Shape)) (i : ℕ) (o : Option Shape)
    (k : ℕ) (old all : Option Use) → i < length ss → o ≡ get_or ss i o → o ≡ None
    → option_or old (use_from fs cs i (kinds (drop i ss)) k) ≡ all
    → option_or old (use_from fs cs (i + 1) (kinds (drop (i + 1) ss)) k) ≡ all
field_unnoted fs cs ss i o k old all h is none before =
    let step : use_from fs cs i (kinds (drop i ss)) k ≡ use_from fs cs (i + 1) (kinds (drop (i + 1) ss)) k =
    ap (λ (z : List (Option ShapeData)). use_from fs cs i z k) (first-kind ss i o h is)
    ∙ ap (λ (q : Option Shape). use_from fs cs i (option_map shape_view q ∷ kinds (drop (i + 1) ss)) k) none in
    ap (option_or old) (sym step) ∙ before
