-- The line of an event is short and has no LF.
use Rattle.std.proofs.Common.{◌≡◌, ◌≢◌, ℕ, zero, suc, ◌+◌, ◌*◌, ◌%◌, ◌^◌, ◌<◌, ◌≤◌, Bool, true, false, List, [], ◌∷◌, ◌++◌, length, decimal}
use Rattle.std.proofs.Common.{ap, sym, subst, arith, length-append}
use Rattle.std.proofs.lemmas.Fmt.{decimal_by_steps, length-decimal-le}
use Rattle.serde_json.specs.Written.{comma_if}
use Rattle.nt_types.specs.TreeData.{trees_of}
use Rattle.nt_event.specs.Json.{line_of}
use Rattle.nt_event.specs.Lines.{HasNoLf}
use Rattle.nt_draws.specs.Draws.{drawn}
use Rattle.nt_draws.specs.Events.{event_trees, drawn_ids, event_behind, ids_count, after_event}
use Rattle.nt_draws.specs.Lines.{ids_text}
use Rattle.nt_draws.proofs.Joined.{tag_text}

-- a line by its digits and ids
pieces : List ℕ → List ℕ → List ℕ → List ℕ
pieces R I D = 91 ∷ (R ++ 44 ∷ 91 ∷ (I ++ 44 ∷ 34 ∷ 116 ∷ ((D ++ 34 ∷ []) ++ 93 ∷ [])))

line_of-pieces : (run d : ℕ) (ids : List ℕ) → d < 10
    → line_of (trees_of (event_trees run ids d)) ≡ pieces (decimal run) (ids_text false ids) (decimal d)
unfolding pieces
line_of-pieces run d ids h = ap (λ l. 91 ∷ (decimal run ++ 44 ∷ 91 ∷ (ids_text false ids ++ 44 ∷ (l ++ 93 ∷ [])))) (tag_text d h)

-- ---- no byte is an LF

NoLf : List ℕ → Type 0
NoLf [] = Unit {0}
NoLf (x ∷ xs) = (x ≢ 10) × NoLf xs

NoLf-append : (xs ys : List ℕ) → NoLf xs → NoLf ys → NoLf (xs ++ ys)
unfolding NoLf
NoLf-append [] ys h k = k
NoLf-append (x ∷ xs) ys h k = (h.0, NoLf-append xs ys h.1 k)

NoLf-has : (xs : List ℕ) → NoLf xs → HasNoLf xs
unfolding NoLf
NoLf-has [] h k less = absurd (omega arith)
NoLf-has (x ∷ xs) h zero less = h.0
NoLf-has (x ∷ xs) h (suc k) less = NoLf-has xs h.1 k (omega arith)

NoLf-decimal : (n : ℕ) → n < 2 ^ 64 → NoLf (decimal n)
unfolding NoLf
NoLf-decimal = decimal_by_steps (λ n ds. NoLf ds) (λ n h. ((λ e. absurd (omega arith)), tt))
    (λ n ds h k. NoLf-append ds ((48 + n % 10) ∷ []) k ((λ e. absurd (omega arith)), tt))

NoLf-comma : (later : Bool) → NoLf (comma_if later)
unfolding NoLf
NoLf-comma true = ((λ e. absurd (omega arith)), tt)
NoLf-comma false = tt

NoLf-ids : (later : Bool) (n s : ℕ) → NoLf (ids_text later (drawn_ids n s))
unfolding NoLf
NoLf-ids later zero s = ((λ e. absurd (omega arith)), tt)
NoLf-ids later (suc n) s = NoLf-append (comma_if later) _ (NoLf-comma later)
    (NoLf-append (decimal (drawn s % 1000000)) _ (NoLf-decimal (drawn s % 1000000) (omega arith)) (NoLf-ids true n (drawn s)))

NoLf-pieces : (R I D : List ℕ) → NoLf R → NoLf I → NoLf D → NoLf (pieces R I D)
unfolding pieces NoLf
NoLf-pieces R I D r i d = (
  (λ e. absurd (omega arith)),
  NoLf-append R _ r (
    (λ e. absurd (omega arith)),
    (
      (λ e. absurd (omega arith)),
      NoLf-append I _ i (
        (λ e. absurd (omega arith)),
        (
          (λ e. absurd (omega arith)),
          (
            (λ e. absurd (omega arith)),
            NoLf-append (D ++ 34 ∷ []) (93 ∷ []) (NoLf-append D (34 ∷ []) d ((λ e. absurd (omega arith)), tt))
                ((λ e. absurd (omega arith)), tt),
          ),
        ),
      ),
    ),
  ),
)

pub made_line-no_lf : (s : ℕ) → HasNoLf (line_of (event_behind s))
made_line-no_lf s =
    let n = ids_count s in
    subst HasNoLf (sym (line_of-pieces (drawn s % 1000) (after_event s % 10) (drawn_ids n (drawn (drawn s))) (omega arith)))
    (NoLf-has _ (NoLf-pieces _ _ _ (NoLf-decimal (drawn s % 1000) (omega arith)) (NoLf-ids false n (drawn (drawn s)))
    (NoLf-decimal (after_event s % 10) (omega arith))))

-- ---- a line is short

length-comma : (later : Bool) → length (comma_if later) ≤ 1
length-comma true = omega arith
length-comma false = omega arith

length-ids : (later : Bool) (n s : ℕ) → length (ids_text later (drawn_ids n s)) ≤ 7 * n + 1
length-ids later zero s = omega arith
length-ids later (suc n) s =
    let x = drawn s % 1000000 in
    let rest = ids_text true (drawn_ids n (drawn s)) in
    let small : length (decimal x) ≤ 6 = length-decimal-le 6 x (omega arith) (omega arith) (omega arith) in
    omega (
      arith,
      length-append (comma_if later) (decimal x ++ rest),
      length-append (decimal x) rest,
      length-comma later,
      small,
      length-ids true n (drawn s),
    )

length-pieces : (R I D : List ℕ) → length (pieces R I D) ≡ length R + length I + length D + 8
unfolding pieces
length-pieces R I D =
    omega (
      arith,
      length-append R (44 ∷ 91 ∷ (I ++ 44 ∷ 34 ∷ 116 ∷ ((D ++ 34 ∷ []) ++ 93 ∷ []))),
      length-append I (44 ∷ 34 ∷ 116 ∷ ((D ++ 34 ∷ []) ++ 93 ∷ [])),
      length-append (D ++ 34 ∷ []) (93 ∷ []),
      length-append D (34 ∷ []),
    )

pub made_line-short : (s : ℕ) → length (line_of (event_behind s)) ≤ 40
made_line-short s =
    let n = ids_count s in
    let run = drawn s % 1000 in
    let d = after_event s % 10 in
    let few : n ≤ 3 = omega arith in
    let a : length (decimal run) ≤ 3 = length-decimal-le 3 run (omega arith) (omega arith) (omega arith) in
    let b : length (decimal d) ≤ 1 = length-decimal-le 1 d (omega arith) (omega arith) (omega arith) in
    omega (
      arith,
      ap length (line_of-pieces run d (drawn_ids n (drawn (drawn s))) (omega arith)),
      length-pieces (decimal run) (ids_text false (drawn_ids n (drawn (drawn s)))) (decimal d),
      few,
      a,
      b,
      length-ids false n (drawn (drawn s)),
    )
