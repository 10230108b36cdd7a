-- What is read is spelled so, and keeps the rules of types.
use Rattle.std.proofs.Common.{ℕ, List, [], ◌∷◌, ◌++◌, ◌≡◌, refl, sym, ◌∙◌, ap, subst, Bool, true, false, cond, Option, Some, None}
use Rattle.std.proofs.Common.{append_assoc, append-nil, arith}
use Rattle.std.proofs.lemmas.Bool.Decides.{nat_tests}
use Rattle.std.specs.Str.{bytes_eq}
use Rattle.std.specs.Prelude.{option_and_then, option_map, ◌==◌, ◌&&◌, ◌||◌, not, codes}
use Rattle.nt_lists.proofs.Variants.{some_is}
use Rattle.nt_types.specs.ShapeData.{ShapeData}
use Rattle.nt_types.specs.Words.{is_word_byte, is_name}
use Rattle.nt_types.specs.Reading.{OpenData, in_list, in_maybe, at_name, in_member, in_tuple, in_choice, PlacedData, goes, ends}
use Rattle.nt_types.specs.Reading.{ReadingData, start, put, within_after, within_inside, part_placed, place_on, place, started, opened}
use Rattle.nt_types.specs.Reading.{begin, named, ended_here, delimited, ended_on, read, read_kind}
use Rattle.nt_types.specs.Spelling.{spell, IsType}
use Rattle.nt_types.proofs.ReadText.{ended_parts, construct_text, stack_text, done_text, GoodConstruct, GoodStack, GoodDone}
use Rattle.nt_types.proofs.PartsPut.{IsPut, byte_is, put_sound}
use Rattle.nt_types.proofs.LeavesSound.{word_is, settled_sound}

-- what is read, after a step

abbrev state_text : ReadingData → List ℕ
state_text s = stack_text s.stack ++ done_text s.done

abbrev IsGood : ReadingData → Type 0
IsGood s = GoodStack s.stack s.within × GoodDone s.within s.done

-- the state has this text, and keeps the rules
abbrev Reads : List ℕ → ReadingData → Type 0
Reads front s = (state_text s ≡ front) × IsGood s

-- inside a construct that is open, a choice or an optional is open as the flag says
out_is : (o : OpenData) (out within : Bool) → GoodConstruct o out within → within_after o within ≡ out
out_is in_list out within g = sym g
out_is (in_maybe w) out within g = sym g.0
out_is (at_name ps) out within g = sym g.0
out_is (in_member ps n) out within g = sym g.0
out_is (in_tuple ks) out within g = sym g.0
out_is (in_choice w ks) out within g = sym g.0

placed_reads : (within out : Bool) (o : OpenData) (os : List OpenData) (k : ShapeData) (b : ℕ) (p : PlacedData) → GoodConstruct o out within
    → GoodStack os out → IsPut out within o k b p
    → Reads (stack_text (o ∷ os) ++ (spell k ++ b ∷ [])) (part_placed true within o os p)
placed_reads within out o os k b (goes q) g below is = (rw is.0 (simp append_assoc), ((out, is.1, below), tt))
placed_reads within out o os k b (ends q) g below is = (
  rw is.0 (simp append_assoc),
  (subst (GoodStack os) (sym (out_is o out within g)) below, subst (λ (v : Bool). IsType v q) (sym (out_is o out within g)) is.1),
)

place_reads : (within : Bool) (stack : List OpenData) (k : ShapeData) (b : ℕ) (t : ReadingData) → GoodStack stack within → IsType within k
    → place_on true within stack k b ≡ Some t
    → Reads (stack_text stack ++ (spell k ++ b ∷ [])) t
place_reads within [] k b t g i e = cc
place_reads within (o ∷ os) k b t g i e = placed_case (put o k b) refl e
  where
    placed_case : (r : Option PlacedData) → put o k b ≡ r → option_map (part_placed true within o os) r ≡ Some t
        → Reads (stack_text (o ∷ os) ++ (spell k ++ b ∷ [])) t
    placed_case None is e = cc
    placed_case (Some p) is e =
        subst (Reads (stack_text (o ∷ os) ++ (spell k ++ b ∷ []))) (some_is _ _ e)
        (placed_reads within g.0 o os k b p g.1 g.2 (put_sound g.0 within o k b p g.1 i is))

-- a construct begins

-- what a word and a byte begin
abbrev IsStarted : Bool → List ℕ → ℕ → OpenData → Type 0
IsStarted within w b o = (construct_text o ≡ w ++ b ∷ []) × GoodConstruct o within (within_inside o within)

started_sound : (within : Bool) (w : List ℕ) (b : ℕ) (q : OpenData) → ((b == 60) || (b == 123)) ≡ true → started within w b ≡ Some q
    → IsStarted within w b q
started_sound within w b q which e =
    cases (b == 123) (bytes_eq w (codes "rec")) within (bytes_eq w (codes "vec")) (bytes_eq w (codes "opt"))
    (bytes_eq w (codes "tuple")) (bytes_eq w (codes "var"))
    (byte_is b 123) (other b which)
    (word_is w (codes "rec")) (word_is w (codes "vec")) (word_is w (codes "opt")) (word_is w (codes "tuple"))
    (word_is w (codes "var")) e
  where
    other : (n : ℕ) → ((n == 60) || (n == 123)) ≡ true → (n == 123) ≡ false → n ≡ 60
    other n e f = grind (arith, nat_tests)

    cases : (brace r v c o d f : Bool) → (brace ≡ true → b ≡ 123) → (brace ≡ false → b ≡ 60)
        → (r ≡ true → w ≡ codes "rec") → (c ≡ true → w ≡ codes "vec") → (o ≡ true → w ≡ codes "opt") → (d ≡ true → w ≡ codes "tuple")
        → (f ≡ true → w ≡ codes "var")
        → cond brace (cond (r && not v) (Some (at_name [])) None)
        (cond c (Some in_list) (cond o (Some (in_maybe v)) (cond d (Some (in_tuple [])) (cond f (Some (in_choice v [])) None)))) ≡ Some q
        → IsStarted v w b q
    cases true true false c o d f hb ha hr hc ho hd hf e =
        subst (IsStarted false w b) (some_is _ _ e) (rw (hb refl, hr refl) refl, (refl, refl, tt))
    cases true true true c o d f hb ha hr hc ho hd hf e = cc
    cases true false v c o d f hb ha hr hc ho hd hf e = cc
    cases false r v true o d f hb ha hr hc ho hd hf e = subst (IsStarted v w b) (some_is _ _ e) (rw (ha refl, hc refl) refl, refl)
    cases false r v false true d f hb ha hr hc ho hd hf e =
        subst (IsStarted v w b) (some_is _ _ e) (rw (ha refl, ho refl) refl, (refl, refl))
    cases false r v false false true f hb ha hr hc ho hd hf e =
        subst (IsStarted v w b) (some_is _ _ e) (rw (ha refl, hd refl) refl, (refl, tt))
    cases false r v false false false true hb ha hr hc ho hd hf e =
        subst (IsStarted v w b) (some_is _ _ e) (rw (ha refl, hf refl) refl, (refl, refl, tt))
    cases false r v false false false false hb ha hr hc ho hd hf e = cc

begin_reads : (stack : List OpenData) (within : Bool) (done : Option ShapeData) (w : List ℕ) (b : ℕ) (t : ReadingData)
    → ((b == 60) || (b == 123)) ≡ true
    → GoodStack stack within → begin (record { stack = stack; within = within; done = done }) w b ≡ Some t
    → Reads ((stack_text stack ++ done_text done) ++ (w ++ b ∷ [])) t
begin_reads stack within (Some k) w b t which g e = cc
begin_reads stack within None w b t which g e = cases (started within w b) refl e
  where
    s : ReadingData
    s = record { stack = stack; within = within; done = None }

    cases : (r : Option OpenData) → started within w b ≡ r
        → option_map (opened (record { stack = stack; within = within; done = None })) r ≡ Some t
        → Reads ((stack_text stack ++ []) ++ (w ++ b ∷ [])) t
    cases None is e = cc
    cases (Some o) is e =
        let found = started_sound within w b o which is in
        subst (Reads ((stack_text stack ++ []) ++ (w ++ b ∷ []))) (some_is _ _ e)
        (rw (append-nil (stack_text stack), ← found.0) (append-nil (stack_text stack ++ construct_text o)), ((within, found.1, g), tt))

behind : (a q u : List ℕ) → (a ++ (q ++ u)) ++ [] ≡ ((a ++ q) ++ []) ++ u
behind a q u = rw (append-nil (a ++ (q ++ u)), append-nil (a ++ q)) (sym (append_assoc a q u))

named_reads : (stack : List OpenData) (within : Bool) (done : Option ShapeData) (w : List ℕ) (t : ReadingData)
    → GoodStack stack within → named (record { stack = stack; within = within; done = done }) w ≡ Some t
    → Reads ((stack_text stack ++ done_text done) ++ (w ++ 58 ∷ [])) t
named_reads stack within (Some k) w t g e = cc
named_reads [] within None w t g e = cc
named_reads (in_list ∷ os) within None w t g e = cc
named_reads (in_maybe v ∷ os) within None w t g e = cc
named_reads (in_member ps n ∷ os) within None w t g e = cc
named_reads (in_tuple ks ∷ os) within None w t g e = cc
named_reads (in_choice c ks ∷ os) within None w t g e = cc
named_reads (at_name ps ∷ os) within None w t g e = cases (is_name w) refl e
  where
    cases : (c : Bool) → is_name w ≡ c → cond c (Some (record { stack = in_member ps w ∷ os; within = within; done = None })) None ≡ Some t
        → Reads ((stack_text (at_name ps ∷ os) ++ []) ++ (w ++ 58 ∷ [])) t
    cases true is e = subst (Reads ((stack_text (at_name ps ∷ os) ++ []) ++ (w ++ 58 ∷ []))) (some_is _ _ e)
        (behind (stack_text os) (codes "rec{" ++ ended_parts ps) (w ++ 58 ∷ []), ((g.0, (g.1.0, g.1.1, g.1.2, is), g.2), tt))
    cases false is e = cc

-- all bytes

delimited_reads : (s : ReadingData) (w : List ℕ) (b : ℕ) (t : ReadingData) → IsGood s → delimited true s w b ≡ Some t
    → Reads (state_text s ++ (w ++ b ∷ [])) t
delimited_reads s w b t g e = cases ((b == 60) || (b == 123)) (b == 58) refl (byte_is b 58) e
  where
    part_case : (r : Option ShapeData) → ended_here true s.done w ≡ r → option_and_then (λ k. place_on true s.within s.stack k b) r ≡ Some t
        → Reads (state_text s ++ (w ++ b ∷ [])) t
    part_case None is e = cc
    part_case (Some k) is e =
        let found = settled_sound s.within s.done w k g.1 is in
        let same : stack_text s.stack ++ (spell k ++ b ∷ []) ≡ state_text s ++ (w ++ b ∷ []) =
        rw found.0
        (ap (λ (l : List ℕ). stack_text s.stack ++ l) (append_assoc (done_text s.done) w (b ∷ []))
        ∙ sym (append_assoc (stack_text s.stack) (done_text s.done) (w ++ b ∷ []))) in
        subst (λ (l : List ℕ). Reads l t) same (place_reads s.within s.stack k b t g.0 found.1 e)

    cases : (c d : Bool) → ((b == 60) || (b == 123)) ≡ c → (d ≡ true → b ≡ 58)
        → cond c (begin s w b) (cond d (named s w) (option_and_then (λ k. place true s k b) (ended_here true s.done w))) ≡ Some t
        → Reads (state_text s ++ (w ++ b ∷ [])) t
    cases true d is colon e = begin_reads s.stack s.within s.done w b t is g.0 e
    cases false true is colon e = rw (colon refl) (named_reads s.stack s.within s.done w t g.0 e)
    cases false false is colon e = part_case (ended_here true s.done w) refl e

-- a text that is read whole
abbrev IsRead : List ℕ → ShapeData → Type 0
IsRead bytes k = (spell k ≡ bytes) × IsType false k

ended_read : (stack : List OpenData) (within : Bool) (done : Option ShapeData) (w : List ℕ) (k : ShapeData) → GoodStack stack within
    → GoodDone within done
    → option_and_then (ended_on stack) (ended_here true done w) ≡ Some k → IsRead ((stack_text stack ++ done_text done) ++ w) k
ended_read stack within done w k g d e = cases stack (ended_here true done w) g refl e
  where
    cases : (os : List OpenData) (r : Option ShapeData) → GoodStack os within → ended_here true done w ≡ r
        → option_and_then (ended_on os) r ≡ Some k → IsRead ((stack_text os ++ done_text done) ++ w) k
    cases os None g is e = cc
    cases [] (Some j) g is e =
        let found = settled_sound within done w k d (is ∙ e) in
        (found.0, subst (λ (v : Bool). IsType v k) g found.1)
    cases (o ∷ os) (Some j) g is e = cc

read_sound : (s : ReadingData) (w bs : List ℕ) (k : ShapeData) → IsGood s → read true s w bs ≡ Some k → IsRead (state_text s ++ (w ++ bs)) k
read_sound s w [] k g e =
    subst (λ (l : List ℕ). IsRead (state_text s ++ l) k) (sym (append-nil w)) (ended_read s.stack s.within s.done w k g.0 g.1 e)
read_sound s w (b ∷ bs) k g e =
    byte_case (is_word_byte b) (delimited true s w b) refl (λ e. read_sound s (w ++ b ∷ []) bs k g e) (λ t h f. read_sound t [] bs k h f) e
  where
    after : (t : ReadingData) → Reads (state_text s ++ (w ++ b ∷ [])) t → IsRead (state_text t ++ bs) k
        → IsRead (state_text s ++ (w ++ b ∷ bs)) k
    after t r h =
        let same : state_text t ++ bs ≡ state_text s ++ (w ++ b ∷ bs) =
        rw r.0 (append_assoc (state_text s) (w ++ b ∷ []) bs ∙ ap (λ (l : List ℕ). state_text s ++ l) (append_assoc w (b ∷ []) bs)) in
        subst (λ (l : List ℕ). IsRead l k) same h

    byte_case : (c : Bool) (r : Option ReadingData) → delimited true s w b ≡ r
        → (read true s (w ++ b ∷ []) bs ≡ Some k → IsRead (state_text s ++ ((w ++ b ∷ []) ++ bs)) k)
        → ((t : ReadingData) → IsGood t → read true t [] bs ≡ Some k → IsRead (state_text t ++ bs) k)
        → cond c (read true s (w ++ b ∷ []) bs) (option_and_then (λ t. read true t [] bs) r) ≡ Some k
        → IsRead (state_text s ++ (w ++ b ∷ bs)) k
    byte_case true r is word delimiter e = subst (λ (l : List ℕ). IsRead (state_text s ++ l) k) (append_assoc w (b ∷ []) bs) (word e)
    byte_case false None is word delimiter e = cc
    byte_case false (Some t) is word delimiter e = let r = delimited_reads s w b t g is in after t r (delimiter t r.1 e)

-- what is read is spelled so, and is a type
pub read_kind-sound : (bytes : List ℕ) (k : ShapeData) → read_kind bytes ≡ Some k → (spell k ≡ bytes) × IsType false k
read_kind-sound bytes k e = read_sound start [] bytes k (refl, tt) e
