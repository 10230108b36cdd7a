-- Lists of elements that grow at their end.
use Rattle.std.proofs.Common.{◌≡◌, ℕ, zero, suc, ◌+◌, ◌-◌, ◌<◌, ◌≤◌, ◌==◌, List, [], ◌∷◌, ◌++◌, length, take, drop, get_or, if◌then◌else◌}
use Rattle.std.proofs.Common.{refl, sym, ap, ◌∙◌, arith, append-nil, append_assoc, length-append, subst, inl, inr, ◌⊎◌}
use Rattle.std.proofs.lemmas.List.{get_or_append_left, drop-append-le, take-append-le, length-drop}
use Rattle.std.proofs.lemmas.Bool.{eq-eqb, ne_eqb, cases_eq}
use Rattle.std.proofs.Math.Seq.{get_or-append_seam, take-append_seam}
use Rattle.nt_column.specs.Elements.{Element, text_of}
use Rattle.nt_trees.specs.Columns.{Cols, number_at, tag_at, begin_at, last_end, count_tag, add_to}
use Rattle.nt_trees.specs.TreeAt.{text_from}
use Rattle.nt_trees.specs.Sound.{Rises, TagsUpTo, IndicesCount, FewSteps}

-- ---- what stood there stays

pub number_at-more : (es more : List Element) (i : ℕ) → i < length es → number_at (es ++ more) i ≡ number_at es i
number_at-more es more i h = ap (λ (e : ℕ × ℕ). e.0) (get_or_append_left es more (0, 0) i h)

pub tag_at-more : (es more : List Element) (i : ℕ) → i < length es → tag_at (es ++ more) i ≡ tag_at es i
tag_at-more es more i h = ap (λ (e : ℕ × ℕ). e.1) (get_or_append_left es more (0, 0) i h)

pub begin_at-more : (es more : List Element) (i : ℕ) → i ≤ length es → begin_at (es ++ more) i ≡ begin_at es i
begin_at-more es more zero h = refl
begin_at-more es more (suc i) h = number_at-more es more i (omega arith)

pub text_from-more : (es more : List Element) (at n : ℕ) → at + n ≤ length es → text_from (es ++ more) at n ≡ text_from es at n
text_from-more es more at n h =
    ap (λ l. text_of (take n l)) (drop-append-le at es more (omega arith))
    ∙ ap text_of (take-append-le n (drop at es) more (omega (arith, length-drop at es)))

-- ---- columns that have more at their ends

abbrev pub Extends : Cols → Cols → Type 0
Extends old new = (j : ℕ) → (more : List Element) × (new j ≡ old j ++ more)

pub same-extends : (cols : Cols) → Extends cols cols
same-extends cols j = ([], sym (append-nil (cols j)))

pub then-extends : (a b c : Cols) → Extends a b → Extends b c → Extends a c
then-extends a b c p q j = ((p j).0 ++ (q j).0, (q j).1 ∙ ap (λ l. l ++ (q j).0) (p j).1 ∙ append_assoc (a j) (p j).0 (q j).0)

pub add_to-extends : (k : ℕ) (es : List Element) (cols : Cols) → Extends cols (add_to k es cols)
add_to-extends k es cols j = (if j == k then es else [], refl)

-- ---- ends that don't fall, and tags that are counted

rises-by : (es : List Element) → Rises es → (i d : ℕ) → i + d ≤ length es → begin_at es i ≤ begin_at es (i + d)
rises-by es h i zero fits = let same : i + 0 ≡ i = omega arith in omega (arith, ap (begin_at es) same)
rises-by es h i (suc d) fits =
    let same : i + suc d ≡ suc (i + d) = omega arith in
    omega (arith, ap (begin_at es) same, rises-by es h i d (omega arith), h (i + d) (omega arith))

pub begin_at-le-last : (es : List Element) → Rises es → (i : ℕ) → i ≤ length es → begin_at es i ≤ last_end es
begin_at-le-last es h i fits =
    let same : i + (length es - i) ≡ length es = omega arith in
    omega (arith, ap (begin_at es) same, rises-by es h i (length es - i) (omega arith))

pub count_tag-before : (tag : ℕ) (es : List Element) (i : ℕ) → i < length es → tag_at es i ≡ tag
    → count_tag tag (take i es) < count_tag tag es
count_tag-before tag [] i h is = absurd (omega arith)
count_tag-before tag (e ∷ es) zero h is = rw (eq-eqb e.1 tag is) (omega arith)
count_tag-before tag (e ∷ es) (suc i) h is = omega (arith, count_tag-before tag es i (omega arith) is)

-- the index of an element is one of its alternative's
pub index-within : (es : List Element) → IndicesCount es → (i : ℕ) → i < length es → 0 < tag_at es i
    → number_at es i < count_tag (tag_at es i) es
index-within es c i h some = subst (λ n. n < count_tag (tag_at es i) es) (sym (c i h some)) (count_tag-before (tag_at es i) es i h refl)

-- ---- one more element

module _ (es : List Element) (x t : ℕ) where
  pub longer : length (es ++ (x, t) ∷ []) ≡ suc (length es)
  longer = length-append es ((x, t) ∷ []) ∙ omega arith

  here : get_or {A = Element} (es ++ (x, t) ∷ []) (length es) (0, 0) ≡ (x, t)
  here = get_or-append_seam es (x, t) [] (0, 0)

  pub new_number : number_at (es ++ (x, t) ∷ []) (length es) ≡ x
  new_number = ap (λ (e : ℕ × ℕ). e.0) here

  pub new_tag : tag_at (es ++ (x, t) ∷ []) (length es) ≡ t
  new_tag = ap (λ (e : ℕ × ℕ). e.1) here

  pub new_last : last_end (es ++ (x, t) ∷ []) ≡ x
  new_last = ap (begin_at (es ++ (x, t) ∷ [])) longer ∙ new_number

  pub old_end : begin_at (es ++ (x, t) ∷ []) (length es) ≡ last_end es
  old_end = begin_at-more es ((x, t) ∷ []) (length es) (omega arith)

  -- what holds of the elements and of the new one holds of all
  pub all-more : (P : ℕ → Type 0) → ((i : ℕ) → i < length es → P i) → P (length es) → (i : ℕ) → i < length (es ++ (x, t) ∷ []) → P i
  all-more P old new i h = go (cases_eq i (length es))
    where
      go : (i ≡ length es) ⊎ (i ≡ length es → ⊥) → P i
      go (inl is) = subst P (sym is) new
      go (inr not) = old i (omega (arith, longer))

  pub rises-more : Rises es → last_end es ≤ x → Rises (es ++ (x, t) ∷ [])
  rises-more r le = all-more (λ i. begin_at (es ++ (x, t) ∷ []) i ≤ begin_at (es ++ (x, t) ∷ []) (suc i))
      (λ i h. omega (arith, begin_at-more es ((x, t) ∷ []) i (omega arith), begin_at-more es ((x, t) ∷ []) (suc i) (omega arith), r i h))
      (omega (arith, old_end, new_number))

  pub steps-more : FewSteps es → x ≤ last_end es + 1 → FewSteps (es ++ (x, t) ∷ [])
  steps-more r le = all-more (λ i. begin_at (es ++ (x, t) ∷ []) (suc i) ≤ begin_at (es ++ (x, t) ∷ []) i + 1)
      (λ i h. omega (arith, begin_at-more es ((x, t) ∷ []) i (omega arith), begin_at-more es ((x, t) ∷ []) (suc i) (omega arith), r i h))
      (omega (arith, old_end, new_number))

  pub tags-more : (n : ℕ) → TagsUpTo n es → t ≤ n → TagsUpTo n (es ++ (x, t) ∷ [])
  tags-more n u le = all-more (λ i. tag_at (es ++ (x, t) ∷ []) i ≤ n)
      (λ i h. omega (arith, tag_at-more es ((x, t) ∷ []) i h, u i h))
      (omega (arith, new_tag))

  pub indices-more : IndicesCount es → (0 < t → x ≡ count_tag t es) → IndicesCount (es ++ (x, t) ∷ [])
  indices-more c is = all-more (λ i. 0 < tag_at (es ++ (x, t) ∷ []) i → number_at (es ++ (x, t) ∷ []) i
      ≡ count_tag (tag_at (es ++ (x, t) ∷ []) i) (take i (es ++ (x, t) ∷ []))) old new
    where
      all : List Element
      all = es ++ (x, t) ∷ []

      old : (i : ℕ) → i < length es → 0 < tag_at (es ++ (x, t) ∷ []) i → number_at (es ++ (x, t) ∷ []) i
          ≡ count_tag (tag_at (es ++ (x, t) ∷ []) i) (take i (es ++ (x, t) ∷ []))
      old i h some =
          let tag = tag_at-more es ((x, t) ∷ []) i h in
          let front = take-append-le i es ((x, t) ∷ []) (omega arith) in
          number_at-more es ((x, t) ∷ []) i h ∙ c i h (omega (arith, tag)) ∙ sym ((λ j. count_tag (tag j) (front j)))

      new : 0 < tag_at (es ++ (x, t) ∷ []) (length es) → number_at (es ++ (x, t) ∷ []) (length es)
          ≡ count_tag (tag_at (es ++ (x, t) ∷ []) (length es)) (take (length es) (es ++ (x, t) ∷ []))
      new some =
          let front = take-append_seam es ((x, t) ∷ []) in
          new_number ∙ is (omega (arith, new_tag)) ∙ sym ((λ j. count_tag (new_tag j) (front j)))

pub count_tag-same : (es : List Element) (x t u : ℕ) → t ≡ u → count_tag u (es ++ (x, t) ∷ []) ≡ suc (count_tag u es)
count_tag-same [] x t u is = rw (eq-eqb t u is) (omega arith)
count_tag-same (e ∷ es) x t u is = omega (arith, count_tag-same es x t u is)

pub count_tag-other : (es : List Element) (x t u : ℕ) → (t ≡ u → ⊥) → count_tag u (es ++ (x, t) ∷ []) ≡ count_tag u es
count_tag-other [] x t u not = rw (ne_eqb t u not) (omega arith)
count_tag-other (e ∷ es) x t u not = ap (λ m. (if e.1 == u then 1 else 0) + m) (count_tag-other es x t u not)
