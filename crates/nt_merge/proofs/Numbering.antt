-- Clusters that are read one after the other.
use Rattle.std.proofs.Common.{◌≡◌, ◌∙◌, ap, sym, refl, subst, ℕ, List, [], ◌∷◌, ◌++◌, take, drop, Result, Ok, Err}
use Rattle.std.proofs.lemmas.List.{append-nil, take-append-drop}
use Rattle.nt_lists.specs.Chaining.{◌>>=◌}
use Rattle.nt_lists.proofs.Variants.{ok_is}
use Rattle.nt_num.specs.declared.fault.ReadError.{ReadError}
use Rattle.nt_types.specs.TreeData.{TreesData}
use Rattle.nt_merge.specs.Merging.{Numbered, reading_of, readings, sound_then, sound_numbered}

-- what is read of clusters behind others that were read
abbrev behind_read : List (List TreesData) → Result (List (List TreesData)) (ℕ × ReadError) → Result (List (List TreesData)) (ℕ × ReadError)
behind_read before (Ok others) = Ok (before ++ others)
behind_read before (Err e) = Err e

first-read : (es : List TreesData) (lists : List (List TreesData)) (r : Result (List (List TreesData)) (ℕ × ReadError))
    → (behind_read lists r >>= λ others. Ok (es ∷ others)) ≡ behind_read (es ∷ lists) r
first-read es lists (Ok others) = refl
first-read es lists (Err e) = refl

none-read : (r : Result (List (List TreesData)) (ℕ × ReadError)) → r ≡ behind_read [] r
none-read (Ok others) = refl
none-read (Err e) = refl

-- the first of those that were read, and the others
pub record ReadsFirst (n : Numbered) (ns : List Numbered) (lists : List (List TreesData)) : Type 0 where
  pub first : List TreesData
  pub others : List (List TreesData)
  pub reads : reading_of n ≡ Ok first
  pub rest : readings ns ≡ Ok others
  pub is : lists ≡ first ∷ others

pub reads-first : (n : Numbered) (ns : List Numbered) (lists : List (List TreesData)) → readings (n ∷ ns) ≡ Ok lists → ReadsFirst n ns lists
reads-first n ns lists is = at (reading_of n) (readings ns) refl refl is
  where
    at : (a : Result (List TreesData) (ℕ × ReadError)) (b : Result (List (List TreesData)) (ℕ × ReadError)) → reading_of n ≡ a
        → readings ns ≡ b → (a >>= λ first. b >>= λ others. Ok (first ∷ others)) ≡ Ok lists → ReadsFirst n ns lists
    at (Ok first) (Ok others) one two e = record { first = first; others = others; reads = one; rest = two; is = cc e }
    at (Ok first) (Err e) one two is_ok = absurd (cc is_ok)
    at (Err e) b one two is_ok = absurd (cc is_ok)

pub readings-behind : (before after : List Numbered) (lists : List (List TreesData)) → readings before ≡ Ok lists
    → readings (before ++ after) ≡ behind_read lists (readings after)
readings-behind [] after lists is =
    let none : [] ≡ lists = ok_is [] lists is in
    subst (λ (l : List (List TreesData)). readings after ≡ behind_read l (readings after)) none (none-read (readings after))
readings-behind (n ∷ before) after lists is =
    let some = reads-first n before lists is in
    ap (λ (r : Result (List TreesData) (ℕ × ReadError)). r >>= λ first. readings (before ++ after) >>= λ others. Ok (first ∷ others))
    some.reads
    ∙ (ap (λ (r : Result (List (List TreesData)) (ℕ × ReadError)). r >>= λ others. Ok (some.first ∷ others))
    (readings-behind before after some.others some.rest)
    ∙ (first-read some.first some.others (readings after)
    ∙ ap (λ (l : List (List TreesData)). behind_read l (readings after)) (sym some.is)))

pub sound-behind : (before after : List Numbered) (lists : List (List TreesData)) → readings before ≡ Ok lists
    → sound_numbered (before ++ after) ≡ before ++ sound_numbered after
sound-behind [] after lists is = refl
sound-behind (n ∷ before) after lists is =
    let some = reads-first n before lists is in
    ap (λ (r : Result (List TreesData) (ℕ × ReadError)). sound_then n r (sound_numbered (before ++ after))) some.reads
    ∙ ap (λ (l : List Numbered). n ∷ l) (sound-behind before after some.others some.rest)

-- all are sound where all are read
pub sound-all : (ns : List Numbered) (lists : List (List TreesData)) → readings ns ≡ Ok lists → sound_numbered ns ≡ ns
sound-all ns lists is =
    ap sound_numbered (sym (append-nil ns)) ∙ (sound-behind ns [] lists is ∙ append-nil ns)

module _ (ns : List Numbered) (k : ℕ) (lists : List (List TreesData)) (read : readings (take k ns) ≡ Ok lists) (n : Numbered)
    (rest : List Numbered) (next : drop k ns ≡ n ∷ rest) where
  split : ns ≡ take k ns ++ n ∷ rest
  split = sym (take-append-drop k ns) ∙ ap (λ (l : List Numbered). take k ns ++ l) next

  -- the next one is read too
  pub read-more : (es : List TreesData) → reading_of n ≡ Ok es → readings (take k ns ++ n ∷ []) ≡ Ok (lists ++ es ∷ [])
  read-more es is =
      readings-behind (take k ns) (n ∷ []) lists read
      ∙ ap (λ (r : Result (List TreesData) (ℕ × ReadError)). behind_read lists
      (r >>= λ first. readings [] >>= λ others. Ok (first ∷ others)))
      is

  -- or has the first fault
  pub read-fault : (e : ℕ × ReadError) → reading_of n ≡ Err e → readings ns ≡ Err e
  read-fault e is =
      ap readings split
      ∙ (readings-behind (take k ns) (n ∷ rest) lists read
      ∙ ap (λ (r : Result (List TreesData) (ℕ × ReadError)). behind_read lists
      (r >>= λ first. readings rest >>= λ others. Ok (first ∷ others)))
      is)

  -- those before the first fault are these, the next one, and others
  pub sound-next : (es : List TreesData) → reading_of n ≡ Ok es → sound_numbered ns ≡ take k ns ++ n ∷ sound_numbered rest
  sound-next es is =
      ap sound_numbered split
      ∙ (sound-behind (take k ns) (n ∷ rest) lists read
      ∙ ap (λ (r : Result (List TreesData) (ℕ × ReadError)). take k ns ++ sound_then n r (sound_numbered rest)) is)
